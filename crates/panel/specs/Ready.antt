-- What holds of every armed run. Assumes nothing.
use Rattle.std.specs.Prelude.{◌≡◌, ℕ, ◌+◌, true, false, List, Ok}
use Rattle.plans.specs.Trees.{Plan, ask, past, NodeAt}
use Rattle.procedure.specs.Procedures.{Procedure, procedure_of}
use Rattle.meaning.specs.Follows.{Follows}
use Rattle.meaning.specs.Sets.{Told, Possible}
use Rattle.meaning.specs.Steps.{steps_of}
use Rattle.meaning.specs.declared.answers.Verdict.TheVariants.{Holds}
use Rattle.runs.specs.declared.pending.Pending.{Pending}
use Rattle.runs.specs.declared.run.Run.{Run}
use Rattle.panel.specs.Cases.{worlds_in}
use Rattle.panel.specs.declared.known.Known.{Known}

-- The run stands at a node of the file's plan, and following from there with what is known holds.
pub record Ready (file : List ℕ) (run : Run Known) : Type 0 where
  pub p : Procedure
  pub is : procedure_of file ≡ Ok p
  pub q : Plan
  pub at : NodeAt p.place p.plan run.place q
  pub holds : Follows p.goal (steps_of p.actions run.place q) (worlds_in run.knowledge) Holds

-- The reading stands at a reading node of the file's plan, and in the branch of each value that may come following holds.
pub record Asked (file : List ℕ) (x : Pending Known) : Type 0 where
  pub p : Procedure
  pub is : procedure_of file ≡ Ok p
  pub a : ℕ
  pub t : Plan
  pub e : Plan
  pub at : NodeAt p.place p.plan x.place (ask a t e)
  pub on_true : Possible (Told x.fluent.index true (worlds_in x.knowledge))
      → Follows p.goal (steps_of p.actions (x.place + 2) t) (Told x.fluent.index true (worlds_in x.knowledge)) Holds
  pub on_false : Possible (Told x.fluent.index false (worlds_in x.knowledge))
      → Follows p.goal (steps_of p.actions (past (x.place + 2) t) e) (Told x.fluent.index false (worlds_in x.knowledge)) Holds
