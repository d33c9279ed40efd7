-- What Arm gives. Assumes nothing.
use Rattle.std.specs.Borrow.{MutBor}
use Rattle.std.specs.Prelude.{◌≡◌, ℕ}
use Rattle.fluents.specs.Refusals.{fault_at}
use Rattle.fluents.specs.declared.faults.Refusal.TheVariants.{VerdictFails}
use Rattle.permit.specs.Words.{bit_zero, raised}
use Rattle.procedure.specs.Procedures.{Procedure}
use Rattle.procedure.specs.Asked.{IfLoads}
use Rattle.procedure.specs.declared.loaded.Loaded.{Loaded}
use Rattle.meaning.specs.Follows.{Follows}
use Rattle.meaning.specs.Steps.{tree_of}
use Rattle.meaning.specs.declared.answers.Verdict.TheVariants.{Holds, Fails}
use Rattle.panel.specs.Cases.{worlds_in}
use Rattle.panel.specs.declared.answers.Over.{Over}
use Rattle.panel.specs.declared.answers.Rejection.{Rejection}
use Rattle.panel.specs.declared.armed.Armed.{Armed}
use Rattle.panel.specs.declared.armed.keys.Unarmed.{Unarmed}
use Rattle.panel.specs.declared.known.Known.{Known}

-- The run at the root with the start, under the permit of the lent word, whose bit 0 was set.
pub record ArmedAs (loaded : Loaded) (start : Known) (word : MutBor ℕ) (a : Armed) : Type 0 where
  pub same : a.permitted.loaded.value ≡ loaded
  pub knows : a.run.knowledge ≡ start
  pub held : a.permitted.permit.word.ghost_name ≡ word.ghost_name
  pub set : a.permitted.permit.word.now ≡ raised word.now
  pub earlier : a.permitted.permit.earlier ≡ bit_zero word.now
  pub root : IfLoads loaded (λ p. (a.run.place ≡ p.place) × Follows p.goal (tree_of p) (worlds_in start) Holds)

-- procedure and word are given back as they were before Arm
pub record AsBefore (loaded : Loaded) (word : MutBor ℕ) (o : Over) : Type 0 where
  pub same : o.loaded.value ≡ loaded
  pub held : o.word.ghost_name ≡ word.ghost_name
  pub kept : o.word.now ≡ word.now

-- The plan fails from the start, at the place and for the cause.
abbrev pub RejectedAs : Procedure → Known → Rejection → Type 0
RejectedAs p start why = Follows p.goal (tree_of p) (worlds_in start) (Fails why.fault.place why.cause) × (why.fault ≡ fault_at VerdictFails why.fault.place)

-- All is given back as it was, and the plan fails from the start.
pub record RefusedAs (loaded : Loaded) (start : Known) (word : MutBor ℕ) (u : Unarmed) : Type 0 where
  pub back : AsBefore loaded word u.over
  pub given : u.start ≡ start
  pub fails : IfLoads loaded (λ p. RejectedAs p start u.why)
