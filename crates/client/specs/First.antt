-- The first action of a plan, as the client tells it. Assumes nothing.
use Rattle.std.specs.Prelude.{◌≡◌, ℕ, ◌⊎◌, Option, Some, None}
use Rattle.plans.specs.Trees.{Plan, finish, act, ask, gap}
use Rattle.procedure.specs.Procedures.{Procedure}
use Rattle.meaning.specs.Follows.{Follows}
use Rattle.meaning.specs.Steps.{tree_of}
use Rattle.meaning.specs.declared.answers.Cause.{Cause}
use Rattle.meaning.specs.declared.answers.Verdict.TheVariants.{Holds, Fails}
use Rattle.panel.specs.Cases.{worlds_in}
use Rattle.panel.specs.declared.known.Known.{Known}

-- the number of the action at the first node of a plan, where that node has one
abbrev pub first_number : Plan → Option ℕ
first_number finish = None
first_number (act n q) = Some n
first_number (ask n t e) = Some n
first_number gap = None

-- the number of the first action where the plan holds from the start; nothing where it fails
abbrev pub FirstAction : Procedure → Known → Option ℕ → Type 0
FirstAction p start r =
    (Follows p.goal (tree_of p) (worlds_in start) Holds × (r ≡ first_number p.plan))
    ⊎ ((place : ℕ) × (cause : Cause) × Follows p.goal (tree_of p) (worlds_in start) (Fails place cause) × (r ≡ None))
