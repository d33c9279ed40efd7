-- The rows of the subplans of a loaded plan. Assumes nothing.
use Rattle.std.specs.Prelude.{◌≡◌, ℕ, List, Ok, Err, Result, MatchResult}
use Rattle.fluents.specs.declared.faults.Fault.{Fault}
use Rattle.plans.specs.Trees.{Plan, past, NodeAt}
use Rattle.procedure.specs.Procedures.{Procedure, procedure_of}
use Rattle.meaning.specs.Rows.{rows_of}
use Rattle.meaning.specs.Steps.{steps_of}
use Rattle.regression.specs.declared.listing.Rooted.{Rooted}

-- a node of the file's plan stands at the place
pub record Stands (file : List ℕ) (place : ℕ) : Type 0 where
  pub p : Procedure
  pub is : procedure_of file ≡ Ok p
  pub q : Plan
  pub node : NodeAt p.place p.plan place q

-- the rows of the plan q, whose first node stands at the place, and the place just past it; or the refusal of its rows
abbrev pub RowsAt : Procedure → ℕ → Plan → Result Rooted Fault → Type 0
RowsAt p place q r =
    MatchResult r (λ x. (rows_of p.goal (steps_of p.actions place q) ≡ Ok x.listed) × (x.end ≡ past place q))
    (λ e. rows_of p.goal (steps_of p.actions place q) ≡ Err e)
