-- What the fields of a file say of its procedure. Assumes nothing.
use Rattle.std.specs.Prelude.{◌≡◌, ℕ, ◌+◌, length}
use Rattle.plans.specs.Trees.{encode}
use Rattle.procedure.specs.Acts.{row_of}
use Rattle.procedure.specs.Procedures.{Procedure}
use Rattle.procedure.specs.declared.contents.Contents.{Contents}

-- the contents of a file with so many actions and the plan frame at this place are those of the procedure
pub record Says (found : Contents) (actions plan : ℕ) (p : Procedure) : Type 0 where
  pub n : found.header.n ≡ p.n
  pub goal : row_of found.header.goal ≡ p.goal
  pub actions_are : actions ≡ length p.actions
  pub place : plan + 4 ≡ p.place
  pub long : found.len ≡ length (encode p.plan)
