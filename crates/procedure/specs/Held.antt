-- What a loaded file keeps of its procedure. Assumes nothing.
use Rattle.std.specs.Prelude.{ℕ, Bool, false, ◌&&◌, length, Ok, Err, Result, ◌==◌}
use Rattle.fluents.specs.declared.faults.Fault.{Fault}
use Rattle.plans.specs.Trees.{encode}
use Rattle.procedure.specs.Procedures.{Procedure}

-- whether the file has a procedure with these numbers: its fluents, its goal, its actions, and the place and the
-- length of its plan
abbrev pub is_held : Result Procedure Fault → ℕ → ℕ → ℕ → ℕ → ℕ → ℕ → Bool
is_held (Ok p) n trues falses actions place len =
    (p.n == n) && p.goal.trues == trues && p.goal.falses == falses && length p.actions == actions && p.place == place
    && length (encode p.plan) == len
is_held (Err fault) n trues falses actions place len = false
