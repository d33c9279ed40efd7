-- A procedure's plan as a tree of steps: each node with its place in the file and with its action looked up. Assumes nothing.
use Rattle.std.specs.Prelude.{ℕ, zero, suc, ◌+◌, List, [], ◌∷◌, Some, None, Option}
use Rattle.knowledge.specs.declared.states.Row.{Row}
use Rattle.plans.specs.Trees.{Plan, finish, act, ask, gap, past}
use Rattle.procedure.specs.Procedures.{Act, doing, reading, Procedure}

-- The first number of each node is its place. It ends; or it does an action with these conditions, which makes the
-- fluents of the first set true and those of the second false, and goes on; or it reads the fluent under these conditions,
-- and goes on by the first tree where it is true and by the second where it is false; or it has a gap.
pub data Steps : Type 0 where
  ends : ℕ → Steps
  does : ℕ → Row → ℕ → ℕ → Steps → Steps
  reads : ℕ → Row → ℕ → Steps → Steps → Steps
  gaps : ℕ → Steps

-- the action of this number
abbrev pub act_at : List Act → ℕ → Option Act
act_at [] a = None
act_at (x ∷ xs) zero = Some x
act_at (x ∷ xs) (suc a) = act_at xs a

-- A node that does, or that reads, the action that was looked up. An action that is absent or of the other sort makes a
-- gap; no loaded plan names one.
abbrev pub doing_step : ℕ → Option Act → Steps → Steps
doing_step i (Some (doing conditions add del)) t = does i conditions add del t
doing_step i (Some (reading conditions f)) t = gaps i
doing_step i None t = gaps i

abbrev pub reading_step : ℕ → Option Act → Steps → Steps → Steps
reading_step i (Some (doing conditions add del)) t e = gaps i
reading_step i (Some (reading conditions f)) t e = reads i conditions f t e
reading_step i None t e = gaps i

-- the tree of a plan whose first node stands at the place i
unfoldable pub steps_of : List Act → ℕ → Plan → Steps
steps_of acts i finish = ends i
steps_of acts i (act a p) = doing_step i (act_at acts a) (steps_of acts (i + 2) p)
steps_of acts i (ask a p q) = reading_step i (act_at acts a) (steps_of acts (i + 2) p) (steps_of acts (past (i + 2) p) q)
steps_of acts i gap = gaps i

-- the tree of a procedure
abbrev pub tree_of : Procedure → Steps
tree_of p = steps_of p.actions p.place p.plan
