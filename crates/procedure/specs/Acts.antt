-- The code's values as the definitions see them. Assumes nothing.
use Rattle.std.specs.Prelude.{◌≡◌, ℕ, Bool, true, false, List}
use Rattle.fluents.specs.Sets.{bit}
use Rattle.knowledge.specs.declared.actions.Action.{Action}
use Rattle.knowledge.specs.declared.actions.Action.TheVariants.{Doing, Reading}
use Rattle.knowledge.specs.declared.states.PartialState.{PartialState}
use Rattle.knowledge.specs.declared.states.Row.{Row}
use Rattle.plans.specs.declared.Sorts.{Sorts}
use Rattle.procedure.specs.Procedures.{Act, doing, reading, does_at, reads_at}

-- the numbers of a partial state
abbrev pub row_of : PartialState → Row
row_of s = record { trues = s.trues; falses = s.falses }

-- the action that a value of the code stands for
abbrev pub act_seen : Action → Act
act_seen (Doing a) = doing (row_of a.conditions) a.add a.del
act_seen (Reading a) = reading (row_of a.conditions) a.fluent.index

abbrev pub is_do : Act → Bool
is_do (doing row add del) = true
is_do (reading row fluent) = false

abbrev pub is_read : Act → Bool
is_read (doing row add del) = false
is_read (reading row fluent) = true

-- the two sets say of each action number whether it is there and of which sort
pub record Sorted (acts : List Act) (sorts : Sorts) : Type 0 where
  pub does : (a : ℕ) → bit sorts.doing a ≡ does_at acts a
  pub reads : (a : ℕ) → bit sorts.reading a ≡ reads_at acts a
