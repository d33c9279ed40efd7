-- A partial state as a set of worlds. Assumes nothing.
use Rattle.std.specs.Prelude.{ℕ, ◌^◌, ◌<◌}
use Rattle.fluents.specs.Sets.{Apart, Within}
use Rattle.knowledge.specs.declared.states.PartialState.{PartialState}

-- the world has the literals of the state
abbrev pub Extends : PartialState → ℕ → Type 0
Extends s w = (w < 2 ^ 64) × Within s.trues w × Apart s.falses w
