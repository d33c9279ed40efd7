-- A list of worlds as a set of worlds. Assumes nothing.
use Rattle.std.specs.Prelude.{ℕ}
use Rattle.std.specs.List.{ContainsAt as Has}
use Rattle.knowledge.specs.Worlds.{list_of}
use Rattle.knowledge.specs.declared.worlds.WorldList.{WorldList}

-- the world stands in the list
abbrev pub Lists : WorldList → ℕ → Type 0
Lists l w = Has (list_of l) w
