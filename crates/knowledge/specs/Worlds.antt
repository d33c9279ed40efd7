-- What a list of worlds stands for. Assumes nothing.
-- `Has xs w` says that w stands in xs.
use Rattle.std.specs.Prelude.{ℕ, ◌≤◌, List, take}
use Rattle.std.specs.List.{ContainsAt as Has}
use Rattle.knowledge.specs.declared.worlds.WorldList.{WorldList}
use Rattle.knowledge.specs.declared.orders.Distinct.{Distinct}

-- the worlds of the list, in their order
abbrev pub list_of : WorldList → List ℕ
list_of l = take l.len l.worlds

-- a list of worlds may be made of so many
abbrev pub FitCount : ℕ → Type 0
FitCount n = (1 ≤ n) × (n ≤ 64)

-- the same worlds stand in both
abbrev pub SameWorlds : List ℕ → List ℕ → Type 0
SameWorlds xs ys = ((w : ℕ) → Has xs w → Has ys w) × ((w : ℕ) → Has ys w → Has xs w)

-- the world that is to be kept once
abbrev pub world_of : Distinct → ℕ
world_of d = d.world
