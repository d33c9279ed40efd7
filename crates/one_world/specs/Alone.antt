-- One world as a set of worlds. Assumes nothing.
use Rattle.std.specs.Prelude.{◌≡◌, ℕ}
use Rattle.one_world.specs.declared.OneWorld.{OneWorld}

-- that world, and no other
abbrev pub Alone : OneWorld → ℕ → Type 0
Alone k w = w ≡ k.world
