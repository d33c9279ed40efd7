use Rattle.std.proofs.Common.{◌≡◌, map, length, take}
use Rattle.knowledge.specs.Worlds.{world_of}
use Rattle.knowledge.proofs.worlds.makers.spread.Given as goal

abbrev pub invariant-loop-i : goal.invariant-loop-i
invariant-loop-i l = (length l.items ≡ 64) × (map world_of (take l.i l.items) ≡ take l.i l.worlds)
