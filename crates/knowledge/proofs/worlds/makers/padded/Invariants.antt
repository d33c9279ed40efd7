use Rattle.std.proofs.Common.{◌≡◌, ℕ, ◌≤◌, map, length, get_or, take}
use Rattle.knowledge.specs.Worlds.{world_of}
use Rattle.knowledge.proofs.worlds.makers.padded.Given as goal

abbrev pub invariant-loop-i : goal.invariant-loop-i
invariant-loop-i l = (length l.array ≡ 64) × (take l.i l.array ≡ map world_of (take l.i l.items)) × ((k : ℕ) → l.i ≤ k → get_or l.array k 0 ≡ 0)
