use Rattle.std.proofs.Common.{◌≡◌, ◌≤◌, filter, length, take}
use mathlib.Core.Bool.{beq}
use Rattle.fluents.specs.Sets.{bit}
use Rattle.knowledge.specs.Worlds.{list_of}
use Rattle.knowledge.proofs.worlds.kind.WorldListKnowledge.learn.Given as goal

abbrev pub invariant-loop-world : goal.invariant-loop-world
invariant-loop-world l = (length l.worlds.items ≤ l.world-index) × (l.worlds.items ≡ filter (λ w. beq (bit w l.fn.literal.fluent.index) l.fn.literal.value) (take l.world-index (list_of l.fn.self)))
