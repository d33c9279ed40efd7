use Rattle.std.proofs.Common.{◌≡◌, map, take}
use Rattle.knowledge.specs.Meaning.{after}
use Rattle.knowledge.specs.Worlds.{list_of}
use Rattle.knowledge.proofs.worlds.kind.WorldListKnowledge.apply.Given as goal

abbrev pub invariant-loop-world : goal.invariant-loop-world
invariant-loop-world l = l.worlds.items ≡ map (after l.fn.action) (take l.world-index (list_of l.fn.self))
