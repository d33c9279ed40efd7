-- The trees of loaded procedures: every condition is a partial state, and effects and fluents are in range. Assumes nothing.
use Rattle.std.proofs.Common.{◌^◌, ◌<◌}
use Rattle.fluents.specs.Sets.{Apart}
use Rattle.meaning.specs.Laws.{IsState}
use Rattle.meaning.specs.Steps.{Steps, ends, does, reads, gaps}

abbrev pub Proper : Steps → Type 0
Proper (ends at) = Unit {0}
Proper (gaps at) = Unit {0}
Proper (does at c add del t) = IsState c × Apart add del × (add < 2 ^ 64) × (del < 2 ^ 64) × Proper t
Proper (reads at c f t e) = IsState c × (f < 64) × Proper t × Proper e
