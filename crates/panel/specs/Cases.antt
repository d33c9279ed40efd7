-- The worlds of what is known at the panel. Assumes nothing.
use Rattle.std.specs.Prelude.{ℕ}
use Rattle.knowledge.specs.Extends.{Extends}
use Rattle.knowledge.specs.Listed.{Lists}
use Rattle.panel.specs.declared.known.Known.{Known}
use Rattle.panel.specs.declared.known.Known.TheVariants.{Partial, Worlds}

abbrev pub worlds_in : Known → ℕ → Type 0
worlds_in (Partial state) = Extends state
worlds_in (Worlds list) = Lists list
