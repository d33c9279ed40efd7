-- The permit word: bit 0 is set while a run is armed. Assumes nothing.
use Rattle.std.specs.Prelude.{ℕ, Bool, true, false}
use Rattle.fluents.specs.Sets.{bit, union, minus}

-- bit 0 of the word
abbrev pub bit_zero : ℕ → Bool
bit_zero w = bit w 0

-- the word with bit 0 set
abbrev pub raised : ℕ → ℕ
raised w = union w 1

-- a word whose bit 0 is set, with that bit at its earlier value
abbrev pub lowered : Bool → ℕ → ℕ
lowered true w = w
lowered false w = minus w 1
