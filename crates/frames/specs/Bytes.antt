-- Numbers and sums in a string of bytes. Assumes nothing.
use Rattle.std.specs.Prelude.{ℕ, zero, suc, ◌+◌, ◌*◌, ◌/◌, ◌%◌, List, [], ◌∷◌, slice_index}

-- the number in the k bytes from place i on, lowest byte first; a byte past the end counts as 0
abbrev pub little : ℕ → List ℕ → ℕ → ℕ
little zero s i = 0
little (suc k) s i = slice_index s i + 256 * little k s (i + 1)

-- the k lowest bytes of a number, lowest byte first
abbrev pub little_bytes : ℕ → ℕ → List ℕ
little_bytes zero n = []
little_bytes (suc k) n = n % 256 ∷ little_bytes k (n / 256)
