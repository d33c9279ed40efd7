-- Sets of fluents as numbers: fluent i is a member where bit i is set. Assumes nothing.
use Rattle.std.specs.Prelude.{◌≡◌, ℕ, ◌/◌, ◌%◌, ◌^◌, Bool, T, ◌==◌, bit_and, bit_or, bit_xor}

-- whether the set a has the member i
abbrev pub bit : ℕ → ℕ → Bool
bit a i = a / 2 ^ i % 2 == 1

-- the set a has the member i
abbrev pub Has : ℕ → ℕ → Type 0
Has a i = T (bit a i)

-- the set with the one member i
abbrev pub only : ℕ → ℕ
only i = 2 ^ i

-- the members of a and those of b
abbrev pub union : ℕ → ℕ → ℕ
union a b = bit_or a b

-- the members of a that b has not
abbrev pub minus : ℕ → ℕ → ℕ
minus a b = bit_xor a (bit_and a b)

-- no member is in both
abbrev pub Apart : ℕ → ℕ → Type 0
Apart a b = bit_and a b ≡ 0

-- every member of a is one of b
abbrev pub Within : ℕ → ℕ → Type 0
Within a b = bit_and a b ≡ a
