-- The fields of the payloads of frames, and which of them are good. Assumes nothing.
use Rattle.std.specs.Prelude.{ℕ, zero, suc, ◌+◌, ◌/◌, ◌^◌, Bool, true, ◌&&◌, List, [], ◌∷◌, length, ◌==◌, bit_and, nat_le, nat_lt, slice_index}
use Rattle.knowledge.specs.declared.states.Row.{Row}
use Rattle.frames.specs.Bytes.{little}

-- the set in the eight bytes from place i on
abbrev pub set_at : List ℕ → ℕ → ℕ
set_at s i = little 8 s i

-- the partial state in the sixteen bytes from place i on: what is true, then what is false
abbrev pub row_at : List ℕ → ℕ → Row
row_at s i = record { trues = set_at s i; falses = set_at s (i + 8) }

-- every member is below n
abbrev pub is_inside : ℕ → ℕ → Bool
is_inside n a = nat_lt a (2 ^ n)

-- no member is in both sets
abbrev pub is_apart : ℕ → ℕ → Bool
is_apart a b = bit_and a b == 0

-- a partial state over the fluents below n
abbrev pub is_state : ℕ → Row → Bool
is_state n row = is_inside n row.trues && is_inside n row.falses && is_apart row.trues row.falses

-- header: the number of fluents n, then the goal
abbrev pub is_header : List ℕ → Bool
is_header s = nat_le 1 (slice_index s 0) && nat_le (slice_index s 0) 64 && is_state (slice_index s 0) (row_at s 1)

-- doing action: the conditions, then the fluents made true, then those made false
abbrev pub is_doing : ℕ → List ℕ → Bool
is_doing n s = is_state n (row_at s 0) && is_inside n (set_at s 16) && is_inside n (set_at s 24) && is_apart (set_at s 16) (set_at s 24)

-- reading action: the conditions, then the fluent that is read
abbrev pub is_reading : ℕ → List ℕ → Bool
is_reading n s = is_state n (row_at s 0) && nat_lt (slice_index s 16) n

-- the worlds of a start: the sets in k times eight bytes from place i on
abbrev pub worlds_from : ℕ → List ℕ → ℕ → List ℕ
worlds_from zero s i = []
worlds_from (suc k) s i = set_at s i ∷ worlds_from k s (i + 8)

unfoldable pub worlds_in : List ℕ → List ℕ
worlds_in s = worlds_from (length s / 8) s 0

-- every world has only members below n
abbrev pub are_inside : ℕ → List ℕ → Bool
are_inside n [] = true
are_inside n (w ∷ ws) = is_inside n w && are_inside n ws
