-- The word for each settlement, byte by byte, and the error for want of memory. Assumes nothing.
use Rattle.std.specs.Prelude.{◌≡◌, ◌≢◌, ℕ, true, false, List, ◌∷◌, ◌++◌, map, codes, string_bytes}
use Rattle.rehearsal.specs.declared.settlements.ParseError.{ParseError}
use Rattle.rehearsal.specs.declared.settlements.ParseError.TheVariants.{Word, Memory}
use Rattle.rehearsal.specs.declared.settlements.Settlement.{Settlement}
use Rattle.rehearsal.specs.declared.settlements.Settlement.TheVariants.{Value, Withdraw}

abbrev pub word_of : Settlement → List ℕ
word_of (Value true) = codes "true"
word_of (Value false) = codes "false"
word_of Withdraw = codes "withdraw"

-- the error says that memory ran out
abbrev pub IsMemory : ParseError → Type 0
IsMemory (Word word) = ⊥
IsMemory (Memory e) = Unit {0}

-- the first of the words that names no settlement is the one of the error, behind words that name some; or memory ran out
abbrev pub Unnamed : List (List ℕ) → ParseError → Type 0
Unnamed words (Word word) =
    (before : List Settlement) × (rest : List (List ℕ)) × (words ≡ map word_of before ++ string_bytes word ∷ rest) × ((s : Settlement) → string_bytes word ≢ word_of s)
Unnamed words (Memory e) = Unit {0}
