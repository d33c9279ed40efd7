-- Knowledge as a set K of worlds: what covers it, and what acting and reading make of it. Assumes nothing.
-- These are the sets that the calls of a kind of knowledge speak of, over plain numbers.
use Rattle.std.specs.Prelude.{◌≡◌, ℕ, Bool, true, false, ◌⊎◌}
use Rattle.fluents.specs.Sets.{bit, union, minus}
use Rattle.knowledge.specs.declared.states.Row.{Row}

-- the world w has every literal of the row
abbrev pub Meets : Row → ℕ → Type 0
Meets r w = (i : ℕ) → (bit r.trues i ≡ true → bit w i ≡ true) × (bit r.falses i ≡ true → bit w i ≡ false)

-- the row covers K: K knows all its literals, so every world has them
abbrev pub Covers : Row → (ℕ → Type 0) → Type 0
Covers r K = (w : ℕ) → K w → Meets r w

-- the worlds after a doing action: without Del, with Add
abbrev pub Moved : ℕ → ℕ → (ℕ → Type 0) → ℕ → Type 0
Moved add del K w = (v : ℕ) × K v × (w ≡ union (minus v del) add)

-- the worlds in which the fluent f has the value b
abbrev pub Told : ℕ → Bool → (ℕ → Type 0) → ℕ → Type 0
Told f b K w = K w × (bit w f ≡ b)

-- some world is left
abbrev pub Possible : (ℕ → Type 0) → Type 0
Possible K = (w : ℕ) × K w

-- A where P holds, and B where it does not
abbrev pub Either : Type 0 → Type 0 → Type 0 → Type 0
Either P A B = (P × A) ⊎ ((P → ⊥) × B)
