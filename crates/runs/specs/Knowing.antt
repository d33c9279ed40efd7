-- What is known of one fluent. Assumes nothing.
use Rattle.std.specs.Prelude.{◌≡◌, ℕ, true, false}
use Rattle.fluents.specs.Sets.{bit}
use Rattle.knowledge.specs.declared.states.Row.{Row}

-- every world has the literal of the fluent i that the row has, if it has one
abbrev pub CoversAt : Row → ℕ → (ℕ → Type 0) → Type 0
CoversAt r i K = (w : ℕ) → K w → (bit r.trues i ≡ true → bit w i ≡ true) × (bit r.falses i ≡ true → bit w i ≡ false)
