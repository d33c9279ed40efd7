-- Knowledge is a set of worlds: what it knows, and what acting and learning make of it. Assumes nothing.
use Rattle.std.specs.Prelude.{◌≡◌, ℕ}
use Rattle.fluents.specs.Sets.{bit, union, minus}
use Rattle.fluents.specs.declared.literals.Literal.{Literal}
use Rattle.knowledge.specs.declared.actions.DoingAction.{DoingAction}

-- the literal holds in the world w
abbrev pub HoldsIn : Literal → ℕ → Type 0
HoldsIn l w = bit w l.fluent.index ≡ l.value

-- what is known: every world has the literal
abbrev pub Knows : (ℕ → Type 0) → Literal → Type 0
Knows K l = (w : ℕ) → K w → HoldsIn l w

-- the world after a doing action: without Del, with Add; every other fluent keeps its value
abbrev pub after : DoingAction → ℕ → ℕ
after a w = union (minus w a.del) a.add

-- the worlds after a doing action
abbrev pub After : DoingAction → (ℕ → Type 0) → ℕ → Type 0
After a K w = (v : ℕ) × K v × (w ≡ after a v)

-- the worlds that have the literal
abbrev pub Learned : Literal → (ℕ → Type 0) → ℕ → Type 0
Learned l K w = K w × HoldsIn l w

-- the same worlds
abbrev pub Same : (ℕ → Type 0) → (ℕ → Type 0) → Type 0
Same K L = (w : ℕ) → (K w → L w) × (L w → K w)
