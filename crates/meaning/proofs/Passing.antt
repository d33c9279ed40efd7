-- Plans one after the other, and what passing a node leaves of them. Assumes nothing.
use Rattle.std.proofs.Common.{◌≡◌, ℕ, ◌+◌, ◌-◌, ◌<◌, ◌≤◌, List, [], ◌∷◌, ◌++◌, length, Option, Some, None, Bor, sym, refl, ap, ◌∙◌, ◌⊎◌, inl, inr, append_assoc, append-nil, arith}
use Rattle.std.specs.Slice.Iter.{iter_rest, iter_steps}
use Rattle.std.specs.declared.slice.Iter.{Iter}
use Rattle.plans.specs.Kinds.{code_of}
use Rattle.plans.specs.declared.Kind.{Kind}
use Rattle.plans.specs.declared.Kind.TheVariants.{End, Doing, Reading, Gap}
use Rattle.plans.specs.Trees.{Plan, finish, act, ask, gap, encode}

-- the bytes of several plans, one after the other
abbrev pub encodes : List Plan → List ℕ
encodes [] = []
encodes (q ∷ qs) = encode q ++ encodes qs

-- the bytes that are left are those of so many plans, with rest behind them
abbrev pub Ahead : List ℕ → ℕ → List ℕ → Type 0
Ahead left due rest = (qs : List Plan) × (length qs ≡ due) × (left ≡ encodes qs ++ rest)

pub ahead_first : (left : List ℕ) (q : Plan) (rest : List ℕ) → left ≡ encode q ++ rest → Ahead left 1 rest
ahead_first left q rest e = (q ∷ [], refl, e ∙ ap (λ (l : List ℕ). l ++ rest) (sym (append-nil (encode q))))

-- where plans are left, bytes are
pub ahead_some : (left : List ℕ) (due : ℕ) (rest : List ℕ) → 0 < due → length left ≡ 0 → Ahead left due rest → ⊥
ahead_some left due rest pos none ([], n, e) = omega arith
ahead_some left due rest pos none (finish ∷ qs, n, e) = omega (arith, ap length e)
ahead_some left due rest pos none (act a p ∷ qs, n, e) = omega (arith, ap length e)
ahead_some left due rest pos none (ask a p q ∷ qs, n, e) = omega (arith, ap length e)
ahead_some left due rest pos none (gap ∷ qs, n, e) = omega (arith, ap length e)

-- the first of them is that of a node
pub ahead_known : (left : List ℕ) (due : ℕ) (rest : List ℕ) (b : ℕ) (bs : List ℕ) → 0 < due → left ≡ b ∷ bs → 3 < b → Ahead left due rest → ⊥
ahead_known left due rest b bs pos first high ([], n, e) = omega arith
ahead_known left due rest b bs pos first high (finish ∷ qs, n, e) = let is : b ≡ 0 = cc in omega arith
ahead_known left due rest b bs pos first high (act a p ∷ qs, n, e) = let is : b ≡ 1 = cc in omega arith
ahead_known left due rest b bs pos first high (ask a p q ∷ qs, n, e) = let is : b ≡ 2 = cc in omega arith
ahead_known left due rest b bs pos first high (gap ∷ qs, n, e) = let is : b ≡ 3 = cc in omega arith

-- ---- what a step of the iterator leaves

one_on : (s t : Iter ℕ) (r : Option (Bor ℕ)) (b : ℕ) (bs : List ℕ) → iter_steps s r t → iter_rest s ≡ b ∷ bs → iter_rest t ≡ bs
one_on s t None b bs h e = absurd (omega (arith, ap length e))
one_on s t (Some x) b bs h e = cc

pub not_longer : (s t : Iter ℕ) (r : Option (Bor ℕ)) → iter_steps s r t → length (iter_rest t) ≤ length (iter_rest s)
not_longer s t None h = omega (arith, ap (λ x. length (iter_rest x)) h.1)
not_longer s t (Some x) h = omega (arith, ap length h)

-- ---- the first byte is passed, which is that of the kind k, and then the number of an action where one follows

module _ (left : List ℕ) (due : ℕ) (rest : List ℕ) (k : Kind) (b : ℕ) (s : Iter ℕ) (first : left ≡ b ∷ iter_rest s) (code : code_of k ≡ b) (pos : 0 < due) where
  pub leaf_passed : (k ≡ End) ⊎ (k ≡ Gap) → Ahead left due rest → Ahead (iter_rest s) (due - 1) rest
  leaf_passed is ([], n, e) = absurd (omega arith)
  leaf_passed is (finish ∷ qs, n, e) = (qs, omega arith, cc)
  leaf_passed (inl is) (act a p ∷ qs, n, e) = cc (ap code_of is)
  leaf_passed (inr is) (act a p ∷ qs, n, e) = cc (ap code_of is)
  leaf_passed (inl is) (ask a p q ∷ qs, n, e) = cc (ap code_of is)
  leaf_passed (inr is) (ask a p q ∷ qs, n, e) = cc (ap code_of is)
  leaf_passed is (gap ∷ qs, n, e) = (qs, omega arith, cc)

  module _ (t : Iter ℕ) (r : Option (Bor ℕ)) (step : iter_steps s r t) where
    pub doing_passed : k ≡ Doing → Ahead left due rest → Ahead (iter_rest t) due rest
    doing_passed is ([], n, e) = absurd (omega arith)
    doing_passed is (finish ∷ qs, n, e) = cc (ap code_of is)
    doing_passed is (act a p ∷ qs, n, e) = (p ∷ qs, n, one_on s t r a _ step (cc))
    doing_passed is (ask a p q ∷ qs, n, e) = cc (ap code_of is)
    doing_passed is (gap ∷ qs, n, e) = cc (ap code_of is)

    pub reading_passed : k ≡ Reading → Ahead left due rest → Ahead (iter_rest t) (due + 1) rest
    reading_passed is ([], n, e) = absurd (omega arith)
    reading_passed is (finish ∷ qs, n, e) = cc (ap code_of is)
    reading_passed is (act a p ∷ qs, n, e) = cc (ap code_of is)
    reading_passed is (ask a p q ∷ qs, n, e) = (
      p ∷ (q ∷ qs),
      omega arith,
      one_on s t r a (((encode p ++ encode q) ++ encodes qs) ++ rest) step (cc) ∙ ap (λ (l : List ℕ). l ++ rest) (append_assoc (encode p) (encode q) (encodes qs)),
    )
    reading_passed is (gap ∷ qs, n, e) = cc (ap code_of is)
