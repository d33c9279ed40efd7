-- The elements of a list that have a property, gathered one by one. Assumes nothing.
use Rattle.std.proofs.Common.{◌≡◌, ℕ, ◌<◌, Bool, true, false, cond, List, [], ◌∷◌, filter, map, length, get_or, sym, refl, ap, ◌∙◌, subst, ⊎_elim, arith}
use mathlib.Core.Bool.{beq}
use Rattle.std.specs.List.{ContainsAt as Has}
use Rattle.std.proofs.ByRecursion.{has_get_or}
use Rattle.least.proofs.Only.{has_cases, has_first, has_later}
use Rattle.std.proofs.lemmas.List.{get_or-map, length-map}

-- ys has those elements of xs that have the property
abbrev pub Chosen : (ℕ → Type 0) → List ℕ → List ℕ → Type 0
Chosen P xs ys = (w : ℕ) → (Has ys w → Has xs w × P w) × (Has xs w → P w → Has ys w)

module _ (P : ℕ → Type 0) (test : ℕ → Bool) (yes : (w : ℕ) → test w ≡ true → P w) (no : (w : ℕ) → test w ≡ false → P w → ⊥) where
  -- one more element, of which the test gives b
  chosen_more : (x : ℕ) (xs ys : List ℕ) (b : Bool) → test x ≡ b → Chosen P xs ys → Chosen P (x ∷ xs) (cond b (x ∷ ys) ys)
  chosen_more x xs ys true e c w = (
    (λ h. ⊎_elim
        (λ (s : x ≡ w). (subst (Has (x ∷ xs)) s (has_first x xs), subst P s (yes x e)))
        (λ (h : Has ys w). let got = (c w).0 h in (has_later x xs w got.0, got.1))
        (has_cases x ys w h)),
    (λ h p. ⊎_elim (λ (s : x ≡ w). subst (Has (x ∷ ys)) s (has_first x ys)) (λ (h : Has xs w). has_later x ys w ((c w).1 h p)) (has_cases x xs w h)),
  )
  chosen_more x xs ys false e c w = (
    (λ h. let got = (c w).0 h in (has_later x xs w got.0, got.1)),
    (λ h p. ⊎_elim (λ (s : x ≡ w). absurd (no x e (subst P (sym s) p))) (λ (h : Has xs w). (c w).1 h p) (has_cases x xs w h)),
  )

  -- a filter by a test of the property gathers them
  pub chosen_filter : (xs : List ℕ) → Chosen P xs (filter test xs)
  chosen_filter [] w = ((λ h. absurd (omega (arith, h.1))), (λ h p. h))
  chosen_filter (x ∷ xs) w = chosen_more x xs (filter test xs) (test x) refl (chosen_filter xs) w

pub beq_true : (a b : Bool) → beq a b ≡ true → a ≡ b
beq_true true true e = refl
beq_true true false e = sym e
beq_true false true e = e
beq_true false false e = refl

pub beq_false : (a b : Bool) → beq a b ≡ false → a ≡ b → ⊥
beq_false true true e q = cc
beq_false true false e q = cc
beq_false false true e q = cc
beq_false false false e q = cc

-- ---- what stands in a list of changed elements

pub has_map : {X Y : Type 0} (f : X → Y) (xs : List X) (v : X) → Has xs v → Has (map f xs) (f v)
has_map f xs v h = (h.0, omega (arith, length-map xs f, h.1), λ d. get_or-map f xs h.0 v d h.1 ∙ ap f (h.2 v))

pub has_unmap : {X Y : Type 0} (f : X → Y) (d : X) (xs : List X) (w : Y) → Has (map f xs) w → (v : X) × Has xs v × (w ≡ f v)
has_unmap f d xs w h =
    let lt : h.0 < length xs = omega (arith, length-map xs f, h.1) in
    (get_or xs h.0 d, has_get_or xs h.0 d lt, sym (h.2 w) ∙ get_or-map f xs h.0 d w lt)
