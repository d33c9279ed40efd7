-- The worlds of a payload, one after another. Assumes nothing.
use Rattle.std.proofs.Common.{◌≡◌, ℕ, zero, suc, ◌+◌, ◌*◌, ◌/◌, ◌&&◌, List, [], ◌∷◌, ◌++◌, length, sym, refl, ap, ◌∙◌, add-one, arith}
use Rattle.std.specs.List.{list_all}
use Rattle.procedure.specs.Fields.{set_at, is_inside, are_inside, worlds_from, worlds_in}

pub worlds_length : (k : ℕ) (s : List ℕ) (i : ℕ) → length (worlds_from k s i) ≡ k
worlds_length zero s i = refl
worlds_length (suc k) s i = ap suc (worlds_length k s (i + 8))

-- one world more
pub worlds_more : (k : ℕ) (s : List ℕ) (i : ℕ) → worlds_from (suc k) s i ≡ worlds_from k s i ++ (set_at s (i + 8 * k) ∷ [])
worlds_more zero s i = ap (λ (j : ℕ). set_at s j ∷ []) (omega arith)
worlds_more (suc k) s i =
    ap (λ (xs : List ℕ). set_at s i ∷ xs)
    (worlds_more k s (i + 8) ∙ ap (λ (j : ℕ). worlds_from k s (i + 8) ++ (set_at s j ∷ [])) (omega arith))

-- a list that grew by the next world
pub worlds_grown : (s new old : List ℕ) (k w : ℕ) → new ≡ old ++ (w ∷ []) → old ≡ worlds_from k s 0 → w ≡ set_at s (8 * k) → new ≡ worlds_from (k + 1) s 0
worlds_grown s new old k w grows before is =
    grows ∙ ap (λ (xs : List ℕ). xs ++ (w ∷ [])) before ∙ ap (λ (x : ℕ). worlds_from k s 0 ++ (x ∷ [])) is
    ∙ ap (λ (j : ℕ). worlds_from k s 0 ++ (set_at s j ∷ [])) (omega arith)
    ∙ sym (worlds_more k s 0) ∙ ap (λ (j : ℕ). worlds_from j s 0) (sym (add-one k))

-- as many worlds as the payload has
pub worlds_all : (s : List ℕ) (k : ℕ) → k ≡ length s / 8 → worlds_from k s 0 ≡ worlds_in s
unfolding worlds_in
worlds_all s k e = ap (λ (n : ℕ). worlds_from n s 0) e

-- the code's test of all worlds
pub all_inside : (n : ℕ) (ws : List ℕ) → list_all (λ w. is_inside n w) ws ≡ are_inside n ws
all_inside n [] = refl
all_inside n (w ∷ ws) = ap (λ b. is_inside n w && b) (all_inside n ws)
