-- The slots of the waiting runs when all move by one. Assumes nothing.
use Rattle.std.proofs.Common.{◌≡◌, ℕ, ◌+◌, ◌≤◌, List, [], ◌∷◌, ◌++◌, length, take, sym, ap, ◌∙◌, add-one}
use Rattle.std.proofs.lemmas.List.{take-append-le}

pub shifted : {X : Type 0} (x : X) (xs : List X) (last : X) (m n : ℕ) → m ≡ n + 1 → n ≤ length xs → take m (x ∷ xs) ≡ x ∷ take n (xs ++ last ∷ [])
shifted x xs last m n e le = ap (λ (k : ℕ). take k (x ∷ xs)) (e ∙ add-one n) ∙ ap (λ l. x ∷ l) (sym (take-append-le n xs (last ∷ []) le))
