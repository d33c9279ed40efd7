-- The sum of bytes as the code adds them up. Assumes nothing.
use Rattle.std.proofs.Common.{◌≡◌, ℕ, ◌+◌, ◌%◌, List, [], ◌∷◌, fold, sum, refl, ap, ◌∙◌, arith}

folded_on : (a : ℕ) (xs : List ℕ) → fold (λ total b. (total + b) % 65536) (a % 65536) xs ≡ fold ◌+◌ a xs % 65536
folded_on a [] = refl
folded_on a (x ∷ xs) = ap (λ (n : ℕ). fold (λ total b. (total + b) % 65536) n xs) (omega arith) ∙ folded_on (a + x) xs

-- the total modulo 65,536 after each byte ends as the sum modulo 65,536
pub sum_folded : (xs : List ℕ) → fold (λ total b. (total + b) % 65536) 0 xs ≡ sum xs % 65536
sum_folded xs = folded_on 0 xs
