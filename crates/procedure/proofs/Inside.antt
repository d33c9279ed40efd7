-- Sets whose members are all below a number. Assumes nothing.
use Rattle.std.proofs.Common.{◌≡◌, ℕ, ◌*◌, ◌/◌, ◌^◌, ◌<◌, Bool, true, false, eqb, ltb, refl, div-lt_iff_lt-mul, one-mul, arith, pow_pos, ltb-false, ltb-true, eq-eqb, ne_eqb}
use native.Mathlib.Nat.{div-eq_of_lt}

-- the code's test: nothing is left of a set that is shifted by n places
pub shifted_out : (a n : ℕ) → eqb (a / 2 ^ n) 0 ≡ ltb a (2 ^ n)
shifted_out a n = go (ltb a (2 ^ n)) refl
  where
    go : (b : Bool) → ltb a (2 ^ n) ≡ b → eqb (a / 2 ^ n) 0 ≡ b
    go true e = eq-eqb (a / 2 ^ n) 0 (div-eq_of_lt (ltb-true a (2 ^ n) e))
    go false e = ne_eqb (a / 2 ^ n) 0 (λ none. absurd (below (omega (arith, none))))
      where
        below : a / 2 ^ n < 1 → ⊥
        below h =
            let small : a < 1 * 2 ^ n = (div-lt_iff_lt-mul (pow_pos n)).0 h in
            omega (arith, small, one-mul (2 ^ n), ltb-false a (2 ^ n) e)
