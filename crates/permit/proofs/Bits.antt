-- Raising bit 0 of a word and giving it its earlier value back. Assumes nothing.
use Rattle.std.proofs.Common.{◌≡◌, ℕ, ◌/◌, ◌%◌, ◌^◌, Bool, true, false, not, ◌&&◌, ◌||◌, eqb, sym, refl, ap, ◌∙◌, subst, arith, ne_eqb, eqb-true}
use lib.Bits.{bit_and}
use Rattle.fluents.specs.Sets.{bit, minus}
use Rattle.fluents.proofs.Bits.{bit-or, bit-minus, bit-only, low_digit, same_members}
use Rattle.permit.specs.Words.{bit_zero, raised, lowered}

-- bit 0, as the code tests it
pub zero_test : (w : ℕ) → eqb (bit_and w 1) 1 ≡ bit_zero w
zero_test w = ap (λ (n : ℕ). eqb n 1) (low_digit w ∙ ap (λ (n : ℕ). n % 2) (whole w))
  where
    whole : (w : ℕ) → w ≡ w / 2 ^ 0
    whole w = omega arith

one_bit : (w i : ℕ) → bit (raised w) i ≡ (bit w i || eqb i 0)
one_bit w i = bit-or w 1 i ∙ ap (λ b. bit w i || b) (bit-only 0 i)

or_true : (b : Bool) → (b || true) ≡ true
or_true true = refl
or_true false = refl

or_false : (b : Bool) → (b || false) ≡ b
or_false true = refl
or_false false = refl

pub raised_set : (w : ℕ) → bit_zero (raised w) ≡ true
raised_set w = one_bit w 0 ∙ or_true (bit w 0)

pub raised_others : (w i : ℕ) → (i ≡ 0 → ⊥) → bit (raised w) i ≡ bit w i
raised_others w i n = one_bit w i ∙ ap (λ b. bit w i || b) (ne_eqb i 0 n) ∙ or_false (bit w i)

-- by whether the place is 0
at_place : (P : ℕ → Type 0) (i : ℕ) (b : Bool) → eqb i 0 ≡ b → P 0 → ((i ≡ 0 → ⊥) → P i) → P i
at_place P i true e h n = subst P (sym (eqb-true i 0 e)) h
at_place P i false e h n = n (λ z. let y : true ≡ false = sym (ap (λ (m : ℕ). eqb m 0) z) ∙ e in let x : ◌≡◌ {A = ℕ} 0 1 = cc in omega arith)

pub lowered_back : (w : ℕ) (b : Bool) → b ≡ bit_zero w → lowered b (raised w) ≡ w
lowered_back w true e =
    same_members (raised w) w
    (λ i. at_place (λ (j : ℕ). bit (raised w) j ≡ bit w j) i (eqb i 0) refl (raised_set w ∙ e) (raised_others w i))
lowered_back w false e =
    same_members (minus (raised w) 1) w
    (λ i. bit-minus (raised w) 1 i ∙ ap (λ b. bit (raised w) i && not b) (bit-only 0 i)
    ∙ at_place (λ (j : ℕ). (bit (raised w) j && not (eqb j 0)) ≡ bit w j) i (eqb i 0) refl (and_false (bit (raised w) 0) ∙ e)
    (λ n. ap (λ b. bit (raised w) i && not b) (ne_eqb i 0 n) ∙ and_true (bit (raised w) i) ∙ raised_others w i n))
  where
    and_false : (b : Bool) → (b && false) ≡ false
    and_false true = refl
    and_false false = refl

    and_true : (b : Bool) → (b && true) ≡ b
    and_true true = refl
    and_true false = refl
