-- The laws of sets of fluents: every other crate reasons about sets by these. Assumes nothing.
use Rattle.std.proofs.Common.{◌≡◌, ℕ, zero, suc, ◌/◌, ◌%◌, ◌^◌, ◌<◌, ◌≤◌, Bool, true, false, not, ◌&&◌, ◌||◌, T, eqb, ◌⊎◌, sym, refl, ap, ◌∙◌, subst, inl, inr, le_trans, mod-lt, zero-lt-suc, add_comm, pow-suc, mul-div_cancel, add-one, arith, pow_mono, shr-shr}
use lib.Arith.{bin_ind}
use lib.Bits.{bit_and, bit_or, bit_xor, and_shr, or_shr, xor_shr, and_mod, or_mod, xor_mod, and_mask, and_le_r, and_comm}
use lib.Dec.{eqb-zero-suc, eqb-suc-zero, eqb-suc-suc}
use native.Mathlib.Nat.{div-eq_of_lt, mul-mod_left}
use Rattle.std.proofs.lemmas.Bool.{cases_lt}
use Rattle.fluents.specs.Sets.{bit, only, union, minus, Apart, Within}

-- ---- one binary digit

-- the lowest binary digit, as the code reads it
pub low_digit : (a : ℕ) → bit_and a 1 ≡ a % 2
low_digit a = and_mask a 1

digit : ℕ → ℕ → ℕ
digit a i = a / 2 ^ i % 2

two_ways : (d : ℕ) → d < 2 → (d ≡ 0) ⊎ (d ≡ 1)
two_ways zero h = inl refl
two_ways (suc zero) h = inr refl
two_ways (suc (suc d)) h = absurd (omega arith)

digit_ways : (a i : ℕ) → (digit a i ≡ 0) ⊎ (digit a i ≡ 1)
unfolding digit
digit_ways a i = two_ways (a / 2 ^ i % 2) (mod-lt (a / 2 ^ i) (zero-lt-suc 1))

-- an operation on digits is that operation on truth values
ways : (f : ℕ → ℕ → ℕ) (g : Bool → Bool → Bool)
    → eqb (f 0 0) 1 ≡ g false false → eqb (f 0 1) 1 ≡ g false true → eqb (f 1 0) 1 ≡ g true false → eqb (f 1 1) 1 ≡ g true true
    → (p q : ℕ) → (p ≡ 0) ⊎ (p ≡ 1) → (q ≡ 0) ⊎ (q ≡ 1) → eqb (f p q) 1 ≡ g (eqb p 1) (eqb q 1)
ways f g a b c d p q (inl x) (inl y) = rw (x, y) a
ways f g a b c d p q (inl x) (inr y) = rw (x, y) b
ways f g a b c d p q (inr x) (inl y) = rw (x, y) c
ways f g a b c d p q (inr x) (inr y) = rw (x, y) d

-- ---- members of what the operations give

pub bit-and : (a b i : ℕ) → bit (bit_and a b) i ≡ (bit a i && bit b i)
unfolding digit
bit-and a b i =
    ap (λ (n : ℕ). eqb (n % 2) 1) (and_shr a b i) ∙ ap (λ (n : ℕ). eqb n 1) (and_mod (a / 2 ^ i) (b / 2 ^ i) 1)
    ∙ ways bit_and ◌&&◌ refl refl refl refl (digit a i) (digit b i) (digit_ways a i) (digit_ways b i)

pub bit-or : (a b i : ℕ) → bit (union a b) i ≡ (bit a i || bit b i)
unfolding digit
bit-or a b i =
    ap (λ (n : ℕ). eqb (n % 2) 1) (or_shr a b i) ∙ ap (λ (n : ℕ). eqb n 1) (or_mod (a / 2 ^ i) (b / 2 ^ i) 1)
    ∙ ways bit_or ◌||◌ refl refl refl refl (digit a i) (digit b i) (digit_ways a i) (digit_ways b i)

exclusive : Bool → Bool → Bool
exclusive true b = not b
exclusive false b = b

bit-xor : (a b i : ℕ) → bit (bit_xor a b) i ≡ exclusive (bit a i) (bit b i)
unfolding digit exclusive
bit-xor a b i =
    ap (λ (n : ℕ). eqb (n % 2) 1) (xor_shr a b i) ∙ ap (λ (n : ℕ). eqb n 1) (xor_mod (a / 2 ^ i) (b / 2 ^ i) 1)
    ∙ ways bit_xor exclusive refl refl refl refl (digit a i) (digit b i) (digit_ways a i) (digit_ways b i)

without : (a b : Bool) → exclusive a (a && b) ≡ (a && not b)
unfolding exclusive
without true b = refl
without false b = refl

pub bit-minus : (a b i : ℕ) → bit (minus a b) i ≡ (bit a i && not (bit b i))
bit-minus a b i = bit-xor a (bit_and a b) i ∙ ap (exclusive (bit a i)) (bit-and a b i) ∙ without (bit a i) (bit b i)

-- ---- the empty set, and sets without large members

-- a set of n fluents has no member at n or above
pub bit-above : (a n i : ℕ) → a < 2 ^ n → n ≤ i → bit a i ≡ false
bit-above a n i small above =
    ap (λ (m : ℕ). eqb (m % 2) 1) (div-eq_of_lt (le_trans small (pow_mono above)))

pub bit-zero : (i : ℕ) → bit 0 i ≡ false
bit-zero i = bit-above 0 0 i (omega arith) (omega arith)

-- ---- two sets with the same members are the same number

half_bit : (a i : ℕ) → bit (a / 2) i ≡ bit a (suc i)
half_bit a i = ap (λ (n : ℕ). eqb (n % 2) 1) (shr-shr a 1 i ∙ ap (λ (k : ℕ). a / 2 ^ k) (add_comm 1 i ∙ add-one i))

low_bit : (a : ℕ) → bit a 0 ≡ eqb (a % 2) 1
low_bit a = ap (λ (n : ℕ). eqb (n % 2) 1) (shr_none a)
  where
    shr_none : (a : ℕ) → a / 2 ^ 0 ≡ a
    shr_none a = omega arith

low_same : (a b : ℕ) → bit a 0 ≡ bit b 0 → a % 2 ≡ b % 2
low_same a b e = same (a % 2) (b % 2) (two_ways (a % 2) (mod-lt a (zero-lt-suc 1))) (two_ways (b % 2) (mod-lt b (zero-lt-suc 1))) (sym (low_bit a) ∙ e ∙ low_bit b)
  where
    same : (p q : ℕ) → (p ≡ 0) ⊎ (p ≡ 1) → (q ≡ 0) ⊎ (q ≡ 1) → eqb p 1 ≡ eqb q 1 → p ≡ q
    same p q (inl x) (inl y) h = x ∙ sym y
    same p q (inl x) (inr y) h = absurd (subst T (sym (ap (λ (n : ℕ). eqb n 1) (sym x) ∙ h ∙ ap (λ (n : ℕ). eqb n 1) y)) tt)
    same p q (inr x) (inl y) h = absurd (subst T (ap (λ (n : ℕ). eqb n 1) (sym x) ∙ h ∙ ap (λ (n : ℕ). eqb n 1) y) tt)
    same p q (inr x) (inr y) h = x ∙ sym y

halves_same : (a b : ℕ) → a / 2 ≡ b / 2 → a % 2 ≡ b % 2 → a ≡ b
halves_same a b p q = omega arith

empty_same : (b : ℕ) → ((i : ℕ) → bit 0 i ≡ bit b i) → 0 ≡ b
empty_same =
    bin_ind (λ (b : ℕ). ((i : ℕ) → bit 0 i ≡ bit b i) → 0 ≡ b) (λ h. refl)
    (λ b ih h. halves_same 0 b (ih (λ i. bit-zero i ∙ sym (bit-zero (suc i)) ∙ h (suc i) ∙ sym (half_bit b i))) (low_same 0 b (h 0)))

pub same_members : (a b : ℕ) → ((i : ℕ) → bit a i ≡ bit b i) → a ≡ b
same_members =
    bin_ind (λ (a : ℕ). (b : ℕ) → ((i : ℕ) → bit a i ≡ bit b i) → a ≡ b) empty_same
    (λ a ih b h. halves_same a b (ih (b / 2) (λ i. half_bit a i ∙ h (suc i) ∙ sym (half_bit b i))) (low_same a b (h 0)))

-- ---- one set within another

both_assoc : (a b c : Bool) → ((a && b) && c) ≡ (a && (b && c))
both_assoc true b c = refl
both_assoc false b c = refl

pub and_assoc : (a b c : ℕ) → bit_and (bit_and a b) c ≡ bit_and a (bit_and b c)
and_assoc a b c =
    same_members (bit_and (bit_and a b) c) (bit_and a (bit_and b c))
    (λ i. bit-and (bit_and a b) c i ∙ ap (λ x. x && bit c i) (bit-and a b i) ∙ both_assoc (bit a i) (bit b i) (bit c i)
    ∙ ap (λ x. bit a i && x) (sym (bit-and b c i)) ∙ sym (bit-and a (bit_and b c) i))

pub within_trans : (a b c : ℕ) → Within a b → Within b c → Within a c
within_trans a b c p q = ap (λ n. bit_and n c) (sym p) ∙ and_assoc a b c ∙ ap (bit_and a) q ∙ p

pub within_antisym : (a b : ℕ) → Within a b → Within b a → a ≡ b
within_antisym a b p q = sym p ∙ and_comm a b ∙ q

-- a set is no greater a number than one that it is within
pub within_le : (a b : ℕ) → Within a b → a ≤ b
within_le a b p = subst (λ n. n ≤ b) p (and_le_r a b)

-- ---- the set with one member

pub bit-only : (j i : ℕ) → bit (only j) i ≡ eqb i j
bit-only zero zero = refl
bit-only zero (suc i) = sym (half_bit 1 i) ∙ bit-zero i ∙ sym (eqb-suc-zero i)
bit-only (suc j) zero =
    low_bit (2 ^ suc j) ∙ ap (λ (n : ℕ). eqb (n % 2) 1) (pow-suc 2 j) ∙ ap (λ (n : ℕ). eqb n 1) (mul-mod_left (2 ^ j) 2) ∙ sym (eqb-zero-suc j)
bit-only (suc j) (suc i) =
    sym (half_bit (2 ^ suc j) i) ∙ ap (λ (n : ℕ). bit (n / 2) i) (pow-suc 2 j) ∙ ap (λ (n : ℕ). bit n i) (mul-div_cancel (2 ^ j) (zero-lt-suc 1))
    ∙ bit-only j i ∙ sym (eqb-suc-suc i j)

-- ---- all members below a number

pub bits_below : (n a : ℕ) → ((i : ℕ) → bit a i ≡ true → i < n) → a < 2 ^ n
bits_below zero a h = subst (λ (m : ℕ). m < 1) (empty_same a (λ i. bit-zero i ∙ sym (none i (bit a i) refl))) (omega arith)
  where
    none : (i : ℕ) (b : Bool) → bit a i ≡ b → b ≡ false
    none i true e = absurd (omega (arith, h i e))
    none i false e = refl
bits_below (suc n) a h =
    let half = bits_below n (a / 2) (λ i e. omega (arith, h (suc i) (sym (half_bit a i) ∙ e))) in
    omega (arith, half, pow-suc 2 n)

pub below_bits : (n a : ℕ) → a < 2 ^ n → (i : ℕ) → bit a i ≡ true → i < n
below_bits n a small i e = go (cases_lt i n)
  where
    go : (i < n) ⊎ (n ≤ i) → i < n
    go (inl h) = h
    go (inr h) = let z : false ≡ true = sym (bit-above a n i small h) ∙ e in absurd (subst T (sym z) tt)

-- ---- within and apart, member by member

and_first : (a b : Bool) → (a && b) ≡ a → a ≡ true → b ≡ true
and_first true b e t = e
and_first false b e t = let z : ◌≡◌ {A = ℕ} 0 1 = cc in absurd (omega arith)

first_and : (a b : Bool) → (a ≡ true → b ≡ true) → (a && b) ≡ a
first_and true b h = h refl
first_and false b h = refl

pub within_members : (a b : ℕ) → Within a b → (i : ℕ) → bit a i ≡ true → bit b i ≡ true
within_members a b e i t = and_first (bit a i) (bit b i) (sym (bit-and a b i) ∙ ap (λ (n : ℕ). bit n i) e) t

pub members_within : (a b : ℕ) → ((i : ℕ) → bit a i ≡ true → bit b i ≡ true) → Within a b
members_within a b h = same_members (bit_and a b) a (λ i. bit-and a b i ∙ first_and (bit a i) (bit b i) (h i))

and_none : (a b : Bool) → (a && b) ≡ false → a ≡ true → b ≡ false
and_none true b e t = e
and_none false b e t = let z : ◌≡◌ {A = ℕ} 0 1 = cc in absurd (omega arith)

none_and : (a b : Bool) → (a ≡ true → b ≡ false) → (a && b) ≡ false
none_and true b h = h refl
none_and false b h = refl

pub apart_members : (a b : ℕ) → Apart a b → (i : ℕ) → bit a i ≡ true → bit b i ≡ false
apart_members a b e i t = and_none (bit a i) (bit b i) (sym (bit-and a b i) ∙ ap (λ (n : ℕ). bit n i) e ∙ bit-zero i) t

pub members_apart : (a b : ℕ) → ((i : ℕ) → bit a i ≡ true → bit b i ≡ false) → Apart a b
members_apart a b h = same_members (bit_and a b) 0 (λ i. bit-and a b i ∙ none_and (bit a i) (bit b i) (h i) ∙ sym (bit-zero i))
