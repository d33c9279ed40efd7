-- The worlds that extend a partial state, and what acting and learning make of them. Assumes nothing.
use Rattle.std.proofs.Common.{◌≡◌, ℕ, ◌^◌, ◌<◌, Bool, true, false, not, ◌&&◌, ◌||◌, eqb, sym, refl, ap, ◌∙◌, arith, eq-eqb, eqb-true}
use lib.Bits.{or_lt, xor_lt, and_lt, and_self, and_comm, bit_and}
use lib.Pow.{pow-lt}
use Rattle.fluents.specs.Sets.{bit, only, union, minus, Apart, Within}
use Rattle.fluents.proofs.Bits.{bit-or, bit-minus, bit-only, same_members, within_members, members_within, apart_members, members_apart}

-- ---- one fluent: t and f say whether the state has it true or false, a and d whether it is made true or false,
-- ---- v and w whether it is true before and after

abbrev pub step : Bool → Bool → Bool → Bool
step v d a = (v && not d) || a

true_after : (t d a v : Bool) → (t ≡ true → v ≡ true) → step t d a ≡ true → step v d a ≡ true
true_after t d a v h e = grind arith

false_after : (f d a v : Bool) → (f ≡ true → v ≡ false) → (a ≡ true → d ≡ false) → step f a d ≡ true → step v d a ≡ false
false_after f d a v h k e = grind arith

never_both : (t f d a : Bool) → (t ≡ true → f ≡ false) → (a ≡ true → d ≡ false) → step t d a ≡ true → step f a d ≡ false
never_both t f d a h k e = grind arith

-- the value before, where w is the value after
before : Bool → Bool → Bool → Bool → Bool
before t w a d = t || (w && not (a || d))

before_true : (t w a d : Bool) → t ≡ true → before t w a d ≡ true
unfolding before
before_true t w a d e = grind arith

before_false : (t f w a d : Bool) → (t ≡ true → f ≡ false) → (step f a d ≡ true → w ≡ false) → f ≡ true → before t w a d ≡ false
unfolding before
before_false t f w a d h k e = grind arith

before_after : (t f w a d : Bool) → (a ≡ true → d ≡ false) → (step t d a ≡ true → w ≡ true) → (step f a d ≡ true → w ≡ false) → w ≡ step (before t w a d) d a
unfolding before
before_after t f w a d h k l = grind arith

-- ---- sets

pub bit-step : (v d a i : ℕ) → bit (union (minus v d) a) i ≡ step (bit v i) (bit d i) (bit a i)
bit-step v d a i = bit-or (minus v d) a i ∙ ap (λ b. b || bit a i) (bit-minus v d i)

pub step_fits : (v d a : ℕ) → v < 2 ^ 64 → a < 2 ^ 64 → union (minus v d) a < 2 ^ 64
step_fits v d a h k = or_lt 64 (minus v d) a (xor_lt 64 v (bit_and v d) h (and_fits v d h)) k
  where
    and_fits : (v d : ℕ) → v < 2 ^ 64 → bit_and v d < 2 ^ 64
    and_fits v d h = omega (arith, lib.Bits.and_le_l v d)

module _ (t f a d : ℕ) (apart : Apart t f) (effects : Apart a d) where
  -- the state after a doing action: what is true loses Del and gains Add, what is false loses Add and gains Del
  pub after_apart : Apart (union (minus t d) a) (union (minus f a) d)
  after_apart =
      members_apart (union (minus t d) a) (union (minus f a) d)
      (λ i e. bit-step f a d i ∙ never_both (bit t i) (bit f i) (bit d i) (bit a i) (apart_members t f apart i) (apart_members a d effects i) (sym (bit-step t d a i) ∙ e))

  pub after_extends : (v : ℕ) → Within t v → Apart f v → Within (union (minus t d) a) (union (minus v d) a) × Apart (union (minus f a) d) (union (minus v d) a)
  after_extends v tv fv = (
    members_within (union (minus t d) a) (union (minus v d) a)
        (λ i e. bit-step v d a i ∙ true_after (bit t i) (bit d i) (bit a i) (bit v i) (within_members t v tv i) (sym (bit-step t d a i) ∙ e)),
    members_apart (union (minus f a) d) (union (minus v d) a)
        (λ i e. bit-step v d a i ∙ false_after (bit f i) (bit d i) (bit a i) (bit v i) (apart_members f v fv i) (apart_members a d effects i) (sym (bit-step f a d i) ∙ e)),
  )

  -- and every world that extends it comes from one that extended the state before
  module _ (w : ℕ) (tw : Within (union (minus t d) a) w) (fw : Apart (union (minus f a) d) w) where
    pub earlier : ℕ
    earlier = union t (minus w (union a d))

    bit-earlier : (i : ℕ) → bit earlier i ≡ before (bit t i) (bit w i) (bit a i) (bit d i)
    unfolding earlier before
    bit-earlier i = bit-or t (minus w (union a d)) i ∙ ap (λ b. bit t i || b) (bit-minus w (union a d) i ∙ ap (λ b. bit w i && not b) (bit-or a d i))

    below : (i : ℕ) → step (bit t i) (bit d i) (bit a i) ≡ true → bit w i ≡ true
    below i e = within_members (union (minus t d) a) w tw i (bit-step t d a i ∙ e)

    out : (i : ℕ) → step (bit f i) (bit a i) (bit d i) ≡ true → bit w i ≡ false
    out i e = apart_members (union (minus f a) d) w fw i (bit-step f a d i ∙ e)

    pub earlier_within : Within t earlier
    earlier_within = members_within t earlier (λ i e. bit-earlier i ∙ before_true (bit t i) (bit w i) (bit a i) (bit d i) e)

    pub earlier_apart : Apart f earlier
    earlier_apart =
        members_apart f earlier
        (λ i e. bit-earlier i ∙ before_false (bit t i) (bit f i) (bit w i) (bit a i) (bit d i) (apart_members t f apart i) (out i) e)

    pub earlier_after : w ≡ union (minus earlier d) a
    earlier_after =
        same_members w (union (minus earlier d) a)
        (λ i. before_after (bit t i) (bit f i) (bit w i) (bit a i) (bit d i) (apart_members a d effects i) (below i) (out i)
        ∙ ap (λ b. step b (bit d i) (bit a i)) (sym (bit-earlier i)) ∙ sym (bit-step earlier d a i))

    pub earlier_fits : t < 2 ^ 64 → w < 2 ^ 64 → earlier < 2 ^ 64
    unfolding earlier
    earlier_fits h k = or_lt 64 t (minus w (union a d)) h (xor_lt 64 w (bit_and w (union a d)) k (omega (arith, lib.Bits.and_le_l w (union a d))))

-- ---- one literal

pub true_not_false : true ≡ false → ⊥
true_not_false e = let z : ◌≡◌ {A = ℕ} 0 1 = cc in omega arith

eqb_same : (n : ℕ) → eqb n n ≡ true
eqb_same n = eq-eqb n n refl

only_meets : (a i : ℕ) → bit a i ≡ true → Apart a (only i) → ⊥
only_meets a i e h =
    let z : true ≡ false = sym (bit-only i i ∙ eqb_same i) ∙ apart_members a (only i) h i e in
    let y : ◌≡◌ {A = ℕ} 0 1 = cc in omega arith

-- a set is apart from one fluent exactly where it does not have it
pub only_apart : (a i : ℕ) → bit a i ≡ false → Apart a (only i)
only_apart a i e = members_apart a (only i) (λ j t. other j (eqb j i) refl t)
  where
    other : (j : ℕ) (b : Bool) → eqb j i ≡ b → bit a j ≡ true → bit (only i) j ≡ false
    other j false q t = bit-only i j ∙ q
    other j true q t = let z : false ≡ true = sym e ∙ ap (bit a) (sym (eqb-true j i q)) ∙ t in let y : ◌≡◌ {A = ℕ} 0 1 = cc in absurd (omega arith)

pub not_apart_has : (a i : ℕ) → (Apart a (only i) → ⊥) → bit a i ≡ true
not_apart_has a i h = go (bit a i) refl
  where
    go : (b : Bool) → bit a i ≡ b → b ≡ true
    go true e = refl
    go false e = absurd (h (only_apart a i e))

pub apart_has_not : (a i : ℕ) → Apart a (only i) → bit a i ≡ false
apart_has_not a i h = go (bit a i) refl
  where
    go : (b : Bool) → bit a i ≡ b → b ≡ false
    go true e = absurd (only_meets a i e h)
    go false e = refl

with_bit : (t i : ℕ) → bit (union t (only i)) i ≡ true
with_bit t i = bit-or t (only i) i ∙ ap (λ b. bit t i || b) (bit-only i i ∙ eqb_same i) ∙ or_true (bit t i)
  where
    or_true : (b : Bool) → (b || true) ≡ true
    or_true true = refl
    or_true false = refl

-- a set with one fluent more is within w exactly where the set is and w has the fluent
pub union_within : (t i w : ℕ) → Within (union t (only i)) w → Within t w × (bit w i ≡ true)
union_within t i w h = (
  members_within t w (λ j e. within_members (union t (only i)) w h j (bit-or t (only i) j ∙ ap (λ b. b || bit (only i) j) e)),
  within_members (union t (only i)) w h i (with_bit t i),
)

pub within_union : (t i w : ℕ) → Within t w → bit w i ≡ true → Within (union t (only i)) w
within_union t i w h e =
    members_within (union t (only i)) w (λ j u. go j (bit t j) (eqb j i) refl refl (sym (ap (λ b. bit t j || b) (bit-only i j)) ∙ sym (bit-or t (only i) j) ∙ u))
  where
    go : (j : ℕ) (b c : Bool) → bit t j ≡ b → eqb j i ≡ c → (bit t j || eqb j i) ≡ true → bit w j ≡ true
    go j true c p q u = within_members t w h j p
    go j false true p q u = ap (bit w) (eqb-true j i q) ∙ e
    go j false false p q u = let z : false ≡ true = sym (ap (λ b. b || eqb j i) p ∙ q) ∙ u in let y : ◌≡◌ {A = ℕ} 0 1 = cc in absurd (omega arith)

-- and it is apart from w exactly where the set is and w has not the fluent
pub union_apart : (f i w : ℕ) → Apart (union f (only i)) w → Apart f w × (bit w i ≡ false)
union_apart f i w h = (
  members_apart f w (λ j e. apart_members (union f (only i)) w h j (bit-or f (only i) j ∙ ap (λ b. b || bit (only i) j) e)),
  apart_members (union f (only i)) w h i (with_bit f i),
)

pub apart_union : (f i w : ℕ) → Apart f w → bit w i ≡ false → Apart (union f (only i)) w
apart_union f i w h e =
    members_apart (union f (only i)) w (λ j u. go j (bit f j) (eqb j i) refl refl (sym (ap (λ b. bit f j || b) (bit-only i j)) ∙ sym (bit-or f (only i) j) ∙ u))
  where
    go : (j : ℕ) (b c : Bool) → bit f j ≡ b → eqb j i ≡ c → (bit f j || eqb j i) ≡ true → bit w j ≡ false
    go j true c p q u = apart_members f w h j p
    go j false true p q u = ap (bit w) (eqb-true j i q) ∙ e
    go j false false p q u = let z : false ≡ true = sym (ap (λ b. b || eqb j i) p ∙ q) ∙ u in let y : ◌≡◌ {A = ℕ} 0 1 = cc in absurd (omega arith)

-- ---- what is known

-- every world that extends the state has the fluent exactly where the state says so
pub knows_true : (t f i : ℕ) → Apart t f → t < 2 ^ 64
    → (bit t i ≡ true → (w : ℕ) → (w < 2 ^ 64) × Within t w × Apart f w → bit w i ≡ true)
    × (((w : ℕ) → (w < 2 ^ 64) × Within t w × Apart f w → bit w i ≡ true) → bit t i ≡ true)
knows_true t f i apart fit = ((λ e w h. within_members t w h.1 i e), (λ h. h t (fit, and_self t, and_comm f t ∙ apart)))

-- no world that extends the state has the fluent exactly where the state says so: else the state's true fluents
-- and that one are such a world
pub knows_false : (t f i : ℕ) → Apart t f → t < 2 ^ 64 → i < 64
    → (bit f i ≡ true → (w : ℕ) → (w < 2 ^ 64) × Within t w × Apart f w → bit w i ≡ false)
    × (((w : ℕ) → (w < 2 ^ 64) × Within t w × Apart f w → bit w i ≡ false) → bit f i ≡ true)
knows_false t f i apart fit small = ((λ e w h. apart_members f w h.2 i e), (λ h. go h (bit f i) refl))
  where
    go : ((w : ℕ) → (w < 2 ^ 64) × Within t w × Apart f w → bit w i ≡ false) → (b : Bool) → bit f i ≡ b → b ≡ true
    go h true e = refl
    go h false e =
        let w = union t (only i) in
        let lt : w < 2 ^ 64 = or_lt 64 t (only i) fit (pow-lt small) in
        let inside : Within t w = (union_within t i w (and_self w)).0 in
        let out : Apart f w = and_comm f w ∙ apart_union t i f apart e in
        let z : true ≡ false = sym (with_bit t i) ∙ h w (lt, inside, out) in
        let y : ◌≡◌ {A = ℕ} 0 1 = cc in absurd (omega arith)
