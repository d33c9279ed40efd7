-- A partial state as plain numbers, the worlds that extend it, and what acting and reading make of them. Assumes nothing.
use Rattle.std.proofs.Common.{◌≡◌, ℕ, ◌^◌, ◌<◌, Bool, true, false, not, ◌&&◌, ◌||◌, eqb, ◌⊎◌, sym, refl, ap, ◌∙◌, subst, inl, inr, arith}
use lib.Bits.{bit_and, or_lt, and_self, and_comm}
use lib.Pow.{pow-lt}
use Rattle.std.proofs.lemmas.Bool.{eqb-true, eq-eqb, and_parts, and_from, not-true, both_ways, false_from_ne_true}
use Rattle.fluents.specs.Sets.{bit, only, union, minus, Apart, Within}
use Rattle.fluents.proofs.Bits.{bit-or, bit-minus, within_members, members_within, apart_members, below_bits}
use Rattle.knowledge.specs.Meaning.{Same}
use Rattle.knowledge.specs.Orders.{row_below}
use Rattle.knowledge.specs.declared.states.Row.{Row}
use Rattle.knowledge.proofs.Extending.{step_fits, after_apart, after_extends, earlier, earlier_within, earlier_apart, earlier_after, earlier_fits, union_within, within_union, union_apart, apart_union, knows_true, knows_false}
use Rattle.meaning.specs.Laws.{IsState}
use Rattle.meaning.specs.Rows.{plus, less, allows}
use Rattle.meaning.specs.Sets.{Covers, Moved, Told, Possible}

-- the world has the literals of the state
abbrev pub Extending : Row → ℕ → Type 0
Extending s w = (w < 2 ^ 64) × Within s.trues w × Apart s.falses w

-- the true fluents alone are such a world
pub own_world : (s : Row) → IsState s → Extending s s.trues
own_world s ok = (ok.1, and_self s.trues, and_comm s.falses s.trues ∙ ok.0)

-- ---- a doing action

-- what is true loses Del and gains Add, what is false loses Add and gains Del
abbrev pub progressed : ℕ → ℕ → Row → Row
progressed add del s = record { trues = union (minus s.trues del) add; falses = union (minus s.falses add) del }

module _ (add del : ℕ) (s : Row) (effects : Apart add del) (fits-add : add < 2 ^ 64) (fits-del : del < 2 ^ 64) (ok : IsState s) where
  pub progressed_state : IsState (progressed add del s)
  progressed_state = (
    after_apart s.trues s.falses add del ok.0 effects,
    step_fits s.trues del add ok.1 fits-add,
    step_fits s.falses add del ok.2 fits-del,
  )

  pub progressed_moved : Same (Extending (progressed add del s)) (Moved add del (Extending s))
  progressed_moved w = (
    (λ h. (
      earlier s.trues s.falses add del ok.0 effects w h.1 h.2,
      (
        earlier_fits s.trues s.falses add del ok.0 effects w h.1 h.2 ok.1 h.0,
        earlier_within s.trues s.falses add del ok.0 effects w h.1 h.2,
        earlier_apart s.trues s.falses add del ok.0 effects w h.1 h.2,
      ),
      earlier_after s.trues s.falses add del ok.0 effects w h.1 h.2,
    )),
    (λ h.
        let on = after_extends s.trues s.falses add del ok.0 effects h.0 h.1.1 h.1.2 in
        subst (Extending (progressed add del s)) (sym h.2) (step_fits h.0 del add h.1.0 fits-add, on.0, on.1)),
  )

-- ---- one literal

-- the state has the fluent f with the value b
abbrev pub has : ℕ → Bool → Row → Bool
has f true s = bit s.trues f
has f false s = bit s.falses f

-- a state with one literal more has the worlds in which the fluent has that value
pub plus_told : (f : ℕ) (b : Bool) (s : Row) → Same (Extending (plus f b s)) (Told f b (Extending s))
plus_told f true s w = (
  (λ h. let both = union_within s.trues f w h.1 in ((h.0, both.0, h.2), both.1)),
  (λ h. (h.0.0, within_union s.trues f w h.0.1 h.1, h.0.2)),
)
plus_told f false s w = (
  (λ h. let both = union_apart s.falses f w h.2 in ((h.0, h.1, both.0), both.1)),
  (λ h. (h.0.0, h.0.1, apart_union s.falses f w h.0.2 h.1)),
)

pub plus_state : (f : ℕ) (b : Bool) (s : Row) → f < 64 → allows f b s ≡ true → IsState s → IsState (plus f b s)
plus_state f true s small free ok = (
  apart_union s.trues f s.falses ok.0 (not-true (bit s.falses f) free),
  or_lt 64 s.trues (only f) ok.1 (pow-lt small),
  ok.2,
)
plus_state f false s small free ok = (
  and_comm s.trues (union s.falses (only f)) ∙ apart_union s.falses f s.trues (and_comm s.falses s.trues ∙ ok.0) (not-true (bit s.trues f) free),
  ok.1,
  or_lt 64 s.falses (only f) ok.2 (pow-lt small),
)

-- either value may come where the state does not have the other one
pub told_possible : (f : ℕ) (b : Bool) (s : Row) → f < 64 → allows f b s ≡ true → IsState s → Possible (Told f b (Extending s))
told_possible f b s small free ok =
    ((plus f b s).trues, (plus_told f b s (plus f b s).trues).0 (own_world (plus f b s) (plus_state f b s small free ok)))

-- and only there
pub possible_allows : (f : ℕ) (b : Bool) (s : Row) → Possible (Told f b (Extending s)) → allows f b s ≡ true
possible_allows f true s some =
    ap not (false_from_ne_true (bit s.falses f) (λ e. both_ways (bit some.0 f) (apart_members s.falses some.0 some.1.0.2 f e) some.1.1))
possible_allows f false s some =
    ap not (false_from_ne_true (bit s.trues f) (λ e. both_ways (bit some.0 f) some.1.1 (within_members s.trues some.0 some.1.0.1 f e)))

-- every world has a literal of the state
pub has_value : (f : ℕ) (b : Bool) (s : Row) → has f b s ≡ true → (w : ℕ) → Extending s w → bit w f ≡ b
has_value f true s e w h = within_members s.trues w h.1 f e
has_value f false s e w h = apart_members s.falses w h.2 f e

-- ---- what covers a state

-- every literal of r is one of s
abbrev Implied : Row → Row → Type 0
Implied r s = (i : ℕ) → (bit r.trues i ≡ true → bit s.trues i ≡ true) × (bit r.falses i ≡ true → bit s.falses i ≡ true)

below_members : (r s : Row) → row_below r s ≡ true → Implied r s
below_members r s e i =
    let both = and_parts (eqb (bit_and r.trues s.trues) r.trues) (eqb (bit_and r.falses s.falses) r.falses) e in (
      within_members r.trues s.trues (eqb-true (bit_and r.trues s.trues) r.trues both.0) i,
      within_members r.falses s.falses (eqb-true (bit_and r.falses s.falses) r.falses both.1) i,
    )

members_below : (r s : Row) → Implied r s → row_below r s ≡ true
members_below r s h =
    and_from (eqb (bit_and r.trues s.trues) r.trues) (eqb (bit_and r.falses s.falses) r.falses)
    (eq-eqb (bit_and r.trues s.trues) r.trues (members_within r.trues s.trues (λ i. (h i).0)))
    (eq-eqb (bit_and r.falses s.falses) r.falses (members_within r.falses s.falses (λ i. (h i).1)))

-- where one literal more makes the state have the row, the state has the row without it
without : (x s o : Bool) → (x ≡ true → (s || o) ≡ true) → (x && not o) ≡ true → s ≡ true
without x s o h e = grind arith

less_within : (f x s : ℕ) → ((i : ℕ) → bit x i ≡ true → bit (union s (only f)) i ≡ true) → (i : ℕ) → bit (minus x (only f)) i ≡ true → bit s i ≡ true
less_within f x s h i e = without (bit x i) (bit s i) (bit (only f) i) (λ q. sym (bit-or s (only f) i) ∙ h i q) (sym (bit-minus x (only f) i) ∙ e)

pub below_less : (f : ℕ) (b : Bool) (r s : Row) → row_below r (plus f b s) ≡ true → row_below (less f b r) s ≡ true
below_less f true r s e =
    let h = below_members r (plus f true s) e in
    members_below (less f true r) s (λ i. (less_within f r.trues s.trues (λ j. (h j).0) i, (h i).1))
below_less f false r s e =
    let h = below_members r (plus f false s) e in
    members_below (less f false r) s (λ i. ((h i).0, less_within f r.falses s.falses (λ j. (h j).1) i))

pub below_covers : (r s : Row) → row_below r s ≡ true → Covers r (Extending s)
below_covers r s e w h i =
    let both = below_members r s e i in (
      (λ t. has_value i true s (both.0 t) w h),
      (λ t. has_value i false s (both.1 t) w h),
    )

pub covers_below : (r s : Row) → IsState r → IsState s → Covers r (Extending s) → row_below r s ≡ true
covers_below r s ok-r ok-s covers =
    members_below r s
    (λ i. (
      (λ e. (knows_true s.trues s.falses i ok-s.0 ok-s.1).1 (λ w h. (covers w h i).0 e)),
      (λ e. (knows_false s.trues s.falses i ok-s.0 ok-s.1 (below_bits 64 r.falses ok-r.2 i e)).1 (λ w h. (covers w h i).1 e)),
    ))

pub covers_or_not : (r s : Row) → IsState r → IsState s → Covers r (Extending s) ⊎ (Covers r (Extending s) → ⊥)
covers_or_not r s ok-r ok-s = go (row_below r s) refl
  where
    go : (b : Bool) → row_below r s ≡ b → Covers r (Extending s) ⊎ (Covers r (Extending s) → ⊥)
    go true e = inl (below_covers r s e)
    go false e = inr (λ covers. both_ways (row_below r s) e (covers_below r s ok-r ok-s covers))
