-- The worlds that have the literals of a row: of a joined one, of one before an action, of one with a literal more or less. Assumes nothing.
use Rattle.std.proofs.Common.{◌≡◌, ℕ, Bool, true, false, not, ◌&&◌, ◌⊎◌, sym, refl, ap, ◌∙◌, inl, inr, ⊎_elim, arith}
use Rattle.std.proofs.lemmas.Bool.{eqb-true, eq-eqb, and_from, and_parts, or_cases, or_left, or_right, not-true, not_from_false, both_ways, false_from_ne_true}
use Rattle.fluents.specs.Sets.{bit, only, union, minus, Apart}
use Rattle.fluents.proofs.Bits.{bit-or, bit-minus, bit-only, within_members, apart_members, members_apart}
use Rattle.knowledge.proofs.Extending.{step, bit-step}
use Rattle.knowledge.specs.Orders.{row_below}
use Rattle.knowledge.specs.declared.states.Row.{Row}
use Rattle.meaning.specs.Rows.{joined, is_sound, survives, before, plus, less, allows}
use Rattle.meaning.specs.Sets.{Meets}

-- ---- members of unions and differences

in_left : (a b i : ℕ) → bit a i ≡ true → bit (union a b) i ≡ true
in_left a b i e = bit-or a b i ∙ or_left (bit a i) (bit b i) e

in_right : (a b i : ℕ) → bit b i ≡ true → bit (union a b) i ≡ true
in_right a b i e = bit-or a b i ∙ or_right (bit a i) (bit b i) e

in_either : (a b i : ℕ) → bit (union a b) i ≡ true → (bit a i ≡ true) ⊎ (bit b i ≡ true)
in_either a b i e = or_cases (bit a i) (bit b i) (sym (bit-or a b i) ∙ e)

in_minus : (a b i : ℕ) → bit a i ≡ true → bit b i ≡ false → bit (minus a b) i ≡ true
in_minus a b i e n = bit-minus a b i ∙ and_from (bit a i) (not (bit b i)) e (not_from_false (bit b i) n)

minus_parts : (a b i : ℕ) → bit (minus a b) i ≡ true → (bit a i ≡ true) × (bit b i ≡ false)
minus_parts a b i e =
    let both = and_parts (bit a i) (not (bit b i)) (sym (bit-minus a b i) ∙ e) in
    (both.0, not-true (bit b i) both.1)

only_self : (f : ℕ) → bit (only f) f ≡ true
only_self f = bit-only f f ∙ eq-eqb f f refl

only_is : (f i : ℕ) → bit (only f) i ≡ true → i ≡ f
only_is f i e = eqb-true i f (sym (bit-only f i) ∙ e)

-- ---- both rows joined

pub meets_joined : (a b : Row) (w : ℕ) → Meets (joined a b) w → Meets a w × Meets b w
meets_joined a b w m = (
  (λ i. ((λ e. (m i).0 (in_left a.trues b.trues i e)), (λ e. (m i).1 (in_left a.falses b.falses i e)))),
  (λ i. ((λ e. (m i).0 (in_right a.trues b.trues i e)), (λ e. (m i).1 (in_right a.falses b.falses i e)))),
)

pub joined_meets : (a b : Row) (w : ℕ) → Meets a w → Meets b w → Meets (joined a b) w
joined_meets a b w p q i = (
  (λ e. ⊎_elim (p i).0 (q i).0 (in_either a.trues b.trues i e)),
  (λ e. ⊎_elim (p i).1 (q i).1 (in_either a.falses b.falses i e)),
)

-- ---- a row below another; a row that some world has

pub below_meets : (a b : Row) (w : ℕ) → row_below a b ≡ true → Meets b w → Meets a w
below_meets a b w under m i =
    let both = and_parts _ _ under in (
      (λ e. (m i).0 (within_members a.trues b.trues (eqb-true _ _ both.0) i e)),
      (λ e. (m i).1 (within_members a.falses b.falses (eqb-true _ _ both.1) i e)),
    )

pub meets_sound : (r : Row) (w : ℕ) → Meets r w → is_sound r ≡ true
meets_sound r w m =
    eq-eqb _ _ (members_apart r.trues r.falses (λ i t. false_from_ne_true (bit r.falses i) (λ f. both_ways (bit w i) ((m i).1 f) ((m i).0 t))))

-- ---- before a doing action; one fluent: a and d say whether it is made true or false, v whether it is true before

true_after : (t a d v : Bool) → ((t && not a) ≡ true → v ≡ true) → (t ≡ true → d ≡ false) → t ≡ true → step v d a ≡ true
true_after t a d v h k e = grind arith

false_after : (f a d v : Bool) → ((f && not d) ≡ true → v ≡ false) → (f ≡ true → a ≡ false) → f ≡ true → step v d a ≡ false
false_after f a d v h k e = grind arith

true_before : (a d v : Bool) → a ≡ false → step v d a ≡ true → v ≡ true
true_before a d v h e = grind arith

false_before : (a d v : Bool) → d ≡ false → step v d a ≡ false → v ≡ false
false_before a d v h e = grind arith

not_added : (a d v : Bool) → step v d a ≡ false → a ≡ false
not_added a d v e = grind arith

not_deleted : (a d v : Bool) → (a ≡ true → d ≡ false) → step v d a ≡ true → d ≡ false
not_deleted a d v h e = grind arith

module _ (add del : ℕ) (x : Row) (v : ℕ) where
  pub meets_before : survives add del x ≡ true → Meets (before add del x) v → Meets x (union (minus v del) add)
  meets_before stays m i =
      let both = and_parts _ _ stays in (
        (λ e. bit-step v del add i ∙ true_after (bit x.trues i) (bit add i) (bit del i) (bit v i)
            (λ q. (m i).0 (bit-minus x.trues add i ∙ q)) (apart_members x.trues del (eqb-true _ _ both.1) i) e),
        (λ e. bit-step v del add i ∙ false_after (bit x.falses i) (bit add i) (bit del i) (bit v i)
            (λ q. (m i).1 (bit-minus x.falses del i ∙ q)) (apart_members x.falses add (eqb-true _ _ both.0) i) e),
      )

  pub before_meets : Meets x (union (minus v del) add) → Meets (before add del x) v
  before_meets m i = (
    (λ e. let both = minus_parts x.trues add i e in
        true_before (bit add i) (bit del i) (bit v i) both.1 (sym (bit-step v del add i) ∙ (m i).0 both.0)),
    (λ e. let both = minus_parts x.falses del i e in
        false_before (bit add i) (bit del i) (bit v i) both.1 (sym (bit-step v del add i) ∙ (m i).1 both.0)),
  )

  -- a row that some world has after the action is one that the action does not take away
  pub meets_survives : Apart add del → Meets x (union (minus v del) add) → survives add del x ≡ true
  meets_survives apart m = and_from _ _
      (eq-eqb _ _ (members_apart x.falses add (λ i e.
      not_added (bit add i) (bit del i) (bit v i) (sym (bit-step v del add i) ∙ (m i).1 e))))
      (eq-eqb _ _ (members_apart x.trues del (λ i e.
      not_deleted (bit add i) (bit del i) (bit v i) (apart_members add del apart i) (sym (bit-step v del add i) ∙ (m i).0 e))))

-- ---- one literal more or less

pub meets_plus : (f : ℕ) (b : Bool) (x : Row) (w : ℕ) → Meets (plus f b x) w → Meets x w × (bit w f ≡ b)
meets_plus f true x w m = (
  (λ i. ((λ e. (m i).0 (in_left x.trues (only f) i e)), (m i).1)),
  (m f).0 (in_right x.trues (only f) f (only_self f)),
)
meets_plus f false x w m = (
  (λ i. ((m i).0, (λ e. (m i).1 (in_left x.falses (only f) i e)))),
  (m f).1 (in_right x.falses (only f) f (only_self f)),
)

-- what the world says of f it says of each member of the set with f alone
at_only : (f : ℕ) (b : Bool) (w i : ℕ) → bit w f ≡ b → bit (only f) i ≡ true → bit w i ≡ b
at_only f b w i e q = ap (bit w) (only_is f i q) ∙ e

pub plus_meets : (f : ℕ) (b : Bool) (x : Row) (w : ℕ) → Meets x w → bit w f ≡ b → Meets (plus f b x) w
plus_meets f true x w m told i = ((λ e. ⊎_elim (m i).0 (at_only f true w i told) (in_either x.trues (only f) i e)), (m i).1)
plus_meets f false x w m told i = ((m i).0, (λ e. ⊎_elim (m i).1 (at_only f false w i told) (in_either x.falses (only f) i e)))

-- every member of a is f, or is left when f is taken out
less_cases : (a f i : ℕ) → bit a i ≡ true → (bit (only f) i ≡ true) ⊎ (bit (minus a (only f)) i ≡ true)
less_cases a f i e = go (bit (only f) i) refl
  where
    go : (b : Bool) → bit (only f) i ≡ b → (bit (only f) i ≡ true) ⊎ (bit (minus a (only f)) i ≡ true)
    go true q = inl q
    go false q = inr (in_minus a (only f) i e q)

pub less_meets : (f : ℕ) (b : Bool) (x : Row) (w : ℕ) → Meets (less f b x) w → bit w f ≡ b → Meets x w
less_meets f true x w m told i = ((λ e. ⊎_elim (at_only f true w i told) (m i).0 (less_cases x.trues f i e)), (m i).1)
less_meets f false x w m told i = ((m i).0, (λ e. ⊎_elim (at_only f false w i told) (m i).1 (less_cases x.falses f i e)))

pub meets_allows : (f : ℕ) (b : Bool) (x : Row) (w : ℕ) → Meets x w → bit w f ≡ b → allows f b x ≡ true
meets_allows f true x w m told = not_from_false (bit x.falses f) (false_from_ne_true (bit x.falses f) (λ e. both_ways (bit w f) ((m f).1 e) told))
meets_allows f false x w m told = not_from_false (bit x.trues f) (false_from_ne_true (bit x.trues f) (λ e. both_ways (bit w f) told ((m f).0 e)))
