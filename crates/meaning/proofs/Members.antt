-- Which rows stand in a list of candidates: those of the joining, of the regression and of a reading. Assumes nothing.
use Rattle.std.proofs.Common.{◌≡◌, ℕ, Bool, true, false, cond, ◌⊎◌, List, [], ◌∷◌, ◌++◌, map, sym, refl, ap, ◌∙◌, subst, inl, inr, ⊎_elim, arith}
use Rattle.std.specs.List.{ContainsAt as Has}
use Rattle.std.proofs.ByRecursion.{has_append_left, has_append_right, has_append_cases}
use Rattle.std.proofs.lemmas.Bool.{both_ways}
use Rattle.knowledge.proofs.Choosing.{has_map, has_unmap}
use Rattle.least.proofs.Only.{has_cases, has_first, has_later}
use Rattle.knowledge.specs.declared.states.Row.{Row}
use Rattle.meaning.specs.Rows.{keep, joined, is_sound, guarded, survives, before, regressed, plus, less, allows, pairs, asked}

-- ---- what stands in a list

pub has_none : {X : Type 0} (z : X) → Has [] z → ⊥
has_none z has = omega (arith, has.1)

pub has_single : {X : Type 0} (x z : X) → Has (x ∷ []) z → x ≡ z
has_single x z has = ⊎_elim (λ (e : x ≡ z). e) (λ (h : Has [] z). absurd (has_none z h)) (has_cases x [] z has)

-- ---- the rows that pass a test

pub in_keep : (test : Row → Bool) (rs : List Row) (r : Row) → Has (keep test rs) r → Has rs r × (test r ≡ true)
in_keep test [] r has = absurd (has_none r has)
in_keep test (x ∷ rs) r has = go (test x) refl has (in_keep test rs r)
  where
    later : Has rs r × (test r ≡ true) → Has (x ∷ rs) r × (test r ≡ true)
    later p = (has_later x rs r p.0, p.1)

    go : (b : Bool) → test x ≡ b → Has (cond b (x ∷ keep test rs) (keep test rs)) r → (Has (keep test rs) r → Has rs r × (test r ≡ true))
        → Has (x ∷ rs) r × (test r ≡ true)
    go true e h rest = ⊎_elim
        (λ (q : x ≡ r). (subst (Has (x ∷ rs)) q (has_first x rs), subst (λ v. test v ≡ true) q e))
        (λ (g : Has (keep test rs) r). later (rest g))
        (has_cases x (keep test rs) r h)
    go false e h rest = later (rest h)

pub keep_in : (test : Row → Bool) (rs : List Row) (r : Row) → Has rs r → test r ≡ true → Has (keep test rs) r
keep_in test [] r has passes = has
keep_in test (x ∷ rs) r has passes = go (test x) refl (has_cases x rs r has) (λ h. keep_in test rs r h passes)
  where
    go : (b : Bool) → test x ≡ b → (x ≡ r) ⊎ Has rs r → (Has rs r → Has (keep test rs) r) → Has (cond b (x ∷ keep test rs) (keep test rs)) r
    go true e (inl q) rest = subst (Has (x ∷ keep test rs)) q (has_first x (keep test rs))
    go true e (inr h) rest = has_later x (keep test rs) r (rest h)
    go false e (inl q) rest = absurd (both_ways (test x) e (subst (λ v. test v ≡ true) (sym q) passes))
    go false e (inr h) rest = rest h

-- ---- conditions, doing actions

nothing : Row
nothing = record { trues = 0; falses = 0 }

unmapped : (f : Row → Row) (rs : List Row) (r : Row) → Has (map f rs) r → (x : Row) × Has rs x × (r ≡ f x)
unmapped f rs r = has_unmap f nothing rs r

pub in_guarded : (c : Row) (rs : List Row) (r : Row) → Has (guarded c rs) r → (x : Row) × Has rs x × (r ≡ joined c x) × (is_sound r ≡ true)
unfolding guarded
in_guarded c rs r has =
    let kept = in_keep is_sound (map (joined c) rs) r has in
    let from = unmapped (joined c) rs r kept.0 in
    (from.0, from.1, from.2, kept.1)

pub guarded_in : (c : Row) (rs : List Row) (x : Row) → Has rs x → is_sound (joined c x) ≡ true → Has (guarded c rs) (joined c x)
unfolding guarded
guarded_in c rs x has sound = keep_in is_sound (map (joined c) rs) (joined c x) (has_map (joined c) rs x has) sound

-- the rows that pass the test, changed
in_changed : (f : Row → Row) (test : Row → Bool) (rs : List Row) (r : Row) → Has (map f (keep test rs)) r
    → (x : Row) × Has rs x × (test x ≡ true) × (r ≡ f x)
in_changed f test rs r has =
    let from = unmapped f (keep test rs) r has in
    let kept = in_keep test rs from.0 from.1 in
    (from.0, kept.0, kept.1, from.2)

changed_in : (f : Row → Row) (test : Row → Bool) (rs : List Row) (x : Row) → Has rs x → test x ≡ true → Has (map f (keep test rs)) (f x)
changed_in f test rs x has passes = has_map f (keep test rs) x (keep_in test rs x has passes)

pub in_regressed : (add del : ℕ) (rs : List Row) (r : Row) → Has (regressed add del rs) r
    → (x : Row) × Has rs x × (survives add del x ≡ true) × (r ≡ before add del x)
unfolding regressed
in_regressed add del rs r has = in_changed (before add del) (survives add del) rs r has

pub regressed_in : (add del : ℕ) (rs : List Row) (x : Row) → Has rs x → survives add del x ≡ true → Has (regressed add del rs) (before add del x)
unfolding regressed
regressed_in add del rs x has passes = changed_in (before add del) (survives add del) rs x has passes

-- ---- readings

in_pairs : (ts es : List Row) (r : Row) → Has (pairs ts es) r → (t : Row) × (e : Row) × Has ts t × Has es e × (r ≡ joined t e)
in_pairs [] es r has = absurd (has_none r has)
in_pairs (t ∷ ts) es r has = ⊎_elim
    (λ (h : Has (map (joined t) es) r). let from = unmapped (joined t) es r h in (t, from.0, has_first t ts, from.1, from.2))
    (λ (h : Has (pairs ts es) r). let from = in_pairs ts es r h in (from.0, from.1, has_later t ts from.0 from.2, from.3, from.4))
    (has_append_cases (map (joined t) es) (pairs ts es) r has)

pairs_in : (ts es : List Row) (x y : Row) → Has ts x → Has es y → Has (pairs ts es) (joined x y)
pairs_in [] es x y has-x has-y = absurd (has_none x has-x)
pairs_in (t ∷ ts) es x y has-x has-y = ⊎_elim
    (λ (q : t ≡ x). has_append_left (map (joined t) es) (pairs ts es) (joined x y)
    (subst (λ v. Has (map (joined t) es) (joined v y)) q (has_map (joined t) es y has-y)))
    (λ (h : Has ts x). has_append_right (map (joined t) es) (pairs ts es) (joined x y) (pairs_in ts es x y h has-y))
    (has_cases t ts x has-x)

-- r is a row of the list with the fluent f known as b
abbrev pub ToldBy : ℕ → Bool → List Row → Row → Type 0
ToldBy f b rs r = (x : Row) × Has rs x × (allows f b x ≡ true) × (r ≡ plus f b x)

-- r is a row for true joined with one for false, without the fluent f
abbrev pub Untold : ℕ → List Row → List Row → Row → Type 0
Untold f ts es r = (x : Row) × (y : Row) × Has ts x × (allows f true x ≡ true) × Has es y × (allows f false y ≡ true) × (r ≡ joined (less f true x) (less f false y))

module _ (f : ℕ) (ts es : List Row) where
  -- the candidates where the fluent has the value b, and the rows that are left to join where it is not known
  abbrev told : Bool → List Row → List Row
  told b rs = map (plus f b) (keep (allows f b) rs)

  abbrev open_for : Bool → List Row → List Row
  open_for b rs = map (less f b) (keep (allows f b) rs)

  pub in_asked : (r : Row) → Has (asked f ts es) r → ToldBy f true ts r ⊎ (ToldBy f false es r ⊎ Untold f ts es r)
  unfolding asked
  in_asked r has = ⊎_elim
      (λ (h : Has (told true ts) r). inl (in_changed (plus f true) (allows f true) ts r h))
      (λ (h : Has (told false es ++ pairs (open_for true ts) (open_for false es)) r). inr (⊎_elim
      (λ (g : Has (told false es) r). inl (in_changed (plus f false) (allows f false) es r g))
      (λ (g : Has (pairs (open_for true ts) (open_for false es)) r).
      let both = in_pairs (open_for true ts) (open_for false es) r g in
      let a = in_changed (less f true) (allows f true) ts both.0 both.2 in
      let b = in_changed (less f false) (allows f false) es both.1 both.3 in
      inr (a.0, b.0, a.1, a.2, b.1, b.2, both.4 ∙ ap (λ v. joined v both.1) a.3 ∙ ap (joined (less f true a.0)) b.3))
      (has_append_cases (told false es) (pairs (open_for true ts) (open_for false es)) r h)))
      (has_append_cases (told true ts) (told false es ++ pairs (open_for true ts) (open_for false es)) r has)

  pub asked_true : (x : Row) → Has ts x → allows f true x ≡ true → Has (asked f ts es) (plus f true x)
  unfolding asked
  asked_true x has passes =
      has_append_left (told true ts) (told false es ++ pairs (open_for true ts) (open_for false es)) (plus f true x)
      (changed_in (plus f true) (allows f true) ts x has passes)

  -- whatever stands in the later candidates stands in all
  later_asked : (r : Row) → Has (told false es ++ pairs (open_for true ts) (open_for false es)) r → Has (asked f ts es) r
  unfolding asked
  later_asked r has = has_append_right (told true ts) (told false es ++ pairs (open_for true ts) (open_for false es)) r has

  pub asked_false : (x : Row) → Has es x → allows f false x ≡ true → Has (asked f ts es) (plus f false x)
  asked_false x has passes =
      later_asked (plus f false x)
      (has_append_left (told false es) (pairs (open_for true ts) (open_for false es)) (plus f false x)
      (changed_in (plus f false) (allows f false) es x has passes))

  pub asked_pair : (x y : Row) → Has ts x → allows f true x ≡ true → Has es y → allows f false y ≡ true
      → Has (asked f ts es) (joined (less f true x) (less f false y))
  asked_pair x y has-x passes-x has-y passes-y =
      later_asked (joined (less f true x) (less f false y))
      (has_append_right (told false es) (pairs (open_for true ts) (open_for false es)) (joined (less f true x) (less f false y))
      (pairs_in (open_for true ts) (open_for false es) (less f true x) (less f false y)
      (changed_in (less f true) (allows f true) ts x has-x passes-x)
      (changed_in (less f false) (allows f false) es y has-y passes-y)))
