-- The least rows of a list: that the rows kept are the least. Assumes nothing.
use Rattle.std.proofs.Common.{◌≡◌, zero, suc, Bool, true, false, cond, not, ◌⊎◌, List, [], ◌∷◌, get_or, refl, ap, subst, inl, inr, ⊎_elim, arith}
use Rattle.std.specs.List.{ContainsAt as Has}
use Rattle.std.proofs.ByRecursion.{has_get_or}
use Rattle.std.proofs.lemmas.Bool.{both_ways, not-true, false_from_ne_true}
use Rattle.knowledge.specs.Orders.{row_below, row_upto}
use Rattle.knowledge.specs.contracts.orders.RowLeast.TheImpl.Laws.{below_reflexive-law as row_below_refl, below_transitive-law as row_below_trans, upto_antisymmetric-law as row_upto_antisym, agrees-law as row_agrees}
use Rattle.knowledge.specs.declared.states.Row.{Row}
use Rattle.knowledge.proofs.Ascending.{row_upto_trans}
use Rattle.least.specs.Kept.{Ascending, Apart, LeastOf}
use Rattle.meaning.specs.Rows.{keep, any_below, insert, more, least_rows}
use Rattle.least.proofs.Only.{has_cases, has_first, has_later}
use Rattle.meaning.proofs.Members.{has_none, in_keep, keep_in}

-- ---- lists in line: each row strictly before the later ones, and none below another

abbrev Before : Row → Row → Type 0
Before y z = (row_upto z y ≡ false) × (row_below y z ≡ false)

abbrev Lined : List Row → Type 0
Lined [] = Unit {0}
Lined (y ∷ ys) = ((z : Row) → Has ys z → Before y z) × Lined ys

-- neither row is below the other
abbrev Free : Row → Row → Type 0
Free r y = (row_below r y ≡ false) × (row_below y r ≡ false)

not_back : (y z : Row) → row_upto z y ≡ false → row_below z y ≡ false
not_back y z later = false_from_ne_true (row_below z y) (λ e. both_ways (row_upto z y) later (row_agrees z y e))

-- of two rows of which neither is below the other, at most one comes before the other
one_way : (r y : Row) → Free r y → row_upto r y ≡ true → row_upto y r ≡ false
one_way r y free up =
    false_from_ne_true (row_upto y r) (λ e. both_ways (row_below r y) free.0 (subst (λ v. row_below r v ≡ true) (row_upto_antisym r y up e) (row_below_refl r)))

lined_ascending : (ys : List Row) → Lined ys → Ascending row_upto ys
lined_ascending [] lined i j d lt in-j = absurd (omega arith)
lined_ascending (y ∷ ys) lined i zero d lt in-j = absurd (omega arith)
lined_ascending (y ∷ ys) lined zero (suc j) d lt in-j = (lined.0 (get_or ys j d) (has_get_or ys j d (omega arith))).0
lined_ascending (y ∷ ys) lined (suc i) (suc j) d lt in-j = lined_ascending ys lined.1 i j d (omega arith) (omega arith)

lined_apart : (ys : List Row) → Lined ys → Apart row_below ys
lined_apart [] lined i j d in-i in-j ne = absurd (omega arith)
lined_apart (y ∷ ys) lined zero zero d in-i in-j ne = absurd (ne refl)
lined_apart (y ∷ ys) lined zero (suc j) d in-i in-j ne = (lined.0 (get_or ys j d) (has_get_or ys j d (omega arith))).1
lined_apart (y ∷ ys) lined (suc i) zero d in-i in-j ne = not_back y (get_or ys i d) (lined.0 (get_or ys i d) (has_get_or ys i d (omega arith))).0
lined_apart (y ∷ ys) lined (suc i) (suc j) d in-i in-j ne = lined_apart ys lined.1 i j d (omega arith) (omega arith) (λ e. ne (ap suc e))

keep_lined : (test : Row → Bool) (ys : List Row) → Lined ys → Lined (keep test ys)
keep_lined test [] lined = tt
keep_lined test (y ∷ ys) lined = go (test y) (keep_lined test ys lined.1)
  where
    go : (b : Bool) → Lined (keep test ys) → Lined (cond b (y ∷ keep test ys) (keep test ys))
    go true rest = ((λ z has. lined.0 z (in_keep test ys z has).0), rest)
    go false rest = rest

-- ---- a row at its place

in_insert : (r : Row) (ys : List Row) (z : Row) → Has (insert r ys) z → (r ≡ z) ⊎ Has ys z
in_insert r [] z has = has_cases r [] z has
in_insert r (y ∷ ys) z has = go (row_upto r y) has (in_insert r ys z)
  where
    later : (r ≡ z) ⊎ Has ys z → (r ≡ z) ⊎ Has (y ∷ ys) z
    later (inl e) = inl e
    later (inr h) = inr (has_later y ys z h)

    go : (b : Bool) → Has (cond b (r ∷ y ∷ ys) (y ∷ insert r ys)) z → (Has (insert r ys) z → (r ≡ z) ⊎ Has ys z) → (r ≡ z) ⊎ Has (y ∷ ys) z
    go true h rest = has_cases r (y ∷ ys) z h
    go false h rest = ⊎_elim
        (λ (e : y ≡ z). inr (subst (Has (y ∷ ys)) e (has_first y ys)))
        (λ (g : Has (insert r ys) z). later (rest g))
        (has_cases y (insert r ys) z h)

insert_in : (r : Row) (ys : List Row) (z : Row) → (r ≡ z) ⊎ Has ys z → Has (insert r ys) z
insert_in r [] z (inl e) = subst (Has (r ∷ [])) e (has_first r [])
insert_in r [] z (inr h) = absurd (has_none z h)
insert_in r (y ∷ ys) z what = go (row_upto r y) what (insert_in r ys z)
  where
    go : (b : Bool) → (r ≡ z) ⊎ Has (y ∷ ys) z → ((r ≡ z) ⊎ Has ys z → Has (insert r ys) z) → Has (cond b (r ∷ y ∷ ys) (y ∷ insert r ys)) z
    go true (inl e) rest = subst (Has (r ∷ y ∷ ys)) e (has_first r (y ∷ ys))
    go true (inr h) rest = has_later r (y ∷ ys) z h
    go false (inl e) rest = has_later y (insert r ys) z (rest (inl e))
    go false (inr h) rest = ⊎_elim
        (λ (e : y ≡ z). subst (Has (y ∷ insert r ys)) e (has_first y (insert r ys)))
        (λ (g : Has ys z). has_later y (insert r ys) z (rest (inr g)))
        (has_cases y ys z h)

insert_lined : (r : Row) (ys : List Row) → Lined ys → ((y : Row) → Has ys y → Free r y) → Lined (insert r ys)
insert_lined r [] lined free = ((λ z has. absurd (has_none z has)), tt)
insert_lined r (y ∷ ys) lined free = go (row_upto r y) refl (insert_lined r ys lined.1 (λ z has. free z (has_later y ys z has)))
  where
    free_y : Free r y
    free_y = free y (has_first y ys)

    -- where r comes before y, it comes before all
    first : row_upto r y ≡ true → (z : Row) → (y ≡ z) ⊎ Has ys z → row_upto z r ≡ false
    first up z (inl e) = subst (λ v. row_upto v r ≡ false) e (one_way r y free_y up)
    first up z (inr h) = false_from_ne_true (row_upto z r) (λ e. both_ways (row_upto z y) (lined.0 z h).0 (row_upto_trans z r y e up))

    -- where it does not, y comes before r too
    second : row_upto r y ≡ false → (z : Row) → (r ≡ z) ⊎ Has ys z → Before y z
    second down z (inl e) = subst (Before y) e (down, free_y.1)
    second down z (inr h) = lined.0 z h

    go : (b : Bool) → row_upto r y ≡ b → Lined (insert r ys) → Lined (cond b (r ∷ y ∷ ys) (y ∷ insert r ys))
    go true up rest = ((λ z has. (first up z (has_cases y ys z has), (free z has).0)), lined)
    go false down rest = ((λ z has. second down z (in_insert r ys z has)), rest)

-- ---- one row more

none_below : (ys : List Row) (r : Row) → any_below ys r ≡ false → (y : Row) → Has ys y → row_below y r ≡ false
none_below [] r e y has = absurd (has_none y has)
none_below (x ∷ ys) r e y has = go (row_below x r) refl e (has_cases x ys y has) (λ none. none_below ys r none y)
  where
    go : (b : Bool) → row_below x r ≡ b → cond b true (any_below ys r) ≡ false → (x ≡ y) ⊎ Has ys y → (any_below ys r ≡ false → Has ys y → row_below y r ≡ false)
        → row_below y r ≡ false
    go true q none what rest = absurd (both_ways true none refl)
    go false q none (inl same) rest = subst (λ v. row_below v r ≡ false) same q
    go false q none (inr h) rest = rest none h

some_below : (ys : List Row) (r : Row) → any_below ys r ≡ true → (y : Row) × Has ys y × (row_below y r ≡ true)
some_below [] r e = absurd (both_ways false refl e)
some_below (x ∷ ys) r e = go (row_below x r) refl e (some_below ys r)
  where
    go : (b : Bool) → row_below x r ≡ b → cond b true (any_below ys r) ≡ true → (any_below ys r ≡ true → (y : Row) × Has ys y × (row_below y r ≡ true))
        → (y : Row) × Has (x ∷ ys) y × (row_below y r ≡ true)
    go true q some rest = (x, has_first x ys, q)
    go false q some rest = let found = rest some in (found.0, has_later x ys found.0 found.1, found.2)

module _ (r : Row) (ys : List Row) where
  -- the rows that do not imply r
  abbrev others : List Row
  others = keep (λ y. not (row_below r y)) ys

  more_lined : Lined ys → Lined (more r ys)
  more_lined lined = go (any_below ys r) refl
    where
      free : any_below ys r ≡ false → (y : Row) → Has others y → Free r y
      free none y has =
          let kept = in_keep (λ v. not (row_below r v)) ys y has in
          (not-true (row_below r y) kept.1, none_below ys r none y kept.0)

      go : (b : Bool) → any_below ys r ≡ b → Lined (cond b ys (insert r others))
      go true some = lined
      go false none = insert_lined r others (keep_lined (λ v. not (row_below r v)) ys lined) (free none)

  in_more : (z : Row) → Has (more r ys) z → (r ≡ z) ⊎ Has ys z
  in_more z has = go (any_below ys r) has
    where
      go : (b : Bool) → Has (cond b ys (insert r others)) z → (r ≡ z) ⊎ Has ys z
      go true h = inr h
      go false h = ⊎_elim
          (λ (e : r ≡ z). inl e)
          (λ (g : Has others z). inr (in_keep (λ v. not (row_below r v)) ys z g).0)
          (in_insert r others z h)

  -- the new row and every earlier one has a row below it
  more_reaches : (x : Row) → (r ≡ x) ⊎ Has ys x → (y : Row) × Has (more r ys) y × (row_below y x ≡ true)
  more_reaches x what = go (any_below ys r) refl what
    where
      Found : Bool → Row → Type 0
      Found b x = (y : Row) × Has (cond b ys (insert r others)) y × (row_below y x ≡ true)

      below_self : (x y : Row) → y ≡ x → row_below y x ≡ true
      below_self x y e = subst (λ v. row_below y v ≡ true) e (row_below_refl y)

      kept : Has ys x → (b : Bool) → row_below r x ≡ b → Found false x
      kept h true e = (r, insert_in r others r (inl refl), e)
      kept h false e = (x, insert_in r others x (inr (keep_in (λ v. not (row_below r v)) ys x h (ap not e))), row_below_refl x)

      go : (b : Bool) → any_below ys r ≡ b → (r ≡ x) ⊎ Has ys x → Found b x
      go true some (inl e) = subst (Found true) e (some_below ys r some)
      go true some (inr h) = (x, h, row_below_refl x)
      go false none (inl e) = (r, insert_in r others r (inl refl), below_self x r e)
      go false none (inr h) = kept h (row_below r x) refl

-- ---- the least rows

least_lined : (xs : List Row) → Lined (least_rows xs)
unfolding least_rows
least_lined [] = tt
least_lined (r ∷ rs) = more_lined r (least_rows rs) (least_lined rs)

least_made : (xs : List Row) (z : Row) → Has (least_rows xs) z → Has xs z
unfolding least_rows
least_made [] z has = has
least_made (r ∷ rs) z has = ⊎_elim
    (λ (e : r ≡ z). subst (Has (r ∷ rs)) e (has_first r rs))
    (λ (h : Has (least_rows rs) z). has_later r rs z (least_made rs z h))
    (in_more r (least_rows rs) z has)

least_reaches : (xs : List Row) (x : Row) → Has xs x → (y : Row) × Has (least_rows xs) y × (row_below y x ≡ true)
unfolding least_rows
least_reaches [] x has = absurd (has_none x has)
least_reaches (r ∷ rs) x has = ⊎_elim
    (λ (e : r ≡ x). more_reaches r (least_rows rs) x (inl e))
    (λ (h : Has rs x).
    let mid = least_reaches rs x h in
    let low = more_reaches r (least_rows rs) mid.0 (inr mid.1) in
    (low.0, low.1, row_below_trans low.0 mid.0 x low.2 mid.2))
    (has_cases r rs x has)

pub least_of : (xs : List Row) → LeastOf row_below row_upto xs (least_rows xs)
least_of xs = record {
  made = least_made xs;
  ascending = lined_ascending (least_rows xs) (least_lined xs);
  apart = lined_apart (least_rows xs) (least_lined xs);
  reaches = least_reaches xs;
}
