-- The rows of a plan are a row list: partial states, ascending, none implied by another, and at most 16. Assumes nothing.
use Rattle.std.proofs.Common.{◌≡◌, ℕ, ◌^◌, ◌<◌, ◌≤◌, Bool, true, false, ◌⊎◌, List, [], ◌∷◌, length, Ok, sym, subst, inl, inr, arith}
use lib.Bits.{bit_and, or_lt, xor_lt, and_le_l}
use lib.Pow.{pow-lt}
use Rattle.std.specs.List.{ContainsAt as Has}
use Rattle.std.proofs.lemmas.Bool.{eqb-true}
use Rattle.fluents.specs.Sets.{only, minus}
use Rattle.knowledge.specs.declared.states.Row.{Row}
use Rattle.meaning.specs.Laws.{IsState, RowList}
use Rattle.meaning.specs.Rows.{joined, guarded, before, regressed, plus, less, asked, least_rows, rows_of}
use Rattle.meaning.specs.Steps.{Steps, ends, does, reads, gaps}
use Rattle.meaning.proofs.Leasts.{least_of}
use Rattle.meaning.proofs.Members.{has_none, has_single, in_guarded, in_regressed, in_asked, ToldBy, Untold}
use Rattle.meaning.proofs.Unrolled.{ends_rows, gaps_rows, does_rows, reads_rows}
use Rattle.meaning.proofs.Proper.{Proper}

-- ---- sets of 64 fluents

minus_fits : (a b : ℕ) → a < 2 ^ 64 → minus a b < 2 ^ 64
minus_fits a b h = xor_lt 64 a (bit_and a b) h (omega (arith, and_le_l a b))

only_fits : (f : ℕ) → f < 64 → only f < 2 ^ 64
only_fits f h = pow-lt h

abbrev Fits : Row → Type 0
Fits r = (r.trues < 2 ^ 64) × (r.falses < 2 ^ 64)

joined_fits : (a b : Row) → Fits a → Fits b → Fits (joined a b)
joined_fits a b p q = (or_lt 64 a.trues b.trues p.0 q.0, or_lt 64 a.falses b.falses p.1 q.1)

before_fits : (add del : ℕ) (x : Row) → Fits x → Fits (before add del x)
before_fits add del x p = (minus_fits x.trues add p.0, minus_fits x.falses del p.1)

plus_fits : (f : ℕ) (b : Bool) (x : Row) → f < 64 → Fits x → Fits (plus f b x)
plus_fits f true x h p = (or_lt 64 x.trues (only f) p.0 (only_fits f h), p.1)
plus_fits f false x h p = (p.0, or_lt 64 x.falses (only f) p.1 (only_fits f h))

less_fits : (f : ℕ) (b : Bool) (x : Row) → Fits x → Fits (less f b x)
less_fits f true x p = (minus_fits x.trues (only f) p.0, p.1)
less_fits f false x p = (p.0, minus_fits x.falses (only f) p.1)

-- ---- lists of such rows

abbrev AllFit : List Row → Type 0
AllFit rs = (r : Row) → Has rs r → Fits r

regressed_fit : (add del : ℕ) (rs : List Row) → AllFit rs → AllFit (regressed add del rs)
regressed_fit add del rs fit r has =
    let (x, has-x, stays, e) = in_regressed add del rs r has in
    subst Fits (sym e) (before_fits add del x (fit x has-x))

asked_fit : (f : ℕ) (ts es : List Row) → f < 64 → AllFit ts → AllFit es → AllFit (asked f ts es)
asked_fit f ts es h fit-t fit-e r has = go (in_asked f ts es r has)
  where
    go : ToldBy f true ts r ⊎ (ToldBy f false es r ⊎ Untold f ts es r) → Fits r
    go (inl (x, has-x, allowed, e)) = subst Fits (sym e) (plus_fits f true x h (fit-t x has-x))
    go (inr (inl (x, has-x, allowed, e))) = subst Fits (sym e) (plus_fits f false x h (fit-e x has-x))
    go (inr (inr (x, y, has-x, allowed-x, has-y, allowed-y, e))) =
        subst Fits (sym e) (joined_fits (less f true x) (less f false y) (less_fits f true x (fit-t x has-x)) (less_fits f false y (fit-e y has-y)))

guarded_states : (c : Row) (rs : List Row) → IsState c → AllFit rs → (r : Row) → Has (guarded c rs) r → IsState r
guarded_states c rs state fit r has =
    let (x, has-x, e, sound) = in_guarded c rs r has in
    let fits : Fits r = subst Fits (sym e) (joined_fits c x (state.1, state.2) (fit x has-x)) in
    (eqb-true _ _ sound, fits.0, fits.1)

-- ---- row lists

-- the least rows of guarded ones
least_list : (c : Row) (xs rs : List Row) → IsState c → AllFit xs → rs ≡ least_rows (guarded c xs) → RowList rs
least_list c xs rs state fit e = subst RowList (sym e) (record {
  states = λ r has. guarded_states c xs state fit r ((least_of (guarded c xs)).made r has);
  ascending = (least_of (guarded c xs)).ascending;
  apart = (least_of (guarded c xs)).apart;
})

-- a list of one row or none
short_list : (rs : List Row) → length rs ≤ 1 → ((r : Row) → Has rs r → IsState r) → RowList rs
short_list rs short states = record {
  states = states;
  ascending = λ i j d lt in-j. absurd (omega arith);
  apart = λ i j d in-i in-j ne. absurd (ne (omega arith));
}

list_fits : (rs : List Row) → RowList rs → AllFit rs
list_fits rs list r has = let state = list.states r has in (state.1, state.2)

module _ (goal : Row) where
  pub rows_list : (t : Steps) (rs : List Row) → IsState goal → Proper t → rows_of goal t ≡ Ok rs → RowList rs
  rows_list (ends at) rs state proper e = subst RowList (sym (ends_rows goal at rs e))
      (short_list (goal ∷ []) (omega arith) (λ r has. subst IsState (has_single goal r has) state))
  rows_list (gaps at) rs state proper e = subst RowList (sym (gaps_rows goal at rs e))
      (short_list [] (omega arith) (λ r has. absurd (has_none r has)))
  rows_list (does at c add del t) rs state proper e =
      let (ts, rows, is, few) = does_rows goal at c add del t rs e in
      let fit = list_fits ts (rows_list t ts state proper.4 rows) in
      least_list c (regressed add del ts) rs proper.0 (regressed_fit add del ts fit) is
  rows_list (reads at c f t e) rs state proper q =
      let (ts, es, rows-t, rows-e, is, few) = reads_rows goal at c f t e rs q in
      let fit-t = list_fits ts (rows_list t ts state proper.2 rows-t) in
      let fit-e = list_fits es (rows_list e es state proper.3 rows-e) in
      least_list c (asked f ts es) rs proper.0 (asked_fit f ts es proper.1 fit-t fit-e) is
