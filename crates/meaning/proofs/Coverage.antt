-- The coverage law of partial states: the rows of a plan are exact, and no other list of rows is. Assumes nothing.
use Rattle.std.proofs.Common.{◌≡◌, true, ◌⊎◌, List, ◌++◌, Ok, inl, inr}
use Rattle.std.specs.List.{ContainsAt as Has}
use Rattle.std.proofs.ByRecursion.{has_append_left, has_append_right, has_append_cases}
use Rattle.knowledge.specs.Extends.{Extends}
use Rattle.knowledge.specs.Orders.{row_below, row_upto}
use Rattle.knowledge.specs.contracts.orders.RowLeast.TheImpl.Laws.{below_reflexive-law as row_below_refl, below_antisymmetric-law as row_below_antisym, below_transitive-law as row_below_trans}
use Rattle.knowledge.specs.declared.states.PartialState.{PartialState}
use Rattle.knowledge.specs.declared.states.Row.{Row}
use Rattle.knowledge.proofs.Ascending.{row_upto_total}
use Rattle.least.specs.Kept.{Reaches}
use Rattle.least.proofs.Only.{least_only}
use Rattle.meaning.specs.Laws.{IsState, RowList, Exact, Only}
use Rattle.meaning.specs.Rows.{rows_of}
use Rattle.meaning.specs.Steps.{Steps}
use Rattle.meaning.proofs.Covering.{covered_well}
use Rattle.meaning.proofs.Exactness.{well_covered}
use Rattle.meaning.proofs.Extended.{below_covers, covers_below}
use Rattle.meaning.proofs.Listing.{rows_list}
use Rattle.meaning.proofs.Proper.{Proper}

pub rows_exact : (goal : Row) (t : Steps) (rs : List Row) → IsState goal → Proper t → rows_of goal t ≡ Ok rs → Exact goal t rs
rows_exact goal t rs ok proper e s = (
  covered_well goal t rs e (Extends s),
  well_covered goal t rs ok proper e (record { trues = s.trues; falses = s.falses }) (s.apart, s.fit, s.fit_falses),
)

-- a row as the partial state that it is
abbrev state_of : (r : Row) → IsState r → PartialState
state_of r ok = record { trues = r.trues; falses = r.falses; apart = ok.0; fit = ok.1; fit_falses = ok.2 }

module _ (goal : Row) (t : Steps) where
  -- Every agreeing walk from a row of an exact list ends well, so a row of any other exact list is below it.
  exact_reaches : (xs ys : List Row) → RowList xs → RowList ys → Exact goal t xs → Exact goal t ys → Reaches row_below xs ys
  exact_reaches xs ys list-x list-y exact-x exact-y x has =
      let ok = list-x.states x has in
      let s = state_of x ok in
      let found = (exact-y s).1 ((exact-x s).0 (x, has, below_covers x x (row_below_refl x))) in
      (found.0, found.1, covers_below found.0 x (list-y.states found.0 found.1) ok found.2)

  -- so the one list holds the least rows of both, and so does the other
  reaches_both : (xs ys zs : List Row) → Reaches row_below xs zs → Reaches row_below ys zs → Reaches row_below (xs ++ ys) zs
  reaches_both xs ys zs h k z has = go (has_append_cases xs ys z has)
    where
      go : Has xs z ⊎ Has ys z → (y : Row) × Has zs y × (row_below y z ≡ true)
      go (inl p) = h z p
      go (inr q) = k z q

  itself : (xs : List Row) → Reaches row_below xs xs
  itself xs x has = (x, has, row_below_refl x)

  exact_same : (xs ys : List Row) → RowList xs → RowList ys → Exact goal t xs → Exact goal t ys → xs ≡ ys
  exact_same xs ys list-x list-y exact-x exact-y =
      least_only row_below row_below_antisym row_below_trans row_upto row_upto_total (xs ++ ys) xs ys
      (record {
        made = has_append_left xs ys;
        ascending = list-x.ascending;
        apart = list-x.apart;
        reaches = reaches_both xs ys xs (itself xs) (exact_reaches ys xs list-y list-x exact-y exact-x);
      })
      (record {
        made = has_append_right xs ys;
        ascending = list-y.ascending;
        apart = list-y.apart;
        reaches = reaches_both xs ys ys (exact_reaches xs ys list-x list-y exact-x exact-y) (itself ys);
      })

pub rows_only : (goal : Row) (t : Steps) (rs : List Row) → IsState goal → Proper t → rows_of goal t ≡ Ok rs → Only goal t rs
rows_only goal t rs ok proper e other list exact =
    exact_same goal t other rs list (rows_list goal t rs ok proper e) exact (rows_exact goal t rs ok proper e)
