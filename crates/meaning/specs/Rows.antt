-- The rows of a plan: the least that must be known beforehand, worked from the ends back to the root. Assumes nothing.
use Rattle.std.specs.Prelude.{ℕ, Bool, true, false, cond, not, ◌&&◌, List, [], ◌∷◌, ◌++◌, map, length, Ok, Err, Result, nat_le}
use Rattle.fluents.specs.Refusals.{fault_at}
use Rattle.fluents.specs.Sets.{bit, only, union, minus}
use Rattle.fluents.specs.declared.faults.Fault.{Fault}
use Rattle.fluents.specs.declared.faults.Refusal.TheVariants.{TooManyRows}
use Rattle.knowledge.specs.Orders.{row_below, row_upto}
use Rattle.knowledge.specs.declared.states.Row.{Row}
use Rattle.procedure.specs.Fields.{is_apart}
use Rattle.procedure.specs.Procedures.{then}
use Rattle.meaning.specs.Steps.{Steps, ends, does, reads, gaps}

-- the rows that pass the test
abbrev pub keep : (Row → Bool) → List Row → List Row
keep test [] = []
keep test (r ∷ rs) = cond (test r) (r ∷ keep test rs) (keep test rs)

-- ---- conditions

-- the literals of both rows
abbrev pub joined : Row → Row → Row
joined a b = record { trues = union a.trues b.trues; falses = union a.falses b.falses }

-- no fluent is both true and false
abbrev pub is_sound : Row → Bool
is_sound r = is_apart r.trues r.falses

-- the conditions joined to each row; a row that has then a fluent both true and false is dropped
unfoldable pub guarded : Row → List Row → List Row
guarded conditions rs = keep is_sound (map (joined conditions) rs)

-- ---- a doing action

-- the action leaves the literals of the row as they are, or makes them true: it takes none of them away
abbrev pub survives : ℕ → ℕ → Row → Bool
survives add del r = is_apart r.falses add && is_apart r.trues del

-- what is left to know of the row before the action
abbrev pub before : ℕ → ℕ → Row → Row
before add del r = record { trues = minus r.trues add; falses = minus r.falses del }

unfoldable pub regressed : ℕ → ℕ → List Row → List Row
regressed add del rs = map (before add del) (keep (survives add del) rs)

-- ---- a reading of the fluent f

-- a row with one literal more, or less
abbrev pub plus : ℕ → Bool → Row → Row
plus f true r = record { trues = union r.trues (only f); falses = r.falses }
plus f false r = record { trues = r.trues; falses = union r.falses (only f) }

abbrev pub less : ℕ → Bool → Row → Row
less f true r = record { trues = minus r.trues (only f); falses = r.falses }
less f false r = record { trues = r.trues; falses = minus r.falses (only f) }

-- the row does not have the fluent the other way
abbrev pub allows : ℕ → Bool → Row → Bool
allows f true r = not (bit r.falses f)
allows f false r = not (bit r.trues f)

-- each row of the one list joined with each of the other
abbrev pub pairs : List Row → List Row → List Row
pairs [] es = []
pairs (t ∷ ts) es = map (joined t) es ++ pairs ts es

-- The candidates of a reading, from the rows for true and those for false: where the fluent is known true, where it is
-- known false, and where it is not known, so that both branches must be ready.
unfoldable pub asked : ℕ → List Row → List Row → List Row
asked f ts es =
    map (plus f true) (keep (allows f true) ts)
    ++ (map (plus f false) (keep (allows f false) es)
    ++ pairs (map (less f true) (keep (allows f true) ts)) (map (less f false) (keep (allows f false) es)))

-- ---- the least rows

-- whether one of the rows is below r: r implies it
abbrev pub any_below : List Row → Row → Bool
any_below [] r = false
any_below (y ∷ ys) r = cond (row_below y r) true (any_below ys r)

-- r at its place among ascending rows
abbrev pub insert : Row → List Row → List Row
insert r [] = r ∷ []
insert r (y ∷ ys) = cond (row_upto r y) (r ∷ y ∷ ys) (y ∷ insert r ys)

-- one row more: nothing where it implies a row that is there; else those that imply it go out
abbrev pub more : Row → List Row → List Row
more r ys = cond (any_below ys r) ys (insert r (keep (λ y. not (row_below r y)) ys))

-- the rows that imply no other, each once, ascending
unfoldable pub least_rows : List Row → List Row
least_rows [] = []
least_rows (r ∷ rs) = more r (least_rows rs)

-- ---- the row list of a node

-- at most 16 rows, counted after dropping
abbrev pub limited : ℕ → List Row → Result (List Row) Fault
limited place rs = cond (nat_le (length rs) 16) (Ok rs) (Err (fault_at TooManyRows place))

module _ (goal : Row) where
  -- Children are worked first, true before false, so the first node over the limit is the one that is refused.
  unfoldable pub rows_of : Steps → Result (List Row) Fault
  rows_of (ends at) = Ok (goal ∷ [])
  rows_of (gaps at) = Ok []
  rows_of (does at c add del t) = then (rows_of t) (λ rs. limited at (least_rows (guarded c (regressed add del rs))))
  rows_of (reads at c f t e) = then (rows_of t) (λ ts. then (rows_of e) (λ es. limited at (least_rows (guarded c (asked f ts es)))))
