-- The coverage law: what listed rows promise of whole walks. Assumes nothing.
-- `Has rs r` says that r stands in rs. `Ascending` and `NoneBelow` (no element is below another) are those of the least-element keeper.
use Rattle.std.specs.Prelude.{◌≡◌, ℕ, ◌^◌, ◌<◌, Bool, List, Ok}
use Rattle.std.specs.List.{ContainsAt as Has}
use Rattle.fluents.specs.Sets.{Apart}
use Rattle.knowledge.specs.Extends.{Extends}
use Rattle.knowledge.specs.Orders.{row_below, row_upto}
use Rattle.knowledge.specs.declared.states.PartialState.{PartialState}
use Rattle.knowledge.specs.declared.states.Row.{Row}
use Rattle.least.specs.Kept.{Ascending, Apart as NoneBelow}
use Rattle.meaning.specs.declared.answers.Stop.{Stop}
use Rattle.meaning.specs.declared.answers.Stop.TheVariants.{EndedWell, Failed, Refused, UsedUp}
use Rattle.meaning.specs.Sets.{Covers}
use Rattle.procedure.specs.Procedures.{Procedure}
use Rattle.meaning.specs.Rows.{rows_of}
use Rattle.meaning.specs.Steps.{Steps, tree_of}
use Rattle.meaning.specs.Walks.{Walks, Agrees, AllEndWell}

-- one of the rows covers K
abbrev pub CoveredBy : List Row → (ℕ → Type 0) → Type 0
CoveredBy rs K = (r : Row) × Has rs r × Covers r K

-- X holds if the procedure's rows are listed and one of them covers K
abbrev pub IfCovered : Procedure → (ℕ → Type 0) → Type 0 → Type 0
IfCovered p K X = (rs : List Row) → rows_of p.goal (tree_of p) ≡ Ok rs → CoveredBy rs K → X

-- the walk did not stop at a failing node: no unmet condition, no gap, no end without the goal known
abbrev pub NoFailure : Stop → Type 0
NoFailure EndedWell = Unit {0}
NoFailure (Failed place cause) = ⊥
NoFailure (Refused fault) = Unit {0}
NoFailure (UsedUp place) = Unit {0}

-- the numbers of a partial state
abbrev pub IsState : Row → Type 0
IsState r = Apart r.trues r.falses × (r.trues < 2 ^ 64) × (r.falses < 2 ^ 64)

-- a list of rows: partial states, strictly ascending, none implied by another
pub record RowList (rs : List Row) : Type 0 where
  pub states : (r : Row) → Has rs r → IsState r
  pub ascending : Ascending row_upto rs
  pub apart : NoneBelow row_below rs

module _ (goal : Row) (t : Steps) where
  -- What the rows promise to the knowledge K that one of them covers: whatever values come, the walk does not fail, and
  -- where the values agree with K it ends well.
  abbrev pub Safe : List Row → (ℕ → Type 0) → Type 0
  Safe rs K = CoveredBy rs K → (vs : List Bool) (n : ℕ) (s : Stop) → Walks goal t K vs n s → NoFailure s × (Agrees goal t K vs → s ≡ EndedWell)

  -- A partial state is covered by a row exactly when the walk from it along every agreeing list ends well.
  abbrev pub Exact : List Row → Type 0
  Exact rs = (s : PartialState) → (CoveredBy rs (Extends s) → AllEndWell goal t (Extends s)) × (AllEndWell goal t (Extends s) → CoveredBy rs (Extends s))

  -- No other list of rows is exact.
  abbrev pub Only : List Row → Type 0
  Only rs = (other : List Row) → RowList other → Exact other → other ≡ rs
