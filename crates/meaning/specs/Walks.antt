-- A walk goes from a set of worlds at the root along a list of values, one for each reading that it comes to. Assumes nothing.
use Rattle.std.specs.Prelude.{◌≡◌, ℕ, suc, Bool, true, false, List, [], ◌∷◌, length}
use Rattle.fluents.specs.Refusals.{fault_at}
use Rattle.fluents.specs.declared.faults.Refusal.TheVariants.{Contradiction}
use Rattle.knowledge.specs.declared.states.Row.{Row}
use Rattle.meaning.specs.declared.answers.Cause.TheVariants.{UnmetConditions, GoalUnknown, Gap}
use Rattle.meaning.specs.declared.answers.Stop.{Stop}
use Rattle.meaning.specs.declared.answers.Stop.TheVariants.{EndedWell, Failed, Refused, UsedUp}
use Rattle.meaning.specs.Sets.{Covers, Moved, Told, Possible, Either}
use Rattle.meaning.specs.Steps.{Steps, ends, does, reads, gaps}

-- the walk stops at an end or at a failing node
abbrev pub AtNode : Stop → Type 0
AtNode EndedWell = Unit {0}
AtNode (Failed place cause) = Unit {0}
AtNode (Refused fault) = ⊥
AtNode (UsedUp place) = ⊥

module _ (goal : Row) where
  -- The walk through the tree from the worlds K along the values vs takes n of them and stops as s says. At a reading node,
  -- whether or not its fluent is known, the next value is taken; one that no world has is refused.
  unfoldable pub Walks : Steps → (ℕ → Type 0) → List Bool → ℕ → Stop → Type 0
  Walks (ends at) K vs n s = Either (Covers goal K) (s ≡ EndedWell) (s ≡ Failed at GoalUnknown) × (n ≡ 0)
  Walks (gaps at) K vs n s = (s ≡ Failed at Gap) × (n ≡ 0)
  Walks (does at c add del t) K vs n s = Either (Covers c K) (Walks t (Moved add del K) vs n s) ((s ≡ Failed at UnmetConditions) × (n ≡ 0))
  Walks (reads at c f t e) K [] n s = Either (Covers c K) (s ≡ UsedUp at) (s ≡ Failed at UnmetConditions) × (n ≡ 0)
  Walks (reads at c f t e) K (true ∷ vs) n s =
      Either (Covers c K)
      (Either (Possible (Told f true K)) ((m : ℕ) × (n ≡ suc m) × Walks t (Told f true K) vs m s) ((s ≡ Refused (fault_at Contradiction at)) × (n ≡ 1)))
      ((s ≡ Failed at UnmetConditions) × (n ≡ 0))
  Walks (reads at c f t e) K (false ∷ vs) n s =
      Either (Covers c K)
      (Either (Possible (Told f false K)) ((m : ℕ) × (n ≡ suc m) × Walks e (Told f false K) vs m s) ((s ≡ Refused (fault_at Contradiction at)) × (n ≡ 1)))
      ((s ≡ Failed at UnmetConditions) × (n ≡ 0))

  -- The list agrees with K: the walk stops at an end or at a failing node, and has taken every value.
  abbrev pub Agrees : Steps → (ℕ → Type 0) → List Bool → Type 0
  Agrees t K vs = (s : Stop) × Walks t K vs (length vs) s × AtNode s

  -- the walk takes every value and ends with the goal known
  abbrev pub EndsWell : Steps → (ℕ → Type 0) → List Bool → Type 0
  EndsWell t K vs = Walks t K vs (length vs) EndedWell

  -- the walk along every list that agrees with K ends well
  abbrev pub AllEndWell : Steps → (ℕ → Type 0) → Type 0
  AllEndWell t K = (vs : List Bool) → Agrees t K vs → EndsWell t K vs
