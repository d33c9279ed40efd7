-- Following a plan takes every branch that a set of worlds leaves open. Assumes nothing.
use Rattle.std.specs.Prelude.{◌≡◌, ℕ, Bool, true, false, List, length}
use Rattle.knowledge.specs.declared.states.Row.{Row}
use Rattle.meaning.specs.declared.answers.Cause.{Cause}
use Rattle.meaning.specs.declared.answers.Cause.TheVariants.{UnmetConditions, GoalUnknown, Gap}
use Rattle.meaning.specs.declared.answers.Stop.TheVariants.{Failed}
use Rattle.meaning.specs.declared.answers.Verdict.{Verdict}
use Rattle.meaning.specs.declared.answers.Verdict.TheVariants.{Holds, Fails}
use Rattle.meaning.specs.Sets.{Covers, Moved, Told, Possible, Either}
use Rattle.meaning.specs.Steps.{Steps, ends, does, reads, gaps}
use Rattle.meaning.specs.Walks.{Walks, AllEndWell}

-- after the verdict u the verdict v: what comes next decides it where u holds, and otherwise it is u
abbrev pub Then : Verdict → Type 0 → Verdict → Type 0
Then Holds next v = next
Then (Fails place cause) next v = v ≡ Fails place cause

module _ (goal : Row) where
  -- The verdict of following the tree from the worlds K. A reading takes each half that has a world, true before false; a
  -- half without worlds holds.
  unfoldable pub Follows : Steps → (ℕ → Type 0) → Verdict → Type 0
  Follows (ends at) K v = Either (Covers goal K) (v ≡ Holds) (v ≡ Fails at GoalUnknown)
  Follows (gaps at) K v = v ≡ Fails at Gap
  Follows (does at c add del t) K v = Either (Covers c K) (Follows t (Moved add del K) v) (v ≡ Fails at UnmetConditions)
  Follows (reads at c f t e) K v =
      Either (Covers c K)
      ((u : Verdict) × Either (Possible (Told f true K)) (Follows t (Told f true K) u) (u ≡ Holds)
      × Then u (Either (Possible (Told f false K)) (Follows e (Told f false K) v) (v ≡ Holds)) v)
      (v ≡ Fails at UnmetConditions)

  -- What a verdict says of whole walks: it holds exactly when every agreeing walk ends well, and where it fails, some
  -- agreeing list leads to the reported node with the reported cause.
  pub record Judges (t : Steps) (K : ℕ → Type 0) (v : Verdict) : Type 0 where
    pub holds_well : v ≡ Holds → AllEndWell goal t K
    pub well_holds : AllEndWell goal t K → v ≡ Holds
    pub fails_there : (place : ℕ) (cause : Cause) → v ≡ Fails place cause → (vs : List Bool) × Walks goal t K vs (length vs) (Failed place cause)
