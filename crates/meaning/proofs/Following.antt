-- Following a plan has one verdict, and the verdict says what becomes of whole walks. Assumes nothing.
use Rattle.std.proofs.Common.{◌≡◌, ℕ, Bool, true, false, ◌⊎◌, List, [], ◌∷◌, length, sym, refl, ap, ◌∙◌, subst, inl, inr}
use Rattle.knowledge.specs.Meaning.{Same}
use Rattle.knowledge.specs.declared.states.Row.{Row}
use Rattle.meaning.specs.declared.answers.Cause.{Cause}
use Rattle.meaning.specs.declared.answers.Stop.{Stop}
use Rattle.meaning.specs.declared.answers.Stop.TheVariants.{EndedWell, Failed}
use Rattle.meaning.specs.declared.answers.Verdict.{Verdict}
use Rattle.meaning.specs.declared.answers.Verdict.TheVariants.{Holds, Fails}
use Rattle.meaning.specs.Sets.{Moved, Told, Possible, Either}
use Rattle.meaning.specs.Steps.{Steps, ends, does, reads, gaps}
use Rattle.meaning.specs.Walks.{Walks, AllEndWell}
use Rattle.meaning.specs.Follows.{Then, Follows, Judges}
use Rattle.meaning.specs.Laws.{NoFailure}
use Rattle.meaning.proofs.Walking.{ended_well, either_then, either_both, moved_same, told_same, cover_map, possible_map, walks_only}

-- ---- one verdict after another

then_map : {A B : Type 0} (u v : Verdict) → (A → B) → Then u A v → Then u B v
then_map Holds v f h = f h
then_map (Fails place cause) v f h = h

then_both : {A B : Type 0} (u v w : Verdict) → (A → B → v ≡ w) → Then u A v → Then u B w → v ≡ w
then_both Holds v w f h k = f h k
then_both (Fails place cause) v w f h k = h ∙ sym k

holds_not_fails : {place : ℕ} {cause : Cause} → Holds ≡ Fails place cause → ⊥
holds_not_fails e = cc

-- both hold where the later one does
then_holds : {A : Type 0} (u : Verdict) → Then u A Holds → (u ≡ Holds) × A
then_holds Holds h = (refl, h)
then_holds (Fails place cause) h = absurd (holds_not_fails h)

-- a failure is that of the first, or the first holds
then_fails : {A : Type 0} (u : Verdict) (place : ℕ) (cause : Cause) → Then u A (Fails place cause) → (u ≡ Fails place cause) ⊎ A
then_fails Holds place cause h = inr h
then_fails (Fails first why) place cause h = inl (sym h)

-- a half that fails has a world
half_fails : {P A : Type 0} (place : ℕ) (cause : Cause) → Either P A (Fails place cause ≡ Holds) → P × A
half_fails place cause (inl h) = h
half_fails place cause (inr h) = absurd (holds_not_fails (sym h.1))

-- ---- where a walk stops

stop_of : Verdict → Stop
stop_of Holds = EndedWell
stop_of (Fails place cause) = Failed place cause

failed : {place at : ℕ} {cause why : Cause} → Fails place cause ≡ Fails at why → Failed place cause ≡ Failed at why
unfolding stop_of
failed e = ap stop_of e

failed_not_well : {place : ℕ} {cause : Cause} → Failed place cause ≡ EndedWell → ⊥
failed_not_well e = cc

module _ (goal : Row) where
  pub follows_same : (t : Steps) (K L : ℕ → Type 0) → Same K L → (v : Verdict) → Follows goal t K v → Follows goal t L v
  unfolding Follows
  follows_same (ends at) K L same v h = cover_map goal K L same (λ e. e) (λ e. e) h
  follows_same (gaps at) K L same v h = h
  follows_same (does at c add del t) K L same v h =
      cover_map c K L same (follows_same t (Moved add del K) (Moved add del L) (moved_same add del K L same) v) (λ e. e) h
  follows_same (reads at c f t e) K L same v h =
      let yea = told_same f true K L same in
      let nay = told_same f false K L same in
      cover_map c K L same
      (λ x. (
        x.0,
        possible_map (Told f true K) (Told f true L) yea (follows_same t (Told f true K) (Told f true L) yea x.0) (λ q. q) x.1,
        then_map x.0 v (possible_map (Told f false K) (Told f false L) nay (follows_same e (Told f false K) (Told f false L) nay v) (λ q. q)) x.2,
      ))
      (λ q. q) h

  pub follows_only : (t : Steps) (K : ℕ → Type 0) (v u : Verdict) → Follows goal t K v → Follows goal t K u → v ≡ u
  unfolding Follows
  follows_only (ends at) K v u h k = either_both (λ p q. p ∙ sym q) (λ p q. p ∙ sym q) h k
  follows_only (gaps at) K v u h k = h ∙ sym k
  follows_only (does at c add del t) K v u h k = either_both (follows_only t (Moved add del K) v u) (λ p q. p ∙ sym q) h k
  follows_only (reads at c f t e) K v u h k =
      either_both
      (λ x y.
      let first : x.0 ≡ y.0 = either_both (follows_only t (Told f true K) x.0 y.0) (λ p q. p ∙ sym q) x.1 y.1 in
      then_both x.0 v u (either_both (follows_only e (Told f false K) v u) (λ p q. p ∙ sym q))
      x.2
      (subst (λ w. Then w (Either (Possible (Told f false K)) (Follows goal e (Told f false K) u) (u ≡ Holds)) u) (sym first) y.2))
      (λ p q. p ∙ sym q) h k

  -- Where the verdict fails, some list of values leads to the reported node and is taken whole.
  pub fails_there : (t : Steps) (K : ℕ → Type 0) (place : ℕ) (cause : Cause) → Follows goal t K (Fails place cause)
      → (vs : List Bool) × Walks goal t K vs (length vs) (Failed place cause)
  unfolding Follows Walks
  fails_there (ends at) K place cause (inl h) = absurd (holds_not_fails (sym h.1))
  fails_there (ends at) K place cause (inr h) = ([], (inr (h.0, failed h.1), refl))
  fails_there (gaps at) K place cause h = ([], (failed h, refl))
  fails_there (does at c add del t) K place cause (inl h) = let on = fails_there t (Moved add del K) place cause h.1 in (on.0, inl (h.0, on.1))
  fails_there (does at c add del t) K place cause (inr h) = ([], inr (h.0, (failed h.1, refl)))
  fails_there (reads at c f t e) K place cause (inr h) = ([], (inr (h.0, failed h.1), refl))
  fails_there (reads at c f t e) K place cause (inl h) =
      elim (then_fails h.1.0 place cause h.1.2) [
        | inl is ↦
            let half = half_fails place cause (subst (λ u. Either (Possible (Told f true K)) (Follows goal t (Told f true K) u) (u ≡ Holds)) is h.1.1) in
            let on = fails_there t (Told f true K) place cause half.1 in
            (true ∷ on.0, inl (h.0, inl (half.0, (length on.0, refl, on.1))))
        | inr second ↦
            let half = half_fails place cause second in
            let on = fails_there e (Told f false K) place cause half.1 in
            (false ∷ on.0, inl (h.0, inl (half.0, (length on.0, refl, on.1))))
      ]

  -- Where the verdict holds, no walk fails, whatever values come.
  pub holds_well : (t : Steps) (K : ℕ → Type 0) → Follows goal t K Holds → (vs : List Bool) (n : ℕ) (s : Stop) → Walks goal t K vs n s → NoFailure s
  unfolding Follows Walks
  holds_well (ends at) K (inl h) vs n s w = subst NoFailure (sym (either_then h.0 w.0)) tt
  holds_well (ends at) K (inr h) vs n s w = absurd (holds_not_fails h.1)
  holds_well (gaps at) K h vs n s w = absurd (holds_not_fails h)
  holds_well (does at c add del t) K (inl h) vs n s w = holds_well t (Moved add del K) h.1 vs n s (either_then h.0 w)
  holds_well (does at c add del t) K (inr h) vs n s w = absurd (holds_not_fails h.1)
  holds_well (reads at c f t e) K (inr h) vs n s w = absurd (holds_not_fails h.1)
  holds_well (reads at c f t e) K (inl h) [] n s w = subst NoFailure (sym (either_then h.0 w.0)) tt
  holds_well (reads at c f t e) K (inl h) (true ∷ vs) n s w =
      let half = subst (λ u. Either (Possible (Told f true K)) (Follows goal t (Told f true K) u) (u ≡ Holds)) (then_holds h.1.0 h.1.2).0 h.1.1 in
      either_both (λ on x. holds_well t (Told f true K) on vs x.0 s x.2) (λ on x. subst NoFailure (sym x.0) tt) half (either_then h.0 w)
  holds_well (reads at c f t e) K (inl h) (false ∷ vs) n s w =
      let half = (then_holds h.1.0 h.1.2).1 in
      either_both (λ on x. holds_well e (Told f false K) on vs x.0 s x.2) (λ on x. subst NoFailure (sym x.0) tt) half (either_then h.0 w)

  -- so every agreeing walk ends well exactly where the verdict holds
  all_well_holds : (t : Steps) (K : ℕ → Type 0) (v : Verdict) → Follows goal t K v → AllEndWell goal t K → v ≡ Holds
  all_well_holds t K Holds h well = refl
  all_well_holds t K (Fails place cause) h well =
      let on = fails_there t K place cause h in
      let ended = well on.0 (Failed place cause, on.1, tt) in
      absurd (failed_not_well (walks_only goal t K on.0 (length on.0) (length on.0) (Failed place cause) EndedWell on.1 ended).1)

  pub follows_judges : (t : Steps) (K : ℕ → Type 0) (v : Verdict) → Follows goal t K v → Judges goal t K v
  follows_judges t K v h =
      record {
        holds_well = λ is vs agrees.
            let none = holds_well t K (subst (Follows goal t K) is h) vs (length vs) agrees.0 agrees.1 in
            subst (Walks goal t K vs (length vs)) (ended_well agrees.0 agrees.2 none) agrees.1;
        well_holds = all_well_holds t K v h;
        fails_there = λ place cause is. fails_there t K place cause (subst (Follows goal t K) is h);
      }
