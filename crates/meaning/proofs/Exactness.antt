-- A partial state from which every agreeing walk ends well is covered by a row. Assumes nothing.
use Rattle.std.proofs.Common.{◌≡◌, ℕ, suc, ◌<◌, Bool, true, false, not, List, [], ◌∷◌, length, Ok, sym, refl, ap, subst, inl, inr, ⊎_elim, arith}
use Rattle.std.specs.List.{ContainsAt as Has}
use Rattle.fluents.specs.Sets.{bit, union, minus, Apart}
use Rattle.knowledge.specs.Meaning.{Same}
use Rattle.knowledge.specs.declared.states.Row.{Row}
use Rattle.meaning.specs.declared.answers.Cause.{Cause}
use Rattle.meaning.specs.declared.answers.Cause.TheVariants.{UnmetConditions, GoalUnknown, Gap}
use Rattle.meaning.specs.declared.answers.Stop.TheVariants.{EndedWell, Failed}
use Rattle.meaning.specs.Laws.{IsState, CoveredBy}
use Rattle.meaning.specs.Rows.{joined, guarded, before, regressed, plus, less, allows, asked, least_rows, rows_of}
use Rattle.meaning.specs.Sets.{Meets, Covers, Moved, Told, Possible}
use Rattle.meaning.specs.Steps.{Steps, ends, does, reads, gaps}
use Rattle.meaning.specs.Walks.{Walks, AllEndWell}
use Rattle.meaning.proofs.Extended.{Extending, own_world, progressed, progressed_state, progressed_moved, has, plus_told, plus_state, told_possible, possible_allows, has_value, below_less, below_covers, covers_below, covers_or_not}
use Rattle.meaning.proofs.Leasts.{least_of}
use Rattle.meaning.proofs.Listing.{rows_list}
use Rattle.meaning.proofs.Meeting.{joined_meets, below_meets, meets_sound, before_meets, meets_survives, plus_meets, meets_allows}
use Rattle.least.proofs.Only.{has_first}
use Rattle.meaning.proofs.Members.{guarded_in, regressed_in, asked_true, asked_false, asked_pair}
use Rattle.meaning.proofs.Unrolled.{ends_rows, does_rows, reads_rows}
use Rattle.meaning.proofs.Proper.{Proper}
use Rattle.meaning.proofs.Walking.{same_sym, covers_same, walks_only, all_well_same, either_then}

-- ---- where every agreeing walk ends well, no node fails, and so it is from the next nodes too

module _ (goal : Row) where
  well_not_failed : (t : Steps) (K : ℕ → Type 0) (vs : List Bool) (place : ℕ) (cause : Cause) → AllEndWell goal t K
      → Walks goal t K vs (length vs) (Failed place cause) → ⊥
  well_not_failed t K vs place cause well walk =
      let same = (walks_only goal t K vs (length vs) (length vs) (Failed place cause) EndedWell walk (well vs (Failed place cause, walk, tt))).1 in
      cc

  well_ends : (at : ℕ) (K : ℕ → Type 0) → AllEndWell goal (ends at) K → (Covers goal K → ⊥) → ⊥
  unfolding Walks
  well_ends at K well unknown = well_not_failed (ends at) K [] at GoalUnknown well (inr (unknown, refl), refl)

  well_gaps : (at : ℕ) (K : ℕ → Type 0) → AllEndWell goal (gaps at) K → ⊥
  unfolding Walks
  well_gaps at K well = well_not_failed (gaps at) K [] at Gap well (refl, refl)

  module _ (at : ℕ) (c : Row) (add del : ℕ) (t : Steps) (K : ℕ → Type 0) (well : AllEndWell goal (does at c add del t) K) where
    well_does_met : (Covers c K → ⊥) → ⊥
    unfolding Walks
    well_does_met unmet = well_not_failed (does at c add del t) K [] at UnmetConditions well (inr (unmet, (refl, refl)))

    well_does : Covers c K → AllEndWell goal t (Moved add del K)
    unfolding Walks
    well_does met vs agrees = either_then met (well vs (agrees.0, inl (met, agrees.1), agrees.2))

  -- the walk behind the first value has taken one value less
  behind : (u : Steps) (L : ℕ → Type 0) (vs : List Bool) → (m : ℕ) × (suc (length vs) ≡ suc m) × Walks goal u L vs m EndedWell → Walks goal u L vs (length vs) EndedWell
  behind u L vs h = let same : h.0 ≡ length vs = omega (arith, h.1) in subst (λ (m : ℕ). Walks goal u L vs m EndedWell) same h.2

  module _ (at : ℕ) (c : Row) (f : ℕ) (t e : Steps) (K : ℕ → Type 0) (well : AllEndWell goal (reads at c f t e) K) where
    well_reads_met : (Covers c K → ⊥) → ⊥
    unfolding Walks
    well_reads_met unmet = well_not_failed (reads at c f t e) K [] at UnmetConditions well (inr (unmet, refl), refl)

    well_true : Covers c K → Possible (Told f true K) → AllEndWell goal t (Told f true K)
    unfolding Walks
    well_true met some vs agrees =
        behind t (Told f true K) vs
        (either_then some (either_then met (well (true ∷ vs) (agrees.0, inl (met, inl (some, (length vs, refl, agrees.1))), agrees.2))))

    well_false : Covers c K → Possible (Told f false K) → AllEndWell goal e (Told f false K)
    unfolding Walks
    well_false met some vs agrees =
        behind e (Told f false K) vs
        (either_then some (either_then met (well (false ∷ vs) (agrees.0, inl (met, inl (some, (length vs, refl, agrees.1))), agrees.2))))

-- ---- the candidates of a node that has a world

module _ (K : ℕ → Type 0) (some : Possible K) where
  -- what is left, before the action, of a row that covers what the action makes of K
  covered_regressed : (add del : ℕ) (rs : List Row) → Apart add del → CoveredBy rs (Moved add del K) → CoveredBy (regressed add del rs) K
  covered_regressed add del rs effects covered =
      let x = covered.0 in
      let meets : (w : ℕ) → K w → Meets x (union (minus w del) add) = λ w k. covered.2 (union (minus w del) add) (w, k, refl) in (
        before add del x,
        regressed_in add del rs x covered.1 (meets_survives add del x some.0 effects (meets some.0 some.1)),
        (λ w k. before_meets add del x w (meets w k)),
      )

  -- the conditions joined to a candidate, and a least row below that
  covered_guarded : (c : Row) (xs : List Row) → Covers c K → CoveredBy xs K → CoveredBy (least_rows (guarded c xs)) K
  covered_guarded c xs met covered =
      let x = covered.0 in
      let both : Covers (joined c x) K = λ w k. joined_meets c x w (met w k) (covered.2 w k) in
      let sound = meets_sound (joined c x) some.0 (both some.0 some.1) in
      let kept = (least_of (guarded c xs)).reaches (joined c x) (guarded_in c xs x covered.1 sound) in
      (kept.0, kept.1, (λ w k. below_meets kept.0 (joined c x) w kept.2 (both w k)))

-- ---- the candidates of a reading, from a partial state

-- a row of rs, changed, covers the state
abbrev Changed : ℕ → Bool → (ℕ → Bool → Row → Row) → List Row → Row → Type 0
Changed f b change rs s = (x : Row) × Has rs x × (allows f b x ≡ true) × Covers (change f b x) (Extending s)

module _ (f : ℕ) (b : Bool) (rs : List Row) (s : Row) (ok : IsState s)
    (ready : Possible (Told f b (Extending s)) → CoveredBy rs (Told f b (Extending s))) where
  -- the fluent is known to have the value b
  covered_known : has f b s ≡ true → Changed f b plus rs s
  covered_known e =
      let is = has_value f b s e in
      let own : Extending s s.trues = own_world s ok in
      let covered = ready (s.trues, (own, is s.trues own)) in
      let x = covered.0 in
      let meets : Covers x (Extending s) = λ w h. covered.2 w (h, is w h) in (
        x,
        covered.1,
        meets_allows f b x s.trues (meets s.trues own) (is s.trues own),
        (λ w h. plus_meets f b x w (meets w h) (is w h)),
      )

  -- it may have the value, and the state has the row's other literals
  covered_open : f < 64 → ((r : Row) → Has rs r → IsState r) → allows f b s ≡ true → Changed f b less rs s
  covered_open small states free =
      let world = told_possible f b s small free ok in
      let covered = ready world in
      let x = covered.0 in
      let below = covers_below x (plus f b s) (states x covered.1) (plus_state f b s small free ok)
      (covers_same x (Told f b (Extending s)) (Extending (plus f b s)) (same_sym (Extending (plus f b s)) (Told f b (Extending s)) (plus_told f b s)) covered.2) in (
        x,
        covered.1,
        meets_allows f b x world.0 (covered.2 world.0 world.1) world.1.1,
        below_covers (less f b x) s (below_less f b x s below),
      )

module _ (f : ℕ) (small : f < 64) (ts es : List Row) (s : Row) (ok : IsState s)
    (states-true : (r : Row) → Has ts r → IsState r) (states-false : (r : Row) → Has es r → IsState r)
    (on_true : Possible (Told f true (Extending s)) → CoveredBy ts (Told f true (Extending s)))
    (on_false : Possible (Told f false (Extending s)) → CoveredBy es (Told f false (Extending s))) where
  covered_asked : CoveredBy (asked f ts es) (Extending s)
  covered_asked = go (bit s.trues f) (bit s.falses f) refl refl
    where
      go : (p q : Bool) → bit s.trues f ≡ p → bit s.falses f ≡ q → CoveredBy (asked f ts es) (Extending s)
      go true q is-p is-q =
          let x = covered_known f true ts s ok on_true is-p in
          (plus f true x.0, asked_true f ts es x.0 x.1 x.2, x.3)
      go false true is-p is-q =
          let x = covered_known f false es s ok on_false is-q in
          (plus f false x.0, asked_false f ts es x.0 x.1 x.2, x.3)
      go false false is-p is-q =
          let x = covered_open f true ts s ok on_true small states-true (ap not is-q) in
          let y = covered_open f false es s ok on_false small states-false (ap not is-p) in (
            joined (less f true x.0) (less f false y.0),
            asked_pair f ts es x.0 y.0 x.1 x.2 y.1 y.2,
            (λ w h. joined_meets (less f true x.0) (less f false y.0) w (x.3 w h) (y.3 w h)),
          )

-- ---- from the ends back to the root

covered_same : (rs : List Row) (K L : ℕ → Type 0) → Same K L → CoveredBy rs K → CoveredBy rs L
covered_same rs K L same covered = (covered.0, covered.1, covers_same covered.0 K L same covered.2)

-- what cannot be unknown to a state is known
not_unknown : (r s : Row) → IsState r → IsState s → ((Covers r (Extending s) → ⊥) → ⊥) → Covers r (Extending s)
not_unknown r s ok-r ok-s h =
    ⊎_elim (λ (covers : Covers r (Extending s)). covers) (λ (none : Covers r (Extending s) → ⊥). absurd (h none)) (covers_or_not r s ok-r ok-s)

module _ (goal : Row) where
  -- the worlds that a value leaves are those of a state again
  covered_told : (t : Steps) (f : ℕ) (b : Bool) (rs : List Row) (s : Row) → f < 64 → IsState s
      → (Possible (Told f b (Extending s)) → AllEndWell goal t (Told f b (Extending s)))
      → ((u : Row) → IsState u → AllEndWell goal t (Extending u) → CoveredBy rs (Extending u))
      → Possible (Told f b (Extending s)) → CoveredBy rs (Told f b (Extending s))
  covered_told t f b rs s small ok well covers some =
      let u = plus f b s in
      let same = plus_told f b s in
      covered_same rs (Extending u) (Told f b (Extending s)) same
      (covers u (plus_state f b s small (possible_allows f b s some) ok)
      (all_well_same goal t (Told f b (Extending s)) (Extending u) (same_sym (Extending u) (Told f b (Extending s)) same) (well some)))

  pub well_covered : (t : Steps) (rs : List Row) → IsState goal → Proper t → rows_of goal t ≡ Ok rs
      → (s : Row) → IsState s → AllEndWell goal t (Extending s) → CoveredBy rs (Extending s)
  well_covered (ends at) rs ok-goal proper e s ok well =
      subst (λ l. CoveredBy l (Extending s)) (sym (ends_rows goal at rs e))
      (goal, has_first goal [], not_unknown goal s ok-goal ok (well_ends goal at (Extending s) well))
  well_covered (gaps at) rs ok-goal proper e s ok well = absurd (well_gaps goal at (Extending s) well)
  well_covered (does at c add del t) rs ok-goal proper e s ok well =
      let K = Extending s in
      let from = does_rows goal at c add del t rs e in
      let met : Covers c K = not_unknown c s proper.0 ok (well_does_met goal at c add del t K well) in
      let u = progressed add del s in
      let same = progressed_moved add del s proper.1 proper.2 proper.3 ok in
      let next = well_covered t from.0 ok-goal proper.4 from.1 u (progressed_state add del s proper.1 proper.2 proper.3 ok)
      (all_well_same goal t (Moved add del K) (Extending u) (same_sym (Extending u) (Moved add del K) same) (well_does goal at c add del t K well met)) in
      subst (λ l. CoveredBy l K) (sym from.2)
      (covered_guarded K (s.trues, own_world s ok) c (regressed add del from.0) met
      (covered_regressed K (s.trues, own_world s ok) add del from.0 proper.1 (covered_same from.0 (Extending u) (Moved add del K) same next)))
  well_covered (reads at c f t e) rs ok-goal proper q s ok well =
      let K = Extending s in
      let from = reads_rows goal at c f t e rs q in
      let met : Covers c K = not_unknown c s proper.0 ok (well_reads_met goal at c f t e K well) in
      subst (λ l. CoveredBy l K) (sym from.4)
      (covered_guarded K (s.trues, own_world s ok) c (asked f from.0 from.1) met
      (covered_asked f proper.1 from.0 from.1 s ok
      (rows_list goal t from.0 ok-goal proper.2 from.2).states
      (rows_list goal e from.1 ok-goal proper.3 from.3).states
      (covered_told t f true from.0 s proper.1 ok (well_true goal at c f t e K well met) (well_covered t from.0 ok-goal proper.2 from.2))
      (covered_told e f false from.1 s proper.1 ok (well_false goal at c f t e K well met) (well_covered e from.1 ok-goal proper.3 from.3))))
