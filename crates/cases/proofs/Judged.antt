-- The computed verdict is the verdict of following from the worlds of what is known. Assumes nothing.
use Rattle.std.proofs.Common.{◌≡◌, ℕ, ◌^◌, ◌<◌, Bool, true, false, cond, eqb, ◌⊎◌, List, [], ◌∷◌, map, filter, sym, refl, ap, ◌∙◌, subst, inl, inr, ⊎_elim}
use mathlib.Core.Bool.{beq}
use lib.Bits.{bit_and}
use Rattle.std.specs.List.{ContainsAt as Has}
use Rattle.std.proofs.ByRecursion.{all-has, all_has_itself, all_kept_by, kept_by_passes}
use Rattle.std.proofs.lemmas.Bool.{eqb-true, eq-eqb, and_parts, and_from, or_cases, or_left, or_right, both_ways}
use Rattle.fluents.specs.Sets.{bit, union, minus, Apart}
use Rattle.fluents.proofs.Bits.{within_members, members_within, apart_members, members_apart}
use Rattle.knowledge.specs.Meaning.{Same}
use Rattle.knowledge.specs.declared.states.Row.{Row}
use Rattle.knowledge.proofs.Choosing.{has_map, has_unmap, beq_true}
use Rattle.procedure.specs.Fields.{is_apart}
use Rattle.procedure.specs.Procedures.{Known, partly, worlds}
use Rattle.meaning.specs.Follows.{Then, Follows}
use Rattle.meaning.specs.Laws.{IsState}
use Rattle.meaning.specs.Sets.{Meets, Covers, Moved, Told, Possible, Either}
use Rattle.meaning.specs.Steps.{Steps, ends, does, reads, gaps}
use Rattle.meaning.specs.declared.answers.Cause.TheVariants.{UnmetConditions, GoalUnknown}
use Rattle.meaning.specs.declared.answers.Verdict.{Verdict}
use Rattle.meaning.specs.declared.answers.Verdict.TheVariants.{Holds, Fails}
use Rattle.meaning.proofs.Extended.{progressed_state, progressed_moved, plus_told, plus_state, told_possible, possible_allows, below_covers, covers_below}
use Rattle.meaning.proofs.Following.{follows_same}
use Rattle.least.proofs.Only.{has_cases, has_first, has_later}
use Rattle.meaning.proofs.Members.{has_none}
use Rattle.meaning.proofs.Proper.{Proper}
use Rattle.cases.specs.Judging.{meets, shows, every, some, covers_at, moved_at, told_at, possible_at, and_then, judge}
use Rattle.meaning.specs.Starts.{worlds_of}

-- what may be known at a start: a partial state, or any list of worlds
abbrev pub ValidStart : Known → Type 0
ValidStart (partly s) = IsState s
ValidStart (worlds ws) = Unit {0}

-- ---- lists of worlds

every_has : (test : ℕ → Bool) (ws : List ℕ) → every test ws ≡ true → (w : ℕ) → Has ws w → test w ≡ true
every_has test [] e w h = absurd (has_none w h)
every_has test (v ∷ ws) e w h =
    let both = and_parts (test v) (every test ws) e in
    ⊎_elim (λ (is : v ≡ w). ap test (sym is) ∙ both.0) (λ (later : Has ws w). every_has test ws both.1 w later) (has_cases v ws w h)

has_every : (test : ℕ → Bool) (ws : List ℕ) → ((w : ℕ) → Has ws w → test w ≡ true) → every test ws ≡ true
has_every test [] h = refl
has_every test (v ∷ ws) h = and_from (test v) (every test ws) (h v (has_first v ws)) (has_every test ws (λ w later. h w (has_later v ws w later)))

some_has : (test : ℕ → Bool) (ws : List ℕ) → some test ws ≡ true → (w : ℕ) × Has ws w × (test w ≡ true)
some_has test [] e = absurd (both_ways false refl e)
some_has test (v ∷ ws) e =
    elim (or_cases (test v) (some test ws) e) [
      | inl here ↦ (v, has_first v ws, here)
      | inr there ↦ let on = some_has test ws there in (on.0, has_later v ws on.0 on.1, on.2)
    ]

has_some : (test : ℕ → Bool) (ws : List ℕ) (w : ℕ) → Has ws w → test w ≡ true → some test ws ≡ true
has_some test [] w h e = absurd (has_none w h)
has_some test (v ∷ ws) w h e =
    elim (has_cases v ws w h) [
      | inl is ↦ or_left (test v) (some test ws) (ap test is ∙ e)
      | inr later ↦ or_right (test v) (some test ws) (has_some test ws w later e)
    ]

keeps : (test : ℕ → Bool) (ws : List ℕ) (w : ℕ) → Has ws w → test w ≡ true → Has (filter test ws) w
keeps test [] w h e = h
keeps test (v ∷ ws) w h e = first (test v) refl (has_cases v ws w h) (keeps test ws w)
  where
    first : (b : Bool) → test v ≡ b → (v ≡ w) ⊎ Has ws w → (Has ws w → test w ≡ true → Has (filter test ws) w) → Has (cond b (v ∷ filter test ws) (filter test ws)) w
    first true is (inl here) on = subst (Has (v ∷ filter test ws)) here (has_first v (filter test ws))
    first true is (inr later) on = has_later v (filter test ws) w (on later e)
    first false is (inl here) on = absurd (both_ways (test v) is (ap test here ∙ e))
    first false is (inr later) on = on later e

kept_has : (test : ℕ → Bool) (ws : List ℕ) (w : ℕ) → Has (filter test ws) w → Has ws w × (test w ≡ true)
kept_has test ws w h = (
  all-has (Has ws) (filter test ws) w (all_kept_by test (Has ws) ws (all_has_itself ws)) h,
  all-has (λ v. test v ≡ true) (filter test ws) w (kept_by_passes test ws) h,
)

-- ---- one world

meets_world : (r : Row) (w : ℕ) → meets r w ≡ true → Meets r w
meets_world r w e i =
    let both = and_parts (eqb (bit_and r.trues w) r.trues) (is_apart r.falses w) e in (
      within_members r.trues w (eqb-true (bit_and r.trues w) r.trues both.0) i,
      apart_members r.falses w (eqb-true (bit_and r.falses w) 0 both.1) i,
    )

world_meets : (r : Row) (w : ℕ) → Meets r w → meets r w ≡ true
world_meets r w h =
    and_from (eqb (bit_and r.trues w) r.trues) (is_apart r.falses w)
    (eq-eqb (bit_and r.trues w) r.trues (members_within r.trues w (λ i. (h i).0)))
    (eq-eqb (bit_and r.falses w) 0 (members_apart r.falses w (λ i. (h i).1)))

same_beq : (a b : Bool) → a ≡ b → beq a b ≡ true
same_beq a true e = rw e
same_beq a false e = rw e

-- ---- what is known

covers_at_lem : (r : Row) (k : Known) → IsState r → ValidStart k → (covers_at r k ≡ true → Covers r (worlds_of k)) × (Covers r (worlds_of k) → covers_at r k ≡ true)
covers_at_lem r (partly s) ok valid = (below_covers r s, covers_below r s ok valid)
covers_at_lem r (worlds ws) ok valid = (
  (λ e w h. meets_world r w (every_has (meets r) ws e w h)),
  (λ covers. has_every (meets r) ws (λ w h. world_meets r w (covers w h))),
)

module _ (add del : ℕ) (effects : Apart add del) (fits-add : add < 2 ^ 64) (fits-del : del < 2 ^ 64) where
  moved_valid : (k : Known) → ValidStart k → ValidStart (moved_at add del k)
  moved_valid (partly s) valid = progressed_state add del s effects fits-add fits-del valid
  moved_valid (worlds ws) valid = tt

  moved_at_lem : (k : Known) → ValidStart k → Same (worlds_of (moved_at add del k)) (Moved add del (worlds_of k))
  moved_at_lem (partly s) valid w = progressed_moved add del s effects fits-add fits-del valid w
  moved_at_lem (worlds ws) valid w = (
    (λ h. has_unmap (λ v. union (minus v del) add) 0 ws w h),
    (λ h. subst (Has (map (λ v. union (minus v del) add) ws)) (sym h.2) (has_map (λ v. union (minus v del) add) ws h.0 h.1)),
  )

module _ (f : ℕ) (b : Bool) where
  possible_at_lem : f < 64 → (k : Known) → ValidStart k → (possible_at f b k ≡ true → Possible (Told f b (worlds_of k))) × (Possible (Told f b (worlds_of k)) → possible_at f b k ≡ true)
  possible_at_lem small (partly s) valid = ((λ e. told_possible f b s small e valid), possible_allows f b s)
  possible_at_lem small (worlds ws) valid = (
    (λ e. let on = some_has (shows f b) ws e in (on.0, (on.1, beq_true (bit on.0 f) b on.2))),
    (λ h. has_some (shows f b) ws h.0 h.1.0 (same_beq (bit h.0 f) b h.1.1)),
  )

  told_valid : f < 64 → (k : Known) → ValidStart k → possible_at f b k ≡ true → ValidStart (told_at f b k)
  told_valid small (partly s) valid e = plus_state f b s small e valid
  told_valid small (worlds ws) valid e = tt

  told_at_lem : (k : Known) → Same (worlds_of (told_at f b k)) (Told f b (worlds_of k))
  told_at_lem (partly s) w = plus_told f b s w
  told_at_lem (worlds ws) w = (
    (λ h. let on = kept_has (shows f b) ws w h in (on.0, beq_true (bit w f) b on.1)),
    (λ h. keeps (shows f b) ws w h.0 (same_beq (bit w f) b h.1)),
  )

-- ---- following

-- a question whose answer is computed: the verdict x where it is so, and y where it is not
decided : {P : Type 0} (A : Verdict → Type 0) (b : Bool) (x y : Verdict) → (b ≡ true → P) × (P → b ≡ true) → (b ≡ true → A x) → Either P (A (cond b x y)) (cond b x y ≡ y)
decided A true x y answer a = inl (answer.0 refl, a refl)
decided A false x y answer a = inr ((λ p. both_ways false refl (answer.1 p)), refl)

then_next : (A : Verdict → Type 0) (u v : Verdict) → A v → Then u (A (and_then u v)) (and_then u v)
then_next A Holds v a = a
then_next A (Fails place cause) v a = refl

module _ (goal : Row) where
  -- the half of a reading in which its fluent has the value b
  abbrev Half : Steps → ℕ → Bool → Known → Verdict → Type 0
  Half t f b k v = Either (Possible (Told f b (worlds_of k))) (Follows goal t (Told f b (worlds_of k)) v) (v ≡ Holds)

  half_follows : (t : Steps) (f : ℕ) (b : Bool) (k : Known) → f < 64 → ValidStart k → (ValidStart (told_at f b k) → Follows goal t (worlds_of (told_at f b k)) (judge goal t (told_at f b k)))
      → Half t f b k (cond (possible_at f b k) (judge goal t (told_at f b k)) Holds)
  half_follows t f b k small valid on =
      decided (Follows goal t (Told f b (worlds_of k))) (possible_at f b k) (judge goal t (told_at f b k)) Holds (possible_at_lem f b small k valid)
      (λ e. follows_same goal t (worlds_of (told_at f b k)) (Told f b (worlds_of k)) (told_at_lem f b k) (judge goal t (told_at f b k)) (on (told_valid f b small k valid e)))

  pub judge_follows : (t : Steps) (k : Known) → IsState goal → Proper t → ValidStart k → Follows goal t (worlds_of k) (judge goal t k)
  unfolding Follows judge
  judge_follows (ends at) k ok proper valid = decided (λ v. v ≡ Holds) (covers_at goal k) Holds (Fails at GoalUnknown) (covers_at_lem goal k ok valid) (λ e. refl)
  judge_follows (gaps at) k ok proper valid = refl
  judge_follows (does at c add del t) k ok proper valid =
      let after = moved_at add del k in
      let still = moved_valid add del proper.1 proper.2 proper.3 k valid in
      decided (Follows goal t (Moved add del (worlds_of k))) (covers_at c k) (judge goal t after) (Fails at UnmetConditions) (covers_at_lem c k proper.0 valid)
      (λ e.
      follows_same goal t (worlds_of after) (Moved add del (worlds_of k)) (moved_at_lem add del proper.1 proper.2 proper.3 k valid) (judge goal t after)
      (judge_follows t after ok proper.4 still))
  judge_follows (reads at c f t e) k ok proper valid =
      let yea = cond (possible_at f true k) (judge goal t (told_at f true k)) Holds in
      let nay = cond (possible_at f false k) (judge goal e (told_at f false k)) Holds in
      decided (λ v. (u : Verdict) × Half t f true k u × Then u (Half e f false k v) v) (covers_at c k) (and_then yea nay) (Fails at UnmetConditions) (covers_at_lem c k proper.0 valid)
      (λ q. (
        yea,
        half_follows t f true k proper.1 valid (judge_follows t (told_at f true k) ok proper.2),
        then_next (Half e f false k) yea nay (half_follows e f false k proper.1 valid (judge_follows e (told_at f false k) ok proper.3)),
      ))
