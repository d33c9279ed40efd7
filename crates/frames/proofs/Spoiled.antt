-- A byte of a frame that is replaced by another, behind the frame's length, breaks the frame's sum. Assumes nothing.
use Rattle.std.proofs.Common.{◌≡◌, ℕ, zero, suc, ◌+◌, ◌-◌, ◌%◌, ◌<◌, ◌≤◌, true, false, eqb, leb, ◌≢◌, ◌⊎◌, List, [], ◌∷◌, length, get_or, take, drop, set, Some, None, Ok, Err, sum, sym, refl, ap, ◌∙◌, subst, inl, inr, arith, length-drop, length-set, length-take, ne_eqb, eqb-true}
use lib.Seq.{take-set-lt}
use Rattle.std.proofs.lemmas.List.{get_or-set_same, get_or-set_other, get_or-take, get_or-drop, take-set-le, drop-take, drop-set-add}
use Rattle.std.proofs.lemmas.List.Sums.{sum_by-set}
use Rattle.std.proofs.lemmas.Bool.{cases_eq, cases_lt}
use Rattle.fluents.specs.Refusals.{fault_at}
use Rattle.fluents.specs.declared.faults.Refusal.TheVariants.{WrongSum}
use Rattle.frames.specs.Bytes.{little}
use Rattle.frames.specs.Frames.{Frame, frame_at, after_at, length_at, kind_at, is_whole, sum_holds, is_due, is_excess, is_fit, is_action, flaw_at}
use Rattle.frames.specs.Files.{Rest, File, with_action, with_header, start_from, rest_from, frames_of}
use Rattle.frames.specs.Spoiled.{rest_frames, all_frames, Among, SpoiledRefused}
use Rattle.frames.specs.declared.frame.Due.{Due}
use Rattle.frames.specs.declared.frame.Due.TheVariants.{Header, Body, Start}
use Rattle.frames.proofs.Passed.{PlanIs, ActionIs, plan_passed, rest_passed, frames_passed}
use Rattle.frames.proofs.Reading.{flawless, flawless_none, whole_le, rest_refused, rest_plan, rest_action, frames_refused, frames_rest, start_refused}

-- ---- what stands before the byte is as it was

little_kept : (s : List ℕ) (i v q : ℕ) → q ≢ i → q + 1 ≢ i → little 2 (set s i v) q ≡ little 2 s q
little_kept s i v q low high = omega (arith, get_or-set_other s i q v 0 low, get_or-set_other s i (q + 1) v 0 high)

part_kept : (s : List ℕ) (i v p n : ℕ) → p + n ≤ i → take n (drop p (set s i v)) ≡ take n (drop p s)
part_kept s i v p n h = sym (drop-take p n (set s i v)) ∙ ap (drop p) (take-set-le (p + n) s i v h) ∙ drop-take p n s

length_kept : (s : List ℕ) (i v p : ℕ) → p + 2 ≤ i → length_at (set s i v) p ≡ length_at s p
length_kept s i v p h = little_kept s i v p (omega arith) (omega arith)

after_kept : (s : List ℕ) (i v p : ℕ) → p + 2 ≤ i → after_at (set s i v) p ≡ after_at s p
after_kept s i v p h = ap (λ (n : ℕ). p + n + 6) (length_kept s i v p h)

whole_kept : (s : List ℕ) (i v p : ℕ) → p + 2 ≤ i → is_whole (set s i v) p ≡ is_whole s p
whole_kept s i v p h =
    ap (λ (n : ℕ). leb n (length (set s i v))) (after_kept s i v p h) ∙ ap (leb (after_at s p)) (length-set s i v)

-- a frame that ends before the byte
module _ (s : List ℕ) (i v p : ℕ) (before : after_at s p ≤ i) where
  kind_kept : kind_at (set s i v) p ≡ kind_at s p
  kind_kept = little_kept s i v (p + 2) (omega arith) (omega arith)

  sum_kept : sum_holds (set s i v) p ≡ sum_holds s p
  sum_kept =
      let t = set s i v in
      let n = length_at s p in
      ap (λ (k : ℕ). eqb (sum (take (k + 4) (drop p t)) % 65536) (little 2 t (p + k + 4))) (length_kept s i v p (omega arith))
      ∙ ap (λ (xs : List ℕ). eqb (sum xs % 65536) (little 2 t (p + n + 4))) (part_kept s i v p (n + 4) (omega arith))
      ∙ ap (eqb (sum (take (n + 4) (drop p s)) % 65536)) (little_kept s i v (p + n + 4) (omega arith) (omega arith))

  flaw_kept : (due : Due) → flaw_at s p due ≡ None → flaw_at (set s i v) p due ≡ None
  flaw_kept due e =
      let was = flawless s p due e in
      let t = set s i v in
      flawless_none t p due (record {
        whole = whole_kept s i v p (omega arith) ∙ was.whole;
        sums = sum_kept ∙ was.sums;
        dues = ap (is_due due) kind_kept ∙ was.dues;
        room = ap (is_excess due) kind_kept ∙ was.room;
        fit = ap (λ (k : ℕ). is_fit k (length_at t p)) kind_kept ∙ ap (is_fit (kind_at s p)) (length_kept s i v p (omega arith)) ∙ was.fit;
      })

-- ---- the frame that the byte is a part of

sums_differ : (a b x v : ℕ) → b + x ≡ a + v → x < 256 → v < 256 → v ≢ x → b % 65536 ≡ a % 65536 → ⊥
sums_differ a b x v e xs vs d same = omega arith

module _ (s : List ℕ) (small : (i : ℕ) → get_or s i 0 < 256) (i v : ℕ) (byte : v < 256) (other : v ≢ get_or s i 0) where
  -- the byte is of the kind or the payload: the sum of the bytes is another, and the stored one is as it was
  body_spoiled : (p n : ℕ) → p + n + 6 ≤ length s → p ≤ i → i < p + n + 4
      → sum (take (n + 4) (drop p s)) % 65536 ≡ little 2 s (p + n + 4)
      → sum (take (n + 4) (drop p (set s i v))) % 65536 ≡ little 2 (set s i v) (p + n + 4) → ⊥
  body_spoiled p n whole from to was now =
      let j = i - p in
      let body = take (n + 4) (drop p s) in
      let at : p + j ≡ i = omega arith in
      let below : j < n + 4 = omega arith in
      let inside : j < length body = omega (arith, length-take (n + 4) (drop p s), length-drop p s) in
      let changed : take (n + 4) (drop p (set s i v)) ≡ set body j v
      = ap (λ (k : ℕ). take (n + 4) (drop p (set s k v))) (sym at) ∙ ap (take (n + 4)) (drop-set-add p s j v) ∙ take-set-lt (n + 4) (drop p s) j v below in
      let old : get_or body j 0 ≡ get_or s i 0 = get_or-take (n + 4) (drop p s) j 0 below ∙ get_or-drop p s j 0 ∙ ap (λ (k : ℕ). get_or s k 0) at in
      let total : sum (set body j v) + get_or s i 0 ≡ sum body + v
      = ap (λ (x : ℕ). sum (set body j v) + x) (sym old) ∙ sum_by-set (λ x. x) body j v 0 inside in
      sums_differ (sum body) (sum (set body j v)) (get_or s i 0) v total (small i) byte other
      (ap (λ (xs : List ℕ). sum xs % 65536) (sym changed) ∙ now ∙ little_kept s i v (p + n + 4) (omega arith) (omega arith) ∙ sym was)

  -- the byte is one of the two that store the sum: the stored sum is another, and the sum of the bytes is as it was
  stored_spoiled : (q : ℕ) → q + 2 ≤ length s → q ≤ i → i < q + 2 → little 2 (set s i v) q ≡ little 2 s q → ⊥
  stored_spoiled q whole from to same =
      let new : get_or (set s i v) i 0 ≡ v = get_or-set_same s i v 0 (omega arith) in
      elim (cases_eq q i) [
        | inl e ↦ let was : get_or s q 0 ≡ get_or s i 0 = ap (λ (k : ℕ). get_or s k 0) e in
            let now : get_or (set s i v) q 0 ≡ v = ap (λ (k : ℕ). get_or (set s i v) k 0) e ∙ new in
            let next : get_or (set s i v) (q + 1) 0 ≡ get_or s (q + 1) 0 = get_or-set_other s i (q + 1) v 0 (omega arith) in
            omega (arith, same, other)
        | inr d ↦ let e : q + 1 ≡ i = omega arith in
            let was : get_or s (q + 1) 0 ≡ get_or s i 0 = ap (λ (k : ℕ). get_or s k 0) e in
            let now : get_or (set s i v) (q + 1) 0 ≡ v = ap (λ (k : ℕ). get_or (set s i v) k 0) e ∙ new in
            let next : get_or (set s i v) q 0 ≡ get_or s q 0 = get_or-set_other s i q v 0 d in
            omega (arith, same, other)
      ]

  sum_spoiled : (p : ℕ) → after_at s p ≤ length s → sum_holds s p ≡ true → p + 2 ≤ i → i < after_at s p → sum_holds (set s i v) p ≡ false
  sum_spoiled p whole was from to =
      let t = set s i v in
      let n = length_at s p in
      let held = eqb-true (sum (take (n + 4) (drop p s)) % 65536) (little 2 s (p + n + 4)) was in
      ap (λ (k : ℕ). eqb (sum (take (k + 4) (drop p t)) % 65536) (little 2 t (p + k + 4))) (length_kept s i v p from)
      ∙ ne_eqb (sum (take (n + 4) (drop p t)) % 65536) (little 2 t (p + n + 4))
      (λ now.
      elim (cases_lt i (p + n + 4)) [
        | inl body ↦ body_spoiled p n whole (omega arith) body held now
        | inr stored ↦ stored_spoiled (p + n + 4) (omega arith) stored (omega arith)
            (sym now ∙ ap (λ (xs : List ℕ). sum xs % 65536) (part_kept s i v p (n + 4) (omega arith)) ∙ held)
      ])

  -- the frame at place p is refused for its sum
  flaw_spoiled : (p q : ℕ) (due : Due) → q ≡ p → flaw_at s p due ≡ None → q + 2 ≤ i → i < after_at s q → flaw_at (set s i v) p due ≡ Some WrongSum
  flaw_spoiled p q due at e from to =
      let was = flawless s p due e in
      let behind : i < after_at s p = subst (λ (k : ℕ). i < after_at s k) at to in
      let whole = whole_kept s i v p (omega arith) ∙ was.whole in
      let sums = sum_spoiled p (whole_le s p due e) was.sums (omega arith) behind in
      rw (whole, sums) refl

  -- ---- the way up to that frame is as it was

  -- the place of a frame among those behind place p is not before p, and the reading from p on ends there
  abbrev Stops : ℕ → ℕ → Frame → Type 0
  Stops room p frame = (p ≤ frame.place) × (rest_from room (set s i v) p ≡ Err (fault_at WrongSum frame.place))

  stops_here : (room p : ℕ) (frame : Frame) → frame ≡ frame_at s p → flaw_at s p (Body (64 - room)) ≡ None
      → frame.place + 2 ≤ i → i < after_at s frame.place → Stops room p frame
  stops_here room p frame is e from to =
      let at : frame.place ≡ p = ap (λ (f : Frame). f.place) is in (
        omega (arith, at),
        rest_refused room (set s i v) p WrongSum (flaw_spoiled p frame.place (Body (64 - room)) at e from to)
            ∙ ap (λ (k : ℕ). Err (fault_at WrongSum k)) (sym at),
      )

  stops_at_start : (room p : ℕ) (rest : Rest) (frame : Frame) → PlanIs room s p rest → frame ≡ frame_at s (after_at s p)
      → frame.place + 2 ≤ i → i < after_at s frame.place → Stops room p frame
  stops_at_start room p rest frame h is from to =
      let t = set s i v in
      let at : frame.place ≡ after_at s p = ap (λ (f : Frame). f.place) is in
      let before : after_at s p ≤ i = omega (arith, at) in
      let on = flaw_kept s i v p before (Body (64 - room)) h.flaw in
      let plan = ap is_action (kind_kept s i v p before) ∙ h.plan in (
        omega (arith, at),
        rest_plan room t p on plan
            ∙ ap (start_from t (frame_at t p)) (after_kept s i v p (omega arith))
            ∙ start_refused t (frame_at t p) (after_at s p) (fault_at WrongSum frame.place)
            (flaw_spoiled (after_at s p) frame.place Start at h.start.flaw from to, at),
      )

  stops_plan : (room p : ℕ) (rest : Rest) (frame : Frame) → PlanIs room s p rest → Among frame (rest_frames rest)
      → frame.place + 2 ≤ i → i < after_at s frame.place → Stops room p frame
  stops_plan room p rest frame h among from to =
      let those : Among frame (frame_at s p ∷ frame_at s (after_at s p) ∷ []) = subst (λ (r : Rest). Among frame (rest_frames r)) h.start.is among in
      elim those [
        | inl is ↦ stops_here room p frame is h.flaw from to
        | inr (inl is) ↦ stops_at_start room p rest frame h is from to
        | inr (inr none) ↦ absurd none
      ]

  stops_behind : (room p : ℕ) (rest : Rest) (frame : Frame) → ActionIs room s p rest → Stops room (after_at s p) frame
      → frame.place + 2 ≤ i → Stops (suc room) p frame
  stops_behind room p rest frame h more from =
      let t = set s i v in
      let before : after_at s p ≤ i = omega (arith, more.0) in
      let on = flaw_kept s i v p before (Body (64 - suc room)) h.flaw in
      let action = ap is_action (kind_kept s i v p before) ∙ h.action in
      let down : suc room - 1 ≡ room = omega arith in (
        omega (arith, more.0),
        (rest_action (suc room) t p on action).1
            ∙ ap (λ (n : ℕ). with_action (frame_at t p) (rest_from n t (after_at t p))) down
            ∙ ap (λ (k : ℕ). with_action (frame_at t p) (rest_from room t k)) (after_kept s i v p (omega arith))
            ∙ ap (with_action (frame_at t p)) more.1,
      )

  stops : (room p : ℕ) (rest : Rest) (frame : Frame) → rest_from room s p ≡ Ok rest → Among frame (rest_frames rest)
      → frame.place + 2 ≤ i → i < after_at s frame.place → Stops room p frame
  stops zero p rest frame e among from to = stops_plan zero p rest frame (plan_passed s p rest e) among from to
  stops (suc room) p rest frame e among from to =
      elim (rest_passed room s p rest e) [
        | inl h ↦ stops_plan (suc room) p rest frame h among from to
        | inr h ↦
            let those : (frame ≡ frame_at s p) ⊎ Among frame (rest_frames h.more) = subst (λ (r : Rest). Among frame (rest_frames r)) h.is among in
            elim those [
              | inl is ↦ stops_here (suc room) p frame is h.flaw from to
              | inr later ↦ stops_behind room p rest frame h (stops room (after_at s p) h.more frame h.goes later from to) from
            ]
      ]

  stops_file : (file : File) (frame : Frame) → frames_of s ≡ Ok file → Among frame (all_frames file)
      → frame.place + 2 ≤ i → i < after_at s frame.place → frames_of (set s i v) ≡ Err (fault_at WrongSum frame.place)
  stops_file file frame e among from to =
      let t = set s i v in
      let h = frames_passed s file e in
      let those : (frame ≡ frame_at s 0) ⊎ Among frame (rest_frames h.rest) = subst (λ (f : File). Among frame (all_frames f)) h.is among in
      elim those [
        | inl is ↦
            let at : frame.place ≡ 0 = ap (λ (f : Frame). f.place) is in
            frames_refused t (fault_at WrongSum frame.place) (flaw_spoiled 0 frame.place Header at h.flaw from to, at)
        | inr later ↦
            let more = stops 64 (after_at s 0) h.rest frame h.goes later from to in
            let before : after_at s 0 ≤ i = omega (arith, more.0) in
            frames_rest t (flaw_kept s i v 0 before Header h.flaw)
            ∙ ap (λ (k : ℕ). with_header (frame_at t 0) (rest_from 64 t k)) (after_kept s i v 0 (omega arith))
            ∙ ap (with_header (frame_at t 0)) more.1
      ]

pub spoiled_refused : (s : List ℕ) → ((i : ℕ) → get_or s i 0 < 256) → SpoiledRefused s
spoiled_refused s small file e frame among i v from to byte other = stops_file s small i v byte other file frame e among from to
