-- The frames of a selected file, one after another. Assumes nothing.
use Rattle.std.proofs.Common.{◌≡◌, ℕ, zero, suc, ◌+◌, ◌-◌, ◌<◌, ◌≤◌, true, false, eqb, ◌⊎◌, List, [], ◌∷◌, length, get_or, drop, None, Ok, Result, sym, refl, ap, ◌∙◌, subst, inl, inr, arith, eqb-true}
use Rattle.std.proofs.lemmas.List.{length-drop, drop-drop, get_or-drop}
use Rattle.frames.specs.Frames.{Frame, frame_at, after_at, length_at, kind_at, is_action, is_fit, flaw_at}
use Rattle.frames.specs.Files.{Rest, File, rest_from, frames_of}
use Rattle.frames.specs.declared.frame.Due.TheVariants.{Header, Body, Start}
use Rattle.frames.proofs.Passed.{PlanIs, ActionIs, plan_passed, rest_passed, frames_passed}
use Rattle.frames.proofs.Reading.{flawless}

pub ok_same : {A E : Type 0} {x y : A} → ◌≡◌ {A = Result A E} (Ok x) (Ok y) → x ≡ y
ok_same e = cc

-- ---- an action, or the plan and the start

-- action k comes at place p
pub record Next (k : ℕ) (s : List ℕ) (p : ℕ) (rest : Rest) : Type 0 where
  pub tail : Rest
  pub within : k + 1 ≤ 64
  pub sound : flaw_at s p (Body k) ≡ None
  pub action : is_action (kind_at s p) ≡ true
  pub goes_on : rest_from (64 - (k + 1)) s (after_at s p) ≡ Ok tail
  pub is : rest ≡ record { actions = frame_at s p ∷ tail.actions; plan = tail.plan; start = tail.start }

pub next_action : (k : ℕ) (s : List ℕ) (p : ℕ) (rest : Rest) → k ≤ 64 → rest_from (64 - k) s p ≡ Ok rest → 0 < length rest.actions → Next k s p rest
next_action k s p rest h e some = at (64 - k) refl e
  where
    none : {room : ℕ} → PlanIs room s p rest → Next k s p rest
    none plan = absurd (omega (arith, some, ap (λ r. length r.actions) plan.start.is))

    at : (room : ℕ) → 64 - k ≡ room → rest_from room s p ≡ Ok rest → Next k s p rest
    at zero r f = none (plan_passed s p rest f)
    at (suc room) r f = go (rest_passed room s p rest f)
      where
        go : PlanIs (suc room) s p rest ⊎ ActionIs room s p rest → Next k s p rest
        go (inl plan) = none plan
        go (inr a) =
            record {
              tail = a.more;
              within = omega (arith, r);
              sound = subst (λ (n : ℕ). flaw_at s p (Body n) ≡ None) (omega (arith, r)) a.flaw;
              action = a.action;
              goes_on = subst (λ (n : ℕ). rest_from n s (after_at s p) ≡ Ok a.more) (omega (arith, r)) a.goes;
              is = a.is;
            }

-- after the last action the plan comes at place p, and the start behind it
pub record Ending (k : ℕ) (s : List ℕ) (p : ℕ) (rest : Rest) : Type 0 where
  pub sound : flaw_at s p (Body k) ≡ None
  pub no_action : is_action (kind_at s p) ≡ false
  pub start_sound : flaw_at s (after_at s p) Start ≡ None
  pub is : rest ≡ record { actions = []; plan = frame_at s p; start = frame_at s (after_at s p) }

pub next_plan : (k : ℕ) (s : List ℕ) (p : ℕ) (rest : Rest) → k ≤ 64 → rest_from (64 - k) s p ≡ Ok rest → length rest.actions ≡ 0 → Ending k s p rest
next_plan k s p rest h e none = at (64 - k) refl e
  where
    ends : (room : ℕ) → 64 - k ≡ room → PlanIs room s p rest → Ending k s p rest
    ends room r plan =
        record {
          sound = subst (λ (n : ℕ). flaw_at s p (Body n) ≡ None) (omega (arith, r)) plan.flaw;
          no_action = plan.plan;
          start_sound = plan.start.flaw;
          is = plan.start.is;
        }

    at : (room : ℕ) → 64 - k ≡ room → rest_from room s p ≡ Ok rest → Ending k s p rest
    at zero r f = ends zero r (plan_passed s p rest f)
    at (suc room) r f = go (rest_passed room s p rest f)
      where
        go : PlanIs (suc room) s p rest ⊎ ActionIs room s p rest → Ending k s p rest
        go (inl plan) = ends (suc room) r plan
        go (inr a) = absurd (omega (arith, none, ap (λ r. length r.actions) a.is))

-- ---- the header

pub record Opening (s : List ℕ) (file : File) : Type 0 where
  pub sound : flaw_at s 0 Header ≡ None
  pub header : file.header ≡ frame_at s 0
  pub behind : after_at s 0 ≡ 23
  pub goes_on : rest_from 64 s 23 ≡ Ok file.rest

pub header_length : (k l : ℕ) → eqb k 1 ≡ true → is_fit k l ≡ true → l ≡ 17
header_length k l one fit = eqb-true l 17 (rw one at fit)

pub opening : (s : List ℕ) (file : File) → frames_of s ≡ Ok file → Opening s file
opening s file e =
    let first = frames_passed s file e in
    let all = flawless s 0 Header first.flaw in
    let long : length_at s 0 ≡ 17 = header_length (kind_at s 0) (length_at s 0) all.dues all.fit in
    let at : after_at s 0 ≡ 23 = omega (arith, long) in
    record {
      sound = first.flaw;
      header = ap (λ x. x.header) first.is;
      behind = at;
      goes_on = subst (λ (n : ℕ). rest_from 64 s n ≡ Ok first.rest) at first.goes ∙ ap (λ x. Ok x.rest) (sym first.is);
    }

-- ---- the plan and the start, behind all actions

pub record Tail (s : List ℕ) (count : ℕ) (rest : Rest) : Type 0 where
  pub plan_sound : flaw_at s rest.plan.place (Body count) ≡ None
  pub plan_is : rest.plan ≡ frame_at s rest.plan.place
  pub start_sound : flaw_at s rest.start.place Start ≡ None
  pub start_is : rest.start ≡ frame_at s rest.start.place

tail_at : (m k : ℕ) (s : List ℕ) (p : ℕ) (rest : Rest) → length rest.actions ≡ m → k ≤ 64 → rest_from (64 - k) s p ≡ Ok rest → Tail s (k + m) rest
tail_at zero k s p rest none h e =
    let last = next_plan k s p rest h e none in
    let plan : rest.plan ≡ frame_at s p = ap (λ r. r.plan) last.is in
    let start : rest.start ≡ frame_at s (after_at s p) = ap (λ r. r.start) last.is in
    let at : rest.plan.place ≡ p = ap (λ f. f.place) plan in
    let at' : rest.start.place ≡ after_at s p = ap (λ f. f.place) start in
    record {
      plan_sound = subst (λ (n : ℕ). flaw_at s rest.plan.place (Body n) ≡ None) (omega arith) (subst (λ (q : ℕ). flaw_at s q (Body k) ≡ None) (sym at) last.sound);
      plan_is = plan ∙ ap (frame_at s) (sym at);
      start_sound = subst (λ (q : ℕ). flaw_at s q Start ≡ None) (sym at') last.start_sound;
      start_is = start ∙ ap (frame_at s) (sym at');
    }
tail_at (suc m) k s p rest some h e =
    let next = next_action k s p rest h e (omega arith) in
    let cut : length next.tail.actions ≡ m = omega (arith, ap (λ r. length r.actions) next.is) in
    let later = tail_at m (k + 1) s (after_at s p) next.tail cut next.within next.goes_on in
    let plan : rest.plan ≡ next.tail.plan = ap (λ r. r.plan) next.is in
    let start : rest.start ≡ next.tail.start = ap (λ r. r.start) next.is in
    record {
      plan_sound = subst (λ (n : ℕ). flaw_at s rest.plan.place (Body n) ≡ None) (omega arith) (subst (λ f. flaw_at s f.place (Body (k + 1 + m)) ≡ None) (sym plan) later.plan_sound);
      plan_is = subst (λ f. f ≡ frame_at s f.place) (sym plan) later.plan_is;
      start_sound = subst (λ f. flaw_at s f.place Start ≡ None) (sym start) later.start_sound;
      start_is = subst (λ f. f ≡ frame_at s f.place) (sym start) later.start_is;
    }

pub tail_of : (s : List ℕ) (file : File) → frames_of s ≡ Ok file → Tail s (length file.rest.actions) file.rest
tail_of s file e =
    let got = tail_at (length file.rest.actions) 0 s 23 file.rest refl (omega arith) (opening s file e).goes_on in
    subst (λ (n : ℕ). Tail s n file.rest) (omega arith) got

-- ---- the place of an action

-- the frames of the actions from number k on begin at place p
pub record Reached (s : List ℕ) (whole : File) (k p : ℕ) : Type 0 where
  pub rest : Rest
  pub within : k ≤ 64
  pub here : rest_from (64 - k) s p ≡ Ok rest
  pub left : rest.actions ≡ drop k whole.rest.actions

pub reached_first : (s : List ℕ) (whole : File) → frames_of s ≡ Ok whole → Reached s whole 0 23
reached_first s whole e = record { rest = whole.rest; within = omega arith; here = (opening s whole e).goes_on; left = refl }

module _ (s : List ℕ) (whole : File) (k p : ℕ) (r : Reached s whole k p) (more : k < length whole.rest.actions) where
  pub reached_next : Next k s p r.rest
  reached_next = next_action k s p r.rest r.within r.here (omega (arith, ap length r.left, length-drop k whole.rest.actions))

  cut : drop k whole.rest.actions ≡ frame_at s p ∷ reached_next.tail.actions
  cut = sym r.left ∙ ap (λ x. x.actions) reached_next.is

  pub reached_frame : (d : Frame) → get_or whole.rest.actions k d ≡ frame_at s p
  reached_frame d = ap (λ (n : ℕ). get_or whole.rest.actions n d) (omega arith) ∙ sym (get_or-drop k whole.rest.actions 0 d) ∙ ap (λ xs. get_or xs 0 d) cut

  pub reached_more : Reached s whole (k + 1) (after_at s p)
  reached_more =
      record {
        rest = reached_next.tail;
        within = reached_next.within;
        here = reached_next.goes_on;
        left = sym (ap (drop 1) cut) ∙ drop-drop 1 k whole.rest.actions;
      }
