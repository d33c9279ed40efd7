-- What a frame without a flaw is, and how the frames of a file follow one another. Assumes nothing.
use Rattle.std.proofs.Common.{◌≡◌, ℕ, zero, suc, ◌+◌, ◌-◌, ◌^◌, ◌<◌, ◌≤◌, min, Bool, true, false, cond, ◌&&◌, eqb, ltb, leb, List, [], length, drop, Some, None, Ok, Err, Option, Result, sym, refl, ap, ◌∙◌, subst, add-zero, arith, length-drop, length-take, le-ltb, lt-ltb, eq-eqb, eqb-true, leb-true}
use Rattle.fluents.specs.Refusals.{fault_at}
use Rattle.fluents.specs.declared.faults.Fault.{Fault}
use Rattle.fluents.specs.declared.faults.Refusal.{Refusal}
use Rattle.fluents.specs.declared.faults.Refusal.TheVariants.{Incomplete, WrongSum, UnexpectedKind, UnfitLength, TooManyActions}
use Rattle.frames.specs.Frames.{Frame, frame_at, after_at, length_at, kind_at, is_whole, sum_holds, is_due, is_excess, is_fit, is_action, flaw_at}
use Rattle.frames.specs.Files.{Rest, Outline, outline, unless, with_action, with_header, start_from, rest_from, frames_of, outline_from, outline_of, is_laid}
use Rattle.frames.specs.Seen.{Shows, payload_of}
use Rattle.frames.specs.declared.frame.Due.{Due}
use Rattle.frames.specs.declared.frame.Due.TheVariants.{Header, Body, Start}
use Rattle.frames.specs.declared.frame.Frame.{Frame as Held}

pub some_none : {A B : Type 0} {x : A} → Some x ≡ None → B
some_none {A} {B} {x} e = let z : ◌≡◌ {A = ℕ} 0 1 = cc in absurd (omega arith)

pub some_same : {A : Type 0} {x y : A} → Some x ≡ Some y → x ≡ y
some_same e = cc

-- every test that a frame has to pass
pub record Flawless (s : List ℕ) (p : ℕ) (due : Due) : Type 0 where
  pub whole : is_whole s p ≡ true
  pub sums : sum_holds s p ≡ true
  pub dues : is_due due (kind_at s p) ≡ true
  pub room : is_excess due (kind_at s p) ≡ false
  pub fit : is_fit (kind_at s p) (length_at s p) ≡ true

tests : Bool → Bool → Bool → Bool → Bool → Option Refusal
tests w h d x f = cond w (cond h (cond d (cond x (Some TooManyActions) (cond f None (Some UnfitLength))) (Some UnexpectedKind)) (Some WrongSum)) (Some Incomplete)

passed : (w h d x f : Bool) → tests w h d x f ≡ None → (w ≡ true) × (h ≡ true) × (d ≡ true) × (x ≡ false) × (f ≡ true)
unfolding tests
passed true true true false true e = (refl, refl, refl, refl, refl)
passed true true true false false e = some_none e
passed true true true true f e = some_none e
passed true true false x f e = some_none e
passed true false d x f e = some_none e
passed false h d x f e = some_none e

pub flawless : (s : List ℕ) (p : ℕ) (due : Due) → flaw_at s p due ≡ None → Flawless s p due
unfolding tests
flawless s p due e =
    let all = passed (is_whole s p) (sum_holds s p) (is_due due (kind_at s p)) (is_excess due (kind_at s p)) (is_fit (kind_at s p) (length_at s p)) e in
    record { whole = all.0; sums = all.1; dues = all.2; room = all.3; fit = all.4 }

pub flawless_none : (s : List ℕ) (p : ℕ) (due : Due) → Flawless s p due → flaw_at s p due ≡ None
flawless_none s p due h = rw (h.whole, h.sums, h.dues, h.room, h.fit) refl

pub whole_le : (s : List ℕ) (p : ℕ) (due : Due) → flaw_at s p due ≡ None → after_at s p ≤ length s
whole_le s p due e = leb-true (after_at s p) (length s) (flawless s p due e).whole

-- the payload of a whole frame has the length that the frame states
pub payload_length : (s : List ℕ) (p : ℕ) → after_at s p ≤ length s → length (frame_at s p).payload ≡ length_at s p
payload_length s p h = length-take (length_at s p) (drop (p + 4) s) ∙ (omega (arith, length-drop (p + 4) s))

-- the place just past a frame that the code holds
pub end_at : {r : ℕ} (s : List ℕ) (p : ℕ) (due : Due) (held : Held) → flaw_at s p due ≡ None → Shows held (frame_at s p) → length s < 2 ^ 64
    → r ≡ min ((payload_of held).place + length (payload_of held).bytes.now + 2) (2 ^ 64 - 1) → r ≡ after_at s p
end_at s p due held e shows small is =
    let whole = whole_le s p due e in
    let long = ap length shows.payload ∙ payload_length s p whole in
    omega (arith, long, shows.place, is)

-- ---- one frame on, where an action or the plan is due

pub rest_refused : (room : ℕ) (s : List ℕ) (p : ℕ) (why : Refusal) → flaw_at s p (Body (64 - room)) ≡ Some why → rest_from room s p ≡ Err (fault_at why p)
unfolding rest_from
rest_refused zero s p why e = ap (λ o. unless o p (start_from s (frame_at s p) (after_at s p))) e
rest_refused (suc room) s p why e =
    ap (λ o. unless o p (cond (is_action (kind_at s p)) (with_action (frame_at s p) (rest_from room s (after_at s p))) (start_from s (frame_at s p) (after_at s p)))) e

pub rest_plan : (room : ℕ) (s : List ℕ) (p : ℕ) → flaw_at s p (Body (64 - room)) ≡ None → is_action (kind_at s p) ≡ false
    → rest_from room s p ≡ start_from s (frame_at s p) (after_at s p)
unfolding rest_from
rest_plan zero s p e a = ap (λ o. unless o p (start_from s (frame_at s p) (after_at s p))) e
rest_plan (suc room) s p e a =
    ap (λ o. unless o p (cond (is_action (kind_at s p)) (with_action (frame_at s p) (rest_from room s (after_at s p))) (start_from s (frame_at s p) (after_at s p)))) e
    ∙ ap (λ b. cond b (with_action (frame_at s p) (rest_from room s (after_at s p))) (start_from s (frame_at s p) (after_at s p))) a

pub rest_action : (room : ℕ) (s : List ℕ) (p : ℕ) → flaw_at s p (Body (64 - room)) ≡ None → is_action (kind_at s p) ≡ true
    → (0 < room) × (rest_from room s p ≡ with_action (frame_at s p) (rest_from (room - 1) s (after_at s p)))
unfolding rest_from
rest_action zero s p e a =
    let full = (flawless s p (Body 64) e).room in
    let none : true ≡ false = sym (ap (λ b. b && leb 64 64) a) ∙ full in
    let z : ◌≡◌ {A = ℕ} 0 1 = cc in absurd (omega arith)
rest_action (suc room) s p e a = (
  omega arith,
  ap (λ o. unless o p (cond (is_action (kind_at s p)) (with_action (frame_at s p) (rest_from room s (after_at s p))) (start_from s (frame_at s p) (after_at s p)))) e
      ∙ ap (λ b. cond b (with_action (frame_at s p) (rest_from room s (after_at s p))) (start_from s (frame_at s p) (after_at s p))) a
      ∙ ap (λ n. with_action (frame_at s p) (rest_from n s (after_at s p))) (omega arith),
)

pub outline_action : (k : ℕ) (frame : Frame) (rest : Result Rest Fault) → outline_from k (with_action frame rest) ≡ outline_from (k + 1) rest
outline_action k frame (Ok rest) =
    ap (λ n. Ok (record { actions = n; plan = rest.plan.place; start = rest.start.place })) (omega arith)
outline_action k frame (Err fault) = refl

-- ---- the same, by how many actions have come

back : (k : ℕ) → k ≤ 64 → 64 - (64 - k) ≡ k
back k h = omega arith

at_room : (s : List ℕ) (p k : ℕ) (o : Option Refusal) → k ≤ 64 → flaw_at s p (Body k) ≡ o → flaw_at s p (Body (64 - (64 - k))) ≡ o
at_room s p k o h e = subst (λ (n : ℕ). flaw_at s p (Body n) ≡ o) (sym (back k h)) e

pub outline_refused : (s : List ℕ) (p k : ℕ) (fault : Fault) → k ≤ 64 → (flaw_at s p (Body k) ≡ Some fault.refusal) × (fault.place ≡ p)
    → outline_from k (rest_from (64 - k) s p) ≡ Err fault
outline_refused s p k fault h e =
    ap (outline_from k) (rest_refused (64 - k) s p fault.refusal (at_room s p k (Some fault.refusal) h e.0))
    ∙ ap (λ (q : ℕ). Err (fault_at fault.refusal q)) (sym e.1)

pub outline_plan : (s : List ℕ) (p k : ℕ) → k ≤ 64 → flaw_at s p (Body k) ≡ None → is_action (kind_at s p) ≡ false
    → outline_from k (rest_from (64 - k) s p) ≡ outline_from k (start_from s (frame_at s p) (after_at s p))
outline_plan s p k h e a = ap (outline_from k) (rest_plan (64 - k) s p (at_room s p k None h e) a)

pub outline_next : (s : List ℕ) (p k : ℕ) → k ≤ 64 → flaw_at s p (Body k) ≡ None → is_action (kind_at s p) ≡ true
    → (k + 1 ≤ 64) × (outline_from k (rest_from (64 - k) s p) ≡ outline_from (k + 1) (rest_from (64 - (k + 1)) s (after_at s p)))
outline_next s p k h e a =
    let step = rest_action (64 - k) s p (at_room s p k None h e) a in (
      omega (arith, step.0),
      ap (outline_from k) step.1
          ∙ outline_action k (frame_at s p) (rest_from (64 - k - 1) s (after_at s p))
          ∙ ap (λ (n : ℕ). outline_from (k + 1) (rest_from n s (after_at s p))) (omega arith),
    )

-- ---- the start, and the whole file

pub ok_err : {A E B : Type 0} {x : A} {y : E} → Ok x ≡ Err y → B
ok_err {A} {E} {B} {x} {y} e = let z : ◌≡◌ {A = ℕ} 0 1 = cc in absurd (omega arith)

outline_err : (k : ℕ) (rest : Result Rest Fault) (fault : Fault) → outline_from k rest ≡ Err fault → rest ≡ Err fault
outline_err k (Ok rest) fault e = ok_err e
outline_err k (Err f) fault e = cc

outline_header : (frame : Frame) (rest : Result Rest Fault) → outline_of (with_header frame rest) ≡ outline_from 0 rest
outline_header frame (Ok rest) = refl
outline_header frame (Err fault) = refl

pub frames_refused : (s : List ℕ) (fault : Fault) → (flaw_at s 0 Header ≡ Some fault.refusal) × (fault.place ≡ 0) → frames_of s ≡ Err fault
unfolding frames_of
frames_refused s fault e =
    ap (λ o. unless o 0 (with_header (frame_at s 0) (rest_from 64 s (after_at s 0)))) e.0
    ∙ ap (λ (q : ℕ). Err (fault_at fault.refusal q)) (sym e.1)

pub frames_rest : (s : List ℕ) → flaw_at s 0 Header ≡ None → frames_of s ≡ with_header (frame_at s 0) (rest_from 64 s (after_at s 0))
unfolding frames_of
frames_rest s e = ap (λ o. unless o 0 (with_header (frame_at s 0) (rest_from 64 s (after_at s 0)))) e

-- the frames behind the header were read from place p
pub frames_outline : (s : List ℕ) (p : ℕ) (r : Result Outline Fault) → flaw_at s 0 Header ≡ None → p ≡ after_at s 0
    → outline_from 0 (rest_from 64 s p) ≡ r → outline_of (frames_of s) ≡ r
frames_outline s p r e at h =
    ap outline_of (frames_rest s e) ∙ outline_header (frame_at s 0) (rest_from 64 s (after_at s 0))
    ∙ subst (λ (n : ℕ). outline_from 0 (rest_from 64 s n) ≡ r) at h

pub frames_err : (s : List ℕ) (p : ℕ) (fault : Fault) → flaw_at s 0 Header ≡ None → p ≡ after_at s 0
    → outline_from 0 (rest_from 64 s p) ≡ Err fault → frames_of s ≡ Err fault
frames_err s p fault e at h =
    frames_rest s e
    ∙ ap (with_header (frame_at s 0)) (outline_err 0 (rest_from 64 s (after_at s 0)) fault (subst (λ (n : ℕ). outline_from 0 (rest_from 64 s n) ≡ Err fault) at h))

pub start_refused : (s : List ℕ) (plan : Frame) (p : ℕ) (fault : Fault) → (flaw_at s p Start ≡ Some fault.refusal) × (fault.place ≡ p) → start_from s plan p ≡ Err fault
start_refused s plan p fault e =
    ap (λ o. unless o p (cond (ltb (after_at s p) (length s)) (Err (fault_at UnexpectedKind (after_at s p))) (Ok (record { actions = []; plan = plan; start = frame_at s p })))) e.0
    ∙ ap (λ (q : ℕ). Err (fault_at fault.refusal q)) (sym e.1)

start_on : (s : List ℕ) (plan : Frame) (p : ℕ) → flaw_at s p Start ≡ None
    → start_from s plan p ≡ cond (ltb (after_at s p) (length s)) (Err (fault_at UnexpectedKind (after_at s p))) (Ok (record { actions = []; plan = plan; start = frame_at s p }))
start_on s plan p e =
    ap (λ o. unless o p (cond (ltb (after_at s p) (length s)) (Err (fault_at UnexpectedKind (after_at s p))) (Ok (record { actions = []; plan = plan; start = frame_at s p })))) e

pub start_past : (s : List ℕ) (plan : Frame) (p : ℕ) → flaw_at s p Start ≡ None → after_at s p < length s → start_from s plan p ≡ Err (fault_at UnexpectedKind (after_at s p))
start_past s plan p e h =
    start_on s plan p e
    ∙ ap (λ b. cond b (Err (fault_at UnexpectedKind (after_at s p))) (Ok (record { actions = []; plan = plan; start = frame_at s p }))) (lt-ltb (after_at s p) (length s) h)

pub start_last : (s : List ℕ) (plan : Frame) (p : ℕ) → flaw_at s p Start ≡ None → length s ≤ after_at s p → start_from s plan p ≡ Ok (record { actions = []; plan = plan; start = frame_at s p })
start_last s plan p e h =
    start_on s plan p e
    ∙ ap (λ b. cond b (Err (fault_at UnexpectedKind (after_at s p))) (Ok (record { actions = []; plan = plan; start = frame_at s p }))) (le-ltb (after_at s p) (length s) h)

-- a file that was read to its end: where its frames lie
pub outline_read : (s : List ℕ) (held last : Held) (first past actions plan start : ℕ)
    → flaw_at s 0 Header ≡ None → Shows held (frame_at s 0)
    → first ≡ min ((payload_of held).place + length (payload_of held).bytes.now + 2) (2 ^ 64 - 1)
    → outline_from 0 (rest_from 64 s first) ≡ outline_from actions (start_from s (frame_at s plan) start)
    → flaw_at s start Start ≡ None → Shows last (frame_at s start)
    → past ≡ min ((payload_of last).place + length (payload_of last).bytes.now + 2) (2 ^ 64 - 1)
    → length s ≤ past → length s < 2 ^ 64 → outline_of (frames_of s) ≡ Ok (outline actions plan start)
outline_read s held last first past actions plan start flawless_header header end body flawless_start shown behind done small =
    let ended : first ≡ after_at s 0 = end_at s 0 Header held flawless_header header small end in
    let last_end : past ≡ after_at s start = end_at s start Start last flawless_start shown small behind in
    let all : length s ≤ after_at s start = omega (arith, last_end, done) in
    frames_outline s first (Ok (outline actions plan start)) flawless_header ended
    (body ∙ ap (outline_from actions) (start_last s (frame_at s plan) start flawless_start all)
    ∙ ap (λ (n : ℕ). Ok (outline n plan start)) (add-zero actions))

-- ---- the numbers that a selected file keeps

pub laid_from : (r : Result Outline Fault) (a p t : ℕ) → r ≡ Ok (outline a p t) → is_laid r a p t ≡ true
laid_from r a p t e =
    ap (λ x. is_laid x a p t) e ∙ ap (λ b. b && eqb p p && eqb t t) (eq-eqb a a refl) ∙ ap (λ b. true && b && eqb t t) (eq-eqb p p refl) ∙ eq-eqb t t refl

both : (a b : Bool) → (a && b) ≡ true → (a ≡ true) × (b ≡ true)
both true b e = (refl, e)
both false b e = let z : ◌≡◌ {A = ℕ} 0 1 = cc in absurd (omega arith)

pub laid_is : (r : Result Outline Fault) (a p t : ℕ) → is_laid r a p t ≡ true → r ≡ Ok (outline a p t)
laid_is (Ok o) a p t e =
    let outer = both (eqb o.actions a && eqb o.plan p) (eqb o.start t) e in
    let inner = both (eqb o.actions a) (eqb o.plan p) outer.0 in
    let x : o.actions ≡ a = eqb-true o.actions a inner.0 in
    let y : o.plan ≡ p = eqb-true o.plan p inner.1 in
    let z : o.start ≡ t = eqb-true o.start t outer.1 in
    λ i. Ok (outline (x i) (y i) (z i))
laid_is (Err fault) a p t e = let z : ◌≡◌ {A = ℕ} 0 1 = cc in absurd (omega arith)
