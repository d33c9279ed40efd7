-- A file without a flaw is a string composed of frames, and such a string has no flaw. Assumes nothing.
use Rattle.std.proofs.Common.{◌≡◌, ℕ, zero, suc, ◌+◌, ◌-◌, ◌*◌, ◌/◌, ◌%◌, ◌<◌, ◌≤◌, Bool, true, false, ◌||◌, eqb, leb, ◌⊎◌, List, [], ◌∷◌, ◌++◌, length, get_or, take, drop, is_ok, None, Ok, Err, sum, Result, sym, refl, ap, ◌∙◌, inl, inr, append_assoc, arith, length-drop, eq-eqb, eqb-true, le-leb}
use borrow.Author.Tests.{lt-leb, both_ways}
use Rattle.std.specs.List.{flat_map, AllByRecursion}
use Rattle.std.proofs.lemmas.List.{drop-drop, drop_more, drop_all, take-append-drop, take_at, drop_at}
use Rattle.std.proofs.lemmas.Bool.{true≢false, and_left, and_right, or_left, or_cases}
use Rattle.std.proofs.lemmas.Bool.Decides.{nat_tests}
use Rattle.fluents.specs.declared.faults.Fault.{Fault}
use Rattle.frames.specs.Bytes.{little, little_bytes}
use Rattle.frames.specs.Frames.{frame_at, after_at, length_at, kind_at, is_whole, sum_holds, is_due, is_excess, is_fit, is_action, flaw_at}
use Rattle.frames.specs.Files.{Rest, File, Outline, with_action, with_header, rest_from, frames_of, outline_of}
use Rattle.frames.specs.Strings.{Content, body_of, bytes_of, Fit, Composed}
use Rattle.frames.specs.declared.frame.Due.{Due}
use Rattle.frames.specs.declared.frame.Due.TheVariants.{Header, Body, Start}
use Rattle.frames.proofs.Passed.{PlanIs, ActionIs, plan_passed, rest_passed, frames_passed}
use Rattle.frames.proofs.Parts.{little_at}
use Rattle.frames.proofs.Reading.{flawless, flawless_none, whole_le, payload_length, ok_err, rest_plan, rest_action, frames_rest, start_last}

-- ---- one frame

-- what the frame at place p holds
abbrev pub content_at : List ℕ → ℕ → Content
content_at s p = record { kind = kind_at s p; payload = (frame_at s p).payload }

fit_short : (k l : ℕ) → is_fit k l ≡ true → l < 65536
fit_short k l e = grind (arith, nat_tests)

word_of_bytes : (n : ℕ) → n < 65536 → n % 256 + 256 * (n / 256 % 256 + 0) ≡ n
word_of_bytes n h = omega arith

bytes_of_word : (s : List ℕ) (p : ℕ) → ((i : ℕ) → get_or s i 0 < 256) → little_bytes 2 (little 2 s p) ≡ get_or s p 0 ∷ get_or s (p + 1) 0 ∷ []
bytes_of_word s p small =
    let low : little 2 s p % 256 ≡ get_or s p 0 = omega (arith, small p, small (p + 1)) in
    let next : little 2 s p / 256 ≡ get_or s (p + 1) 0 = omega (arith, small p, small (p + 1)) in
    let high : get_or s (p + 1) 0 % 256 ≡ get_or s (p + 1) 0 = omega (arith, small (p + 1)) in
    cc

-- a frame that is whole: the bytes before its sum, its sum, and the rest of the file
frame_split : (s : List ℕ) (p n : ℕ) → p + n + 6 ≤ length s
    → drop p s ≡ take (n + 4) (drop p s) ++ (get_or s (p + n + 4) 0 ∷ get_or s (p + n + 4 + 1) 0 ∷ drop (p + n + 6) s)
frame_split s p n h =
    let at : p + (n + 4) ≡ p + n + 4 = omega arith in
    let on : p + n + 4 + 1 + 1 ≡ p + n + 6 = omega arith in
    let behind : drop (n + 4) (drop p s) ≡ get_or s (p + n + 4) 0 ∷ get_or s (p + n + 4 + 1) 0 ∷ drop (p + n + 6) s
    = drop-drop (n + 4) p s ∙ ap (λ (k : ℕ). drop k s) at
    ∙ drop_more s (p + n + 4) 0 (omega arith)
    ∙ ap (λ (xs : List ℕ). get_or s (p + n + 4) 0 ∷ xs) (drop_more s (p + n + 4 + 1) 0 (omega arith))
    ∙ ap (λ (k : ℕ). get_or s (p + n + 4) 0 ∷ get_or s (p + n + 4 + 1) 0 ∷ drop k s) on in
    sym (take-append-drop (n + 4) (drop p s)) ∙ ap (λ (xs : List ℕ). take (n + 4) (drop p s) ++ xs) behind

-- the bytes of a frame before its sum: the length, the kind and the payload
front_split : (s : List ℕ) (p n : ℕ) → p + 4 ≤ length s
    → take (n + 4) (drop p s) ≡ get_or s p 0 ∷ get_or s (p + 1) 0 ∷ get_or s (p + 2) 0 ∷ get_or s (p + 2 + 1) 0 ∷ take n (drop (p + 4) s)
front_split s p n h =
    let one : p + 1 + 1 ≡ p + 2 = omega arith in
    let two : p + 2 + 1 + 1 ≡ p + 4 = omega arith in
    let four : n + 4 ≡ suc (suc (suc (suc n))) = omega arith in
    let open_up : drop p s ≡ get_or s p 0 ∷ get_or s (p + 1) 0 ∷ get_or s (p + 2) 0 ∷ get_or s (p + 2 + 1) 0 ∷ drop (p + 4) s
    = drop_more s p 0 (omega arith)
    ∙ ap (λ (xs : List ℕ). get_or s p 0 ∷ xs) (drop_more s (p + 1) 0 (omega arith))
    ∙ ap (λ (k : ℕ). get_or s p 0 ∷ get_or s (p + 1) 0 ∷ drop k s) one
    ∙ ap (λ (xs : List ℕ). get_or s p 0 ∷ get_or s (p + 1) 0 ∷ xs) (drop_more s (p + 2) 0 (omega arith))
    ∙ ap (λ (xs : List ℕ). get_or s p 0 ∷ get_or s (p + 1) 0 ∷ get_or s (p + 2) 0 ∷ xs) (drop_more s (p + 2 + 1) 0 (omega arith))
    ∙ ap (λ (k : ℕ). get_or s p 0 ∷ get_or s (p + 1) 0 ∷ get_or s (p + 2) 0 ∷ get_or s (p + 2 + 1) 0 ∷ drop k s) two in
    ap (λ (k : ℕ). take k (drop p s)) four ∙ ap (λ (xs : List ℕ). take (suc (suc (suc (suc n)))) xs) open_up

body_is : (s : List ℕ) (p : ℕ) → ((i : ℕ) → get_or s i 0 < 256) → after_at s p ≤ length s
    → body_of (content_at s p) ≡ take (length_at s p + 4) (drop p s)
body_is s p small whole =
    let payload = (frame_at s p).payload in
    ap (λ (n : ℕ). little_bytes 2 n ++ (little_bytes 2 (kind_at s p) ++ payload)) (payload_length s p whole)
    ∙ ap (λ (xs : List ℕ). xs ++ (little_bytes 2 (kind_at s p) ++ payload)) (bytes_of_word s p small)
    ∙ ap (λ (xs : List ℕ). get_or s p 0 ∷ get_or s (p + 1) 0 ∷ (xs ++ payload)) (bytes_of_word s (p + 2) small)
    ∙ sym (front_split s p (length_at s p) (omega arith))

-- a frame without a flaw is the bytes of what it holds
pub frame_bytes : (s : List ℕ) (p : ℕ) (due : Due) → ((i : ℕ) → get_or s i 0 < 256) → flaw_at s p due ≡ None
    → drop p s ≡ bytes_of (content_at s p) ++ drop (after_at s p) s
frame_bytes s p due small e =
    let whole = whole_le s p due e in
    let n = length_at s p in
    let body = take (n + 4) (drop p s) in
    let held = eqb-true (sum body % 65536) (little 2 s (p + n + 4)) (flawless s p due e).sums in
    let behind = get_or s (p + n + 4) 0 ∷ get_or s (p + n + 4 + 1) 0 ∷ [] in
    let ends : little_bytes 2 (sum (body_of (content_at s p)) % 65536) ≡ behind
    = ap (λ (xs : List ℕ). little_bytes 2 (sum xs % 65536)) (body_is s p small whole)
    ∙ ap (little_bytes 2) held ∙ bytes_of_word s (p + n + 4) small in
    let mine : bytes_of (content_at s p) ≡ body ++ behind
    = ap (λ (xs : List ℕ). body_of (content_at s p) ++ xs) ends
    ∙ ap (λ (xs : List ℕ). xs ++ behind) (body_is s p small whole) in
    frame_split s p n whole
    ∙ sym (append_assoc body behind (drop (after_at s p) s))
    ∙ ap (λ (xs : List ℕ). xs ++ drop (after_at s p) s) (sym mine)

-- ---- the bytes of a frame, read again

-- from place p on the file has the bytes of a frame, and then the rest
module _ (s : List ℕ) (p : ℕ) (c : Content) (rest : List ℕ) (is : drop p s ≡ bytes_of c ++ rest) (fit : Fit c) where
  length_back : length_at s p ≡ length c.payload
  length_back = little_at s (bytes_of c ++ rest) p p 0 is (omega arith) ∙ word_of_bytes (length c.payload) (fit_short c.kind (length c.payload) fit)

  kind_back : c.kind < 65536 → kind_at s p ≡ c.kind
  kind_back small = little_at s (bytes_of c ++ rest) p (p + 2) 2 is refl ∙ word_of_bytes c.kind small

  body_back : take (length_at s p + 4) (drop p s) ≡ body_of c
  body_back =
      let long : length (body_of c) ≡ length_at s p + 4 = omega (arith, length_back) in
      ap (take (length_at s p + 4)) (is ∙ append_assoc (body_of c) (little_bytes 2 (sum (body_of c) % 65536)) rest)
      ∙ take_at (body_of c) (little_bytes 2 (sum (body_of c) % 65536) ++ rest) (length_at s p + 4) long

  behind_body : drop (p + length_at s p + 4) s ≡ little_bytes 2 (sum (body_of c) % 65536) ++ rest
  behind_body =
      let long : length (body_of c) ≡ length_at s p + 4 = omega (arith, length_back) in
      let at : p + length_at s p + 4 ≡ p + (length_at s p + 4) = omega arith in
      ap (λ (k : ℕ). drop k s) at ∙ sym (drop-drop (length_at s p + 4) p s)
      ∙ ap (drop (length_at s p + 4)) (is ∙ append_assoc (body_of c) (little_bytes 2 (sum (body_of c) % 65536)) rest)
      ∙ drop_at (body_of c) (little_bytes 2 (sum (body_of c) % 65536) ++ rest) (length_at s p + 4) long

  sum_back : sum_holds s p ≡ true
  sum_back =
      eq-eqb (sum (take (length_at s p + 4) (drop p s)) % 65536) (little 2 s (p + length_at s p + 4))
      (ap (λ (xs : List ℕ). sum xs % 65536) body_back
      ∙ sym (word_of_bytes (sum (body_of c) % 65536) (omega arith))
      ∙ sym (little_at s (little_bytes 2 (sum (body_of c) % 65536) ++ rest) (p + length_at s p + 4) (p + length_at s p + 4) 0 behind_body (omega arith)))

  rest_back : drop (after_at s p) s ≡ rest
  rest_back =
      let at : after_at s p ≡ p + length_at s p + 4 + 2 = omega arith in
      ap (λ (k : ℕ). drop k s) at ∙ sym (drop-drop 2 (p + length_at s p + 4) s) ∙ ap (drop 2) behind_body

  whole_back : is_whole s p ≡ true
  whole_back = le-leb (after_at s p) (length s) (omega (arith, length-drop (p + length_at s p + 4) s, ap length behind_body))

  -- it is read as that frame, where its kind is due
  pub frame_back : (due : Due) → c.kind < 65536 → is_due due c.kind ≡ true → is_excess due c.kind ≡ false → flaw_at s p due ≡ None
  frame_back due small dues room =
      let kind = kind_back small in
      flawless_none s p due (record {
        whole = whole_back;
        sums = sum_back;
        dues = ap (is_due due) kind ∙ dues;
        room = ap (is_excess due) kind ∙ room;
        fit = ap (λ (k : ℕ). is_fit k (length_at s p)) kind ∙ ap (is_fit c.kind) length_back ∙ fit;
      })

-- ---- the whole file

-- the kinds of a content, as tests
action_kind : (k : ℕ) → (k ≡ 2) ⊎ (k ≡ 3) → is_action k ≡ true
action_kind k (inl e) = ap is_action e
action_kind k (inr e) = ap is_action e

action_small : (k : ℕ) → (k ≡ 2) ⊎ (k ≡ 3) → k < 65536
action_small k (inl e) = omega arith
action_small k (inr e) = omega arith

start_small : (k : ℕ) → (k ≡ 5) ⊎ (k ≡ 6) → k < 65536
start_small k (inl e) = omega arith
start_small k (inr e) = omega arith

start_kind : (k : ℕ) → (k ≡ 5) ⊎ (k ≡ 6) → is_due Start k ≡ true
start_kind k (inl e) = ap (is_due Start) e
start_kind k (inr e) = ap (is_due Start) e

-- from place p on the file is some actions, a plan and a start: it is read to its end
rest_reads : (s : List ℕ) (actions : List Content) (plan start : Content) (room p : ℕ)
    → AllByRecursion (λ a. (a.kind ≡ 2) ⊎ (a.kind ≡ 3)) actions → plan.kind ≡ 4 → (start.kind ≡ 5) ⊎ (start.kind ≡ 6)
    → length actions ≤ room → AllByRecursion Fit (actions ++ plan ∷ start ∷ [])
    → drop p s ≡ flat_map bytes_of (actions ++ plan ∷ start ∷ [])
    → (rest : Rest) × (rest_from room s p ≡ Ok rest)
rest_reads s [] plan start room p kinds isPlan is_start few fits is =
    let tail = flat_map bytes_of (start ∷ []) in
    let at = after_at s p in
    let plain : is_action plan.kind ≡ false = ap is_action isPlan in
    let read = frame_back s p plan tail is fits.0 (Body (64 - room)) (omega arith) (ap (is_due (Body 64)) isPlan) (and_left (is_action plan.kind) (leb 64 (64 - room)) plain) in
    let noAction = ap is_action (kind_back s p plan tail is fits.0 (omega arith)) ∙ plain in
    let on = rest_back s p plan tail is fits.0 in
    let last = frame_back s at start [] on fits.1.0 Start (start_small start.kind is_start) (start_kind start.kind is_start) refl in
    let none = rest_back s at start [] on fits.1.0 in (
      record { actions = []; plan = frame_at s p; start = frame_at s at },
      rest_plan room s p read noAction
          ∙ start_last s (frame_at s p) at last (omega (arith, length-drop (after_at s at) s, ap length none)),
    )
rest_reads s (a ∷ more) plan start room p kinds isPlan is_start few fits is =
    let tail = flat_map bytes_of (more ++ plan ∷ start ∷ []) in
    let act = action_kind a.kind kinds.0 in
    let small = action_small a.kind kinds.0 in
    let open-yet : leb 64 (64 - room) ≡ false = lt-leb 64 (64 - room) (omega arith) in
    let read = frame_back s p a tail is fits.0 (Body (64 - room)) small (or_left (is_action a.kind) (eqb a.kind 4) act) (and_right (is_action a.kind) (leb 64 (64 - room)) open-yet) in
    let step = rest_action room s p read (ap is_action (kind_back s p a tail is fits.0 small) ∙ act) in
    let goes = rest_reads s more plan start (room - 1) (after_at s p) kinds.1 isPlan is_start (omega arith) fits.1 (rest_back s p a tail is fits.0) in (
      record { actions = frame_at s p ∷ goes.0.actions; plan = goes.0.plan; start = goes.0.start },
      step.1 ∙ ap (with_action (frame_at s p)) goes.1,
    )

-- a composed string has no flaw
pub composed_reads : (s : List ℕ) → Composed s → is_ok (frames_of s) ≡ true
composed_reads s c =
    let tail = flat_map bytes_of (c.actions ++ c.plan ∷ c.start ∷ []) in
    let kind = c.header_kind in
    let read = frame_back s 0 c.header tail c.bytes c.fit.0 Header (omega arith) (ap (is_due Header) kind) refl in
    let goes = rest_reads s c.actions c.plan c.start 64 (after_at s 0) c.action_kinds c.plan_kind c.start_kind c.few c.fit.1 (rest_back s 0 c.header tail c.bytes c.fit.0) in
    ap is_ok (frames_rest s read ∙ ap (with_header (frame_at s 0)) goes.1)

-- the other way: what was read to its end is composed

kind_of_action : (k : ℕ) → is_action k ≡ true → (k ≡ 2) ⊎ (k ≡ 3)
kind_of_action k e = elim (or_cases (eqb k 2) (eqb k 3) e) [ inl a ↦ inl (eqb-true k 2 a) | inr b ↦ inr (eqb-true k 3 b) ]

kind_of_start : (k : ℕ) → is_due Start k ≡ true → (k ≡ 5) ⊎ (k ≡ 6)
kind_of_start k e = elim (or_cases (eqb k 5) (eqb k 6) e) [ inl a ↦ inl (eqb-true k 5 a) | inr b ↦ inr (eqb-true k 6 b) ]

kind_of_plan : (k : ℕ) → is_action k ≡ false → (is_action k || eqb k 4) ≡ true → k ≡ 4
kind_of_plan k a e = elim (or_cases (is_action k) (eqb k 4) e) [ inl b ↦ absurd (both_ways (is_action k) a b) | inr b ↦ eqb-true k 4 b ]

fit_at : (s : List ℕ) (p : ℕ) (due : Due) → flaw_at s p due ≡ None → Fit (content_at s p)
fit_at s p due e = ap (is_fit (kind_at s p)) (payload_length s p (whole_le s p due e)) ∙ (flawless s p due e).fit

-- the bytes t are some actions, a plan and a start
record Tail (room : ℕ) (t : List ℕ) : Type 0 where
  actions : List Content
  plan : Content
  start : Content
  action_kinds : AllByRecursion (λ a. (a.kind ≡ 2) ⊎ (a.kind ≡ 3)) actions
  plan_kind : plan.kind ≡ 4
  start_kind : (start.kind ≡ 5) ⊎ (start.kind ≡ 6)
  few : length actions ≤ room
  fit : AllByRecursion Fit (actions ++ plan ∷ start ∷ [])
  bytes : t ≡ flat_map bytes_of (actions ++ plan ∷ start ∷ [])

module _ (s : List ℕ) (small : (i : ℕ) → get_or s i 0 < 256) where
  plan_tail : (room p : ℕ) (rest : Rest) → PlanIs room s p rest → Tail room (drop p s)
  plan_tail room p rest h =
      let at = after_at s p in
      let due = Body (64 - room) in
      let last = h.start.flaw in
      record {
        actions = [];
        plan = content_at s p;
        start = content_at s at;
        action_kinds = tt;
        plan_kind = kind_of_plan (kind_at s p) h.plan (flawless s p due h.flaw).dues;
        start_kind = kind_of_start (kind_at s at) (flawless s at Start last).dues;
        few = omega arith;
        fit = (fit_at s p due h.flaw, (fit_at s at Start last, tt));
        bytes =
            frame_bytes s p due small h.flaw
            ∙ ap (λ (xs : List ℕ). bytes_of (content_at s p) ++ xs) (frame_bytes s at Start small last)
            ∙ ap (λ (xs : List ℕ). bytes_of (content_at s p) ++ (bytes_of (content_at s at) ++ xs)) (drop_all (after_at s at) s h.start.end);
      }

  action_tail : (room p : ℕ) (rest : Rest) → ActionIs room s p rest → Tail room (drop (after_at s p) s) → Tail (suc room) (drop p s)
  action_tail room p rest h more =
      let due = Body (64 - suc room) in
      record {
        actions = content_at s p ∷ more.actions;
        plan = more.plan;
        start = more.start;
        action_kinds = (kind_of_action (kind_at s p) h.action, more.action_kinds);
        plan_kind = more.plan_kind;
        start_kind = more.start_kind;
        few = omega (arith, more.few);
        fit = (fit_at s p due h.flaw, more.fit);
        bytes = frame_bytes s p due small h.flaw ∙ ap (λ (xs : List ℕ). bytes_of (content_at s p) ++ xs) more.bytes;
      }

  rest_tail : (room p : ℕ) (rest : Rest) → rest_from room s p ≡ Ok rest → Tail room (drop p s)
  rest_tail zero p rest e = plan_tail zero p rest (plan_passed s p rest e)
  rest_tail (suc room) p rest e =
      elim (rest_passed room s p rest e) [
        | inl h ↦ plan_tail (suc room) p rest h
        | inr h ↦ action_tail room p rest h (rest_tail room (after_at s p) h.more h.goes)
      ]

  -- a file without a flaw is a composed string
  pub reads_composed : (file : File) → frames_of s ≡ Ok file → Composed s
  reads_composed file e =
      let h = frames_passed s file e in
      let tail = rest_tail 64 (after_at s 0) h.rest h.goes in
      record {
        header = content_at s 0;
        actions = tail.actions;
        plan = tail.plan;
        start = tail.start;
        header_kind = eqb-true (kind_at s 0) 1 (flawless s 0 Header h.flaw).dues;
        action_kinds = tail.action_kinds;
        plan_kind = tail.plan_kind;
        start_kind = tail.start_kind;
        few = tail.few;
        fit = (fit_at s 0 Header h.flaw, tail.fit);
        bytes = frame_bytes s 0 Header small h.flaw ∙ ap (λ (xs : List ℕ). bytes_of (content_at s 0) ++ xs) tail.bytes;
      }

ok_of : {A E : Type 0} (r : Result A E) → is_ok r ≡ true → (x : A) × (r ≡ Ok x)
ok_of (Ok x) e = (x, refl)
ok_of (Err y) e = absurd (true≢false (sym e))

pub outline_ok : (r : Result File Fault) (o : Outline) → outline_of r ≡ Ok o → is_ok r ≡ true
outline_ok (Ok file) o e = refl
outline_ok (Err fault) o e = ok_err (sym e)

-- a file is taken just where it is a composed string
pub strings : (s : List ℕ) (taken : Bool) → ((i : ℕ) → get_or s i 0 < 256) → taken ≡ is_ok (frames_of s)
    → (taken ≡ true → Composed s) × (Composed s → taken ≡ true)
strings s taken small same = (
  (λ e. let file = ok_of (frames_of s) (sym same ∙ e) in reads_composed s small file.0 file.1),
  (λ c. same ∙ composed_reads s c),
)
