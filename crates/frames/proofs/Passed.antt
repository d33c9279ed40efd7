-- What is known of the frames of a file that was read to its end. Assumes nothing.
use Rattle.std.proofs.Common.{◌≡◌, ℕ, zero, suc, ◌-◌, ◌≤◌, Bool, true, false, cond, ltb, ◌⊎◌, List, [], ◌∷◌, length, Some, None, Ok, Err, Option, Result, sym, refl, inl, inr, ltb-false}
use Rattle.std.proofs.lemmas.Bool.{true≢false, and_cases}
use Rattle.fluents.specs.Refusals.{fault_at}
use Rattle.fluents.specs.declared.faults.Fault.{Fault}
use Rattle.fluents.specs.declared.faults.Refusal.{Refusal}
use Rattle.fluents.specs.declared.faults.Refusal.TheVariants.{UnexpectedKind}
use Rattle.frames.specs.Frames.{Frame, frame_at, after_at, kind_at, is_action, flaw_at}
use Rattle.frames.specs.Files.{Rest, File, unless, with_action, with_header, start_from, rest_from, frames_of}
use Rattle.frames.specs.declared.frame.Due.TheVariants.{Header, Body, Start}
use Rattle.frames.proofs.Reading.{ok_err, flawless}

unless_ok : {A : Type 0} (o : Option Refusal) (p : ℕ) (more : Result A Fault) (x : A) → unless o p more ≡ Ok x → (o ≡ None) × (more ≡ Ok x)
unless_ok None p more x e = (refl, e)
unless_ok (Some why) p more x e = ok_err (sym e)

action_ok : (frame : Frame) (r : Result Rest Fault) (rest : Rest) → with_action frame r ≡ Ok rest
    → (more : Rest) × (r ≡ Ok more) × (rest ≡ record { actions = frame ∷ more.actions; plan = more.plan; start = more.start })
action_ok frame (Ok more) rest e = (more, refl, cc)
action_ok frame (Err fault) rest e = ok_err (sym e)

header_ok : (frame : Frame) (r : Result Rest Fault) (file : File) → with_header frame r ≡ Ok file
    → (rest : Rest) × (r ≡ Ok rest) × (file ≡ record { header = frame; rest = rest })
header_ok frame (Ok rest) file e = (rest, refl, cc)
header_ok frame (Err fault) file e = ok_err (sym e)

-- the start is at place p, and the file ends with it
pub record StartIs (s : List ℕ) (plan : Frame) (p : ℕ) (rest : Rest) : Type 0 where
  pub flaw : flaw_at s p Start ≡ None
  pub end : length s ≤ after_at s p
  pub is : rest ≡ record { actions = []; plan = plan; start = frame_at s p }

-- the plan is at place p, and the start behind it
pub record PlanIs (room : ℕ) (s : List ℕ) (p : ℕ) (rest : Rest) : Type 0 where
  pub flaw : flaw_at s p (Body (64 - room)) ≡ None
  pub plan : is_action (kind_at s p) ≡ false
  pub start : StartIs s (frame_at s p) (after_at s p) rest

-- an action is at place p, and the reading goes on behind it
pub record ActionIs (room : ℕ) (s : List ℕ) (p : ℕ) (rest : Rest) : Type 0 where
  pub flaw : flaw_at s p (Body (64 - suc room)) ≡ None
  pub action : is_action (kind_at s p) ≡ true
  pub more : Rest
  pub goes : rest_from room s (after_at s p) ≡ Ok more
  pub is : rest ≡ record { actions = frame_at s p ∷ more.actions; plan = more.plan; start = more.start }

pub record HeaderIs (s : List ℕ) (file : File) : Type 0 where
  pub flaw : flaw_at s 0 Header ≡ None
  pub rest : Rest
  pub goes : rest_from 64 s (after_at s 0) ≡ Ok rest
  pub is : file ≡ record { header = frame_at s 0; rest = rest }

start_at_end : (b : Bool) (s : List ℕ) (plan : Frame) (p : ℕ) (rest : Rest) → ltb (after_at s p) (length s) ≡ b
    → cond b (Err (fault_at UnexpectedKind (after_at s p))) (Ok (record { actions = []; plan = plan; start = frame_at s p })) ≡ Ok rest
    → (length s ≤ after_at s p) × (rest ≡ record { actions = []; plan = plan; start = frame_at s p })
start_at_end true s plan p rest t e = ok_err (sym e)
start_at_end false s plan p rest t e = (ltb-false (after_at s p) (length s) t, cc)

pub start_passed : (s : List ℕ) (plan : Frame) (p : ℕ) (rest : Rest) → start_from s plan p ≡ Ok rest → StartIs s plan p rest
start_passed s plan p rest e =
    let on = unless_ok (flaw_at s p Start) p (cond (ltb (after_at s p) (length s)) (Err (fault_at UnexpectedKind (after_at s p))) (Ok (record { actions = []; plan = plan; start = frame_at s p }))) rest e in
    let end = start_at_end (ltb (after_at s p) (length s)) s plan p rest refl on.1 in
    record { flaw = on.0; end = end.0; is = end.1 }

-- no room is left for an action, so the plan is due
pub plan_passed : (s : List ℕ) (p : ℕ) (rest : Rest) → rest_from zero s p ≡ Ok rest → PlanIs zero s p rest
unfolding rest_from
plan_passed s p rest e =
    let on = unless_ok (flaw_at s p (Body 64)) p (start_from s (frame_at s p) (after_at s p)) rest e in
    let plan : is_action (kind_at s p) ≡ false
    = elim (and_cases (is_action (kind_at s p)) true (flawless s p (Body 64) on.0).room) [ inl no_action ↦ no_action | inr never ↦ absurd (true≢false never) ] in
    record { flaw = on.0; plan = plan; start = start_passed s (frame_at s p) (after_at s p) rest on.1 }

branch_ok : (b : Bool) (room : ℕ) (s : List ℕ) (p : ℕ) (rest : Rest) → flaw_at s p (Body (64 - suc room)) ≡ None → is_action (kind_at s p) ≡ b
    → cond b (with_action (frame_at s p) (rest_from room s (after_at s p))) (start_from s (frame_at s p) (after_at s p)) ≡ Ok rest
    → PlanIs (suc room) s p rest ⊎ ActionIs room s p rest
branch_ok true room s p rest flaw a e =
    let more = action_ok (frame_at s p) (rest_from room s (after_at s p)) rest e in
    inr (record { flaw = flaw; action = a; more = more.0; goes = more.1; is = more.2 })
branch_ok false room s p rest flaw a e = inl (record { flaw = flaw; plan = a; start = start_passed s (frame_at s p) (after_at s p) rest e })

pub rest_passed : (room : ℕ) (s : List ℕ) (p : ℕ) (rest : Rest) → rest_from (suc room) s p ≡ Ok rest → PlanIs (suc room) s p rest ⊎ ActionIs room s p rest
unfolding rest_from
rest_passed room s p rest e =
    let on = unless_ok (flaw_at s p (Body (64 - suc room))) p (cond (is_action (kind_at s p)) (with_action (frame_at s p) (rest_from room s (after_at s p))) (start_from s (frame_at s p) (after_at s p))) rest e in
    branch_ok (is_action (kind_at s p)) room s p rest on.0 refl on.1

pub frames_passed : (s : List ℕ) (file : File) → frames_of s ≡ Ok file → HeaderIs s file
unfolding frames_of
frames_passed s file e =
    let on = unless_ok (flaw_at s 0 Header) 0 (with_header (frame_at s 0) (rest_from 64 s (after_at s 0))) file e in
    let more = header_ok (frame_at s 0) (rest_from 64 s (after_at s 0)) file on.1 in
    record { flaw = on.0; rest = more.0; goes = more.1; is = more.2 }
