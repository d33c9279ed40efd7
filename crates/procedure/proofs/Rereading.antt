-- The frames of a selected file as the code reads them again. Assumes nothing.
use Rattle.std.proofs.Common.{◌≡◌, ℕ, ◌+◌, ◌≤◌, Bool, true, false, cond, ◌&&◌, leb, List, length, get_or, None, Ok, Err, Result, sym, refl, ap, ◌∙◌, subst, arith, leb-true}
use mathlib.Core.Path.{fun_ext}
use Rattle.fluents.specs.Refusals.{fault_at}
use Rattle.fluents.specs.Sets.{bit}
use Rattle.fluents.specs.declared.faults.Refusal.TheVariants.{BadField}
use Rattle.plans.specs.Checks.{plan_of, verdict}
use Rattle.plans.specs.Trees.{Plan}
use Rattle.plans.specs.declared.Flaw.{Flaw}
use Rattle.plans.specs.declared.Sorts.{Sorts}
use Rattle.frames.specs.Frames.{Frame, frame_at, flaw_at}
use Rattle.frames.specs.Files.{File, frames_of}
use Rattle.frames.specs.Seen.{Shows, payload_of}
use Rattle.frames.specs.declared.frame.Due.TheVariants.{Body, Start}
use Rattle.frames.specs.declared.frame.Frame.{Frame as Held}
use Rattle.procedure.specs.Acts.{Sorted}
use Rattle.procedure.specs.Fields.{is_header, is_state, row_at}
use Rattle.procedure.specs.Procedures.{Act, good_or, placed, does_at, reads_at}
use Rattle.procedure.proofs.Walking.{opening, tail_of}

pub good_ok : {A : Type 0} (frame : Frame) (good : Bool) (v w : A) → good ≡ true → v ≡ w → good_or frame good v ≡ Ok w
good_ok frame good v w e q = ap (λ b. cond b (Ok v) (Err (fault_at BadField frame.place))) e ∙ ap Ok q

pub good_err : {A : Type 0} (frame : Frame) (good : Bool) (v : A) → good ≡ false → good_or frame good v ≡ Err (fault_at BadField frame.place)
good_err frame good v e = ap (λ b. cond b (Ok v) (Err (fault_at BadField frame.place))) e

-- ---- the header

first_of : (a b c : Bool) → (a && b && c) ≡ true → b ≡ true
first_of true true c e = refl
first_of true false c e = e
first_of false b c e = let z : ◌≡◌ {A = ℕ} 0 1 = cc in absurd (omega arith)

-- the header of a file with good fields has at most 64 fluents
pub header_few : (xs : List ℕ) → is_header xs ≡ true → get_or xs 0 0 ≤ 64
header_few xs e = leb-true (get_or xs 0 0) 64 (first_of (leb 1 (get_or xs 0 0)) (leb (get_or xs 0 0) 64) (is_state (get_or xs 0 0) (row_at xs 1)) e)

-- the header of the file is the frame that the code holds
pub header_shown : (s : List ℕ) (whole : File) (held : Held) → frames_of s ≡ Ok whole → Shows held (frame_at s 0) → (payload_of held).bytes.now ≡ whole.header.payload
header_shown s whole held e shows = shows.payload ∙ ap (λ f. f.payload) (sym (opening s whole e).header)

pub header_place : (s : List ℕ) (whole : File) → frames_of s ≡ Ok whole → whole.header.place ≡ 0
header_place s whole e = ap (λ f. f.place) (opening s whole e).header

-- ---- the plan

-- the plan's bytes spell the same plan by the sets as by the actions
pub same_plan : (acts : List Act) (sorts : Sorts) (xs ys : List ℕ) → Sorted acts sorts → xs ≡ ys
    → plan_of (bit sorts.doing) (bit sorts.reading) xs ≡ plan_of (does_at acts) (reads_at acts) ys
same_plan acts sorts xs ys sorted e =
    ap (λ d. plan_of d (bit sorts.reading) xs) (fun_ext sorted.does) ∙ ap (λ r. plan_of (does_at acts) r xs) (fun_ext sorted.reads)
    ∙ ap (plan_of (does_at acts) (reads_at acts)) e

pub verdict_ok : (r : Result Plan Flaw) → verdict r ≡ Ok tt → (plan : Plan) × (r ≡ Ok plan)
verdict_ok (Ok plan) e = (plan, refl)
verdict_ok (Err flaw) e = let z : ◌≡◌ {A = ℕ} 0 1 = cc in absurd (omega arith)

pub placed_err : (frame : Frame) (r : Result Plan Flaw) (flaw : Flaw) → verdict r ≡ Err flaw → placed frame r ≡ Err (fault_at flaw.refusal (frame.place + 4 + flaw.offset))
placed_err frame (Ok plan) flaw e = let z : ◌≡◌ {A = ℕ} 0 1 = cc in absurd (omega arith)
placed_err frame (Err f) flaw e = let same : f ≡ flaw = cc in ap (λ x. Err (fault_at x.refusal (frame.place + 4 + x.offset))) same

-- the plan frame of the file, and its start frame, lie where the outline says
pub plan_sound : (s : List ℕ) (whole : File) (count place : ℕ) → frames_of s ≡ Ok whole → length whole.rest.actions ≡ count → whole.rest.plan.place ≡ place
    → (flaw_at s place (Body count) ≡ None) × (whole.rest.plan ≡ frame_at s place)
plan_sound s whole count place e long at =
    let t = tail_of s whole e in (
      subst (λ (q : ℕ). flaw_at s q (Body count) ≡ None) at (subst (λ (n : ℕ). flaw_at s whole.rest.plan.place (Body n) ≡ None) long t.plan_sound),
      t.plan_is ∙ ap (frame_at s) at,
    )

pub start_sound : (s : List ℕ) (whole : File) (place : ℕ) → frames_of s ≡ Ok whole → whole.rest.start.place ≡ place
    → (flaw_at s place Start ≡ None) × (whole.rest.start ≡ frame_at s place)
start_sound s whole place e at =
    let t = tail_of s whole e in
    (subst (λ (q : ℕ). flaw_at s q Start ≡ None) at t.start_sound, t.start_is ∙ ap (frame_at s) at)
