use Rattle.std.proofs.Common.{◌≡◌, ℕ, ◌<◌, true, false, List, length, get_or, is_ok, Err, sym, refl, ap, ◌∙◌, arith, w8, Fits}
use mir.Facts.{Fits-lt-pow}
use Rattle.std.proofs.lemmas.Result.{err_from_is_err_and}
use Rattle.fluents.specs.Refusals.{fault_at}
use Rattle.fluents.specs.declared.faults.Fault.{Fault}
use Rattle.fluents.specs.declared.faults.Refusal.TheVariants.{UnexpectedKind}
use Rattle.frames.specs.Files.{frames_of, outline_of, outline, outline_from}
use Rattle.frames.specs.Frames.{after_at, frame_at}
use Rattle.frames.specs.Spoiled.{SpoiledRefused}
use Rattle.frames.specs.Strings.{Composed}
use Rattle.frames.specs.declared.frame.Due.TheVariants.{Header, Start}
use Rattle.frames.proofs.Reading.{end_at, outline_read, frames_refused, frames_err, start_refused, start_past, laid_from}
use Rattle.frames.proofs.Spoiled.{spoiled_refused}
use Rattle.frames.proofs.Strings.{outline_ok, strings}
use Rattle.frames.proofs.selected.Selected.select.Goals as goal

below_256 : (s : List ℕ) → ((i : ℕ) → Fits w8 (get_or s i 0)) → (i : ℕ) → get_or s i 0 < 256
below_256 s typed i = Fits-lt-pow (typed i)

-- all clauses where the file is refused
refused : (s : List ℕ) (fault : Fault) → ((i : ℕ) → Fits w8 (get_or s i 0)) → frames_of s ≡ Err fault
    → record { value : frames_of s ≡ Err fault; strings : (false ≡ true → Composed s) × (Composed s → false ≡ true); spoiled : SpoiledRefused s }
refused s fault typed value =
    record { value = value; strings = strings s false (below_256 s typed) (sym (ap is_ok value)); spoiled = spoiled_refused s (below_256 s typed) }

pub returns-in_err-header : goal.returns-in_err-header
returns-in_err-header c =
    let p = err_from_is_err_and c.from_residual.result c.from_residual.ensures.1 in
    let s = c.args.file.now in
    let fault = c.in_err-header.field-0.0 in
    let value = frames_refused s fault c.in_err-header.ensures in
    rw (p.1, p.2) (refused s fault c.type_inv.file value)

pub returns-in_err-body : goal.returns-in_err-body
returns-in_err-body c =
    let p = err_from_is_err_and c.from_residual-in_err-body.result c.from_residual-in_err-body.ensures.1 in
    let s = c.args.file.now in
    let read = c.in_ok-header.ensures in
    let ended : c.end.result ≡ after_at s 0 = end_at s 0 Header c.in_ok-header.header read.0 read.1 (omega arith) c.end.ensures in
    let fault = c.in_err-body.field-0.0 in
    let value = frames_err s c.end.result fault read.0 ended c.in_err-body.ensures in
    rw (p.1, p.2) (refused s fault c.type_inv.file value)

pub returns-in_err-last : goal.returns-in_err-last
returns-in_err-last c =
    let p = err_from_is_err_and c.from_residual-in_err-last.result c.from_residual-in_err-last.ensures.1 in
    let s = c.args.file.now in
    let read = c.in_ok-header.ensures in
    let ended : c.end.result ≡ after_at s 0 = end_at s 0 Header c.in_ok-header.header read.0 read.1 (omega arith) c.end.ensures in
    let body = c.in_ok-body.body in
    let fault = c.in_err-last.field-0.0 in
    let value =
    frames_err s c.end.result fault read.0 ended
    (c.in_ok-body.ensures.0 ∙ ap (outline_from body.actions) (start_refused s (frame_at s body.plan) body.end fault c.in_err-last.ensures)) in
    rw (p.1, p.2) (refused s fault c.type_inv.file value)

pub returns-then-past-file : goal.returns-then-past-file
returns-then-past-file c =
    let s = c.args.file.now in
    let read = c.in_ok-header.ensures in
    let ended : c.end.result ≡ after_at s 0 = end_at s 0 Header c.in_ok-header.header read.0 read.1 (omega arith) c.end.ensures in
    let body = c.in_ok-body.body in
    let last = c.in_ok-last.ensures in
    let past : c.end-past.result ≡ after_at s body.end = end_at s body.end Start c.in_ok-last.last last.0 last.1 (omega arith) c.end-past.ensures in
    let more : after_at s body.end < length s = omega (arith, past, c.if-past-file.true) in
    let fault = fault_at UnexpectedKind c.end-past.result in
    let value =
    frames_err s c.end.result fault read.0 ended
    (c.in_ok-body.ensures.0
    ∙ ap (outline_from body.actions) (start_past s (frame_at s body.plan) body.end last.0 more)
    ∙ ap (λ (n : ℕ). Err (fault_at UnexpectedKind n)) (sym past)) in
    rw c.at.ensures (refused s fault c.type_inv.file value)

pub invariant_of-result : goal.invariant_of-result
invariant_of-result c =
    let s = c.args.file.now in
    let body = c.in_ok-body.body in
    let value =
    outline_read s c.in_ok-header.header c.in_ok-last.last c.end.result c.end-past.result body.actions body.plan body.end
    c.in_ok-header.ensures.0 c.in_ok-header.ensures.1 c.end.ensures c.in_ok-body.ensures.0 c.in_ok-last.ensures.0 c.in_ok-last.ensures.1 c.end-past.ensures c.if-past-file.false (omega arith) in
    record { laid = laid_from (outline_of (frames_of s)) body.actions body.plan body.end value }

pub returns : goal.returns
returns c =
    let s = c.args.file.now in
    let body = c.in_ok-body.body in
    let value =
    outline_read s c.in_ok-header.header c.in_ok-last.last c.end.result c.end-past.result body.actions body.plan body.end
    c.in_ok-header.ensures.0 c.in_ok-header.ensures.1 c.end.ensures c.in_ok-body.ensures.0 c.in_ok-last.ensures.0 c.in_ok-last.ensures.1 c.end-past.ensures c.if-past-file.false (omega arith) in
    let small = below_256 s c.type_inv.file in
    record {
      value = (refl, value);
      strings = strings s true small (sym (outline_ok (frames_of s) (outline body.actions body.plan body.end) value));
      spoiled = spoiled_refused s small;
    }
