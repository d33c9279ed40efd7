use Rattle.std.proofs.Common.{◌≡◌, ℕ, ◌+◌, ◌-◌, true, false, sym, ap, ◌∙◌, arith}
use Rattle.std.proofs.lemmas.Result.{err_from_is_err_and}
use Rattle.frames.specs.Files.{outline_from, start_from, rest_from}
use Rattle.frames.specs.Frames.{frame_at, is_action, kind_at}
use Rattle.frames.specs.declared.frame.Due.TheVariants.{Body}
use Rattle.frames.proofs.Reading.{whole_le, end_at, outline_refused, outline_plan, outline_next}
use Rattle.frames.proofs.selected.reader.find_plan.Goals as goal

pub returns-in_err-frame : goal.returns-in_err-frame
returns-in_err-frame c =
    let p = err_from_is_err_and c.from_residual.result c.from_residual.ensures.1 in
    let l = c.loop-frame in
    rw (p.1, p.2) (l.invariant.1 ∙ outline_refused c.args.file.now l.place l.actions _ l.invariant.0 c.in_err-frame.ensures)

pub returns-then-not-is_action : goal.returns-then-not-is_action
returns-then-not-is_action c =
    let s = c.args.file.now in
    let l = c.loop-frame in
    let read = c.in_ok-frame.ensures in
    let ended = end_at s l.place (Body l.actions) c.in_ok-frame.frame read.0 read.1 (omega arith) c.end-after.ensures in
    let plan : is_action (kind_at s l.place) ≡ false = ap is_action (sym read.1.kind) ∙ sym c.is_action.ensures ∙ c.if-not-is_action.true in (
      l.invariant.1 ∙ outline_plan s l.place l.actions l.invariant.0 read.0 plan
          ∙ ap (λ (n : ℕ). outline_from l.actions (start_from s (frame_at s l.place) n)) (sym ended),
      omega (arith, whole_le s l.place (Body l.actions) read.0, ended),
    )

pub loop-frame-preserved : goal.loop-frame-preserved
loop-frame-preserved c =
    let s = c.args.file.now in
    let l = c.loop-frame in
    let read = c.in_ok-frame.ensures in
    let ended = end_at s l.place (Body l.actions) c.in_ok-frame.frame read.0 read.1 (omega arith) c.end-after.ensures in
    let action : is_action (kind_at s l.place) ≡ true = ap is_action (sym read.1.kind) ∙ sym c.is_action.ensures ∙ c.if-not-is_action.false in
    let next = outline_next s l.place l.actions l.invariant.0 read.0 action in (
      next.0,
      l.invariant.1 ∙ next.1 ∙ ap (λ (n : ℕ). outline_from (l.actions + 1) (rest_from (64 - (l.actions + 1)) s n)) (sym ended),
    )
