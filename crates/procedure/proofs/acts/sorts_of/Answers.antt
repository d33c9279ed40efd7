use Rattle.std.proofs.Common.{◌≡◌, ℕ, ◌+◌, ◌<◌, length, Err, sym, ap, ◌∙◌, subst, arith}
use Rattle.std.proofs.lemmas.Result.{err_from_is_err_and}
use Rattle.frames.specs.Files.{frames_of}
use Rattle.frames.specs.Frames.{frame_at, after_at}
use Rattle.frames.specs.declared.frame.Due.TheVariants.{Body}
use Rattle.frames.proofs.Reading.{some_none, end_at}
use Rattle.procedure.specs.Acts.{act_seen}
use Rattle.procedure.proofs.Joining.{lies}
use Rattle.procedure.proofs.Loading.{Progress, none_done, at_next, refused_next, one_done, all_done}
use Rattle.procedure.proofs.Options.{was_none, was_some}
use Rattle.procedure.proofs.acts.sorts_of.Goals as goal

pub loop-k-init : goal.loop-k-init
loop-k-init c = λ whole e. none_done c.args.n c.file-file.result.now whole e

pub returns-in_err-frame : goal.returns-in_err-frame
returns-in_err-frame c = λ whole given.
    let e = ap (λ f. frames_of f.now) c.file-file.ensures ∙ given in
    let l = c.loop-k in
    let sel = c.args.selected.now in
    let long = (lies sel.file.now sel.actions sel.plan sel.start whole sel.laid (ap (λ f. frames_of f.now) (sym c.file-file.ensures) ∙ e)).count in
    let more : l.k < length whole.rest.actions = omega (arith, long, c.actions-k-end.ensures, c.loop-k-test.true) in
    some_none (sym c.in_err-frame.ensures.0 ∙ (at_next c.args.n c.file-file.result.now whole.rest.actions l.k l.place l.sorts (l.invariant whole e) more).sound)

pub returns-in_err-action : goal.returns-in_err-action
returns-in_err-action c =
    let p = err_from_is_err_and c.from_residual-in_err-action.result c.from_residual-in_err-action.ensures.1 in
    rw (p.1, p.2) (λ whole given.
    let e = ap (λ f. frames_of f.now) c.file-file.ensures ∙ given in
    let s = c.file-file.result.now in
    let n = c.args.n in
    let l = c.loop-k in
    let sel = c.args.selected.now in
    let long = (lies sel.file.now sel.actions sel.plan sel.start whole sel.laid (ap (λ f. frames_of f.now) (sym c.file-file.ensures) ∙ e)).count in
    let more : l.k < length whole.rest.actions = omega (arith, long, c.actions-k-end.ensures, c.loop-k-test.true) in
    let next = at_next n s whole.rest.actions l.k l.place l.sorts (l.invariant whole e) more in
    let said = was_none _ _ c.action_of.result c.at.result c.in_err-action.field-0.0
    (c.action_of.ensures.value (frame_at s l.place) c.in_ok-frame.ensures.1 next.action) (sym c.ok_or.ensures.value ∙ c.in_err-action.was) in
    refused_next n s whole.rest.actions l.k l.place l.sorts (l.invariant whole e) more _
    (said.0 ∙ ap Err (sym c.at.ensures ∙ sym said.1)))

pub loop-k-preserved : goal.loop-k-preserved
loop-k-preserved c = λ whole e.
    let s = c.file-file.result.now in
    let n = c.args.n in
    let l = c.loop-k in
    let sel = c.args.selected.now in
    let long = (lies sel.file.now sel.actions sel.plan sel.start whole sel.laid (ap (λ f. frames_of f.now) (sym c.file-file.ensures) ∙ e)).count in
    let more : l.k < length whole.rest.actions = omega (arith, long, c.actions-k-end.ensures, c.loop-k-test.true) in
    let read = c.in_ok-frame.ensures in
    let next = at_next n s whole.rest.actions l.k l.place l.sorts (l.invariant whole e) more in
    let ended : c.end-place.result ≡ after_at s l.place = end_at s l.place (Body l.k) c.in_ok-frame.frame read.0 read.1 (omega arith) c.end-place.ensures in
    subst (λ (q : ℕ). Progress n s whole.rest.actions (l.k + 1) q c.noted-sorts.result) (sym ended)
    (one_done n s whole.rest.actions l.k l.place l.sorts (l.invariant whole e) more (act_seen c.in_ok-action.action) c.noted-sorts.result
    (was_some _ _ c.action_of.result c.at.result c.in_ok-action.action (c.action_of.ensures.value (frame_at s l.place) read.1 next.action)
    (sym c.ok_or.ensures.value ∙ c.in_ok-action.was)) c.noted-sorts.ensures.does c.noted-sorts.ensures.reads)

pub returns : goal.returns
returns c = λ whole given.
    let e = ap (λ f. frames_of f.now) c.file-file.ensures ∙ given in
    let l = c.loop-k in
    let sel = c.args.selected.now in
    let long = (lies sel.file.now sel.actions sel.plan sel.start whole sel.laid (ap (λ f. frames_of f.now) (sym c.file-file.ensures) ∙ e)).count in
    all_done c.args.n c.file-file.result.now whole.rest.actions l.k l.place l.sorts (l.invariant whole e) (omega (arith, long, c.actions-k-end.ensures, c.loop-k-test.false))
