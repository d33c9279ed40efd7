use Rattle.std.proofs.Common.{Err, sym, ap, ◌∙◌}
use Rattle.std.proofs.lemmas.Result.{err_from_is_err_and}
use Rattle.frames.specs.Files.{frames_of}
use Rattle.frames.specs.Frames.{frame_at}
use Rattle.frames.specs.declared.frame.Due.TheVariants.{Start}
use Rattle.frames.proofs.Reading.{some_none, flawless}
use Rattle.procedure.specs.Procedures.{known_of}
use Rattle.procedure.proofs.Joining.{lies}
use Rattle.procedure.proofs.Options.{answered}
use Rattle.procedure.proofs.Rereading.{start_sound}
use Rattle.procedure.proofs.contents.read_start.Goals as goal

pub returns-in_err-frame-clause-value : goal.returns-in_err-frame-clause-value
returns-in_err-frame-clause-value c =
    let p = err_from_is_err_and c.from_residual.result c.from_residual.ensures.1 in
    rw (p.1, p.2) (λ whole given.
    let e = ap (λ f. frames_of f.now) c.file.ensures ∙ given in
    let sel = c.args.selected.now in
    let at = (lies sel.file.now sel.actions sel.plan sel.start whole sel.laid given).start_at ∙ sym c.start-place.ensures in
    some_none (sym c.in_err-frame.ensures.0 ∙ (start_sound c.file.result.now whole c.start-place.result e at).0))

pub returns-clause-value : goal.returns-clause-value
returns-clause-value c = λ whole given.
    let s = c.file.result.now in
    let e = ap (λ f. frames_of f.now) c.file.ensures ∙ given in
    let sel = c.args.selected.now in
    let place = c.start-place.result in
    let at = (lies sel.file.now sel.actions sel.plan sel.start whole sel.laid given).start_at ∙ sym c.start-place.ensures in
    let read = c.in_ok-frame.ensures in
    let same = ap (known_of c.args.n) (start_sound s whole place e at).1 in
    answered _ _ _ _ c.start_into.result c.at.result c.ok_or.result
    (c.start_into.ensures.value (frame_at s place) read.1 (flawless s place Start read.0).dues) c.ok_or.ensures.value
    (λ bad. same ∙ bad ∙ ap Err (sym c.at.ensures))
    (λ start good. (good.0, same ∙ good.1, good.2))
