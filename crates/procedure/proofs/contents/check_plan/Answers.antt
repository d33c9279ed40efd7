use Rattle.std.proofs.Common.{◌≡◌, ℕ, ◌+◌, length, Err, sym, ap, ◌∙◌, rules}
use Rattle.std.proofs.lemmas.Result.{err_from_is_err_and}
use Rattle.fluents.specs.Refusals.{fault_at}
use Rattle.plans.specs.Checks.{plan_of, verdict}
use Rattle.frames.specs.Files.{frames_of}
use Rattle.frames.proofs.Reading.{some_none}
use Rattle.procedure.specs.Procedures.{does_at, reads_at}
use Rattle.procedure.proofs.Joining.{lies}
use Rattle.procedure.proofs.Options.{mapped_err, mapped_ok}
use Rattle.procedure.proofs.Rereading.{plan_sound, same_plan, verdict_ok, placed_err}
use Rattle.procedure.proofs.contents.check_plan.Goals as goal

pub returns-in_err-read : goal.returns-in_err-read
returns-in_err-read c =
    let p = err_from_is_err_and c.from_residual.result c.from_residual.ensures.1 in
    rw (p.1, p.2)
    (λ whole given acts sorted.
    let e = ap (λ f. frames_of f.now) c.file.ensures ∙ given in
    let sel = c.args.selected.now in
    let lie = lies sel.file.now sel.actions sel.plan sel.start whole sel.laid given in
    some_none (sym c.in_err-read.ensures.0 ∙ (plan_sound c.file.result.now whole c.actions.result c.plan.result e (lie.count ∙ sym c.actions.ensures) (lie.plan_at ∙ sym c.plan.ensures)).0))

pub returns-in_err-map_err : goal.returns-in_err-map_err
returns-in_err-map_err c =
    let p = err_from_is_err_and c.from_residual-in_err-map_err.result c.from_residual-in_err-map_err.ensures.1 in
    let payload = c.payload-place.result in
    let fault = c.in_err-map_err.field-0.0 in
    let said = mapped_err _ c.check.result c.map_err.result fault c.map_err.ensures.cases c.in_err-map_err.was in
    let flaw = said.0 in
    let blamed : fault ≡ fault_at flaw.refusal (payload.place + flaw.offset) = search rules in
    rw (p.1, p.2) (λ whole given acts sorted.
    let s = c.file.result.now in
    let e = ap (λ f. frames_of f.now) c.file.ensures ∙ given in
    let sel = c.args.selected.now in
    let lie = lies sel.file.now sel.actions sel.plan sel.start whole sel.laid given in
    let frame = (plan_sound s whole c.actions.result c.plan.result e (lie.count ∙ sym c.actions.ensures) (lie.plan_at ∙ sym c.plan.ensures)).1 in
    let bytes : payload.bytes.now ≡ whole.rest.plan.payload =
    ap (λ p. p.bytes.now) c.payload-place.ensures ∙ c.in_ok-read.ensures.1.payload ∙ ap (λ f. f.payload) (sym frame) in
    let place : whole.rest.plan.place + 4 ≡ payload.place =
    ap (λ f. f.place + 4) frame ∙ sym c.in_ok-read.ensures.1.place ∙ ap (λ p. p.place) (sym c.payload-place.ensures) in
    let same = same_plan acts c.args.sorts payload.bytes.now whole.rest.plan.payload sorted bytes in
    placed_err whole.rest.plan (plan_of (does_at acts) (reads_at acts) whole.rest.plan.payload) flaw (ap verdict (sym same) ∙ sym c.check.ensures.value ∙ said.1)
    ∙ ap (λ (n : ℕ). Err (fault_at flaw.refusal (n + flaw.offset))) place ∙ ap Err (sym blamed))

pub returns : goal.returns
returns c = λ whole given acts sorted.
    let s = c.file.result.now in
    let e = ap (λ f. frames_of f.now) c.file.ensures ∙ given in
    let sel = c.args.selected.now in
    let lie = lies sel.file.now sel.actions sel.plan sel.start whole sel.laid given in
    let frame = (plan_sound s whole c.actions.result c.plan.result e (lie.count ∙ sym c.actions.ensures) (lie.plan_at ∙ sym c.plan.ensures)).1 in
    let bytes : c.payload-place.result.bytes.now ≡ whole.rest.plan.payload =
    ap (λ p. p.bytes.now) c.payload-place.ensures ∙ c.in_ok-read.ensures.1.payload ∙ ap (λ f. f.payload) (sym frame) in
    let same = same_plan acts c.args.sorts c.payload-place.result.bytes.now whole.rest.plan.payload sorted bytes in
    let checked = mapped_ok _ c.check.result c.map_err.result c.in_ok-map_err.field-0 c.map_err.ensures.cases c.in_ok-map_err.was in
    (ap length bytes, verdict_ok (plan_of (does_at acts) (reads_at acts) whole.rest.plan.payload) (ap verdict (sym same) ∙ sym c.check.ensures.value ∙ checked))
