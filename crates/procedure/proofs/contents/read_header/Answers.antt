use Rattle.std.proofs.Common.{◌≡◌, ℕ, get_or, Err, sym, ap, ◌∙◌}
use Rattle.std.proofs.lemmas.Result.{err_from_is_err_and}
use Rattle.fluents.specs.Refusals.{fault_at}
use Rattle.fluents.specs.declared.faults.Refusal.TheVariants.{BadField}
use Rattle.frames.specs.Files.{frames_of}
use Rattle.frames.proofs.Reading.{some_none}
use Rattle.procedure.specs.Fields.{is_header, row_at}
use Rattle.procedure.proofs.Options.{answered}
use Rattle.procedure.proofs.Rereading.{good_ok, good_err, header_shown, header_place}
use Rattle.procedure.proofs.Walking.{opening}
use Rattle.procedure.proofs.contents.read_header.Goals as goal

pub returns-in_err-frame-clause-value : goal.returns-in_err-frame-clause-value
returns-in_err-frame-clause-value c =
    let p = err_from_is_err_and c.from_residual.result c.from_residual.ensures.1 in
    rw (p.1, p.2) (λ whole given.
    let e = ap (λ f. frames_of f.now) c.file.ensures ∙ given in
    some_none (sym c.in_err-frame.ensures.0 ∙ (opening c.file.result.now whole e).sound))

pub returns-clause-value : goal.returns-clause-value
returns-clause-value c = λ whole given.
    let e = ap (λ f. frames_of f.now) c.file.ensures ∙ given in
    let s = c.file.result.now in
    let header = whole.header in
    let same : c.payload.result.bytes.now ≡ header.payload =
    ap (λ p. p.bytes.now) c.payload.ensures ∙ header_shown s whole c.in_ok-frame.frame e c.in_ok-frame.ensures.1 in
    answered _ _ _ _ c.header_fields.result c.at.result c.ok_or.result c.header_fields.ensures c.ok_or.ensures.value
    (λ bad.
    good_err header (is_header header.payload) (get_or header.payload 0 0) (ap is_header (sym same) ∙ bad)
    ∙ ap (λ (n : ℕ). Err (fault_at BadField n)) (header_place s whole e) ∙ ap Err (sym c.at.ensures))
    (λ h good. (
      good_ok header (is_header header.payload) (get_or header.payload 0 0) h.n
          (ap is_header (sym same) ∙ good.0) (ap (λ xs. get_or xs 0 0) (sym same) ∙ sym good.1),
      (λ i. record { trues = good.2 i; falses = good.3 i }) ∙ ap (λ xs. row_at xs 1) same,
    ))
