use Rattle.std.proofs.Common.{refl}
use Rattle.std.proofs.lemmas.Result.{err_from_is_err_and}
use Rattle.procedure.proofs.Joining.{not_selected}
use Rattle.procedure.proofs.loaded.reader.open.Goals as goal

pub returns-in_err-selected : goal.returns-in_err-selected
returns-in_err-selected c =
    let p = err_from_is_err_and c.from_residual.result c.from_residual.ensures.1 in
    rw (p.1, p.2) (not_selected c.args.file.now c.in_err-selected.field-0.0 c.in_err-selected.ensures.value, refl)
