use Rattle.std.proofs.Common.{ap, ◌∙◌, sym, arith}
use Rattle.std.proofs.lemmas.List.{take-append-le}
use Rattle.meaning.specs.Rows.{least_rows}
use Rattle.meaning.proofs.Leasts.{least_of}
use Rattle.regression.proofs.arrays.RowVec.keep_least.Goals as goal

-- what the keeper leaves at the front are the least rows
pub returns : goal.returns
returns g c =
    let k = c.keep_least-count in
    take-append-le k.result k.new.items _ (omega (arith, k.ensures.within, k.ensures.len))
    ∙ sym (k.ensures.only _ (least_of _)) ∙ ap least_rows c.self.view_is
