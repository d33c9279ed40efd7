use Rattle.panel.proofs.Keeping.{as_before, back_then}
use Rattle.client.proofs.settle_and_confirm.Goals as goal

pub returns-in-Reads : goal.returns-in-Reads
returns-in-Reads c = as_before _ c.args.start _ c.in-Ok.armed _ c.in-Ok.ensures.value (back_then _ c.in-Reads.reading.permitted _ c.in-Reads.ensures.kept c.settle.ensures)

pub returns-in_default : goal.returns-in_default
returns-in_default c = as_before _ c.args.start _ c.in-Ok.armed _ c.in-Ok.ensures.value (c.end.ensures _ c.confirm.ensures.kept)
