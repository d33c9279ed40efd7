use Rattle.panel.proofs.Keeping.{back_then}
use Rattle.client.proofs.settle.Goals as goal

pub returns-in-Ok : goal.returns-in-Ok
returns-in-Ok c = back_then _ c.in-Ok.armed.permitted _ c.in-Ok.ensures.value.0 (c.end.ensures _ c.confirm.ensures.kept)
