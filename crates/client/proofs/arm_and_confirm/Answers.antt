use Rattle.panel.proofs.Keeping.{as_before}
use Rattle.client.proofs.arm_and_confirm.Goals as goal

pub returns-in-Ok : goal.returns-in-Ok
returns-in-Ok c = as_before _ c.args.start _ c.in-Ok.armed _ c.in-Ok.ensures.value (c.end.ensures _ c.confirm.ensures.kept)
