use Rattle.panel.proofs.Keeping.{as_before}
use Rattle.rehearsal.proofs.visit.arm_and_confirm.Goals as goal

pub returns-in-Ok : goal.returns-in-Ok
returns-in-Ok c =
    let back = as_before _ c.args.start c.args.word c.in-Ok.armed _ c.in-Ok.ensures.value c.confirm_all-word.ensures in
    record { held = back.held; value = back.kept }
