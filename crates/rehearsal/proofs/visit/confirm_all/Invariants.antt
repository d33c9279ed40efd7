use Rattle.std.proofs.Common.{◌-◌, length}
use Rattle.panel.specs.Confirming.{Stays}
use Rattle.rehearsal.proofs.visit.confirm_all.Given as goal

abbrev pub invariant-loop-number : goal.invariant-loop-number
invariant-loop-number l = Stays l.initial.armed.permitted l.armed.permitted

abbrev pub decreases-loop-number : goal.decreases-loop-number
decreases-loop-number l = length l.armed.permitted.loaded.value.file.now - l.armed.run.place
