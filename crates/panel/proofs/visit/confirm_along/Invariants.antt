use Rattle.std.proofs.Common.{◌≡◌, ◌-◌, ◌≤◌, length, Ok}
use Rattle.procedure.specs.Procedures.{Procedure, procedure_of}
use Rattle.panel.specs.Confirming.{Stays}
use Rattle.panel.specs.Cases.{worlds_in}
use Rattle.runs.proofs.Along.{Left}
use Rattle.panel.proofs.visit.confirm_along.Given as goal

abbrev pub invariant-loop-next : goal.invariant-loop-next
invariant-loop-next l = record {
  stays : Stays l.initial.armed.permitted l.armed.permitted;
  few : length l.left ≤ length l.readings;
  walked : (p : Procedure) → procedure_of l.initial.armed.permitted.loaded.value.file.now ≡ Ok p → l.initial.armed.run.place ≡ p.place
      → Left worlds_in l.initial.armed.permitted.loaded.value.file.now l.initial.armed.run.knowledge l.readings l.armed.run l.left;
}

abbrev pub decreases-loop-next : goal.decreases-loop-next
decreases-loop-next l = length l.armed.permitted.loaded.value.file.now - l.armed.run.place
