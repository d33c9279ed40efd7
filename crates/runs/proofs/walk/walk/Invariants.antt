use Rattle.std.proofs.Common.{◌+◌, ◌-◌}
use Rattle.runs.proofs.Along.{Left}
use Rattle.runs.proofs.walk.walk.Given as goal

abbrev pub invariant-loop-next : goal.invariant-loop-next
invariant-loop-next g l = Left g.K.Knowledge.worlds l.loaded.file.now l.initial.run.knowledge l.readings l.run l.left

abbrev pub decreases-loop-next : goal.decreases-loop-next
decreases-loop-next g l = l.loaded.plan + l.loaded.len - l.run.place
