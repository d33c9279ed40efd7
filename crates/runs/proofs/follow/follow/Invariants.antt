use Rattle.std.proofs.Common.{◌+◌, ◌-◌}
use Rattle.runs.proofs.Ahead.{Ahead}
use Rattle.runs.proofs.follow.follow.Given as goal

abbrev pub invariant-loop-next : goal.invariant-loop-next
invariant-loop-next g l = Ahead g.K.Knowledge.worlds l.loaded.file.now l.initial.run.knowledge l.run l.waiting

abbrev pub decreases-loop-next : goal.decreases-loop-next
decreases-loop-next g l = l.loaded.plan + l.loaded.len - l.run.place
