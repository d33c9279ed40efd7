use Rattle.std.proofs.Common.{arith}
use Rattle.std.proofs.lemmas.Grind.{common_steps}
use Rattle.regression.proofs.Lists.{gather_none, guarded_append}
use Rattle.regression.proofs.reading.add_joined.Goals as goal

pub loop-other-init : goal.loop-other-init
loop-other-init c = record { rows = gather_none _ _; few = omega arith }

pub loop-other-preserved : goal.loop-other-preserved
loop-other-preserved c = record { rows = grind (arith, common_steps, guarded_append); few = omega (arith, c.add.ensures.few, c.loop-other.invariant.few) }
