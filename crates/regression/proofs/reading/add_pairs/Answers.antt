use Rattle.std.proofs.Common.{arith}
use Rattle.std.proofs.lemmas.Grind.{common_steps}
use Rattle.regression.proofs.Lists.{gather_none, guarded_append, pairs_more}
use Rattle.regression.proofs.reading.add_pairs.Goals as goal

pub loop-row-init : goal.loop-row-init
loop-row-init c = record { rows = gather_none _ _; few = omega arith }

pub loop-row-preserved : goal.loop-row-preserved
loop-row-preserved c = record { rows = grind (arith, common_steps, guarded_append, pairs_more); few = omega (arith, c.add_joined.ensures.few, c.loop-row.invariant.few, c.as_slice-falses.ensures.fits) }
