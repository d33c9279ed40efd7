use Rattle.std.proofs.Common.{arith}
use Rattle.std.proofs.lemmas.Grind.{common_steps}
use Rattle.std.proofs.lemmas.List.{map_push}
use Rattle.regression.proofs.Lists.{keep_yes, keep_no}
use Rattle.regression.proofs.reading.agreeing.Goals as goal

pub loop-row-preserved : goal.loop-row-preserved
loop-row-preserved c = record { rows = grind (arith, common_steps, keep_yes, keep_no, map_push); few = grind (arith, common_steps) }
