use Rattle.std.proofs.Common.{sym, ap, ◌∙◌, arith}
use Rattle.std.proofs.lemmas.Grind.{common_steps}
use Rattle.meaning.specs.Rows.{guarded}
use Rattle.procedure.specs.Acts.{row_of}
use Rattle.regression.proofs.Lists.{guarded_append, guarded_none, regressed_none, regressed_yes, regressed_no}
use Rattle.regression.proofs.doing.regress.Goals as goal

pub loop-row-init : goal.loop-row-init
loop-row-init c = record {
  rows = c.clear.ensures ∙ sym (ap (guarded (row_of c.args.action.conditions)) (regressed_none c.args.action.add c.args.action.del) ∙ guarded_none _);
  few = grind (arith, common_steps);
}

pub loop-row-preserved : goal.loop-row-preserved
loop-row-preserved c = record { rows = grind (arith, common_steps, guarded_append, regressed_yes, regressed_no); few = grind (arith, common_steps) }
