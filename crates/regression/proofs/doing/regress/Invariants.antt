use Rattle.std.proofs.Common.{◌≡◌, ◌≤◌, length, take}
use Rattle.meaning.specs.Rows.{guarded, regressed}
use Rattle.procedure.specs.Acts.{row_of}
use Rattle.regression.proofs.doing.regress.Given as goal

abbrev pub invariant-loop-row : goal.invariant-loop-row
invariant-loop-row l = record {
  rows : l.gathered ≡ guarded (row_of l.action.conditions) (regressed l.action.add l.action.del (take l.row-index l.listed));
  few : length l.gathered ≤ l.row-index;
}
