use Rattle.std.proofs.Common.{◌≡◌, ◌+◌, ◌*◌, ◌≤◌, ◌++◌, length, take}
use Rattle.meaning.specs.Rows.{pairs, guarded}
use Rattle.procedure.specs.Acts.{row_of}
use Rattle.regression.proofs.reading.add_pairs.Given as goal

abbrev pub invariant-loop-row : goal.invariant-loop-row
invariant-loop-row l = record {
  rows : l.gathered ≡ l.initial.gathered ++ guarded (row_of l.conditions) (pairs (take l.row-index l.trues) l.falses);
  few : length l.gathered ≤ length l.initial.gathered + 16 * l.row-index;
}
