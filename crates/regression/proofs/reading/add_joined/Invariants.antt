use Rattle.std.proofs.Common.{◌≡◌, ◌+◌, ◌≤◌, ◌++◌, map, length, take}
use Rattle.meaning.specs.Rows.{joined, guarded}
use Rattle.procedure.specs.Acts.{row_of}
use Rattle.regression.proofs.reading.add_joined.Given as goal

abbrev pub invariant-loop-other : goal.invariant-loop-other
invariant-loop-other l = record {
  rows : l.gathered ≡ l.initial.gathered ++ guarded (row_of l.conditions) (map (joined l.row) (take l.other-index l.others));
  few : length l.gathered ≤ length l.initial.gathered + l.other-index;
}
