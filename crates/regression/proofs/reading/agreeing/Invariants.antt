use Rattle.std.proofs.Common.{◌≡◌, ◌≤◌, length, map, take}
use Rattle.meaning.specs.Rows.{keep, allows, less}
use Rattle.regression.proofs.reading.agreeing.Given as goal

abbrev pub invariant-loop-row : goal.invariant-loop-row
invariant-loop-row l = record {
  rows : l.rows ≡ map (less l.literal.fluent.index l.literal.value) (keep (allows l.literal.fluent.index l.literal.value) (take l.row-index l.given));
  few : length l.rows ≤ l.row-index;
}
