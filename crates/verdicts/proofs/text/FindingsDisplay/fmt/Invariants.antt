use Rattle.std.proofs.Common.{take}
use Rattle.std.specs.Fmt.{HasWritten, IsPlainFormatter}
use Rattle.verdicts.specs.Lines.{row_lines}
use Rattle.verdicts.proofs.text.FindingsDisplay.fmt.Given as goal

-- the lines of the rows that were passed
abbrev pub invariant-loop-row : goal.invariant-loop-row
invariant-loop-row g l = IsPlainFormatter l.initial.f → HasWritten g.W.Write.write_str_gives l.initial.f (row_lines (take l.row-index l.rows)) l.f
