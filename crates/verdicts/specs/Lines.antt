-- The text of a report, byte by byte. Assumes nothing.
use Rattle.std.specs.Prelude.{ℕ, List, ◌++◌, length, codes, decimal, Ok, Err, Result}
use Rattle.std.specs.List.{flat_map}
use Rattle.fluents.specs.Refusals.{fault_text}
use Rattle.fluents.specs.declared.faults.Fault.{Fault}
use Rattle.knowledge.specs.declared.states.Row.{Row}
use Rattle.meaning.specs.Texts.{verdict_text}
use Rattle.verdicts.specs.Reports.{rows_in}
use Rattle.verdicts.specs.declared.findings.Findings.{Findings}

-- `T F`: the sets as decimal numbers, and a line break
abbrev pub row_line : Row → List ℕ
row_line row = decimal row.trues ++ (codes " " ++ (decimal row.falses ++ codes "\n"))

abbrev pub row_lines : List Row → List ℕ
row_lines rows = flat_map row_line rows

-- the verdict, `rows COUNT` and the rows
abbrev pub findings_text : Findings → List ℕ
findings_text f = verdict_text f.verdict ++ (codes "\nrows " ++ (decimal (length (rows_in f)) ++ (codes "\n" ++ row_lines (rows_in f))))

-- The findings; or `refused NUMBER PLACE`. Numbers in decimal, one space between fields.
abbrev pub text_of : Result Findings Fault → List ℕ
text_of (Ok f) = findings_text f
text_of (Err fault) = fault_text fault ++ codes "\n"
