-- The text of a report, byte by byte. Assumes nothing.
use Rattle.std.specs.Prelude.{ℕ, List, ◌++◌, codes, decimal, Ok, Err, Result}
use Rattle.fluents.specs.Refusals.{fault_text}
use Rattle.fluents.specs.declared.faults.Fault.{Fault}
use Rattle.report.specs.declared.text.StartKind.{StartKind}
use Rattle.report.specs.declared.text.StartKind.TheVariants.{Partial, Worlds}
use Rattle.report.specs.declared.text.Summary.{Summary}

-- the word for what a start is given by
abbrev pub word_of : StartKind → List ℕ
word_of Partial = codes "partial"
word_of Worlds = codes "worlds"

-- `loaded N ACTIONS PLANBYTES KIND`: numbers in decimal, one space between fields
abbrev pub summary_text : Summary → List ℕ
summary_text s = codes "loaded " ++ (decimal s.fluents ++ (codes " " ++ (decimal s.actions ++ (codes " " ++ (decimal s.plan_bytes ++ (codes " " ++ word_of s.start))))))

-- the line of a summary, or `refused NUMBER PLACE`
abbrev pub line_of : Result Summary Fault → List ℕ
line_of (Ok summary) = summary_text summary
line_of (Err fault) = fault_text fault
