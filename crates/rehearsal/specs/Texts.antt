-- The text of a line of the record, byte by byte. Assumes nothing.
use Rattle.std.specs.Prelude.{ℕ, cond, List, ◌++◌, codes, decimal}
use Rattle.fluents.specs.Refusals.{fault_text}
use Rattle.meaning.specs.Causes.{cause_number}
use Rattle.meaning.specs.Texts.{verdict_text}
use Rattle.rehearsal.specs.declared.lines.Line.{Line}
use Rattle.rehearsal.specs.declared.lines.Line.TheVariants.{Selected, Loaded, Judged, Permit, Armed, Did, Reads, Settled, Withdrawn, NoneLeft, EndedWell, Refused, Unarmed}

-- the words of the line, and its numbers in decimal
abbrev pub line_text : Line → List ℕ
line_text Selected = codes "selected"
line_text (Loaded fluents actions) = codes "loaded " ++ (decimal fluents ++ (codes " fluents, " ++ (decimal actions ++ codes " actions")))
line_text (Judged verdict) = codes "verdict " ++ verdict_text verdict
line_text (Permit word) = codes "permit " ++ decimal word
line_text (Armed word) = codes "armed, permit " ++ decimal word
line_text (Did place number) = codes "confirm " ++ (decimal place ++ (codes ": action " ++ decimal number))
line_text (Reads place number fluent) = codes "confirm " ++ (decimal place ++ (codes ": reading " ++ (decimal number ++ (codes " of fluent " ++ decimal fluent))))
line_text (Settled value) = codes "settled " ++ cond value (codes "true") (codes "false")
line_text Withdrawn = codes "withdrawn"
line_text NoneLeft = codes "no reading left: withdrawn"
line_text EndedWell = codes "ended well"
line_text (Refused fault) = fault_text fault
line_text (Unarmed why) = fault_text why.fault ++ (codes ", cause " ++ decimal (cause_number why.cause))
