-- What is to be said about a file: the verdict at its start and its rows, or the refusal. Assumes nothing.
use Rattle.std.specs.Prelude.{◌≡◌, ℕ, List, take, Ok, Err, Result}
use Rattle.fluents.specs.declared.faults.Fault.{Fault}
use Rattle.knowledge.specs.declared.states.Row.{Row}
use Rattle.procedure.specs.Procedures.{Procedure}
use Rattle.meaning.specs.Follows.{Follows}
use Rattle.meaning.specs.Rows.{rows_of}
use Rattle.meaning.specs.Starts.{worlds_of}
use Rattle.meaning.specs.Steps.{tree_of}
use Rattle.verdicts.specs.declared.findings.Findings.{Findings}

-- the rows that were found
abbrev pub rows_in : Findings → List Row
rows_in f = take f.count f.rows

-- What is found about a procedure from the worlds K: the verdict and the rows, or the refusal of the rows.
abbrev pub Found : Procedure → (ℕ → Type 0) → Result Findings Fault → Type 0
Found p K (Ok f) = Follows p.goal (tree_of p) K f.verdict × (rows_of p.goal (tree_of p) ≡ Ok (rows_in f))
Found p K (Err fault) = rows_of p.goal (tree_of p) ≡ Err fault

-- What is said about a file, by its procedure and the start in it, or by its refusal.
abbrev pub Reported : Result Procedure Fault → Result Findings Fault → Type 0
Reported (Ok p) r = Found p (worlds_of p.start) r
Reported (Err fault) r = r ≡ Err fault
