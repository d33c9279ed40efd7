-- What is to be said about a file: the numbers of its procedure, or the refusal. Assumes nothing.
use Rattle.std.specs.Prelude.{length, Ok, Err, Result}
use Rattle.fluents.specs.declared.faults.Fault.{Fault}
use Rattle.plans.specs.Trees.{encode}
use Rattle.procedure.specs.Procedures.{Procedure, Known, partly, worlds}
use Rattle.procedure.specs.declared.starts.Start.{Start}
use Rattle.procedure.specs.declared.starts.Start.TheVariants.{Partial as PartialStart, Worlds as WorldStart}
use Rattle.report.specs.declared.text.Summary.{Summary}
use Rattle.report.specs.declared.text.StartKind.{StartKind}
use Rattle.report.specs.declared.text.StartKind.TheVariants.{Partial, Worlds}

-- the kind of what is known at the start
abbrev pub kind_of : Known → StartKind
kind_of (partly row) = Partial
kind_of (worlds ws) = Worlds

abbrev pub kind_seen : Start → StartKind
kind_seen (PartialStart state) = Partial
kind_seen WorldStart = Worlds

abbrev pub report_of : Result Procedure Fault → Result Summary Fault
report_of (Ok p) = Ok (record { fluents = p.n; actions = length p.actions; plan_bytes = length (encode p.plan); start = kind_of p.start })
report_of (Err fault) = Err fault
