use Rattle.std.proofs.Common.{◌≡◌}
use Rattle.procedure.specs.Fields.{worlds_from}
use Rattle.procedure.proofs.starts.worlds_in.Given as goal

abbrev pub invariant-loop-i : goal.invariant-loop-i
invariant-loop-i l = l.worlds.items ≡ worlds_from l.i l.bytes 0
