-- The worlds of what is known at the start of a procedure. Assumes nothing.
use Rattle.std.specs.Prelude.{ℕ, ◌^◌, ◌<◌}
use Rattle.std.specs.List.{ContainsAt as Has}
use Rattle.fluents.specs.Sets.{Apart, Within}
use Rattle.procedure.specs.Procedures.{Known, partly, worlds}

-- those that extend the partial state, or those of the list
abbrev pub worlds_of : Known → ℕ → Type 0
worlds_of (partly s) w = (w < 2 ^ 64) × Within s.trues w × Apart s.falses w
worlds_of (worlds ws) w = Has ws w
