use Rattle.std.proofs.Common.{◌≡◌, ◌-◌, ◌≤◌}
use Rattle.frames.specs.Files.{outline_from, rest_from}
use Rattle.frames.proofs.selected.reader.find_plan.Given as goal

abbrev pub invariant-loop-frame : goal.invariant-loop-frame
invariant-loop-frame l =
    (l.actions ≤ 64)
    × (outline_from 0 (rest_from 64 l.file l.first) ≡ outline_from l.actions (rest_from (64 - l.actions) l.file l.place))

abbrev pub decreases-loop-frame : goal.decreases-loop-frame
decreases-loop-frame l = 65 - l.actions
