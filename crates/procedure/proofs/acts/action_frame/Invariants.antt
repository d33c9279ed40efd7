use Rattle.std.proofs.Common.{◌≡◌, ◌<◌, length, Ok}
use Rattle.frames.specs.Files.{File, frames_of}
use Rattle.procedure.proofs.Walking.{Reached}
use Rattle.procedure.proofs.acts.action_frame.Given as goal

abbrev pub invariant-loop-k : goal.invariant-loop-k
invariant-loop-k l =
    (whole : File) → frames_of l.file ≡ Ok whole → l.number < length whole.rest.actions → Reached l.file whole l.k l.place
