use Rattle.std.proofs.Common.{◌≡◌, Ok}
use Rattle.frames.specs.Files.{File, frames_of}
use Rattle.procedure.proofs.Loading.{Progress}
use Rattle.procedure.proofs.acts.sorts_of.Given as goal

abbrev pub invariant-loop-k : goal.invariant-loop-k
invariant-loop-k l =
    (whole : File) → frames_of l.file ≡ Ok whole
    → Progress l.n l.file whole.rest.actions l.k l.place l.sorts
