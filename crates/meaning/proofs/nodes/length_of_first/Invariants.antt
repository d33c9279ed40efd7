use Rattle.std.proofs.Common.{◌≡◌, ℕ, ◌+◌, ◌≤◌, List, ◌++◌, length}
use Rattle.std.specs.Slice.Iter.{iter_rest}
use Rattle.plans.specs.Trees.{Plan, encode}
use Rattle.meaning.proofs.Passing.{Ahead}
use Rattle.meaning.proofs.nodes.length_of_first.Given as goal

abbrev pub invariant-loop-due : goal.invariant-loop-due
invariant-loop-due l = record {
  few : l.due + length (iter_rest l.rest) ≤ length l.bytes + 1;
  within : length (iter_rest l.rest) ≤ length l.bytes;
  ahead : (q : Plan) (rest : List ℕ) → l.bytes ≡ encode q ++ rest → Ahead (iter_rest l.rest) l.due rest;
}

abbrev pub decreases-loop-due : goal.decreases-loop-due
decreases-loop-due l = length (iter_rest l.rest)
