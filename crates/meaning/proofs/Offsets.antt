-- Where the nodes of a plan stand among its bytes, and the bytes that a node begins with. Assumes nothing.
use Rattle.std.proofs.Common.{◌⊎◌, inl, inr, Option, Some, None, Bor, MatchOption, IsSomeAnd, ◌≡◌, ℕ, ◌+◌, ◌-◌, ◌<◌, ◌≤◌, List, [], ◌++◌, length, drop, replicate, sym, ap, ◌∙◌, append-nil, arith}
use lib.ListN.{length-replicate}
use Rattle.std.proofs.lemmas.List.{drop-drop, drop_at, take_rest}
use Rattle.std.specs.List.{slice_range}
use Rattle.plans.specs.Trees.{Plan, encode, NodeAt}
use Rattle.plans.proofs.Places.{node_stands, node_within}

-- a node at the place j of a plan whose first node stands at i has its bytes at offset j - i of the plan's
pub node_offset : (p : Plan) (i j : ℕ) (q : Plan) → NodeAt i p j q → (more : List ℕ) × (drop (j - i) (encode p) ≡ encode q ++ more)
node_offset p i j q at =
    let s = replicate i 0 ++ encode p in
    let from : drop i s ≡ encode p = drop_at (replicate i 0) (encode p) i (length-replicate i 0) in
    let got = node_stands p s i j q [] (from ∙ sym (append-nil (encode p))) at in
    let within : i ≤ j = (node_within p i j q at).0 in
    let sum : i + (j - i) ≡ j = omega arith in
    (got.0, ap (drop (j - i)) (sym from) ∙ drop-drop (j - i) i s ∙ ap (λ (n : ℕ). drop n s) sum ∙ got.1)

-- what a slice's `get` gives from an offset within it on: the bytes from there
pub got_from : (s : List ℕ) (at : ℕ) (o : Option (Bor (List ℕ))) → at ≤ length s
    → MatchOption o ((length s < at) ⊎ (length s < length s)) (λ x. (at ≤ length s) × (length s ≤ length s) × (x.now ≡ slice_range s at (length s)) × (length x.now + at ≡ length s))
    → (more : List ℕ) (q : Plan) → drop at s ≡ encode q ++ more → IsSomeAnd o (λ bytes. (rest : List ℕ) × (bytes.now ≡ encode q ++ rest))
got_from s at None low (inl h) more q e = omega arith
got_from s at None low (inr h) more q e = omega arith
got_from s at (Some x) low h more q e = (more, h.2 ∙ take_rest s at ∙ e)
