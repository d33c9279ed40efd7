use Rattle.std.proofs.Common.{◌≡◌, ℕ, ◌-◌, ◌++◌, length, drop, ap, ◌∙◌, arith}
use Rattle.plans.specs.Trees.{encode}
use Rattle.plans.proofs.Places.{node_within}
use Rattle.meaning.proofs.Offsets.{node_offset, got_from}
use Rattle.meaning.proofs.nodes.bytes_from.Goals as goal

pub returns-in_err-at : goal.returns-in_err-at
returns-in_err-at c = λ p e q node.
    let within = (node_within p.plan p.place c.args.place q node).0 in
    let v = c.plan-plan.ensures.value p e in
    absurd (c.in_err-at.ensures (omega arith))

pub returns : goal.returns
returns c = λ p e q node.
    let s = c.plan-plan.result.bytes.now in
    let v = c.plan-plan.ensures.value p e in
    let within = node_within p.plan p.place c.args.place q node in
    let found = node_offset p.plan p.place c.args.place q node in
    let at = c.in_ok-at.ensures.1 in
    let here : c.in_ok-at.at ≡ c.args.place - p.place = omega arith in
    let stands : drop c.in_ok-at.at s ≡ encode q ++ found.0 = ap (drop c.in_ok-at.at) v.0 ∙ ap (λ (n : ℕ). drop n (encode p.plan)) here ∙ found.1 in
    got_from s c.in_ok-at.at c.get.result (omega (arith, ap length v.0)) c.get.ensures.lookup.0 found.0 q stands
