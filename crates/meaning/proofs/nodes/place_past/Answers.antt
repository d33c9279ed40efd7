use Rattle.std.proofs.Common.{◌≡◌, length, unwrap_or, ap, ◌∙◌, arith}
use Rattle.plans.specs.Trees.{encode}
use Rattle.plans.proofs.Places.{node_within}
use Rattle.procedure.proofs.Holding.{plan_lies}
use Rattle.meaning.proofs.nodes.place_past.Goals as goal

pub returns : goal.returns
returns c = λ p e q node.
    let within = node_within p.plan p.place c.args.place q node in
    let lies = (plan_lies c.args.loaded.now.file.now p e).0 in
    let passed : c.unwrap_or.result ≡ length (encode q) = c.unwrap_or.ensures ∙ ap (λ o. unwrap_or o 0) (c.subplan_length.ensures p e q node) in
    omega arith
