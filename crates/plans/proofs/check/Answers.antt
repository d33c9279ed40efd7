use Rattle.std.proofs.Common.{sym, ◌∙◌}
use Rattle.plans.proofs.Codes.{encode_injective}
use Rattle.plans.proofs.Parses.{plan_complete}
use Rattle.plans.proofs.Turns.{trees, flaws, place}
use Rattle.plans.proofs.check.Goals as goal

pub returns-clause-trees : goal.returns-clause-trees
returns-clause-trees c = trees _ _ c.args.plan.now _ c.whole.ensures

pub returns-clause-flaws : goal.returns-clause-flaws
returns-clause-flaws c = flaws _ _ c.args.plan.now _ c.whole.ensures

pub returns-clause-tree : goal.returns-clause-tree
returns-clause-tree c = plan_complete _ _ c.args.plan.now

pub returns-clause-unique : goal.returns-clause-unique
returns-clause-unique c = λ p q g h. encode_injective p q (sym g ∙ h)

pub returns-clause-place : goal.returns-clause-place
returns-clause-place c = place _ _ c.args.plan.now _ c.whole.ensures
