use Rattle.std.proofs.Common.{arith}
use Rattle.panel.proofs.Onward.{stands_within}
use Rattle.panel.proofs.armed.Armed.place.Goals as goal

pub returns-clause-within : goal.returns-clause-within
returns-clause-within c = omega (arith, c.place.ensures, stands_within _ _ c.args.self.now.ready)
