use Rattle.std.proofs.Common.{◌-◌, length}
use Rattle.plans.proofs.Draft.+subplan.Given as goal

abbrev pub decreases-subplan : goal.decreases-subplan
decreases-subplan l = length l.self.now.bytes.now - l.at
