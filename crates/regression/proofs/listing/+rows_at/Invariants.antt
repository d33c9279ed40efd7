use Rattle.std.proofs.Common.{◌+◌, ◌-◌}
use Rattle.regression.proofs.listing.+rows_at.Given as goal

abbrev pub decreases-rows_at : goal.decreases-rows_at
decreases-rows_at l = l.loaded.now.plan + l.loaded.now.len - l.place
