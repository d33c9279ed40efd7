-- The count is that of the table's lines, each of which stands.
use Rattle.std.proofs.Common.{refl}
use Rattle.cases.specs.Table.{table}
use Rattle.cases.proofs.Tabled.{all_stand_lem}
use Rattle.cases.proofs.worked_cases.Goals as goal

pub returns : goal.returns
unfolding table
returns c = (refl, all_stand_lem)
