-- Rows and distinct worlds ascend in a total order, that of their derived `Ord`. Assumes nothing.
use Rattle.std.proofs.Common.{rules, ◌≡◌, true, false}
use Rattle.std.specs.Ordering.{is_le}
use Rattle.knowledge.specs.Orders.{row_upto, world_upto}
use Rattle.knowledge.specs.contracts.orders.DistinctLeast.TheImpl.Laws.{upto_transitive-law as world_transitive, upto_total-law as world_total}
use Rattle.knowledge.specs.contracts.orders.DistinctOrd.TheImpl as world_ord
use Rattle.knowledge.specs.contracts.orders.RowLeast.TheImpl.Laws.{upto_transitive-law as row_transitive, upto_total-law as row_total}
use Rattle.knowledge.specs.contracts.states.RowOrd.TheImpl as row_ord
use Rattle.knowledge.specs.declared.orders.Distinct.{Distinct}
use Rattle.knowledge.specs.declared.states.Row.{Row}

pub row_upto_trans : (x y z : Row) → row_upto x y ≡ true → row_upto y z ≡ true → row_upto x z ≡ true
row_upto_trans = row_transitive

pub row_upto_total : (x y : Row) → row_upto x y ≡ false → row_upto y x ≡ true
row_upto_total = row_total

-- one row comes before another, or equals it, exactly where `cmp` does not answer `Greater`
pub row_upto_is_cmp : (x y : Row) → row_upto x y ≡ is_le ((row_ord.ghosts).cmp x y)
row_upto_is_cmp x y = search rules

pub world_upto_trans : (x y z : Distinct) → world_upto x y ≡ true → world_upto y z ≡ true → world_upto x z ≡ true
world_upto_trans = world_transitive

pub world_upto_total : (x y : Distinct) → world_upto x y ≡ false → world_upto y x ≡ true
world_upto_total = world_total

-- the same of worlds
pub world_upto_is_cmp : (x y : Distinct) → world_upto x y ≡ is_le ((world_ord.ghosts).cmp x y)
world_upto_is_cmp x y = search rules
