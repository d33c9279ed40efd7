-- How rows and worlds are ordered. Assumes nothing.
use Rattle.knowledge.specs.declared.orders.Distinct.{Distinct}
use Rattle.std.specs.Prelude.{Bool, ◌&&◌, ◌||◌, ◌==◌, bit_and, nat_le, nat_lt}
use Rattle.knowledge.specs.declared.states.Row.{Row}

-- every literal of a is one of b, so that whatever makes b true makes a true
abbrev pub row_below : Row → Row → Bool
row_below a b = bit_and a.trues b.trues == a.trues && bit_and a.falses b.falses == a.falses

-- a comes before b, or equals it: by the true fluents, then by the false ones, as numbers
abbrev pub row_upto : Row → Row → Bool
row_upto a b = nat_lt a.trues b.trues || (a.trues == b.trues && nat_le a.falses b.falses)

-- a world is below itself alone
abbrev pub world_below : Distinct → Distinct → Bool
world_below a b = a.world == b.world

-- worlds ascend as numbers
abbrev pub world_upto : Distinct → Distinct → Bool
world_upto a b = nat_le a.world b.world
