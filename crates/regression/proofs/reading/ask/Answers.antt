use Rattle.procedure.specs.Acts.{row_of}
use Rattle.regression.proofs.Lists.{gather_asked}
use Rattle.regression.proofs.reading.ask.Goals as goal

pub returns : goal.returns
returns c =
    gather_asked (row_of c.args.action.conditions) c.args.action.fluent.index c.args.trues.now c.args.falses.now _ _ c.agreeing-trues.ensures c.agreeing-falses.ensures _ _ _
    (rw (c.clear.ensures, c.alone.ensures, c.as_slice.ensures.value) at c.add_joined.ensures.rows)
    (rw (c.alone-2.ensures, c.as_slice-2.ensures.value) at c.add_joined-2.ensures.rows)
    c.add_pairs.ensures
