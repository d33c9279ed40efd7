use Rattle.std.proofs.Common.{rules}
use Rattle.procedure.specs.Acts.{row_of}
use Rattle.runs.proofs.Knowing.{covers_option}
use Rattle.runs.proofs.conditions.knows_at.Goals as goal

pub returns : goal.returns
returns g c =
    covers_option (row_of c.args.state) c.args.index (g.K.Knowledge.worlds c.args.known.now) c.args.state.apart c.is_none_or.result c.literal_of.result _ c.literal_of.ensures c.is_none_or.ensures
    (λ l k. search rules)
