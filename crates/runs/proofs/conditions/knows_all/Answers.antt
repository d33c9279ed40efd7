use Rattle.std.proofs.Common.{rules, refl}
use Rattle.std.proofs.lemmas.Iterator.{cases_from_all, YieldsList-from_range}
use Rattle.procedure.specs.Acts.{row_of}
use Rattle.runs.specs.Knowing.{CoversAt}
use Rattle.runs.proofs.Knowing.{covers_found}
use Rattle.runs.proofs.conditions.knows_all.Goals as goal

pub returns : goal.returns
returns g c =
    let K = g.K.Knowledge.worlds c.args.known.now in
    let r = row_of c.args.state in
    covers_found r K c.args.state.fit c.args.state.fit_falses c.all.result
    (cases_from_all _ _ _ (λ i. CoversAt r i K) (λ i. CoversAt r i K → ⊥) c.all.ensures.ran (YieldsList-from_range 0 64 64 refl refl) (λ x q k. search rules) (λ x q k. search rules))
