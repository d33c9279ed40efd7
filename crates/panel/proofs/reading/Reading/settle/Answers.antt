use Rattle.std.proofs.Common.{ap, ◌∙◌}
use mathlib.Core.Logic.{∥∥₁_map}
use Rattle.procedure.specs.Procedures.{procedure_of}
use Rattle.panel.proofs.Onward.{settled_ready, settled_onward}
use Rattle.panel.proofs.reading.Reading.settle.Goals as goal

pub invariant_of-result : goal.invariant_of-result
invariant_of-result c =
    let told = c.in-Ok.ensures.learned in record {
      ready = rw (c.put-loaded.ensures, c.take-loaded.ensures)
          (∥∥₁_map c.args.self.asked (settled_ready _ _ c.args.value _ told.0 told.1 (λ p e. c.in-Ok.ensures.goes p (ap (λ v. procedure_of v.file.now) c.take-loaded.ensures ∙ e))));
    }

pub returns-in-Ok-clause-onward : goal.returns-in-Ok-clause-onward
returns-in-Ok-clause-onward c =
    settled_onward _ _ c.args.value c.in-Ok.run' (λ p e. c.in-Ok.ensures.goes p (ap (λ v. procedure_of v.file.now) c.take-loaded.ensures ∙ e)) c.args.self.asked
