use Rattle.std.proofs.Common.{ap, ◌∙◌, ℕ, Some}
use Rattle.panel.specs.declared.answers.Confirmed.TheVariants.{Did, Reads, Ended}
use Rattle.client.proofs.Told.{first_told}
use Rattle.client.proofs.number_here.Goals as goal

pub returns-in-Did-clause-number : goal.returns-in-Did-clause-number
returns-in-Did-clause-number c = λ p is q at. first_told p.goal p.actions c.args.armed q (Did c.in-Did.number c.in-Did.armed) (c.in-Did.ensures.value p is q at)

pub returns-in-Reads-clause-number : goal.returns-in-Reads-clause-number
returns-in-Reads-clause-number c = λ p is q at.
    ap (λ (n : ℕ). Some n) c.number.ensures ∙ first_told p.goal p.actions c.args.armed q (Reads c.in-Reads.reading) (c.in-Reads.ensures.value p is q at)

pub returns-in-Ended-clause-number : goal.returns-in-Ended-clause-number
returns-in-Ended-clause-number c = λ p is q at. first_told p.goal p.actions c.args.armed q (Ended c.in-Ended.over) (c.in-Ended.ensures.value p is q at)
