-- What Confirm tells of the first action. Assumes nothing.
use Rattle.std.proofs.Common.{◌≡◌, ℕ, List, Option, Some, None, ap, ◌∙◌}
use Rattle.knowledge.specs.declared.states.Row.{Row}
use Rattle.plans.specs.Trees.{Plan, finish, act, ask, gap}
use Rattle.procedure.specs.Procedures.{Act}
use Rattle.panel.specs.Confirming.{ConfirmedAs}
use Rattle.panel.specs.declared.answers.Confirmed.{Confirmed}
use Rattle.panel.specs.declared.answers.Confirmed.TheVariants.{Did, Reads, Ended}
use Rattle.panel.specs.declared.armed.Armed.{Armed}
use Rattle.client.specs.First.{first_number}

-- the number that Confirm tells
abbrev pub told_number : Confirmed → Option ℕ
told_number (Did n b) = Some n
told_number (Reads x) = Some x.pending.number
told_number (Ended o) = None

pub first_told : (goal : Row) (acts : List Act) (a : Armed) (q : Plan) (r : Confirmed) → ConfirmedAs goal acts a q r → told_number r ≡ first_number q
first_told goal acts a finish r (cov, (o, is, back)) = ap told_number is
first_told goal acts a (act n q) r (c, add, del, found, cov, (b, is, on)) = ap told_number is
first_told goal acts a (ask n t e) r (c, f, found, cov, (x, is, waits)) = ap told_number is ∙ ap (λ (m : ℕ). Some m) waits.action
first_told goal acts a gap r h = absurd h
