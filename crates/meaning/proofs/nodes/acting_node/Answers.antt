use Rattle.std.proofs.Common.{Some, option_map, refl, ap, ◌∙◌}
use Rattle.procedure.specs.Acts.{act_seen}
use Rattle.meaning.proofs.Loading.{act_at_answered, doing_answered, reading_answered}
use Rattle.meaning.proofs.nodes.acting_node.Goals as goal

pub returns-in_err-action-clause-doing : goal.returns-in_err-action-clause-doing
returns-in_err-action-clause-doing c = λ p e k does.
    let found = (doing_answered p.actions c.args.number c.action.result (c.action.ensures p e) does).1 in
    let none = c.in_err-action.was in
    cc

pub returns-in_err-action-clause-reading : goal.returns-in_err-action-clause-reading
returns-in_err-action-clause-reading c = λ p e k reads.
    let found = (reading_answered p.actions c.args.number c.action.result (c.action.ensures p e) reads).1 in
    let none = c.in_err-action.was in
    cc

pub returns-in-Doing-Doing-clause-doing : goal.returns-in-Doing-Doing-clause-doing
returns-in-Doing-Doing-clause-doing c = λ p e k does.
    (c.in-Doing-Doing.action, refl, act_at_answered p.actions c.args.number c.action.result (c.action.ensures p e) ∙ ap (option_map act_seen) (c.in_ok-action.was ∙ ap Some c.in-Doing-Doing.is-1))

pub returns-in-Reading-Reading-clause-reading : goal.returns-in-Reading-Reading-clause-reading
returns-in-Reading-Reading-clause-reading c = λ p e k reads.
    (c.in-Reading-Reading.action, refl, act_at_answered p.actions c.args.number c.action.result (c.action.ensures p e) ∙ ap (option_map act_seen) (c.in_ok-action.was ∙ ap Some c.in-Reading-Reading.is-1))

pub returns-in_default-clause-doing : goal.returns-in_default-clause-doing
returns-in_default-clause-doing c = λ p e k does.
    let found = (doing_answered p.actions c.args.number c.action.result (c.action.ensures p e) does).1 in
    let some = c.in_ok-action.was in
    cc

pub returns-in_default-2-clause-reading : goal.returns-in_default-2-clause-reading
returns-in_default-2-clause-reading c = λ p e k reads.
    let found = (reading_answered p.actions c.args.number c.action.result (c.action.ensures p e) reads).1 in
    let some = c.in_ok-action.was in
    cc
