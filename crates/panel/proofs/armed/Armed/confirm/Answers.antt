use Rattle.std.proofs.Common.{refl, ap, ◌∙◌}
use mathlib.Core.Logic.{∥∥₁_elim, ∥∥₁_map}
use Rattle.procedure.specs.Procedures.{procedure_of}
use Rattle.runs.proofs.Along.{at_doing}
use Rattle.panel.specs.Cases.{worlds_in}
use Rattle.panel.proofs.Onward.{ready_did, did_onward, ready_asks, asks_onward, ready_fails_not, ended_finish, asks_at}
use Rattle.panel.proofs.armed.Armed.confirm.Goals as goal

pub invariant_of-armed : goal.invariant_of-armed
invariant_of-armed c = record {
  ready = rw (c.put-loaded.ensures, c.take-loaded.ensures) (∥∥₁_map c.args.self.ready (ready_did _ _ _ _ (rw c.take-loaded.ensures at c.in-Did.ensures)));
}

pub invariant_of-result : goal.invariant_of-result
invariant_of-result c = record {
  asked = rw (c.put-loaded.ensures, c.take-loaded.ensures) (∥∥₁_map c.args.self.ready (ready_asks _ _ _ (rw c.take-loaded.ensures at c.in-Asks.ensures)));
}

pub unreachable-requires : goal.unreachable-requires
unreachable-requires c =
    ∥∥₁_elim c.args.self.ready (λ x y. absurd x) (ready_fails_not _ _ c.in-Failed.place c.in-Failed.cause (rw c.take-loaded.ensures at c.in-Failed.ensures))

pub returns-in-Did-clause-value : goal.returns-in-Did-clause-value
returns-in-Did-clause-value c = λ p e q node.
    let a = c.args.self in
    let here = ap (λ v. procedure_of v.file.now) c.take-loaded.ensures ∙ e in
    let d = at_doing worlds_in p.goal p.actions a.run.place a.run.knowledge q c.in-Did.number c.in-Did.run' (c.in-Did.ensures p here q node) in
    rw d.is
    (d.c, d.add, d.del, d.found, d.covers, (_, refl, record { stays = record { same = c.put-loaded.ensures ∙ c.take-loaded.ensures; permit = refl }; place = d.there; worlds = d.knows }))

pub returns-in-Did-clause-onward : goal.returns-in-Did-clause-onward
returns-in-Did-clause-onward c = did_onward _ _ c.in-Did.number c.in-Did.run' (rw c.take-loaded.ensures at c.in-Did.ensures) c.args.self.ready

pub returns-in-Asks-clause-value : goal.returns-in-Asks-clause-value
returns-in-Asks-clause-value c = λ p e q node.
    let a = c.args.self in
    let here = ap (λ v. procedure_of v.file.now) c.take-loaded.ensures ∙ e in
    let x = asks_at p.goal p.actions a.run.place a.run.knowledge q c.in-Asks.pending (c.in-Asks.ensures p here q node) in
    rw x.is
    (x.c, c.in-Asks.pending.fluent.index, x.found, x.covers, (_, refl, record { stays = record { same = c.put-loaded.ensures ∙ c.take-loaded.ensures; permit = refl }; place = x.there; action = refl; fluent = refl; knowledge = x.knows }))

pub returns-in-Asks-clause-onward : goal.returns-in-Asks-clause-onward
returns-in-Asks-clause-onward c = asks_onward _ _ c.in-Asks.pending (rw c.take-loaded.ensures at c.in-Asks.ensures) c.args.self.ready

pub returns-in-Ended-clause-value : goal.returns-in-Ended-clause-value
returns-in-Ended-clause-value c = λ p e q node.
    let a = c.args.self in
    let here = ap (λ v. procedure_of v.file.now) c.take-loaded.ensures ∙ e in
    let is = ended_finish p.goal p.actions a.run.place a.run.knowledge q (c.in-Ended.ensures p here q node) in
    rw is.0 (is.1, (_, refl, record { same = c.end.ensures.same ∙ c.put-loaded.ensures ∙ c.take-loaded.ensures; held = c.end.ensures.held; word = c.end.ensures.word }))
