use Rattle.std.proofs.Common.{◌≡◌, sym, refl, ap, subst, inl, inr, arith}
use Rattle.std.proofs.lemmas.Bool.{both_ways}
use Rattle.knowledge.specs.declared.states.Row.{Row}
use Rattle.plans.specs.Trees.{act, NodeAt}
use Rattle.procedure.specs.Acts.{row_of}
use Rattle.meaning.specs.Sets.{Covers}
use Rattle.runs.specs.Stepping.{Stepped}
use Rattle.meaning.specs.declared.answers.Cause.TheVariants.{UnmetConditions}
use Rattle.runs.specs.declared.pending.Pending.{Pending}
use Rattle.runs.specs.declared.run.Run.{Run}
use Rattle.runs.specs.declared.run.Step.TheVariants.{Did, Asks, Failed}
use Rattle.runs.proofs.Nodes.{shown_doing, shown_reading}
use Rattle.runs.proofs.Room.{room}
use Rattle.runs.proofs.run.Run.step.Goals as goal

pub returns-then-knows_all-2 : goal.returns-then-knows_all-2
returns-then-knows_all-2 g c = λ p e q node.
    let worlds = g.K.Knowledge.worlds in
    let i = c.args.self.place in
    let k = c.args.self.knowledge in
    let x = c.in-Doing.action in
    let met : row_of c.conditions.result ≡ row_of x.conditions = ap row_of c.conditions.ensures in
    let run : Run g.row.K.Denot = record { place = c.saturating_add.result; knowledge = c.apply.result } in
    shown_doing p.actions (λ r. NodeAt p.place p.plan i r → Stepped worlds p.goal p.actions i k r (Did c.in-Doing.number run)) q c.in-Doing.number x (c.in-Doing.ensures p e q node)
    (λ rest found at. (
      row_of x.conditions,
      x.add,
      x.del,
      found,
      inl (
        subst (λ (r : Row). Covers r (worlds k)) met (c.knows_all-in-Doing.ensures.0 c.if-knows_all-2.true),
        (run, refl, omega (arith, room c.args.loaded.now.file.now p e i (act c.in-Doing.number rest) at), c.apply.ensures),
      ),
    )) node

pub returns-else-knows_all-2 : goal.returns-else-knows_all-2
returns-else-knows_all-2 g c = λ p e q node.
    let worlds = g.K.Knowledge.worlds in
    let i = c.args.self.place in
    let k = c.args.self.knowledge in
    let x = c.in-Doing.action in
    let met : row_of c.conditions.result ≡ row_of x.conditions = ap row_of c.conditions.ensures in
    shown_doing p.actions (λ r. Stepped worlds p.goal p.actions i k r (Failed i UnmetConditions)) q c.in-Doing.number x (c.in-Doing.ensures p e q node)
    (λ rest found. (
      row_of x.conditions,
      x.add,
      x.del,
      found,
      inr ((λ cov. both_ways _ c.if-knows_all-2.false (c.knows_all-in-Doing.ensures.1 (subst (λ (r : Row). Covers r (worlds k)) (sym met) cov))), refl),
    ))

pub returns-then-knows_all-3 : goal.returns-then-knows_all-3
returns-then-knows_all-3 g c = λ p e q node.
    let worlds = g.K.Knowledge.worlds in
    let i = c.args.self.place in
    let k = c.args.self.knowledge in
    let x = c.in-Reading.action in
    let pending : Pending g.row.K.Denot = record { place = i; number = c.in-Reading.number; fluent = x.fluent; knowledge = k } in
    shown_reading p.actions (λ r. Stepped worlds p.goal p.actions i k r (Asks pending)) q c.in-Reading.number x (c.in-Reading.ensures p e q node)
    (λ t f found. (
      row_of x.conditions,
      x.fluent.index,
      found,
      inl (c.knows_all-in-Reading.ensures.0 c.if-knows_all-3.true, (pending, refl, refl, refl, refl, refl)),
    ))

pub returns-else-knows_all-3 : goal.returns-else-knows_all-3
returns-else-knows_all-3 g c = λ p e q node.
    let worlds = g.K.Knowledge.worlds in
    let i = c.args.self.place in
    let k = c.args.self.knowledge in
    let x = c.in-Reading.action in
    shown_reading p.actions (λ r. Stepped worlds p.goal p.actions i k r (Failed i UnmetConditions)) q c.in-Reading.number x (c.in-Reading.ensures p e q node)
    (λ t f found. (
      row_of x.conditions,
      x.fluent.index,
      found,
      inr ((λ cov. both_ways _ c.if-knows_all-3.false (c.knows_all-in-Reading.ensures.1 cov)), refl),
    ))
