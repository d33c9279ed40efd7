use Rattle.std.proofs.Common.{◌<◌, ◌≡◌, ◌-◌, length, Ok, sym, ◌∙◌, subst, arith}
use Rattle.procedure.specs.Procedures.{Procedure, procedure_of}
use Rattle.procedure.proofs.Walking.{ok_same}
use Rattle.meaning.specs.Steps.{tree_of}
use Rattle.meaning.specs.Walks.{Walks}
use Rattle.meaning.proofs.Covering.{covered_safe}
use Rattle.runs.proofs.Along.{Left, left_begun, left_within, left_did, left_on, left_ended, left_failed, left_asking, left_node, left_used_up, left_refused, left_settled, left_further}
use Rattle.runs.proofs.Room.{loaded_has, plan_end}
use Rattle.runs.proofs.walk.walk.Given as given
use Rattle.runs.proofs.walk.walk.Goals as goal
use Rattle.runs.proofs.walk.walk.Goals.{in-Asks+in_default, in-Asks+in-Some+in-Err, in-Ended, in-Failed}

pub loop-next-init : goal.loop-next-init
loop-next-init g c =
    let p = loaded_has c.args.loaded.now in
    left_begun p.0 p.1 c.begin-run.result (c.begin-run.ensures.1 p.0 p.1) mathlib.Core.Path.refl

pub loop-next-smaller-in-Did : goal.loop-next-smaller-in-Did
loop-next-smaller-in-Did g c =
    let w = c.loop-next.invariant in
    omega (arith, plan_end c.args.loaded.now w.p w.is, left_within w, left_on w c.in-Did.number c.in-Did.next (c.in-Did.ensures w.p w.is w.q w.at))

pub loop-next-preserved-in-Did : goal.loop-next-preserved-in-Did
loop-next-preserved-in-Did g c =
    let w = c.loop-next.invariant in
    left_did w c.in-Did.number c.in-Did.next (c.in-Did.ensures w.p w.is w.q w.at)

-- the value is learned: the run stands further on, and the walk goes on from there
settled : (g : given.Over) (c : goal.In-Ok g)
    → (c.loop-next.run.place < c.in-Ok.next.place) × Left g.K.Knowledge.worlds c.args.loaded.now.file.now c.begin-run.result.knowledge c.args.readings.now c.in-Ok.next c.in-Some.later.now
settled g c =
    let w = c.loop-next.invariant in
    let x = c.in-Asks.pending in
    let step = c.in-Asks.ensures w.p w.is w.q w.at in
    let a = left_asking w x step in
    let here = c.in-Some.ensures.cases.0 in
    let goes = c.in-Ok.ensures.goes w.p w.is a.a a.t a.e (left_node w x step) in
    (left_further w x step _ _ here c.in-Ok.next c.in-Ok.ensures.learned goes, left_settled w x step _ _ here c.in-Ok.next c.in-Ok.ensures.learned goes)

pub loop-next-smaller : goal.loop-next-smaller
loop-next-smaller g c =
    let w = c.loop-next.invariant in
    omega (arith, plan_end c.args.loaded.now w.p w.is, left_within w, (settled g c).0)

pub loop-next-preserved : goal.loop-next-preserved
loop-next-preserved g c = (settled g c).1

-- the walk from what the first run knows, for one procedure of the file
walked : (g : given.Over) (c : goal.Joined-step g)
    → Walks c.loop-next.invariant.p.goal (tree_of c.loop-next.invariant.p) (g.K.Knowledge.worlds c.begin-run.result.knowledge) c.args.readings.now (length c.args.readings.now - length c.match-step.left.now) c.match-step.stop
walked g c =
    let w = c.loop-next.invariant in
    elim c.match-step.branch [
      | in-Asks+in_default v ↦
          rw (v.stop-is, v.left-is, v.place.ensures) (left_used_up w v.in-Asks.pending (v.in-Asks.ensures w.p w.is w.q w.at) _ (omega (arith, w.few)) v.in_default.ensures.cases)
      | in-Asks+in-Some+in-Err v ↦
          rw (v.stop-is, v.left-is)
          (left_refused w v.in-Asks.pending (v.in-Asks.ensures w.p w.is w.q w.at) v.in-Some.value.now v.in-Some.later.now v.in-Some.ensures.cases.0 _ (omega (arith, w.few, v.in-Some.ensures.cases.1)) v.in-Err.fault v.in-Err.ensures.learned)
      | in-Ended v ↦ rw (v.stop-is, v.left-is) (left_ended w _ (omega (arith, w.few)) (v.in-Ended.ensures w.p w.is w.q w.at))
      | in-Failed v ↦ rw (v.stop-is, v.left-is) (left_failed w _ (omega (arith, w.few)) v.in-Failed.place v.in-Failed.cause (v.in-Failed.ensures w.p w.is w.q w.at))
    ]

pub returns : goal.returns
returns g c =
    let worlds = g.K.Knowledge.worlds in
    let w = c.loop-next.invariant in
    let value = λ (p : Procedure) (e : procedure_of c.args.loaded.now.file.now ≡ Ok p).
    subst (λ k. Walks p.goal (tree_of p) (worlds k) c.args.readings.now (length c.args.readings.now - length c.match-step.left.now) c.match-step.stop) c.begin-run.ensures.0
    (subst (λ x. Walks x.goal (tree_of x) (worlds c.begin-run.result.knowledge) c.args.readings.now (length c.args.readings.now - length c.match-step.left.now) c.match-step.stop) (ok_same (sym w.is ∙ e)) (walked g c)) in
    record {
      value = value;
      covered = λ p e rs rows cov. covered_safe p.goal (tree_of p) rs rows (worlds c.args.start) cov c.args.readings.now _ _ (value p e);
      safe = λ p e rs rows. covered_safe p.goal (tree_of p) rs rows (worlds c.args.start);
    }
