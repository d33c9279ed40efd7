use Rattle.std.proofs.Common.{◌≡◌, ℕ, List, Ok, sym, ◌∙◌, subst, arith}
use Rattle.knowledge.specs.declared.states.Row.{Row}
use Rattle.procedure.specs.Procedures.{Procedure, procedure_of}
use Rattle.procedure.proofs.Walking.{ok_same}
use Rattle.meaning.specs.Follows.{Follows, Judges}
use Rattle.meaning.specs.Laws.{CoveredBy}
use Rattle.meaning.specs.Rows.{rows_of}
use Rattle.meaning.specs.Steps.{tree_of}
use Rattle.meaning.specs.declared.answers.Verdict.{Verdict}
use Rattle.meaning.specs.declared.answers.Verdict.TheVariants.{Holds, Fails}
use Rattle.meaning.proofs.Covering.{covered_well}
use Rattle.meaning.proofs.Following.{follows_judges}
use Rattle.meaning.proofs.Loading.{few_readings}
use Rattle.runs.proofs.Ahead.{Ahead, ahead_begun, ahead_within, ahead_did, further_did, ahead_over, ahead_next, ahead_failed, ahead_one, room_both, further_both, ahead_both}
use Rattle.runs.proofs.Room.{loaded_has, plan_end}
use Rattle.runs.proofs.follow.follow.Goals as goal

-- a verdict that follows for one procedure of the file and what the first run knows, in the words of the caller
promised : {A : Type 0} (worlds : A → ℕ → Type 0) (file : List ℕ) (k start : A) → k ≡ start → (v : Verdict) (p' : Procedure) → procedure_of file ≡ Ok p'
    → Follows p'.goal (tree_of p') (worlds k) v
    → record {
      value : (p : Procedure) → procedure_of file ≡ Ok p → Follows p.goal (tree_of p) (worlds start) v;
      covered : (p : Procedure) → procedure_of file ≡ Ok p → (rs : List Row) → rows_of p.goal (tree_of p) ≡ Ok rs → CoveredBy rs (worlds start) → v ≡ Holds;
      judges : (p : Procedure) → procedure_of file ≡ Ok p → Judges p.goal (tree_of p) (worlds start) v;
    }
promised worlds file k start same v p' is follows =
    let value = λ (p : Procedure) (e : procedure_of file ≡ Ok p).
    subst (λ x. Follows p.goal (tree_of p) (worlds x) v) same (subst (λ x. Follows x.goal (tree_of x) (worlds k) v) (ok_same (sym is ∙ e)) follows) in
    let judges = λ (p : Procedure) (e : procedure_of file ≡ Ok p). follows_judges p.goal (tree_of p) (worlds start) v (value p e) in
    record {
      value = value;
      covered = λ p e rs rows cov. (judges p e).well_holds (covered_well p.goal (tree_of p) rs rows (worlds start) cov);
      judges = judges;
    }

pub loop-next-init : goal.loop-next-init
loop-next-init g c =
    let l = c.args.loaded.now in
    let p = loaded_has l in
    let none = ahead_begun p.0 p.1 (few_readings l.file.now p.0 p.1) c.begin-run.result (c.begin-run.ensures.1 p.0 p.1) mathlib.Core.Path.refl in
    subst (Ahead g.K.Knowledge.worlds l.file.now c.begin-run.result.knowledge c.begin-run.result) (sym c.none-waiting.ensures) none

pub loop-next-smaller-in-Did : goal.loop-next-smaller-in-Did
loop-next-smaller-in-Did g c =
    let w = c.loop-next.invariant in
    omega (arith, plan_end c.args.loaded.now w.p w.is, ahead_within w, further_did w c.in-Did.number c.in-Did.next c.in-Did.ensures)

pub loop-next-preserved-in-Did : goal.loop-next-preserved-in-Did
loop-next-preserved-in-Did g c = ahead_did c.loop-next.invariant c.in-Did.number c.in-Did.next c.in-Did.ensures

pub loop-next-smaller-in-One : goal.loop-next-smaller-in-One
loop-next-smaller-in-One g c =
    let w = c.loop-next.invariant in
    omega (arith, plan_end c.args.loaded.now w.p w.is, ahead_within w, (ahead_one w g.met.K.Knowledge.some c.in-Asks.pending c.in-Asks.ensures c.in-One.next c.in-One.ensures).0)

pub loop-next-preserved-in-One : goal.loop-next-preserved-in-One
loop-next-preserved-in-One g c = (ahead_one c.loop-next.invariant g.met.K.Knowledge.some c.in-Asks.pending c.in-Asks.ensures c.in-One.next c.in-One.ensures).1

pub push-requires : goal.push-requires
push-requires g c = room_both c.loop-next.invariant g.met.K.Knowledge.some c.in-Asks.pending c.in-Asks.ensures

pub loop-next-smaller-in-Both : goal.loop-next-smaller-in-Both
loop-next-smaller-in-Both g c =
    let w = c.loop-next.invariant in
    omega (arith, plan_end c.args.loaded.now w.p w.is, ahead_within w, further_both w g.met.K.Knowledge.some c.in-Asks.pending c.in-Asks.ensures c.in-Both.next c.in-Both.later c.in-Both.ensures)

pub loop-next-preserved-in-Both : goal.loop-next-preserved-in-Both
loop-next-preserved-in-Both g c =
    subst (Ahead g.K.Knowledge.worlds c.args.loaded.now.file.now c.begin-run.result.knowledge c.in-Both.next) (sym c.push.ensures)
    (ahead_both c.loop-next.invariant g.met.K.Knowledge.some c.in-Asks.pending c.in-Asks.ensures c.in-Both.next c.in-Both.later c.in-Both.ensures)

-- the last that came is next
pub loop-next-smaller : goal.loop-next-smaller
loop-next-smaller g c =
    let w = c.loop-next.invariant in
    omega (arith, plan_end c.args.loaded.now w.p w.is, ahead_within w, (ahead_next w c.in-Ended.ensures c.in-Some.next c.pop.new.self c.in-Some.ensures).0)

pub loop-next-preserved : goal.loop-next-preserved
loop-next-preserved g c = (ahead_next c.loop-next.invariant c.in-Ended.ensures c.in-Some.next c.pop.new.self c.in-Some.ensures).1

pub returns-in-None : goal.returns-in-None
returns-in-None g c =
    let w = c.loop-next.invariant in
    promised g.K.Knowledge.worlds c.args.loaded.now.file.now c.begin-run.result.knowledge c.args.start c.begin-run.ensures.0 Holds w.p w.is
    (ahead_over w c.in-Ended.ensures c.in-None.ensures.0)

pub returns-in-Failed : goal.returns-in-Failed
returns-in-Failed g c =
    let w = c.loop-next.invariant in
    promised g.K.Knowledge.worlds c.args.loaded.now.file.now c.begin-run.result.knowledge c.args.start c.begin-run.ensures.0 (Fails c.in-Failed.place c.in-Failed.cause) w.p w.is
    (ahead_failed w c.in-Failed.place c.in-Failed.cause c.in-Failed.ensures)
