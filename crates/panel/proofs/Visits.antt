-- A run that is confirmed along readings is the walk. Assumes nothing.
use Rattle.std.specs.Borrow.{MutBor}
use Rattle.std.proofs.Common.{◌≡◌, ℕ, ◌+◌, ◌-◌, Bool, List, ◌∷◌, length, Ok, Err, sym, refl, ap, ◌∙◌, subst, inl, arith}
use Rattle.knowledge.specs.declared.states.Row.{Row}
use Rattle.plans.specs.Trees.{Plan, finish, act, ask, gap, NodeAt}
use Rattle.procedure.specs.Procedures.{Act, Procedure, procedure_of}
use Rattle.procedure.proofs.Walking.{ok_same}
use Rattle.procedure.specs.declared.loaded.Loaded.{Loaded}
use Rattle.meaning.specs.Laws.{CoveredBy}
use Rattle.meaning.specs.Rows.{rows_of}
use Rattle.meaning.specs.Steps.{tree_of}
use Rattle.meaning.specs.Walks.{Walks}
use Rattle.meaning.specs.declared.answers.Stop.{Stop}
use Rattle.meaning.specs.declared.answers.Stop.TheVariants.{EndedWell, Refused, UsedUp}
use Rattle.meaning.proofs.Covering.{covered_safe}
use Rattle.meaning.proofs.Following.{holds_well}
use Rattle.runs.specs.Stepping.{Stepped}
use Rattle.runs.specs.declared.run.Run.{Run}
use Rattle.runs.specs.declared.walk.Walked.{Walked}
use Rattle.runs.specs.declared.run.Step.TheVariants.{Did as DidStep, Asks, Ended as EndedStep}
use Rattle.runs.proofs.Along.{Left, left_did, left_ended, left_asking, left_node, left_used_up, left_refused, left_settled}
use Rattle.panel.specs.Arming.{ArmedAs}
use Rattle.panel.specs.Cases.{worlds_in}
use Rattle.panel.specs.Confirming.{ConfirmedAs, SettledAs, GoneOn, WaitsFor}
use Rattle.panel.specs.Possible.{known_some}
use Rattle.panel.specs.Visiting.{VisitedAs, CoveredVisit}
use Rattle.panel.specs.declared.answers.Confirmed.{Confirmed}
use Rattle.panel.specs.declared.answers.Confirmed.TheVariants.{Did, Reads, Ended}
use Rattle.panel.specs.declared.answers.Denied.{Denied}
use Rattle.panel.specs.declared.answers.Over.{Over}
use Rattle.panel.specs.declared.armed.Armed.{Armed}
use Rattle.panel.specs.declared.known.Known.{Known}
use Rattle.panel.specs.declared.reading.Reading.{Reading}

-- ---- what Confirm gives is a step of the walk

module _ (goal : Row) (acts : List Act) (a : Armed) where
  did_steps : (q : Plan) (n : ℕ) (b : Armed) → ConfirmedAs goal acts a q (Did n b) → Stepped worlds_in goal acts a.run.place a.run.knowledge q (DidStep n b.run)
  did_steps finish n b (cov, (o, e, back)) = absurd (cc e)
  did_steps (act m q) n b (c, add, del, found, cov, (b', e, on)) =
      let one : n ≡ m = cc e in
      let same : b ≡ b' = cc e in
      let gone : GoneOn a add del b = subst (GoneOn a add del) (sym same) on in
      (c, add, del, found, inl (cov, (b.run, ap (λ (k : ℕ). DidStep k b.run) one, gone.place, gone.worlds)))
  did_steps (ask m t e') n b (c, f, found, cov, (x, e, waits)) = absurd (cc e)
  did_steps gap n b h = absurd h

  reads_steps : (q : Plan) (x : Reading) → ConfirmedAs goal acts a q (Reads x) → Stepped worlds_in goal acts a.run.place a.run.knowledge q (Asks x.pending)
  reads_steps finish x (cov, (o, e, back)) = absurd (cc e)
  reads_steps (act m q) x (c, add, del, found, cov, (b, e, on)) = absurd (cc e)
  reads_steps (ask m t e') x (c, f, found, cov, (y, e, waits)) =
      let same : x ≡ y = cc e in
      let w : WaitsFor a m f x = subst (WaitsFor a m f) (sym same) waits in
      (c, f, found, inl (cov, (x.pending, refl, w.place, w.action, w.fluent, w.knowledge)))
  reads_steps gap x h = absurd h

  ended_steps : (q : Plan) (o : Over) → ConfirmedAs goal acts a q (Ended o) → Stepped worlds_in goal acts a.run.place a.run.knowledge q EndedStep
  ended_steps finish o (cov, (o', e, back)) = inl (cov, refl)
  ended_steps (act m q) o (c, add, del, found, cov, (b, e, on)) = absurd (cc e)
  ended_steps (ask m t e') o (c, f, found, cov, (x, e, waits)) = absurd (cc e)
  ended_steps gap o h = absurd h

-- what Confirm promises of a run and its answer
abbrev pub Confirms : Armed → Confirmed → Type 0
Confirms a r = (p : Procedure) → procedure_of a.permitted.loaded.value.file.now ≡ Ok p → (q : Plan) → NodeAt p.place p.plan a.run.place q → ConfirmedAs p.goal p.actions a q r

-- ---- the readings that are left

-- how many readings were taken where these are left
abbrev pub used_of : List Bool → List Bool → ℕ
used_of readings left = length readings - length left

module _ (file : List ℕ) (start : Known) (readings : List Bool) where
  -- the walk for the caller's procedure
  told : (run : Run Known) (left : List Bool) (w : Left worlds_in file start readings run left) (m : ℕ) (s : Stop) → Walks w.p.goal (tree_of w.p) (worlds_in start) readings m s
      → (p : Procedure) → procedure_of file ≡ Ok p → Walks p.goal (tree_of p) (worlds_in start) readings m s
  told run left w m s walk p e = subst (λ x. Walks x.goal (tree_of x) (worlds_in start) readings m s) (ok_same (sym w.is ∙ e)) walk

  module _ (left : List Bool) (a : Armed) (same : a.permitted.loaded.value.file.now ≡ file) (w : Left worlds_in file start readings a.run left) where
    here : procedure_of a.permitted.loaded.value.file.now ≡ Ok w.p
    here = ap procedure_of same ∙ w.is

    all : used_of readings left + length left ≡ length readings
    all = omega (arith, w.few)

    pub walked_did : (n : ℕ) (b : Armed) → Confirms a (Did n b) → Left worlds_in file start readings b.run left
    walked_did n b confirms = left_did w n b.run (did_steps w.p.goal w.p.actions a w.q n b (confirms w.p here w.q w.at))

    pub walked_ended : (o : Over) → Confirms a (Ended o) → (p : Procedure) → procedure_of file ≡ Ok p → Walks p.goal (tree_of p) (worlds_in start) readings (used_of readings left) EndedWell
    walked_ended o confirms =
        told a.run left w (used_of readings left) EndedWell
        (left_ended w (used_of readings left) all (ended_steps w.p.goal w.p.actions a w.q o (confirms w.p here w.q w.at)))

    module _ (x : Reading) (confirms : Confirms a (Reads x)) where
      step : Stepped worlds_in w.p.goal w.p.actions a.run.place a.run.knowledge w.q (Asks x.pending)
      step = reads_steps w.p.goal w.p.actions a w.q x (confirms w.p here w.q w.at)

      pub walked_used_up : length left ≡ 0 → (place : ℕ) → place ≡ x.pending.place
          → (p : Procedure) → procedure_of file ≡ Ok p → Walks p.goal (tree_of p) (worlds_in start) readings (used_of readings left) (UsedUp place)
      walked_used_up none place is =
          told a.run left w (used_of readings left) (UsedUp place) (rw is (left_used_up w x.pending step (used_of readings left) all none))

      module _ (v : Bool) (rest : List Bool) (more : left ≡ v ∷ rest) where
        pub walked_refused : (d : Denied) → SettledAs x v (Err d)
            → (p : Procedure) → procedure_of file ≡ Ok p → Walks p.goal (tree_of p) (worlds_in start) readings (used_of readings left + 1) (Refused d.fault)
        walked_refused d settled =
            told a.run left w (used_of readings left + 1) (Refused d.fault)
            (left_refused w x.pending step v rest more (used_of readings left + 1) (omega (arith, w.few, ap length more)) d.fault (settled.1, settled.2))

        pub walked_settled : (b : Armed) → x.permitted.loaded.value.file.now ≡ file → SettledAs x v (Ok b) → Left worlds_in file start readings b.run rest
        walked_settled b lent settled =
            let asked = left_asking w x.pending step in
            let goes = settled.2 w.p (ap procedure_of lent ∙ w.is) asked.a asked.t asked.e (left_node w x.pending step) in
            let one = known_some b.run.knowledge in
            left_settled w x.pending step v rest more b.run ((one.0, (settled.1 one.0).0 one.1), settled.1) goes

-- ---- a whole visit

module _ (l : Loaded) (start : Known) (word : MutBor ℕ) (a : Armed) (armed : ArmedAs l start word a) (readings : List Bool) (w : Walked)
    (walk : (p : Procedure) → procedure_of a.permitted.loaded.value.file.now ≡ Ok p → a.run.place ≡ p.place → Walks p.goal (tree_of p) (worlds_in a.run.knowledge) readings w.used w.stop)
    (p : Procedure) (is : procedure_of l.file.now ≡ Ok p) where
  from_start : Walks p.goal (tree_of p) (worlds_in start) readings w.used w.stop
  from_start =
      subst (λ k. Walks p.goal (tree_of p) (worlds_in k) readings w.used w.stop) armed.knows
      (walk p (ap (λ v. procedure_of v.file.now) armed.same ∙ is) (armed.root p is).0)

  pub visited_as : VisitedAs p start readings (Ok w)
  visited_as =
      let holds = (armed.root p is).1 in
      (holds, from_start, holds_well p.goal (tree_of p) (worlds_in start) holds readings w.used w.stop from_start)

  pub visited_covered : (rs : List Row) → rows_of p.goal (tree_of p) ≡ Ok rs → CoveredBy rs (worlds_in start) → CoveredVisit p start readings (Ok w)
  visited_covered rs rows cov = covered_safe p.goal (tree_of p) rs rows (worlds_in start) cov readings w.used w.stop from_start
