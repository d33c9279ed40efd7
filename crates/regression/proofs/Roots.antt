-- What the node at a place says of the rows of the plan there. Assumes nothing.
use Rattle.std.proofs.Common.{◌≡◌, ℕ, ◌+◌, ◌<◌, ◌≤◌, List, [], ◌∷◌, length, Some, Ok, Err, Result, sym, refl, ap, ◌∙◌, subst, arith, length-append}
use Rattle.fluents.specs.declared.faults.Fault.{Fault}
use Rattle.knowledge.specs.declared.actions.Action.TheVariants.{Doing as DoingAct, Reading as ReadingAct}
use Rattle.knowledge.specs.declared.actions.DoingAction.{DoingAction}
use Rattle.knowledge.specs.declared.actions.ReadingAction.{ReadingAction}
use Rattle.knowledge.specs.declared.states.Row.{Row}
use Rattle.plans.specs.Trees.{Plan, finish, act, ask, gap, encode, past, NodeAt}
use Rattle.plans.proofs.Codes.{some_bytes}
use Rattle.plans.proofs.Places.{node_root, node_rest, node_true, node_false, node_within}
use Rattle.procedure.specs.Acts.{row_of, act_seen}
use Rattle.procedure.specs.Procedures.{Act, Procedure, procedure_of, then}
use Rattle.procedure.specs.declared.loaded.Loaded.{Loaded}
use Rattle.procedure.proofs.Holding.{kept, plan_lies}
use Rattle.procedure.proofs.Walking.{ok_same}
use Rattle.meaning.specs.Nodes.{Shown}
use Rattle.meaning.specs.Rows.{guarded, regressed, asked, least_rows, limited, rows_of}
use Rattle.meaning.specs.Steps.{doing_step, reading_step, act_at, steps_of}
use Rattle.meaning.specs.declared.nodes.Node.TheVariants.{End, Doing, Reading, Gap}
use Rattle.regression.specs.Roots.{Stands}

-- ---- the plan whose first node was read

module _ (acts : List Act) where
  shown_end : (q : Plan) → Shown acts q End → q ≡ finish
  shown_end finish s = refl
  shown_end (act a p) s = absurd (cc s.1)
  shown_end (ask a p r) s = absurd (cc s.1)
  shown_end gap s = absurd (cc s)

  shown_gap : (q : Plan) → Shown acts q Gap → q ≡ gap
  shown_gap finish s = absurd (cc s)
  shown_gap (act a p) s = absurd (cc s.1)
  shown_gap (ask a p r) s = absurd (cc s.1)
  shown_gap gap s = refl

  pub shown_doing : (q : Plan) (b : ℕ) (x : DoingAction) → Shown acts q (Doing b x) → (p : Plan) × (q ≡ act b p) × (act_at acts b ≡ Some (act_seen (DoingAct x)))
  shown_doing finish b x s = absurd (cc s)
  shown_doing (act a p) b x s =
      let name : b ≡ a = cc s.1 in
      let same : x ≡ s.0 = cc s.1 in
      (p, ap (λ n. act n p) (sym name), ap (act_at acts) name ∙ s.2 ∙ ap (λ y. Some (act_seen (DoingAct y))) (sym same))
  shown_doing (ask a p r) b x s = absurd (cc s.1)
  shown_doing gap b x s = absurd (cc s)

  pub shown_reading : (q : Plan) (b : ℕ) (x : ReadingAction) → Shown acts q (Reading b x)
      → (t : Plan) × (e : Plan) × (q ≡ ask b t e) × (act_at acts b ≡ Some (act_seen (ReadingAct x)))
  shown_reading finish b x s = absurd (cc s)
  shown_reading (act a p) b x s = absurd (cc s.1)
  shown_reading (ask a t e) b x s =
      let name : b ≡ a = cc s.1 in
      let same : x ≡ s.0 = cc s.1 in
      (t, e, ap (λ n. ask n t e) (sym name), ap (act_at acts) name ∙ s.2 ∙ ap (λ y. Some (act_seen (ReadingAct y))) (sym same))
  shown_reading gap b x s = absurd (cc s)

-- ---- the rows of a plan from those of what follows its first node

-- the rows of a doing node at i
abbrev pub doing_rows : ℕ → DoingAction → List Row → Result (List Row) Fault
doing_rows i x rs = limited i (least_rows (guarded (row_of x.conditions) (regressed x.add x.del rs)))

-- the rows of a reading node at i
abbrev pub reading_rows : ℕ → ReadingAction → List Row → List Row → Result (List Row) Fault
reading_rows i x ts es = limited i (least_rows (guarded (row_of x.conditions) (asked x.fluent.index ts es)))

module _ (goal : Row) (acts : List Act) (i a : ℕ) where
  act_steps : (p : Plan) (x : DoingAction) → act_at acts a ≡ Some (act_seen (DoingAct x))
      → rows_of goal (steps_of acts i (act a p)) ≡ then (rows_of goal (steps_of acts (i + 2) p)) (doing_rows i x)
  unfolding rows_of steps_of
  act_steps p x look = ap (λ o. rows_of goal (doing_step i o (steps_of acts (i + 2) p))) look

  ask_steps : (t e : Plan) (x : ReadingAction) → act_at acts a ≡ Some (act_seen (ReadingAct x))
      → rows_of goal (steps_of acts i (ask a t e))
      ≡ then (rows_of goal (steps_of acts (i + 2) t)) (λ ts. then (rows_of goal (steps_of acts (past (i + 2) t) e)) (reading_rows i x ts))
  unfolding rows_of steps_of
  ask_steps t e x look = ap (λ o. rows_of goal (reading_step i o (steps_of acts (i + 2) t) (steps_of acts (past (i + 2) t) e))) look

-- the rows of a plan of the procedure, whose first node stands at i
abbrev pub rows_at : Procedure → ℕ → Plan → Result (List Row) Fault
rows_at p i q = rows_of p.goal (steps_of p.actions i q)

-- the plan q stands at the place i
abbrev pub NodeOf : Procedure → ℕ → Plan → Type 0
NodeOf p i q = NodeAt p.place p.plan i q

module _ (p : Procedure) (i : ℕ) (q : Plan) where
  pub end_rows : Shown p.actions q End → (rows_at p i q ≡ Ok (p.goal ∷ [])) × (i + 1 ≡ past i q)
  unfolding rows_of steps_of
  end_rows s = let is = shown_end p.actions q s in (ap (rows_at p i) is, ap (past i) (sym is))

  pub gap_rows : Shown p.actions q Gap → (rows_at p i q ≡ Ok []) × (i + 1 ≡ past i q)
  unfolding rows_of steps_of
  gap_rows s = let is = shown_gap p.actions q s in (ap (rows_at p i) is, ap (past i) (sym is))

-- a doing node at i
module _ (p : Procedure) (i : ℕ) (q : Plan) (node : NodeOf p i q) (a : ℕ) (x : DoingAction) (shown : Shown p.actions q (Doing a x)) where
  pub act_err : (fault : Fault) → ((u : Plan) → NodeOf p (i + 2) u → rows_at p (i + 2) u ≡ Err fault) → rows_at p i q ≡ Err fault
  act_err fault below =
      let s = shown_doing p.actions q a x shown in
      let at : NodeOf p (i + 2) s.0 = node_rest p.plan p.place i a s.0 (subst (NodeOf p i) s.1 node) in
      ap (rows_at p i) s.1 ∙ act_steps p.goal p.actions i a s.0 x s.2 ∙ ap (λ z. then z (doing_rows i x)) (below s.0 at)

  pub act_rows : (rs : List Row) (end : ℕ) (r : Result (List Row) Fault)
      → ((u : Plan) → NodeOf p (i + 2) u → (rows_at p (i + 2) u ≡ Ok rs) × (end ≡ past (i + 2) u))
      → doing_rows i x rs ≡ r
      → (rows_at p i q ≡ r) × (end ≡ past i q)
  act_rows rs end r below here =
      let s = shown_doing p.actions q a x shown in
      let at : NodeOf p (i + 2) s.0 = node_rest p.plan p.place i a s.0 (subst (NodeOf p i) s.1 node) in
      let got = below s.0 at in (
        ap (rows_at p i) s.1 ∙ act_steps p.goal p.actions i a s.0 x s.2 ∙ ap (λ z. then z (doing_rows i x)) got.0 ∙ here,
        omega (arith, got.1, ap (λ u. length (encode u)) s.1),
      )

-- a reading node at i
module _ (p : Procedure) (i : ℕ) (q : Plan) (node : NodeOf p i q) (a : ℕ) (x : ReadingAction) (shown : Shown p.actions q (Reading a x)) where
  -- the plans for true and for false, and where they stand
  branches : (t : Plan) × (e : Plan) × NodeOf p (i + 2) t × NodeOf p (past (i + 2) t) e × (q ≡ ask a t e)
      × (rows_at p i q ≡ then (rows_at p (i + 2) t) (λ ts. then (rows_at p (past (i + 2) t) e) (reading_rows i x ts)))
  branches =
      let s = shown_reading p.actions q a x shown in
      let at : NodeOf p i (ask a s.0 s.1) = subst (NodeOf p i) s.2 node in (
        s.0,
        s.1,
        node_true p.plan p.place i a s.0 s.1 at,
        node_false p.plan p.place i a s.0 s.1 at,
        s.2,
        ap (rows_at p i) s.2 ∙ ask_steps p.goal p.actions i a s.0 s.1 x s.3,
      )

  pub true_err : (fault : Fault) → ((u : Plan) → NodeOf p (i + 2) u → rows_at p (i + 2) u ≡ Err fault) → rows_at p i q ≡ Err fault
  true_err fault below =
      let b = branches in
      b.5 ∙ ap (λ z. then z (λ ts. then (rows_at p (past (i + 2) b.0) b.1) (reading_rows i x ts))) (below b.0 b.2)

  module _ (ts : List Row) (middle : ℕ) (first : (u : Plan) → NodeOf p (i + 2) u → (rows_at p (i + 2) u ≡ Ok ts) × (middle ≡ past (i + 2) u)) where
    -- after the rows for true, those for false
    second : (t e : Plan) → NodeOf p (i + 2) t → rows_at p i q ≡ then (rows_at p (i + 2) t) (λ ts. then (rows_at p (past (i + 2) t) e) (reading_rows i x ts))
        → rows_at p i q ≡ then (rows_at p middle e) (reading_rows i x ts)
    second t e at rows =
        let got = first t at in
        rows ∙ ap (λ z. then z (λ ts. then (rows_at p (past (i + 2) t) e) (reading_rows i x ts))) got.0
        ∙ ap (λ (j : ℕ). then (rows_at p j e) (reading_rows i x ts)) (sym got.1)

    pub false_err : (fault : Fault) → ((u : Plan) → NodeOf p middle u → rows_at p middle u ≡ Err fault) → rows_at p i q ≡ Err fault
    false_err fault below =
        let b = branches in
        let at : NodeOf p middle b.1 = subst (λ (j : ℕ). NodeOf p j b.1) (sym (first b.0 b.2).1) b.3 in
        second b.0 b.1 b.2 b.5 ∙ ap (λ z. then z (reading_rows i x ts)) (below b.1 at)

    pub ask_rows : (es : List Row) (end : ℕ) (r : Result (List Row) Fault)
        → ((u : Plan) → NodeOf p middle u → (rows_at p middle u ≡ Ok es) × (end ≡ past middle u)) → reading_rows i x ts es ≡ r
        → (rows_at p i q ≡ r) × (end ≡ past i q)
    ask_rows es end r below here =
        let b = branches in
        let to : middle ≡ past (i + 2) b.0 = (first b.0 b.2).1 in
        let at : NodeOf p middle b.1 = subst (λ (j : ℕ). NodeOf p j b.1) (sym to) b.3 in
        let got = below b.1 at in (
          second b.0 b.1 b.2 b.5 ∙ ap (λ z. then z (reading_rows i x ts)) got.0 ∙ here,
          omega (arith, got.1, to, ap (λ u. length (encode u)) b.4, length-append (encode b.0) (encode b.1)),
        )

-- ---- the nodes of a loaded plan

-- the first node of the plan stands at the plan's place
pub root_node : (p : Procedure) (i : ℕ) → i ≡ p.place → NodeOf p i p.plan
root_node p i e = subst (λ (j : ℕ). NodeOf p j p.plan) (sym e) (node_root p.plan p.place)

-- a node's bytes end within the plan's bytes, and those within the file
pub stands_within : (l : Loaded) (i : ℕ) (w : Stands l.file.now i) → (past i w.q ≤ l.plan + l.len) × (l.plan + l.len ≤ length l.file.now)
stands_within l i w =
    let k = kept (procedure_of l.file.now) l.n l.goal.trues l.goal.falses l.actions l.plan l.len l.held in
    let same : k.p ≡ w.p = ok_same (sym k.is ∙ w.is) in
    let place : w.p.place ≡ l.plan = ap (λ x. x.place) (sym same) ∙ k.place_is in
    let long : length (encode w.p.plan) ≡ l.len = ap (λ x. length (encode x.plan)) (sym same) ∙ k.len_is in
    let lies = (plan_lies l.file.now w.p w.is).0 in
    let inside = (node_within w.p.plan w.p.place i w.q w.node).1 in
    (omega (arith, place, long, inside), omega (arith, place, long, lies))

-- a node has a byte
pub stands_more : (l : Loaded) (i : ℕ) → Stands l.file.now i → i < length l.file.now
stands_more l i w = let inside = stands_within l i w in omega (arith, inside.0, inside.1, some_bytes w.q)

pub stands_root : (l : Loaded) (i : ℕ) → ((p : Procedure) → procedure_of l.file.now ≡ Ok p → i ≡ p.place) → Stands l.file.now i
stands_root l i place =
    let k = kept (procedure_of l.file.now) l.n l.goal.trues l.goal.falses l.actions l.plan l.len l.held in
    record { p = k.p; is = k.is; q = k.p.plan; node = root_node k.p i (place k.p k.is) }

-- another node stands at j, behind i and before the end of the plan, which lies in the file
pub record Next (l : Loaded) (i j : ℕ) : Type 0 where
  pub stands : Stands l.file.now j
  pub behind : i < j
  pub before : j ≤ l.plan + l.len
  pub inside : l.plan + l.len ≤ length l.file.now

module _ (l : Loaded) (i : ℕ) (w : Stands l.file.now i) (a : ℕ) where
  next : (j : ℕ) (u : Plan) → NodeOf w.p j u → i < j → j ≤ past i w.q → Next l i j
  next j u node behind before =
      let inside = stands_within l i w in
      record { stands = record { p = w.p; is = w.is; q = u; node = node }; behind = behind; before = omega (arith, inside.0, before); inside = inside.1 }

  -- the rest of a doing node
  pub stands_rest : (x : DoingAction) → Shown w.p.actions w.q (Doing a x) → Next l i (i + 2)
  stands_rest x shown =
      let d = shown_doing w.p.actions w.q a x shown in
      let at = node_rest w.p.plan w.p.place i a d.0 (subst (NodeOf w.p i) d.1 w.node) in
      next (i + 2) d.0 at (omega arith) (omega (arith, ap (λ u. length (encode u)) d.1))

  module _ (x : ReadingAction) (shown : Shown w.p.actions w.q (Reading a x)) where
    -- the plan for true of a reading node
    pub stands_true : Next l i (i + 2)
    stands_true =
        let b = branches w.p i w.q w.node a x shown in
        next (i + 2) b.0 b.2 (omega arith) (omega (arith, ap (λ u. length (encode u)) b.4))

    -- the plan for false
    pub stands_false : (middle : ℕ) → ((u : Plan) → NodeOf w.p (i + 2) u → middle ≡ past (i + 2) u) → Next l i middle
    stands_false middle first =
        let b = branches w.p i w.q w.node a x shown in
        let to = first b.0 b.2 in
        next middle b.1 (subst (λ (j : ℕ). NodeOf w.p j b.1) (sym to) b.3)
        (omega (arith, to))
        (omega (arith, to, ap (λ u. length (encode u)) b.4, length-append (encode b.0) (encode b.1)))
