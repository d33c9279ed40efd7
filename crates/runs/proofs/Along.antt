-- What lasts from step to step of a walk, and what each step makes of it. Assumes nothing.
use Rattle.std.proofs.Common.{◌≡◌, ℕ, suc, ◌+◌, ◌<◌, ◌≤◌, Bool, true, false, List, [], ◌∷◌, length, Some, Ok, Err, sym, refl, ap, ◌∙◌, subst, inl, inr, arith}
use Rattle.std.proofs.lemmas.List.{nil_from_length}
use Rattle.fluents.specs.Refusals.{fault_at}
use Rattle.fluents.specs.declared.faults.Fault.{Fault}
use Rattle.fluents.specs.declared.faults.Refusal.TheVariants.{Contradiction}
use Rattle.knowledge.specs.Meaning.{Same}
use Rattle.knowledge.specs.declared.states.Row.{Row}
use Rattle.plans.specs.Trees.{Plan, finish, act, ask, gap, past, NodeAt}
use Rattle.plans.proofs.Codes.{some_bytes}
use Rattle.plans.proofs.Places.{node_root, node_rest, node_true, node_false, node_within}
use Rattle.procedure.specs.Procedures.{Act, doing, reading, Procedure, procedure_of}
use Rattle.meaning.specs.Sets.{Covers, Moved, Told, Possible}
use Rattle.meaning.specs.Steps.{Steps, does, reads, act_at, doing_step, reading_step, steps_of, tree_of}
use Rattle.meaning.specs.Walks.{Walks}
use Rattle.meaning.specs.declared.answers.Cause.{Cause}
use Rattle.meaning.specs.declared.answers.Stop.{Stop}
use Rattle.meaning.specs.declared.answers.Stop.TheVariants.{EndedWell, Failed as FailedStop, Refused, UsedUp}
use Rattle.meaning.proofs.Walking.{walks_same}
use Rattle.runs.specs.Stepping.{Stepped, Settled, branch}
use Rattle.runs.specs.declared.pending.Pending.{Pending}
use Rattle.runs.specs.declared.run.Run.{Run}
use Rattle.runs.specs.declared.run.Step.{Step}
use Rattle.runs.specs.declared.run.Step.TheVariants.{Did, Asks, Ended, Failed}

-- what the contract of a step says of the run
abbrev pub Promised : {A : Type 0} → (A → ℕ → Type 0) → List ℕ → Run A → Step A → Type 0
Promised worlds file run s =
    (p : Procedure) → procedure_of file ≡ Ok p → (q : Plan) → NodeAt p.place p.plan run.place q → Stepped worlds p.goal p.actions run.place run.knowledge q s

-- ---- the tree of a node whose action was found

pub doing_tree : (acts : List Act) (i a : ℕ) (q : Plan) (c : Row) (add del : ℕ) → act_at acts a ≡ Some (doing c add del)
    → steps_of acts i (act a q) ≡ does i c add del (steps_of acts (i + 2) q)
unfolding steps_of
doing_tree acts i a q c add del found = ap (λ x. doing_step i x (steps_of acts (i + 2) q)) found

pub reading_tree : (acts : List Act) (i a : ℕ) (t e : Plan) (c : Row) (f : ℕ) → act_at acts a ≡ Some (reading c f)
    → steps_of acts i (ask a t e) ≡ reads i c f (steps_of acts (i + 2) t) (steps_of acts (past (i + 2) t) e)
unfolding steps_of
reading_tree acts i a t e c f found = ap (λ x. reading_step i x (steps_of acts (i + 2) t) (steps_of acts (past (i + 2) t) e)) found

-- ---- what a step says of the node

module _ {A : Type 0} (worlds : A → ℕ → Type 0) (goal : Row) (acts : List Act) (i : ℕ) (k : A) where
  -- where an action was done, the node does it, and its conditions are known
  pub record Doing (q : Plan) (a : ℕ) (r : Run A) : Type 0 where
    pub rest : Plan
    pub is : q ≡ act a rest
    pub c : Row
    pub add : ℕ
    pub del : ℕ
    pub found : act_at acts a ≡ Some (doing c add del)
    pub covers : Covers c (worlds k)
    pub there : r.place ≡ i + 2
    pub knows : Same (worlds r.knowledge) (Moved add del (worlds k))

  pub at_doing : (q : Plan) (a : ℕ) (r : Run A) → Stepped worlds goal acts i k q (Did a r) → Doing q a r
  at_doing finish a r (inl h) = absurd (cc h.1)
  at_doing finish a r (inr h) = absurd (cc h.1)
  at_doing (act b q) a r (c, add, del, found, inl (covers, (x, e, there, knows))) =
      let one : a ≡ b = cc e in
      let same : r ≡ x = cc e in
      record {
        rest = q;
        is = ap (λ (m : ℕ). act m q) (sym one);
        c = c;
        add = add;
        del = del;
        found = ap (act_at acts) one ∙ found;
        covers = covers;
        there = ap (λ v. v.place) same ∙ there;
        knows = subst (λ v. Same (worlds v.knowledge) (Moved add del (worlds k))) (sym same) knows;
      }
  at_doing (act b q) a r (c, add, del, found, inr h) = absurd (cc h.1)
  at_doing (ask b t e) a r (c, f, found, inl h) = absurd (cc h.1.1)
  at_doing (ask b t e) a r (c, f, found, inr h) = absurd (cc h.1)
  at_doing gap a r h = absurd (cc h)

  -- where a reading waits, the node reads, and its conditions are known
  pub record Asking (q : Plan) (x : Pending A) : Type 0 where
    pub a : ℕ
    pub t : Plan
    pub e : Plan
    pub is : q ≡ ask a t e
    pub c : Row
    pub found : act_at acts a ≡ Some (reading c x.fluent.index)
    pub covers : Covers c (worlds k)
    pub there : x.place ≡ i
    pub knows : x.knowledge ≡ k

  pub at_asking : (q : Plan) (x : Pending A) → Stepped worlds goal acts i k q (Asks x) → Asking q x
  at_asking finish x (inl h) = absurd (cc h.1)
  at_asking finish x (inr h) = absurd (cc h.1)
  at_asking (act b q) x (c, add, del, found, inl h) = absurd (cc h.1.1)
  at_asking (act b q) x (c, add, del, found, inr h) = absurd (cc h.1)
  at_asking (ask b t e) x (c, f, found, inl (covers, (y, w, there, number, fluent, knows))) =
      let same : x ≡ y = cc w in
      record {
        a = b;
        t = t;
        e = e;
        is = refl;
        c = c;
        found = found ∙ ap (λ (m : ℕ). Some (reading c m)) (sym (ap (λ v. v.fluent.index) same ∙ fluent));
        covers = covers;
        there = ap (λ v. v.place) same ∙ there;
        knows = ap (λ v. v.knowledge) same ∙ knows;
      }
  at_asking (ask b t e) x (c, f, found, inr h) = absurd (cc h.1)
  at_asking gap x h = absurd (cc h)

  -- the walk stops at a node that ends it
  pub ended_walk : (q : Plan) (vs : List Bool) → Stepped worlds goal acts i k q Ended → Walks goal (steps_of acts i q) (worlds k) vs 0 EndedWell
  unfolding Walks steps_of
  ended_walk finish vs (inl h) = (inl (h.0, refl), refl)
  ended_walk finish vs (inr h) = absurd (cc h.1)
  ended_walk (act b q) vs (c, add, del, found, inl h) = absurd (cc h.1.1)
  ended_walk (act b q) vs (c, add, del, found, inr h) = absurd (cc h.1)
  ended_walk (ask b t e) vs (c, f, found, inl h) = absurd (cc h.1.1)
  ended_walk (ask b t e) vs (c, f, found, inr h) = absurd (cc h.1)
  ended_walk gap vs h = absurd (cc h)

  failed_same : (place j : ℕ) (cause why : Cause) → ◌≡◌ {A = Step A} (Failed place cause) (Failed j why) → FailedStop place cause ≡ FailedStop j why
  failed_same place j cause why e = let p : place ≡ j = cc e in let c : cause ≡ why = cc e in cc

  reads_failed : (c : Row) (f : ℕ) (t e : Steps) (vs : List Bool) (s : Stop) → (Covers c (worlds k) → ⊥)
      → s ≡ FailedStop i Rattle.meaning.specs.declared.answers.Cause.TheVariants.UnmetConditions → Walks goal (reads i c f t e) (worlds k) vs 0 s
  unfolding Walks
  reads_failed c f t e [] s n h = (inr (n, h), refl)
  reads_failed c f t e (true ∷ vs) s n h = inr (n, (h, refl))
  reads_failed c f t e (false ∷ vs) s n h = inr (n, (h, refl))

  pub failed_walk : (q : Plan) (vs : List Bool) (place : ℕ) (cause : Cause) → Stepped worlds goal acts i k q (Failed place cause)
      → Walks goal (steps_of acts i q) (worlds k) vs 0 (FailedStop place cause)
  unfolding Walks steps_of
  failed_walk finish vs place cause (inl h) = absurd (cc h.1)
  failed_walk finish vs place cause (inr h) = (inr (h.0, failed_same place i cause _ h.1), refl)
  failed_walk (act b q) vs place cause (c, add, del, found, inl h) = absurd (cc h.1.1)
  failed_walk (act b q) vs place cause (c, add, del, found, inr h) =
      subst (λ t. Walks goal t (worlds k) vs 0 (FailedStop place cause)) (sym (doing_tree acts i b q c add del found)) (inr (h.0, (failed_same place i cause _ h.1, refl)))
  failed_walk (ask b t e) vs place cause (c, f, found, inl h) = absurd (cc h.1.1)
  failed_walk (ask b t e) vs place cause (c, f, found, inr h) =
      subst (λ t. Walks goal t (worlds k) vs 0 (FailedStop place cause)) (sym (reading_tree acts i b t e c f found))
      (reads_failed c f (steps_of acts (i + 2) t) (steps_of acts (past (i + 2) t) e) vs (FailedStop place cause) h.0 (failed_same place i cause _ h.1))
  failed_walk gap vs place cause h = (failed_same place i cause _ h, refl)

-- ---- the branch of a value

-- the plan, or the tree, of the branch
abbrev pub pick : {X : Type 0} → Bool → X → X → X
pick true t e = t
pick false t e = e

pub branch_further : (i : ℕ) (v : Bool) (t : Plan) → i < branch i v t
branch_further i true t = omega arith
branch_further i false t = omega arith

pub branch_tree : (acts : List Act) (i : ℕ) (v : Bool) (t e : Plan) → steps_of acts (branch i v t) (pick v t e) ≡ pick v (steps_of acts (i + 2) t) (steps_of acts (past (i + 2) t) e)
branch_tree acts i true t e = refl
branch_tree acts i false t e = refl

pub node_branch : (p : Plan) (i j a : ℕ) (v : Bool) (t e : Plan) → NodeAt i p j (ask a t e) → NodeAt i p (branch j v t) (pick v t e)
node_branch p i j a true t e h = node_true p i j a t e h
node_branch p i j a false t e h = node_false p i j a t e h

module _ (goal : Row) (i : ℕ) (c : Row) (f : ℕ) (t e : Steps) (K : ℕ → Type 0) where
  pub reads_taken : (v : Bool) (vs : List Bool) (n : ℕ) (s : Stop) → Covers c K → Possible (Told f v K) → Walks goal (pick v t e) (Told f v K) vs n s
      → Walks goal (reads i c f t e) K (v ∷ vs) (suc n) s
  unfolding Walks
  reads_taken true vs n s cov some walk = inl (cov, inl (some, (n, refl, walk)))
  reads_taken false vs n s cov some walk = inl (cov, inl (some, (n, refl, walk)))

  pub reads_refused : (v : Bool) (vs : List Bool) (s : Stop) → Covers c K → (Possible (Told f v K) → ⊥) → s ≡ Refused (fault_at Contradiction i)
      → Walks goal (reads i c f t e) K (v ∷ vs) 1 s
  unfolding Walks
  reads_refused true vs s cov none stop = inl (cov, inr (none, (stop, refl)))
  reads_refused false vs s cov none stop = inl (cov, inr (none, (stop, refl)))

-- the node at which a reading waits
pub asking_node : {A : Type 0} (worlds : A → ℕ → Type 0) (goal : Row) (acts : List Act) (run : Run A) (p : Plan) (i : ℕ) (q : Plan) (x : Pending A) → NodeAt i p run.place q
    → (a : Asking worlds goal acts run.place run.knowledge q x) → NodeAt i p x.place (ask a.a a.t a.e)
asking_node worlds goal acts run p i q x at a = subst (λ (j : ℕ). NodeAt i p j (ask a.a a.t a.e)) (sym a.there) (subst (NodeAt i p run.place) a.is at)

-- ---- the steps of a walk, by the values that are left

-- The run stands at a node of the plan, and the walk from there along the values that are left goes on what came before.
pub record Left {A : Type 0} (worlds : A → ℕ → Type 0) (file : List ℕ) (start : A) (readings : List Bool) (run : Run A) (left : List Bool) : Type 0 where
  pub p : Procedure
  pub is : procedure_of file ≡ Ok p
  pub q : Plan
  pub at : NodeAt p.place p.plan run.place q
  pub few : length left ≤ length readings
  pub on : (n m : ℕ) (s : Stop) → m + length left ≡ length readings + n → Walks p.goal (steps_of p.actions run.place q) (worlds run.knowledge) left n s
      → Walks p.goal (tree_of p) (worlds start) readings m s

module _ {A : Type 0} {worlds : A → ℕ → Type 0} {file : List ℕ} {start : A} {readings : List Bool} where
  -- before the first step
  pub left_begun : (p : Procedure) → procedure_of file ≡ Ok p → (run : Run A) → run.place ≡ p.place → run.knowledge ≡ start → Left worlds file start readings run readings
  left_begun p is run there knows = record {
    p = p;
    is = is;
    q = p.plan;
    at = subst (λ (j : ℕ). NodeAt p.place p.plan j p.plan) (sym there) (node_root p.plan p.place);
    few = omega arith;
    on = λ n m s e w.
        let same : n ≡ m = omega arith in
        subst (λ (x : ℕ). Walks p.goal (tree_of p) (worlds start) readings x s) same
        (subst (λ k. Walks p.goal (tree_of p) (worlds k) readings n s) knows (subst (λ (j : ℕ). Walks p.goal (steps_of p.actions j p.plan) (worlds run.knowledge) readings n s) there w));
  }

  module _ {run : Run A} {left : List Bool} (w : Left worlds file start readings run left) where
    -- the node's bytes lie before the end of the plan
    pub left_within : run.place < past w.p.place w.p.plan
    left_within = omega (arith, (node_within w.p.plan w.p.place run.place w.q w.at).1, some_bytes w.q)

    module _ (a : ℕ) (next : Run A) (step : Stepped worlds w.p.goal w.p.actions run.place run.knowledge w.q (Did a next)) where
      done : Doing worlds w.p.goal w.p.actions run.place run.knowledge w.q a next
      done = at_doing worlds w.p.goal w.p.actions run.place run.knowledge w.q a next step

      pub left_on : run.place < next.place
      left_on = omega (arith, done.there)

      pub left_did : Left worlds file start readings next left
      unfolding Walks
      left_did =
          let p = w.p in
          let d = done in
          let node : NodeAt p.place p.plan run.place (act a d.rest) = subst (NodeAt p.place p.plan run.place) d.is w.at in
          let tree : steps_of p.actions run.place w.q ≡ does run.place d.c d.add d.del (steps_of p.actions next.place d.rest) =
          ap (steps_of p.actions run.place) d.is ∙ doing_tree p.actions run.place a d.rest d.c d.add d.del d.found
          ∙ ap (λ (j : ℕ). does run.place d.c d.add d.del (steps_of p.actions j d.rest)) (sym d.there) in
          record {
            p = p;
            is = w.is;
            q = d.rest;
            at = subst (λ (j : ℕ). NodeAt p.place p.plan j d.rest) (sym d.there) (node_rest p.plan p.place run.place a d.rest node);
            few = w.few;
            on = λ n m s e v. w.on n m s e (subst (λ t. Walks p.goal t (worlds run.knowledge) left n s) (sym tree)
                (inl (d.covers, walks_same p.goal (steps_of p.actions next.place d.rest) (worlds next.knowledge) (Moved d.add d.del (worlds run.knowledge)) d.knows left n s v)));
          }

    -- the walk stops after so many values
    module _ (m : ℕ) (all : m + length left ≡ length readings) where
      pub left_ended : Stepped worlds w.p.goal w.p.actions run.place run.knowledge w.q Ended → Walks w.p.goal (tree_of w.p) (worlds start) readings m EndedWell
      left_ended step = w.on 0 m EndedWell (omega arith) (ended_walk worlds w.p.goal w.p.actions run.place run.knowledge w.q left step)

      pub left_failed : (place : ℕ) (cause : Cause) → Stepped worlds w.p.goal w.p.actions run.place run.knowledge w.q (Failed place cause) → Walks w.p.goal (tree_of w.p) (worlds start) readings m (FailedStop place cause)
      left_failed place cause step =
          w.on 0 m (FailedStop place cause) (omega arith) (failed_walk worlds w.p.goal w.p.actions run.place run.knowledge w.q left place cause step)

    -- a reading waits
    module _ (x : Pending A) (step : Stepped worlds w.p.goal w.p.actions run.place run.knowledge w.q (Asks x)) where
      pub left_asking : Asking worlds w.p.goal w.p.actions run.place run.knowledge w.q x
      left_asking = at_asking worlds w.p.goal w.p.actions run.place run.knowledge w.q x step

      pub left_node : NodeAt w.p.place w.p.plan x.place (ask left_asking.a left_asking.t left_asking.e)
      left_node = asking_node worlds w.p.goal w.p.actions run w.p.plan w.p.place w.q x w.at left_asking

      tree : Steps
      tree = reads run.place left_asking.c x.fluent.index (steps_of w.p.actions (run.place + 2) left_asking.t) (steps_of w.p.actions (past (run.place + 2) left_asking.t) left_asking.e)

      -- the walk from the reading node is that from the node at which the run stands
      at_node : (n m : ℕ) (s : Stop) → m + length left ≡ length readings + n → Walks w.p.goal tree (worlds x.knowledge) left n s → Walks w.p.goal (tree_of w.p) (worlds start) readings m s
      unfolding tree
      at_node n m s e walk =
          let is = ap (steps_of w.p.actions run.place) left_asking.is ∙ reading_tree w.p.actions run.place left_asking.a left_asking.t left_asking.e left_asking.c x.fluent.index left_asking.found in
          w.on n m s e (subst (λ t. Walks w.p.goal t (worlds run.knowledge) left n s) (sym is) (subst (λ k. Walks w.p.goal tree (worlds k) left n s) left_asking.knows walk))

      known_covers : Covers left_asking.c (worlds x.knowledge)
      known_covers = subst (λ k. Covers left_asking.c (worlds k)) (sym left_asking.knows) left_asking.covers

      -- no value is left
      pub left_used_up : (m : ℕ) → m + length left ≡ length readings → length left ≡ 0 → Walks w.p.goal (tree_of w.p) (worlds start) readings m (UsedUp x.place)
      unfolding Walks tree
      left_used_up m all none =
          at_node 0 m (UsedUp x.place) (omega arith)
          (subst (λ vs. Walks w.p.goal tree (worlds x.knowledge) vs 0 (UsedUp x.place)) (sym (nil_from_length left none)) (inl (known_covers, ap UsedUp left_asking.there), refl))

      -- a value comes
      module _ (v : Bool) (later : List Bool) (here : left ≡ v ∷ later) where
        -- it is refused
        pub left_refused : (m : ℕ) → m + length later ≡ length readings → (fault : Fault) → Settled worlds x v (Err fault) → Walks w.p.goal (tree_of w.p) (worlds start) readings m (Refused fault)
        unfolding tree
        left_refused m all fault settled =
            let stop : Refused fault ≡ Refused (fault_at Contradiction run.place) = ap Refused (settled.0 ∙ ap (fault_at Contradiction) left_asking.there) in
            at_node 1 m (Refused fault) (omega (arith, all, ap length here))
            (subst (λ vs. Walks w.p.goal tree (worlds x.knowledge) vs 1 (Refused fault)) (sym here)
            (reads_refused w.p.goal run.place left_asking.c x.fluent.index _ _ (worlds x.knowledge) v later (Refused fault) known_covers settled.1 stop))

        -- it is learned, and the run stands in its branch
        module _ (next : Run A) (settled : Settled worlds x v (Ok next)) (goes : next.place ≡ branch x.place v left_asking.t) where
          there : next.place ≡ branch run.place v left_asking.t
          there = goes ∙ ap (λ (j : ℕ). branch j v left_asking.t) left_asking.there

          pub left_further : run.place < next.place
          left_further = omega (arith, there, branch_further run.place v left_asking.t)

          pub left_settled : Left worlds file start readings next later
          unfolding tree
          left_settled =
              let p = w.p in
              let q = pick v left_asking.t left_asking.e in
              record {
                p = p;
                is = w.is;
                q = q;
                at = subst (λ (j : ℕ). NodeAt p.place p.plan j q) (sym goes)
                    (node_branch p.plan p.place x.place left_asking.a v left_asking.t left_asking.e left_node);
                few = omega (arith, w.few, ap length here);
                on = λ n m s e walk.
                    at_node (suc n) m s (omega (arith, e, ap length here))
                    (subst (λ vs. Walks p.goal tree (worlds x.knowledge) vs (suc n) s) (sym here)
                    (reads_taken p.goal run.place left_asking.c x.fluent.index _ _ (worlds x.knowledge) v later n s known_covers settled.0
                    (subst (λ t. Walks p.goal t (Told x.fluent.index v (worlds x.knowledge)) later n s)
                    (ap (λ (j : ℕ). steps_of p.actions j q) there ∙ branch_tree p.actions run.place v left_asking.t left_asking.e)
                    (walks_same p.goal (steps_of p.actions next.place q) (worlds next.knowledge) (Told x.fluent.index v (worlds x.knowledge)) settled.1 later n s walk))));
              }
