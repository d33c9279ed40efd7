-- From node to node of an armed run the plan holds. Assumes nothing.
use Rattle.std.proofs.Common.{◌≡◌, ℕ, ◌+◌, ◌<◌, Bool, true, false, List, length, Some, Ok, sym, refl, ap, ◌∙◌, subst, inl, inr, arith}
use mathlib.Core.Logic.{∥∥₁_elim}
use native.Mathlib.Bridge.{le_prop}
use native.Mathlib.Nat.{ℕ_set}
use Rattle.knowledge.specs.Meaning.{Same}
use Rattle.knowledge.specs.declared.states.Row.{Row}
use Rattle.plans.specs.Trees.{Plan, finish, act, ask, gap, past, NodeAt}
use Rattle.plans.proofs.Codes.{some_bytes}
use Rattle.plans.proofs.Places.{node_rest, node_true, node_false}
use Rattle.procedure.specs.Procedures.{Act, reading, Procedure, procedure_of}
use Rattle.meaning.specs.Follows.{Follows}
use Rattle.meaning.specs.Sets.{Covers, Moved, Told, Possible}
use Rattle.meaning.specs.Steps.{Steps, does, reads, act_at, steps_of}
use Rattle.meaning.specs.declared.answers.Cause.{Cause}
use Rattle.meaning.specs.declared.answers.Verdict.TheVariants.{Holds, Fails}
use Rattle.meaning.proofs.Following.{follows_same, follows_only}
use Rattle.meaning.proofs.Walking.{same_sym, either_then}
use Rattle.runs.specs.Stepping.{Stepped, branch}
use Rattle.runs.specs.declared.pending.Pending.{Pending}
use Rattle.runs.specs.declared.run.Run.{Run}
use Rattle.runs.specs.declared.run.Step.{Step}
use Rattle.runs.specs.declared.run.Step.TheVariants.{Did, Asks, Ended, Failed}
use Rattle.runs.proofs.Ahead.{failed_follows}
use Rattle.runs.proofs.Along.{doing_tree, reading_tree, at_doing, at_asking, asking_node, branch_further}
use Rattle.runs.proofs.Room.{room}
use Rattle.panel.specs.Cases.{worlds_in}
use Rattle.panel.specs.Ready.{Ready, Asked}
use Rattle.panel.specs.declared.known.Known.{Known}

-- what a step from the run's node says
abbrev pub StepsTo : List ℕ → Run Known → Step Known → Type 0
StepsTo file run s =
    (p : Procedure) → procedure_of file ≡ Ok p → (q : Plan) → NodeAt p.place p.plan run.place q → Stepped worlds_in p.goal p.actions run.place run.knowledge q s

does_holds : (goal : Row) (i : ℕ) (c : Row) (add del : ℕ) (t : Steps) (K : ℕ → Type 0) → Covers c K → Follows goal (does i c add del t) K Holds → Follows goal t (Moved add del K) Holds
unfolding Follows
does_holds goal i c add del t K cov h = either_then cov h

never : {A : Type 0} (place : ℕ) (cause : Cause) → Holds ≡ Fails place cause → A
never place cause e = let z : ◌≡◌ {A = ℕ} 0 1 = cc in absurd (omega arith)

reads_holds : (goal : Row) (i : ℕ) (c : Row) (f : ℕ) (t e : Steps) (K : ℕ → Type 0) → Follows goal (reads i c f t e) K Holds
    → (Possible (Told f true K) → Follows goal t (Told f true K) Holds) × (Possible (Told f false K) → Follows goal e (Told f false K) Holds)
unfolding Follows
reads_holds goal i c f t e K (inl (cov, (Holds, h, n))) = ((λ some. either_then some h), (λ some. either_then some n))
reads_holds goal i c f t e K (inl (cov, (Fails place cause, h, n))) = never place cause n
reads_holds goal i c f t e K (inr (not, h)) = never _ _ h

module _ (file : List ℕ) (run : Run Known) where
  pub ready_did : (a : ℕ) (next : Run Known) → StepsTo file run (Did a next) → Ready file run → Ready file next
  ready_did a next step r =
      let p = r.p in
      let d = at_doing worlds_in p.goal p.actions run.place run.knowledge r.q a next (step p r.is r.q r.at) in
      let node : NodeAt p.place p.plan run.place (act a d.rest) = subst (NodeAt p.place p.plan run.place) d.is r.at in
      let tree = ap (steps_of p.actions run.place) d.is ∙ doing_tree p.actions run.place a d.rest d.c d.add d.del d.found in
      let K = worlds_in run.knowledge in
      let after = does_holds p.goal run.place d.c d.add d.del _ K d.covers (subst (λ t. Follows p.goal t K Holds) tree r.holds) in
      record {
        p = p;
        is = r.is;
        q = d.rest;
        at = subst (λ (j : ℕ). NodeAt p.place p.plan j d.rest) (sym d.there) (node_rest p.plan p.place run.place a d.rest node);
        holds = subst (λ (j : ℕ). Follows p.goal (steps_of p.actions j d.rest) (worlds_in next.knowledge) Holds) (sym d.there)
            (follows_same p.goal (steps_of p.actions (run.place + 2) d.rest) (Moved d.add d.del K) (worlds_in next.knowledge) (same_sym _ _ d.knows) Holds after);
      }

  pub did_onward : (a : ℕ) (next : Run Known) → StepsTo file run (Did a next) → ∥ Ready file run ∥₁ → run.place < next.place
  did_onward a next step ready =
      ∥∥₁_elim ready le_prop (λ r. omega (arith, (at_doing worlds_in r.p.goal r.p.actions run.place run.knowledge r.q a next (step r.p r.is r.q r.at)).there))

  pub ready_asks : (x : Pending Known) → StepsTo file run (Asks x) → Ready file run → Asked file x
  ready_asks x step r =
      let p = r.p in
      let a = at_asking worlds_in p.goal p.actions run.place run.knowledge r.q x (step p r.is r.q r.at) in
      let tree = ap (steps_of p.actions run.place) a.is ∙ reading_tree p.actions run.place a.a a.t a.e a.c x.fluent.index a.found in
      let both = reads_holds p.goal run.place a.c x.fluent.index _ _ (worlds_in run.knowledge) (subst (λ t. Follows p.goal t (worlds_in run.knowledge) Holds) tree r.holds) in
      let K : Known → ℕ → Type 0 = worlds_in in
      record {
        p = p;
        is = r.is;
        a = a.a;
        t = a.t;
        e = a.e;
        at = asking_node worlds_in p.goal p.actions run p.plan p.place r.q x r.at a;
        on_true = subst (λ (j : ℕ). Possible (Told x.fluent.index true (worlds_in x.knowledge)) → Follows p.goal (steps_of p.actions (j + 2) a.t) (Told x.fluent.index true (worlds_in x.knowledge)) Holds) (sym a.there)
            (subst (λ k. Possible (Told x.fluent.index true (worlds_in k)) → Follows p.goal (steps_of p.actions (run.place + 2) a.t) (Told x.fluent.index true (worlds_in k)) Holds) (sym a.knows) both.0);
        on_false = subst (λ (j : ℕ). Possible (Told x.fluent.index false (worlds_in x.knowledge)) → Follows p.goal (steps_of p.actions (past (j + 2) a.t) a.e) (Told x.fluent.index false (worlds_in x.knowledge)) Holds) (sym a.there)
            (subst (λ k. Possible (Told x.fluent.index false (worlds_in k)) → Follows p.goal (steps_of p.actions (past (run.place + 2) a.t) a.e) (Told x.fluent.index false (worlds_in k)) Holds) (sym a.knows) both.1);
      }

  pub asks_onward : (x : Pending Known) → StepsTo file run (Asks x) → ∥ Ready file run ∥₁ → x.place ≡ run.place
  asks_onward x step ready =
      ∥∥₁_elim ready (ℕ_set _ _) (λ r. (at_asking worlds_in r.p.goal r.p.actions run.place run.knowledge r.q x (step r.p r.is r.q r.at)).there)

  -- the run stands within its file
  pub stands_within : ∥ Ready file run ∥₁ → run.place < length file
  stands_within ready = ∥∥₁_elim ready le_prop (λ r. omega (arith, some_bytes r.q, room file r.p r.is run.place r.q r.at))

  pub ready_fails_not : (place : ℕ) (cause : Cause) → StepsTo file run (Failed place cause) → Ready file run → ⊥
  ready_fails_not place cause step r =
      let p = r.p in
      let fails = failed_follows worlds_in p.goal p.actions run.place run.knowledge r.q place cause (step p r.is r.q r.at) in
      never place cause (follows_only p.goal (steps_of p.actions run.place r.q) (worlds_in run.knowledge) Holds (Fails place cause) r.holds fails)

-- where the plan ended, the node is an end; where a reading waits, it is that of the node
module _ (goal : Row) (acts : List Act) (i : ℕ) (k : Known) where
  pub ended_finish : (q : Plan) → Stepped worlds_in goal acts i k q Ended → (q ≡ finish) × Covers goal (worlds_in k)
  ended_finish finish (inl h) = (refl, h.0)
  ended_finish finish (inr h) = let z : ◌≡◌ {A = ℕ} 0 1 = cc h.1 in absurd (omega arith)
  ended_finish (act a q) (c, add, del, found, inl h) = let z : ◌≡◌ {A = ℕ} 0 1 = cc h.1.1 in absurd (omega arith)
  ended_finish (act a q) (c, add, del, found, inr h) = let z : ◌≡◌ {A = ℕ} 0 1 = cc h.1 in absurd (omega arith)
  ended_finish (ask a t e) (c, f, found, inl h) = let z : ◌≡◌ {A = ℕ} 0 1 = cc h.1.1 in absurd (omega arith)
  ended_finish (ask a t e) (c, f, found, inr h) = let z : ◌≡◌ {A = ℕ} 0 1 = cc h.1 in absurd (omega arith)
  ended_finish gap h = let z : ◌≡◌ {A = ℕ} 0 1 = cc h in absurd (omega arith)

  pub record AsksAt (q : Plan) (x : Pending Known) : Type 0 where
    pub t : Plan
    pub e : Plan
    pub is : q ≡ ask x.number t e
    pub c : Row
    pub found : act_at acts x.number ≡ Some (reading c x.fluent.index)
    pub covers : Covers c (worlds_in k)
    pub there : x.place ≡ i
    pub knows : x.knowledge ≡ k

  pub asks_at : (q : Plan) (x : Pending Known) → Stepped worlds_in goal acts i k q (Asks x) → AsksAt q x
  asks_at finish x (inl h) = let z : ◌≡◌ {A = ℕ} 0 1 = cc h.1 in absurd (omega arith)
  asks_at finish x (inr h) = let z : ◌≡◌ {A = ℕ} 0 1 = cc h.1 in absurd (omega arith)
  asks_at (act a q) x (c, add, del, found, inl h) = let z : ◌≡◌ {A = ℕ} 0 1 = cc h.1.1 in absurd (omega arith)
  asks_at (act a q) x (c, add, del, found, inr h) = let z : ◌≡◌ {A = ℕ} 0 1 = cc h.1 in absurd (omega arith)
  asks_at (ask a t e) x (c, f, found, inl (covers, (y, w, there, number, fluent, knows))) =
      let same : x ≡ y = cc w in
      let n : x.number ≡ a = ap (λ v. v.number) same ∙ number in
      let g : x.fluent.index ≡ f = ap (λ v. v.fluent.index) same ∙ fluent in
      record {
        t = t;
        e = e;
        is = ap (λ (m : ℕ). ask m t e) (sym n);
        c = c;
        found = ap (act_at acts) n ∙ found ∙ ap (λ (m : ℕ). Some (reading c m)) (sym g);
        covers = covers;
        there = ap (λ v. v.place) same ∙ there;
        knows = ap (λ v. v.knowledge) same ∙ knows;
      }
  asks_at (ask a t e) x (c, f, found, inr h) = let z : ◌≡◌ {A = ℕ} 0 1 = cc h.1 in absurd (omega arith)
  asks_at gap x h = let z : ◌≡◌ {A = ℕ} 0 1 = cc h in absurd (omega arith)

-- what settling says of the place
abbrev pub Goes : List ℕ → Pending Known → Bool → Run Known → Type 0
Goes file x v run = (p : Procedure) → procedure_of file ≡ Ok p → (a : ℕ) (t e : Plan) → NodeAt p.place p.plan x.place (ask a t e) → run.place ≡ branch x.place v t

pub settled_onward : (file : List ℕ) (x : Pending Known) (v : Bool) (run : Run Known) → Goes file x v run → ∥ Asked file x ∥₁ → x.place < run.place
settled_onward file x v run goes asked = ∥∥₁_elim asked le_prop (λ a. omega (arith, goes a.p a.is a.a a.t a.e a.at, branch_further x.place v a.t))

-- a reading that was settled leads to a run that is ready
pub settled_ready : (file : List ℕ) (x : Pending Known) (v : Bool) (run : Run Known) → Possible (Told x.fluent.index v (worlds_in x.knowledge))
    → Same (worlds_in run.knowledge) (Told x.fluent.index v (worlds_in x.knowledge))
    → Goes file x v run → Asked file x → Ready file run
settled_ready file x true run some same goes a =
    let p = a.p in
    let there = goes p a.is a.a a.t a.e a.at in
    record {
      p = p;
      is = a.is;
      q = a.t;
      at = subst (λ (j : ℕ). NodeAt p.place p.plan j a.t) (sym there) (node_true p.plan p.place x.place a.a a.t a.e a.at);
      holds = subst (λ (j : ℕ). Follows p.goal (steps_of p.actions j a.t) (worlds_in run.knowledge) Holds) (sym there)
          (follows_same p.goal (steps_of p.actions (x.place + 2) a.t) _ (worlds_in run.knowledge) (same_sym _ _ same) Holds (a.on_true some));
    }
settled_ready file x false run some same goes a =
    let p = a.p in
    let there = goes p a.is a.a a.t a.e a.at in
    record {
      p = p;
      is = a.is;
      q = a.e;
      at = subst (λ (j : ℕ). NodeAt p.place p.plan j a.e) (sym there) (node_false p.plan p.place x.place a.a a.t a.e a.at);
      holds = subst (λ (j : ℕ). Follows p.goal (steps_of p.actions j a.e) (worlds_in run.knowledge) Holds) (sym there)
          (follows_same p.goal (steps_of p.actions (past (x.place + 2) a.t) a.e) _ (worlds_in run.knowledge) (same_sym _ _ same) Holds (a.on_false some));
    }
