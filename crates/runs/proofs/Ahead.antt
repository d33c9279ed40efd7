-- What lasts from step to step of following: the branches that are still ahead. Assumes nothing.
use Rattle.std.proofs.Common.{◌≡◌, ℕ, ◌+◌, ◌<◌, ◌≤◌, Bool, true, false, List, [], ◌∷◌, length, Ok, sym, refl, ap, ◌∙◌, subst, inl, inr, arith, length-append}
use Rattle.knowledge.specs.declared.states.Row.{Row}
use Rattle.plans.specs.Trees.{Plan, finish, act, ask, gap, encode, past, readings, NodeAt}
use Rattle.plans.proofs.Codes.{some_bytes}
use Rattle.plans.proofs.Places.{node_root, node_rest, node_within}
use Rattle.procedure.specs.Procedures.{Act, Procedure, procedure_of}
use Rattle.meaning.specs.Follows.{Follows, Then}
use Rattle.meaning.specs.Sets.{Covers, Moved, Told, Possible}
use Rattle.meaning.specs.Steps.{Steps, does, reads, steps_of, tree_of}
use Rattle.meaning.specs.declared.answers.Cause.{Cause}
use Rattle.meaning.specs.declared.answers.Verdict.{Verdict}
use Rattle.meaning.specs.declared.answers.Verdict.TheVariants.{Holds, Fails}
use Rattle.meaning.proofs.Following.{follows_same}
use Rattle.runs.specs.Stepping.{Stepped, InBranch, Branched, branch}
use Rattle.runs.specs.declared.pending.Branches.{Branches}
use Rattle.runs.specs.declared.pending.Branches.TheVariants.{One, Both}
use Rattle.runs.specs.declared.pending.Pending.{Pending}
use Rattle.runs.specs.declared.run.Run.{Run}
use Rattle.runs.specs.declared.run.Step.{Step}
use Rattle.runs.specs.declared.run.Step.TheVariants.{Did, Asks, Ended, Failed}
use Rattle.runs.proofs.Along.{Promised, doing_tree, reading_tree, Doing, at_doing, Asking, at_asking, pick, branch_further, branch_tree, node_branch, asking_node}

-- ---- the waiting runs, the last that came first, each with its plan

module _ {A : Type 0} (worlds : A → ℕ → Type 0) (p : Procedure) where
  -- Each stands at its plan, behind the place e; the plan of the next stands behind its end; and there is room for its readings.
  abbrev pub Lies : ℕ → List (Run A) → List Plan → Type 0
  Lies e [] [] = Unit {0}
  Lies e [] (q ∷ qs) = ⊥
  Lies e (r ∷ rs) [] = ⊥
  Lies e (r ∷ rs) (q ∷ qs) = NodeAt p.place p.plan r.place q × (e ≤ r.place) × (length rs + readings q ≤ 8) × Lies (past r.place q) rs qs

  -- the verdict of following what waits, the last first
  abbrev pub Rest : List (Run A) → List Plan → Verdict → Type 0
  Rest (r ∷ rs) (q ∷ qs) v = (u : Verdict) × Follows p.goal (steps_of p.actions r.place q) (worlds r.knowledge) u × Then u (Rest rs qs v) v
  Rest [] qs v = v ≡ Holds
  Rest (r ∷ rs) [] v = v ≡ Holds

  pub lies_behind : (e d : ℕ) (rs : List (Run A)) (qs : List Plan) → d ≤ e → Lies e rs qs → Lies d rs qs
  lies_behind e d [] [] h l = tt
  lies_behind e d [] (q ∷ qs) h l = elim l [ ]
  lies_behind e d (r ∷ rs) [] h l = elim l [ ]
  lies_behind e d (r ∷ rs) (q ∷ qs) h (at, behind, room, rest) = (at, omega (arith, behind), room, rest)

-- The run stands at a node, and the verdict from there, and then of what waits, is the verdict of the whole.
pub record Ahead {A : Type 0} (worlds : A → ℕ → Type 0) (file : List ℕ) (start : A) (run : Run A) (waiting : List (Run A)) : Type 0 where
  pub p : Procedure
  pub is : procedure_of file ≡ Ok p
  pub q : Plan
  pub at : NodeAt p.place p.plan run.place q
  pub stack : List Plan
  pub room : length waiting + readings q ≤ 8
  pub lies : Lies worlds p (past run.place q) waiting stack
  pub on : (v u : Verdict) → Follows p.goal (steps_of p.actions run.place q) (worlds run.knowledge) u → Then u (Rest worlds p waiting stack v) v
      → Follows p.goal (tree_of p) (worlds start) v

-- ---- the verdict at one node

module _ {A : Type 0} (worlds : A → ℕ → Type 0) (goal : Row) (acts : List Act) (i : ℕ) (k : A) where
  pub ended_follows : (q : Plan) → Stepped worlds goal acts i k q Ended → Follows goal (steps_of acts i q) (worlds k) Holds
  unfolding Follows steps_of
  ended_follows finish (inl h) = inl (h.0, refl)
  ended_follows finish (inr h) = absurd (cc h.1)
  ended_follows (act b q) (c, add, del, found, inl h) = absurd (cc h.1.1)
  ended_follows (act b q) (c, add, del, found, inr h) = absurd (cc h.1)
  ended_follows (ask b t e) (c, f, found, inl h) = absurd (cc h.1.1)
  ended_follows (ask b t e) (c, f, found, inr h) = absurd (cc h.1)
  ended_follows gap h = absurd (cc h)

  failed_same : (place j : ℕ) (cause why : Cause) → ◌≡◌ {A = Step A} (Failed place cause) (Failed j why) → Fails place cause ≡ Fails j why
  failed_same place j cause why e = let p : place ≡ j = cc e in let c : cause ≡ why = cc e in cc

  pub failed_follows : (q : Plan) (place : ℕ) (cause : Cause) → Stepped worlds goal acts i k q (Failed place cause) → Follows goal (steps_of acts i q) (worlds k) (Fails place cause)
  unfolding Follows steps_of
  failed_follows finish place cause (inl h) = absurd (cc h.1)
  failed_follows finish place cause (inr h) = inr (h.0, failed_same place i cause _ h.1)
  failed_follows (act b q) place cause (c, add, del, found, inl h) = absurd (cc h.1.1)
  failed_follows (act b q) place cause (c, add, del, found, inr h) =
      subst (λ t. Follows goal t (worlds k) (Fails place cause)) (sym (doing_tree acts i b q c add del found)) (inr (h.0, failed_same place i cause _ h.1))
  failed_follows (ask b t e) place cause (c, f, found, inl h) = absurd (cc h.1.1)
  failed_follows (ask b t e) place cause (c, f, found, inr h) =
      subst (λ t. Follows goal t (worlds k) (Fails place cause)) (sym (reading_tree acts i b t e c f found)) (inr (h.0, failed_same place i cause _ h.1))
  failed_follows gap place cause h = failed_same place i cause _ h

-- ---- a reading, by the branches that are open

module _ (goal : Row) (i : ℕ) (c : Row) (f : ℕ) (t e : Steps) (K : ℕ → Type 0) (cov : Covers c K) where
  pub one_true : (u : Verdict) → Possible (Told f true K) → (Possible (Told f false K) → ⊥) → Follows goal t (Told f true K) u → Follows goal (reads i c f t e) K u
  unfolding Follows
  one_true Holds some none h = inl (cov, (Holds, inl (some, h), inr (none, refl)))
  one_true (Fails place cause) some none h = inl (cov, (Fails place cause, inl (some, h), refl))

  pub one_false : (u : Verdict) → (Possible (Told f true K) → ⊥) → Possible (Told f false K) → Follows goal e (Told f false K) u → Follows goal (reads i c f t e) K u
  unfolding Follows
  one_false u none some h = inl (cov, (Holds, inr (none, refl), inl (some, h)))

  pub both_fail : (place : ℕ) (cause : Cause) → Possible (Told f true K) → Follows goal t (Told f true K) (Fails place cause) → Follows goal (reads i c f t e) K (Fails place cause)
  unfolding Follows
  both_fail place cause some h = inl (cov, (Fails place cause, inl (some, h), refl))

  pub both_hold : (u : Verdict) → Possible (Told f true K) → Possible (Told f false K) → Follows goal t (Told f true K) Holds → Follows goal e (Told f false K) u → Follows goal (reads i c f t e) K u
  unfolding Follows
  both_hold u some more h g = inl (cov, (Holds, inl (some, h), inl (more, g)))

-- a branch ends within its reading node's plan, and has one reading less on each path
branch_within : (i a : ℕ) (v : Bool) (t e : Plan) → past (branch i v t) (pick v t e) ≤ past i (ask a t e)
branch_within i a true t e = omega (arith, length-append (encode t) (encode e))
branch_within i a false t e = omega (arith, length-append (encode t) (encode e))

branch_readings : (a : ℕ) (v : Bool) (t e : Plan) → readings (pick v t e) < readings (ask a t e)
branch_readings a true t e = omega arith
branch_readings a false t e = omega arith

-- ---- the steps of following

module _ {A : Type 0} {worlds : A → ℕ → Type 0} {file : List ℕ} {start : A} where
  pub ahead_begun : (p : Procedure) → procedure_of file ≡ Ok p → readings p.plan ≤ 8 → (run : Run A) → run.place ≡ p.place → run.knowledge ≡ start
      → Ahead worlds file start run []
  ahead_begun p is few run there knows = record {
    p = p;
    is = is;
    q = p.plan;
    at = subst (λ (j : ℕ). NodeAt p.place p.plan j p.plan) (sym there) (node_root p.plan p.place);
    stack = [];
    room = omega (arith, few);
    lies = tt;
    on = λ v u f next.
        let whole : Follows p.goal (tree_of p) (worlds start) u = subst (λ k. Follows p.goal (tree_of p) (worlds k) u) knows (subst (λ (j : ℕ). Follows p.goal (steps_of p.actions j p.plan) (worlds run.knowledge) u) there f) in
        last p u v whole next;
  }
    where
      last : (p : Procedure) (u v : Verdict) → Follows p.goal (tree_of p) (worlds start) u → Then u (v ≡ Holds) v → Follows p.goal (tree_of p) (worlds start) v
      last p Holds v f e = subst (Follows p.goal (tree_of p) (worlds start)) (sym e) f
      last p (Fails place cause) v f e = subst (Follows p.goal (tree_of p) (worlds start)) (sym e) f

  module _ {run : Run A} {waiting : List (Run A)} (w : Ahead worlds file start run waiting) where
    pub ahead_within : run.place < past w.p.place w.p.plan
    ahead_within = omega (arith, (node_within w.p.plan w.p.place run.place w.q w.at).1, some_bytes w.q)

    -- an action was done
    module _ (a : ℕ) (next : Run A) (step : Promised worlds file run (Did a next)) where
      done : Doing worlds w.p.goal w.p.actions run.place run.knowledge w.q a next
      done = at_doing worlds w.p.goal w.p.actions run.place run.knowledge w.q a next (step w.p w.is w.q w.at)

      pub further_did : run.place < next.place
      further_did = omega (arith, done.there)

      pub ahead_did : Ahead worlds file start next waiting
      unfolding Follows
      ahead_did =
          let p = w.p in
          let d = done in
          let node : NodeAt p.place p.plan run.place (act a d.rest) = subst (NodeAt p.place p.plan run.place) d.is w.at in
          let tree : steps_of p.actions run.place w.q ≡ does run.place d.c d.add d.del (steps_of p.actions next.place d.rest) =
          ap (steps_of p.actions run.place) d.is ∙ doing_tree p.actions run.place a d.rest d.c d.add d.del d.found
          ∙ ap (λ (j : ℕ). does run.place d.c d.add d.del (steps_of p.actions j d.rest)) (sym d.there) in
          let size : length (encode w.q) ≡ 2 + length (encode d.rest) = ap (λ x. length (encode x)) d.is ∙ omega arith in
          record {
            p = p;
            is = w.is;
            q = d.rest;
            at = subst (λ (j : ℕ). NodeAt p.place p.plan j d.rest) (sym d.there) (node_rest p.plan p.place run.place a d.rest node);
            stack = w.stack;
            room = omega (arith, w.room, ap readings d.is);
            lies = lies_behind worlds p (past run.place w.q) (past next.place d.rest) waiting w.stack (omega (arith, size, d.there)) w.lies;
            on = λ v u f rest. w.on v u (subst (λ t. Follows p.goal t (worlds run.knowledge) u) (sym tree)
                (inl (d.covers, follows_same p.goal (steps_of p.actions next.place d.rest) (worlds next.knowledge) (Moved d.add d.del (worlds run.knowledge)) d.knows u f))) rest;
          }

    -- the plan ends well: nothing waits, or the last that came is next
    pub ahead_over : Promised worlds file run Ended → waiting ≡ [] → Follows w.p.goal (tree_of w.p) (worlds start) Holds
    ahead_over step none =
        w.on Holds Holds (ended_follows worlds w.p.goal w.p.actions run.place run.knowledge w.q (step w.p w.is w.q w.at)) (subst (λ rs. Rest worlds w.p rs w.stack Holds) (sym none) refl)

    pub ahead_next : Promised worlds file run Ended → (r : Run A) (rs : List (Run A)) → waiting ≡ r ∷ rs
        → (run.place < r.place) × Ahead worlds file start r rs
    ahead_next step r rs is =
        go w.stack (subst (λ l. Lies worlds w.p (past run.place w.q) l w.stack) is w.lies)
        (λ v h. w.on v Holds (ended_follows worlds w.p.goal w.p.actions run.place run.knowledge w.q (step w.p w.is w.q w.at)) (subst (λ l. Rest worlds w.p l w.stack v) (sym is) h))
      where
        go : (qs : List Plan) → Lies worlds w.p (past run.place w.q) (r ∷ rs) qs
            → ((v : Verdict) → Rest worlds w.p (r ∷ rs) qs v → Follows w.p.goal (tree_of w.p) (worlds start) v) → (run.place < r.place) × Ahead worlds file start r rs
        go [] l h = elim l [ ]
        go (q ∷ qs) (at, behind, room, rest) h = (
          omega (arith, behind, some_bytes w.q),
          record { p = w.p; is = w.is; q = q; at = at; stack = qs; room = room; lies = rest; on = λ v u f next. h v (u, f, next) },
        )

    pub ahead_failed : (place : ℕ) (cause : Cause) → Promised worlds file run (Failed place cause)
        → Follows w.p.goal (tree_of w.p) (worlds start) (Fails place cause)
    ahead_failed place cause step =
        w.on (Fails place cause) (Fails place cause) (failed_follows worlds w.p.goal w.p.actions run.place run.knowledge w.q place cause (step w.p w.is w.q w.at)) refl

    -- a reading waits
    module _ (some : (k : A) → (w : ℕ) × worlds k w) (x : Pending A) (step : Promised worlds file run (Asks x)) where
      asking : Asking worlds w.p.goal w.p.actions run.place run.knowledge w.q x
      asking = at_asking worlds w.p.goal w.p.actions run.place run.knowledge w.q x (step w.p w.is w.q w.at)

      node : NodeAt w.p.place w.p.plan x.place (ask asking.a asking.t asking.e)
      node = asking_node worlds w.p.goal w.p.actions run w.p.plan w.p.place w.q x w.at asking

      f : ℕ
      f = x.fluent.index

      K : ℕ → Type 0
      K = worlds x.knowledge

      when_true : Steps
      when_true = steps_of w.p.actions (run.place + 2) asking.t

      when_false : Steps
      when_false = steps_of w.p.actions (past (run.place + 2) asking.t) asking.e

      covers : Covers asking.c K
      unfolding K
      covers = subst (λ k. Covers asking.c (worlds k)) (sym asking.knows) asking.covers

      -- the verdict of the reading node is that of the node at which the run stands
      at_node : (u : Verdict) → Follows w.p.goal (reads run.place asking.c f when_true when_false) K u → Follows w.p.goal (steps_of w.p.actions run.place w.q) (worlds run.knowledge) u
      unfolding f K when_true when_false
      at_node u h =
          let tree = ap (steps_of w.p.actions run.place) asking.is ∙ reading_tree w.p.actions run.place asking.a asking.t asking.e asking.c x.fluent.index asking.found in
          subst (λ t. Follows w.p.goal t (worlds run.knowledge) u) (sym tree) (subst (λ k. Follows w.p.goal (reads run.place asking.c f when_true when_false) (worlds k) u) asking.knows h)

      ends_by : (v : Bool) → past (branch x.place v asking.t) (pick v asking.t asking.e) ≤ past run.place w.q
      ends_by v =
          omega (arith, branch_within x.place asking.a v asking.t asking.e, asking.there, ap (λ q. length (encode q)) asking.is)

      -- a run in the branch of a value
      module _ (v : Bool) (r : Run A) (b : InBranch worlds x asking.t v r) where
        branch_node : NodeAt w.p.place w.p.plan r.place (pick v asking.t asking.e)
        branch_node =
            subst (λ (j : ℕ). NodeAt w.p.place w.p.plan j (pick v asking.t asking.e)) (sym b.there)
            (node_branch w.p.plan w.p.place x.place asking.a v asking.t asking.e node)

        branch_open : Possible (Told f v K)
        unfolding f K
        branch_open = let one = some r.knowledge in (one.0, (b.knows one.0).0 one.1)

        branch_follows : (u : Verdict) → Follows w.p.goal (steps_of w.p.actions r.place (pick v asking.t asking.e)) (worlds r.knowledge) u
            → Follows w.p.goal (pick v when_true when_false) (Told f v K) u
        unfolding f K when_true when_false
        branch_follows u h =
            let there : r.place ≡ branch run.place v asking.t = b.there ∙ ap (λ (j : ℕ). branch j v asking.t) asking.there in
            subst (λ t. Follows w.p.goal t (Told f v K) u)
            (ap (λ (j : ℕ). steps_of w.p.actions j (pick v asking.t asking.e)) there ∙ branch_tree w.p.actions run.place v asking.t asking.e)
            (follows_same w.p.goal (steps_of w.p.actions r.place (pick v asking.t asking.e)) (worlds r.knowledge) (Told f v K) b.knows u h)

        further_branch : run.place < r.place
        further_branch = omega (arith, b.there, asking.there, branch_further x.place v asking.t)

        ahead_branch : ((u : Verdict) → Follows w.p.goal (pick v when_true when_false) (Told f v K) u → Follows w.p.goal (reads run.place asking.c f when_true when_false) K u)
            → Ahead worlds file start r waiting
        ahead_branch up = record {
          p = w.p;
          is = w.is;
          q = pick v asking.t asking.e;
          at = branch_node;
          stack = w.stack;
          room = omega (arith, w.room, ap readings asking.is, branch_readings asking.a v asking.t asking.e);
          lies = lies_behind worlds w.p (past run.place w.q) (past r.place (pick v asking.t asking.e)) waiting w.stack (omega (arith, ends_by v, b.there)) w.lies;
          on = λ z u h rest. w.on z u (at_node u (up u (branch_follows u h))) rest;
        }

      -- what the contract of the branches says
      abbrev Opens : Branches A → Type 0
      Opens r = (p : Procedure) → procedure_of file ≡ Ok p → (a : ℕ) (t e : Plan) → NodeAt p.place p.plan x.place (ask a t e) → Branched worlds x t r

      -- one branch is open
      one_open : (next : Run A) → Branched worlds x asking.t (One next) → (run.place < next.place) × Ahead worlds file start next waiting
      unfolding f K
      one_open next (inl (b, closed)) = (
        further_branch true next b,
        ahead_branch true next b (λ u h. one_true w.p.goal run.place asking.c f when_true when_false K covers u (branch_open true next b) closed h),
      )
      one_open next (inr (b, closed)) = (
        further_branch false next b,
        ahead_branch false next b (λ u h. one_false w.p.goal run.place asking.c f when_true when_false K covers u closed (branch_open false next b) h),
      )

      pub ahead_one : (next : Run A) → Opens (One next) → (run.place < next.place) × Ahead worlds file start next waiting
      ahead_one next opens = one_open next (opens w.p w.is asking.a asking.t asking.e node)

      -- there is room for one more that waits
      pub room_both : length waiting < 8
      room_both = omega (arith, w.room, ap readings asking.is)

      -- both are open: the one for false waits
      module _ (next later : Run A) (opens : Opens (Both next later)) where
        b : Branched worlds x asking.t (Both next later)
        b = opens w.p w.is asking.a asking.t asking.e node

        lies_both : Lies worlds w.p (past next.place asking.t) (later ∷ waiting) (asking.e ∷ w.stack)
        lies_both = (
          branch_node false later b.1,
          omega (arith, b.0.there, b.1.there),
          omega (arith, w.room, ap readings asking.is, branch_readings asking.a false asking.t asking.e),
          lies_behind worlds w.p (past run.place w.q) (past later.place asking.e) waiting w.stack (omega (arith, ends_by false, b.1.there)) w.lies,
        )

        on_both : (z u : Verdict) → Follows w.p.goal when_true (Told f true K) u → Then u (Rest worlds w.p (later ∷ waiting) (asking.e ∷ w.stack) z) z → Follows w.p.goal (tree_of w.p) (worlds start) z
        on_both z (Fails place cause) h rest =
            w.on z (Fails place cause) (at_node (Fails place cause) (both_fail w.p.goal run.place asking.c f when_true when_false K covers place cause (branch_open true next b.0) h)) rest
        on_both z Holds h (u, g, rest) =
            w.on z u (at_node u (both_hold w.p.goal run.place asking.c f when_true when_false K covers u (branch_open true next b.0) (branch_open false later b.1) h (branch_follows false later b.1 u g))) rest

        pub further_both : run.place < next.place
        further_both = further_branch true next b.0

        pub ahead_both : Ahead worlds file start next (later ∷ waiting)
        ahead_both = record {
          p = w.p;
          is = w.is;
          q = asking.t;
          at = branch_node true next b.0;
          stack = asking.e ∷ w.stack;
          room = omega (arith, w.room, ap readings asking.is, branch_readings asking.a true asking.t asking.e);
          lies = lies_both;
          on = λ z u h rest. on_both z u (branch_follows true next b.0 u h) rest;
        }
