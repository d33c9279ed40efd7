-- What a loaded procedure has: its plan names the actions that are there, and its tree of steps is in range. Assumes nothing.
use Rattle.std.proofs.Common.{◌≡◌, ℕ, zero, suc, ◌+◌, ◌^◌, ◌<◌, ◌≤◌, Bool, true, false, ◌&&◌, eqb, ltb, leb, List, [], ◌∷◌, length, get_or, Option, Some, None, MatchOption, option_map, Ok, ◌∙◌, sym, refl, ap, subst, inl, inr, lt_of_lt_of_le, arith, pow_mono}
use Rattle.std.proofs.lemmas.Bool.{and_parts, ltb-true, eqb-true, cond_both}
use Rattle.fluents.specs.Sets.{Apart}
use Rattle.knowledge.specs.declared.actions.Action.{Action}
use Rattle.knowledge.specs.declared.actions.Action.TheVariants.{Doing as DoingAct, Reading as ReadingAct}
use Rattle.knowledge.specs.declared.actions.DoingAction.{DoingAction}
use Rattle.knowledge.specs.declared.actions.ReadingAction.{ReadingAction}
use Rattle.knowledge.specs.declared.states.Row.{Row}
use Rattle.knowledge.proofs.Extending.{true_not_false}
use Rattle.frames.specs.Frames.{Frame}
use Rattle.plans.specs.Trees.{Plan, finish, act, ask, gap, past, NodeAt, readings, Named, Fits}
use Rattle.plans.proofs.Parses.{plan_spells}
use Rattle.procedure.specs.Acts.{act_seen, is_do, is_read}
use Rattle.procedure.specs.Fields.{set_at, row_at, is_inside, is_apart, is_state, is_header, is_doing, is_reading}
use Rattle.procedure.specs.Procedures.{Act, doing, reading, Procedure, good_or, act_of, acts_of, does_at, reads_at, procedure_of}
use Rattle.procedure.proofs.Holding.{then_ok, good_is, parts, few_fluents}
use Rattle.procedure.proofs.Rereading.{header_few}
use Rattle.procedure.proofs.Walking.{ok_same}
use Rattle.meaning.specs.Laws.{IsState}
use Rattle.meaning.specs.Steps.{Steps, act_at, doing_step, reading_step, steps_of, tree_of}
use Rattle.meaning.proofs.Proper.{Proper}

-- ---- the action of a number

act_at_read : (acts : List Act) (a : ℕ) (x : Act) → a < length acts → ((d : Act) → get_or acts a d ≡ x) → act_at acts a ≡ Some x
act_at_read [] a x low at = absurd (omega arith)
act_at_read (y ∷ acts) zero x low at = ap Some (at y)
act_at_read (y ∷ acts) (suc a) x low at = act_at_read acts a x (omega arith) at

act_at_none : (acts : List Act) (a : ℕ) → length acts ≤ a → act_at acts a ≡ None
act_at_none [] a high = refl
act_at_none (x ∷ acts) zero high = absurd (omega arith)
act_at_none (x ∷ acts) (suc a) high = act_at_none acts a (omega arith)

-- what a loaded file answers for the number a
abbrev Answered : List Act → ℕ → Option Action → Type 0
Answered acts a o = MatchOption o (length acts ≤ a) (λ x. (a < length acts) × ((d : Act) → get_or acts a d ≡ act_seen x))

pub act_at_answered : (acts : List Act) (a : ℕ) (o : Option Action) → Answered acts a o → act_at acts a ≡ option_map act_seen o
act_at_answered acts a None h = act_at_none acts a h
act_at_answered acts a (Some x) h = act_at_read acts a (act_seen x) h.0 h.1

-- where a doing action is there, it is the answer, and where a reading action is there, that is
abbrev option_is : (Act → Bool) → Option Act → Bool
option_is test None = false
option_is test (Some x) = test x

does_is : (acts : List Act) (a : ℕ) → does_at acts a ≡ option_is is_do (act_at acts a)
does_is [] a = refl
does_is (doing c add del ∷ acts) zero = refl
does_is (reading c f ∷ acts) zero = refl
does_is (doing c add del ∷ acts) (suc a) = does_is acts a
does_is (reading c f ∷ acts) (suc a) = does_is acts a

reads_is : (acts : List Act) (a : ℕ) → reads_at acts a ≡ option_is is_read (act_at acts a)
reads_is [] a = refl
reads_is (doing c add del ∷ acts) zero = refl
reads_is (reading c f ∷ acts) zero = refl
reads_is (doing c add del ∷ acts) (suc a) = reads_is acts a
reads_is (reading c f ∷ acts) (suc a) = reads_is acts a

pub doing_answered : (acts : List Act) (a : ℕ) (o : Option Action) → Answered acts a o → does_at acts a ≡ true → (x : DoingAction) × (o ≡ Some (DoingAct x))
doing_answered acts a None h does = absurd (true_not_false (sym does ∙ does_is acts a ∙ ap (option_is is_do) (act_at_answered acts a None h)))
doing_answered acts a (Some (DoingAct x)) h does = (x, refl)
doing_answered acts a (Some (ReadingAct x)) h does = absurd (true_not_false (sym does ∙ does_is acts a ∙ ap (option_is is_do) (act_at_answered acts a (Some (ReadingAct x)) h)))

pub reading_answered : (acts : List Act) (a : ℕ) (o : Option Action) → Answered acts a o → reads_at acts a ≡ true → (x : ReadingAction) × (o ≡ Some (ReadingAct x))
reading_answered acts a None h reads = absurd (true_not_false (sym reads ∙ reads_is acts a ∙ ap (option_is is_read) (act_at_answered acts a None h)))
reading_answered acts a (Some (DoingAct x)) h reads = absurd (true_not_false (sym reads ∙ reads_is acts a ∙ ap (option_is is_read) (act_at_answered acts a (Some (DoingAct x)) h)))
reading_answered acts a (Some (ReadingAct x)) h reads = (x, refl)

-- ---- the nodes of the plan

-- a node of a plan whose actions are named rightly names its own rightly
named_node : (does reads : ℕ → Bool) (p : Plan) (i j : ℕ) (q : Plan) → Named does reads p → NodeAt i p j q → Named does reads q
named_node does reads finish i j q named at = subst (Named does reads) (sym at.1) named
named_node does reads (act a p) i j q named (inl here) = subst (Named does reads) (sym here.1) named
named_node does reads (act a p) i j q named (inr there) = named_node does reads p (i + 2) j q named.1 there
named_node does reads (ask a p r) i j q named (inl here) = subst (Named does reads) (sym here.1) named
named_node does reads (ask a p r) i j q named (inr (inl there)) = named_node does reads p (i + 2) j q named.1 there
named_node does reads (ask a p r) i j q named (inr (inr there)) = named_node does reads r (past (i + 2) p) j q named.2 there
named_node does reads gap i j q named at = subst (Named does reads) (sym at.1) named

plan_fits : (s : List ℕ) (p : Procedure) → procedure_of s ≡ Ok p → Fits (does_at p.actions) (reads_at p.actions) 0 p.plan
plan_fits s p e = let t = parts s p e in (plan_spells (does_at p.actions) (reads_at p.actions) t.whole.rest.plan.payload p.plan t.plan).0

pub few_readings : (s : List ℕ) (p : Procedure) → procedure_of s ≡ Ok p → readings p.plan ≤ 8
few_readings s p e = omega (arith, (plan_fits s p e).1)

pub node_named : (s : List ℕ) (p : Procedure) → procedure_of s ≡ Ok p → (j : ℕ) (q : Plan) → NodeAt p.place p.plan j q → Named (does_at p.actions) (reads_at p.actions) q
node_named s p e j q at = named_node (does_at p.actions) (reads_at p.actions) p.plan p.place j q (plan_fits s p e).0 at

-- ---- partial states

inside_fits : (n a : ℕ) → n ≤ 64 → is_inside n a ≡ true → a < 2 ^ 64
inside_fits n a few e = lt_of_lt_of_le (ltb-true a (2 ^ n) e) (pow_mono few)

pub state_fits : (n : ℕ) (r : Row) → n ≤ 64 → is_state n r ≡ true → IsState r
state_fits n r few e =
    let both = and_parts (is_inside n r.trues && is_inside n r.falses) (is_apart r.trues r.falses) e in
    let inside = and_parts (is_inside n r.trues) (is_inside n r.falses) both.0 in
    (eqb-true _ _ both.1, inside_fits n r.trues few inside.0, inside_fits n r.falses few inside.1)

pub goal_state : (s : List ℕ) (p : Procedure) → procedure_of s ≡ Ok p → IsState p.goal
goal_state s p e =
    let t = parts s p e in
    let xs = t.whole.header.payload in
    let good = (good_is t.whole.header (is_header xs) (get_or xs 0 0) p.n t.header).0 in
    let state = (and_parts (leb 1 (get_or xs 0 0) && leb (get_or xs 0 0) 64) (is_state (get_or xs 0 0) (row_at xs 1)) good).1 in
    subst IsState (sym t.goal) (state_fits (get_or xs 0 0) (row_at xs 1) (header_few xs good) state)

-- ---- the tree of steps

-- what an action has: its conditions are a partial state, and effects and fluent are in range
abbrev pub ActFits : Act → Type 0
ActFits (doing c add del) = IsState c × Apart add del × (add < 2 ^ 64) × (del < 2 ^ 64)
ActFits (reading c f) = IsState c × (f < 64)

abbrev pub AllFit : List Act → Type 0
AllFit [] = Unit {0}
AllFit (x ∷ acts) = ActFits x × AllFit acts

good_fits : (frame : Frame) (good : Bool) (v x : Act) → (good ≡ true → ActFits v) → good_or frame good v ≡ Ok x → ActFits x
good_fits frame good v x fits e = let is = good_is frame good v x e in subst ActFits is.1 (fits is.0)

module _ (n : ℕ) (few : n ≤ 64) where
  doing_fits : (xs : List ℕ) → is_doing n xs ≡ true → ActFits (doing (row_at xs 0) (set_at xs 16) (set_at xs 24))
  doing_fits xs e =
      let all = and_parts (is_state n (row_at xs 0) && is_inside n (set_at xs 16) && is_inside n (set_at xs 24)) (is_apart (set_at xs 16) (set_at xs 24)) e in
      let sets = and_parts (is_state n (row_at xs 0) && is_inside n (set_at xs 16)) (is_inside n (set_at xs 24)) all.0 in
      let first = and_parts (is_state n (row_at xs 0)) (is_inside n (set_at xs 16)) sets.0 in (
        state_fits n (row_at xs 0) few first.0,
        eqb-true _ _ all.1,
        inside_fits n (set_at xs 16) few first.1,
        inside_fits n (set_at xs 24) few sets.1,
      )

  reading_fits : (xs : List ℕ) → is_reading n xs ≡ true → ActFits (reading (row_at xs 0) (get_or xs 16 0))
  reading_fits xs e =
      let both = and_parts (is_state n (row_at xs 0)) (ltb (get_or xs 16 0) n) e in
      (state_fits n (row_at xs 0) few both.0, omega (arith, ltb-true (get_or xs 16 0) n both.1))

  act_fits : (frame : Frame) (x : Act) → act_of n frame ≡ Ok x → ActFits x
  act_fits frame x e =
      cond_both (eqb frame.kind 2) _ _ (λ r. r ≡ Ok x → ActFits x)
      (λ _. good_fits frame _ _ x (doing_fits frame.payload))
      (λ _. good_fits frame _ _ x (reading_fits frame.payload))
      e

  acts_fit : (frames : List Frame) (acts : List Act) → acts_of n frames ≡ Ok acts → AllFit acts
  acts_fit [] acts e = subst AllFit (ok_same e) tt
  acts_fit (frame ∷ frames) acts e =
      let first = then_ok (act_of n frame) _ acts e in
      let rest = then_ok (acts_of n frames) _ acts first.2 in
      subst AllFit (ok_same rest.2) (act_fits frame first.0 first.1, acts_fit frames rest.0 rest.1)

doing_proper : (acts : List Act) → AllFit acts → (a i : ℕ) (t : Steps) → Proper t → Proper (doing_step i (act_at acts a) t)
doing_proper [] fit a i t proper = tt
doing_proper (doing c add del ∷ acts) fit zero i t proper = (fit.0.0, fit.0.1, fit.0.2, fit.0.3, proper)
doing_proper (reading c f ∷ acts) fit zero i t proper = tt
doing_proper (x ∷ acts) fit (suc a) i t proper = doing_proper acts fit.1 a i t proper

reading_proper : (acts : List Act) → AllFit acts → (a i : ℕ) (t e : Steps) → Proper t → Proper e → Proper (reading_step i (act_at acts a) t e)
reading_proper [] fit a i t e proper other = tt
reading_proper (doing c add del ∷ acts) fit zero i t e proper other = tt
reading_proper (reading c f ∷ acts) fit zero i t e proper other = (fit.0.0, fit.0.1, proper, other)
reading_proper (x ∷ acts) fit (suc a) i t e proper other = reading_proper acts fit.1 a i t e proper other

pub steps_proper : (acts : List Act) → AllFit acts → (i : ℕ) (p : Plan) → Proper (steps_of acts i p)
unfolding steps_of
steps_proper acts fit i finish = tt
steps_proper acts fit i (act a p) = doing_proper acts fit a i (steps_of acts (i + 2) p) (steps_proper acts fit (i + 2) p)
steps_proper acts fit i (ask a p q) =
    reading_proper acts fit a i (steps_of acts (i + 2) p) (steps_of acts (past (i + 2) p) q)
    (steps_proper acts fit (i + 2) p) (steps_proper acts fit (past (i + 2) p) q)
steps_proper acts fit i gap = tt

pub tree_proper : (s : List ℕ) (p : Procedure) → procedure_of s ≡ Ok p → Proper (tree_of p)
tree_proper s p e =
    let t = parts s p e in
    steps_proper p.actions (acts_fit p.n (few_fluents s p e) t.whole.rest.actions p.actions t.acts) p.place p.plan
