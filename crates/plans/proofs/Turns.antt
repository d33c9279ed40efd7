-- Where a plan ends, and what the check of it answers. Assumes nothing.
use Rattle.std.proofs.Common.{◌≡◌, ℕ, ◌+◌, Bool, true, false, cond, eqb, List, length, drop, is_ok, IfErr, Ok, Err, Result, sym, refl, ap, ◌∙◌, subst}
use mathlib.Core.Bool.{false≢true}
use Rattle.plans.specs.Trees.{Plan, act, ask, Spells}
use Rattle.plans.specs.Checks.{bad, next, follow, node_of, plan_at, plan_of, ending, verdict}
use Rattle.plans.specs.Flaws.{Refused, Placed}
use Rattle.plans.specs.declared.Flaw.{Flaw}
use Rattle.plans.specs.declared.Node.{Node}
use Rattle.plans.specs.declared.Node.TheVariants.{End, Doing, Reading, Gap}
use Rattle.plans.proofs.Parses.{unrolled, plan_complete, plan_flaw, plan_spells, plan_refused, refused_placed}

-- ---- where a plan ends, by the node that is read at its first byte, at offset i below d readings

-- a node put before a plan leaves the place where the plan ends
same_ending : (x : Result (Plan × ℕ) Flaw) (f : Plan → Plan) → ending (next x (λ r. Ok (f r.0, r.1))) ≡ ending x
same_ending (Ok r) f = refl
same_ending (Err e) f = refl

module _ (doing reading : ℕ → Bool) (s : List ℕ) (i d : ℕ) where
  abbrev behind : Node → Result ℕ Flaw
  behind End = Ok (i + 1)
  behind (Doing a) = ending (plan_at doing reading s (i + 2) d)
  behind (Reading a) = next (ending (plan_at doing reading s (i + 2) (d + 1))) (λ j. ending (plan_at doing reading s j (d + 1)))
  behind Gap = Ok (i + 1)

  ending_both : (a : ℕ) (x : Result (Plan × ℕ) Flaw)
      → ending (next x (λ r. next (plan_at doing reading s r.1 (d + 1)) (λ t. Ok (ask a r.0 t.0, t.1)))) ≡ next (ending x) (λ j. ending (plan_at doing reading s j (d + 1)))
  ending_both a (Ok r) = same_ending (plan_at doing reading s r.1 (d + 1)) (ask a r.0)
  ending_both a (Err e) = refl

  ending_node : (n : Node) → ending (follow (plan_at doing reading s) i d n) ≡ behind n
  ending_node End = refl
  ending_node (Doing a) = same_ending (plan_at doing reading s (i + 2) d) (act a)
  ending_node (Reading a) = ending_both a (plan_at doing reading s (i + 2) (d + 1))
  ending_node Gap = refl

  ending_read : (x : Result Node Flaw) → ending (next x (follow (plan_at doing reading s) i d)) ≡ next x behind
  ending_read (Ok n) = ending_node n
  ending_read (Err e) = refl

  pub ending_is : ending (plan_at doing reading s i d) ≡ next (node_of doing reading i d (drop i s)) behind
  ending_is = ap ending (unrolled doing reading s i d) ∙ ending_read (node_of doing reading i d (drop i s))

-- ---- a whole plan

module _ (doing reading : ℕ → Bool) (s : List ℕ) where
  verdict_end : (b : Bool) (p : Plan) (j : ℕ) → verdict (cond b (Ok p) (Err (bad j))) ≡ cond b (Ok tt) (Err (bad j))
  verdict_end true p j = refl
  verdict_end false p j = refl

  verdict_read : (x : Result (Plan × ℕ) Flaw)
      → verdict (next x (λ r. cond (eqb r.1 (length s)) (Ok r.0) (Err (bad r.1)))) ≡ next (ending x) (λ j. cond (eqb j (length s)) (Ok tt) (Err (bad j)))
  verdict_read (Ok r) = verdict_end (eqb r.1 (length s)) r.0 r.1
  verdict_read (Err e) = refl

  pub verdict_is : verdict (plan_of doing reading s) ≡ next (ending (plan_at doing reading s 0 0)) (λ j. cond (eqb j (length s)) (Ok tt) (Err (bad j)))
  unfolding plan_of
  verdict_is = verdict_read (plan_at doing reading s 0 0)

  -- ---- what the answer says

  some_tree : (x : Result Plan Flaw) → plan_of doing reading s ≡ x → is_ok (verdict x) ≡ true → (p : Plan) × Spells doing reading s p
  some_tree (Ok p) e h = (p, plan_spells doing reading s p e)
  some_tree (Err f) e h = absurd (false≢true h)

  some_flaw : (x : Result Plan Flaw) (f : Flaw) → plan_of doing reading s ≡ x → verdict x ≡ Err f → Refused doing reading s f
  some_flaw (Ok p) f e h = cc h
  some_flaw (Err g) f e h = let q : g ≡ f = cc h in plan_refused doing reading s f (e ∙ ap Err q)

  placed : (x : Result Plan Flaw) → plan_of doing reading s ≡ x → IfErr (verdict x) (Placed (length s))
  placed (Ok p) e = tt
  placed (Err f) e = refused_placed doing reading s f (plan_refused doing reading s f e)

module _ (doing reading : ℕ → Bool) (s : List ℕ) (r : Result (Unit {0}) Flaw) (value : r ≡ verdict (plan_of doing reading s)) where
  pub trees : (is_ok r ≡ true → (p : Plan) × Spells doing reading s p) × ((p : Plan) → Spells doing reading s p → is_ok r ≡ true)
  trees = (
    λ h. some_tree doing reading s (plan_of doing reading s) refl (sym (ap is_ok value) ∙ h),
    λ p h. ap is_ok (value ∙ ap verdict (plan_complete doing reading s p h)),
  )

  pub flaws : ((e : Flaw) → r ≡ Err e → Refused doing reading s e) × ((e : Flaw) → Refused doing reading s e → r ≡ Err e)
  flaws = (
    λ e h. some_flaw doing reading s (plan_of doing reading s) e refl (sym value ∙ h),
    λ e h. value ∙ ap verdict (plan_flaw doing reading s e h),
  )

  pub place : IfErr r (Placed (length s))
  place = subst (λ x. IfErr x (Placed (length s))) (sym value) (placed doing reading s (plan_of doing reading s) refl)
