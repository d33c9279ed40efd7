use Rattle.std.proofs.Common.{rules, ◌≡◌, ℕ, Bool, Result, Ok, Err, filter, take, sym, ap, ◌∙◌, subst, arith}
use mathlib.Core.Bool.{beq}
use Rattle.std.specs.Result.{MatchResult, IsErrAnd}
use Rattle.std.proofs.lemmas.Result.{MatchResult-weaker, err_from_is_err_and}
use Rattle.std.proofs.lemmas.List.{take_all}
use Rattle.fluents.specs.Sets.{bit}
use Rattle.fluents.specs.Refusals.{fault_at}
use Rattle.fluents.specs.declared.faults.Fault.{Fault}
use Rattle.fluents.specs.declared.faults.Refusal.TheVariants.{Contradiction}
use Rattle.knowledge.specs.declared.worlds.WorldList.{WorldList}
use Rattle.knowledge.specs.Meaning.{HoldsIn, Learned, Same}
use Rattle.knowledge.specs.Listed.{Lists}
use Rattle.knowledge.specs.Worlds.{list_of}
use Rattle.knowledge.proofs.Choosing.{Chosen, chosen_filter, beq_true, beq_false}
use Rattle.knowledge.proofs.worlds.kind.WorldListKnowledge.learn.Goals as goal

-- a refusal of the new list becomes the one of a contradiction
answered : (Yes : WorldList → Type 0) (No : Type 0) (n r : Result WorldList Fault) → MatchResult n Yes (λ _. No)
    → MatchResult n (λ l. r ≡ Ok l) (λ _. IsErrAnd r (λ e. e ≡ fault_at Contradiction 0)) → MatchResult r Yes (λ e. (e ≡ fault_at Contradiction 0) × No)
answered Yes No (Ok l) r a b = subst (λ q. MatchResult q Yes (λ e. (e ≡ fault_at Contradiction 0) × No)) (sym b) a
answered Yes No (Err x) r a b =
    let refused = err_from_is_err_and r b in
    subst (λ q. MatchResult q Yes (λ e. (e ≡ fault_at Contradiction 0) × No)) (sym refused.1) (refused.2, a)

pub returns : goal.returns
returns c =
    let self = c.args.self in
    let literal = c.args.literal in
    let ws = list_of self in
    let kept = c.deref.result.now in
    let test : ℕ → Bool = λ w. beq (bit w literal.fluent.index) literal.value in
    let seen : ws ≡ c.as_slice-world-items.result.now = sym c.as_slice-world-items.ensures in
    let all : kept ≡ filter test ws =
    c.deref.ensures.0 ∙ c.loop-world.invariant.1
    ∙ ap (filter test) (ap (take c.loop-world.world-index) seen ∙ take_all c.loop-world.world-index c.as_slice-world-items.result.now c.loop-world-test.false ∙ sym seen) in
    let chosen : Chosen (HoldsIn literal) ws kept =
    subst (Chosen (HoldsIn literal) ws) (sym all) (chosen_filter (HoldsIn literal) test (λ w. beq_true _ _) (λ w. beq_false _ _) ws) in
    answered (λ l. Same (Lists l) (Learned literal (Lists self))) ((w : ℕ) → Lists self w → HoldsIn literal w → ⊥) c.new.result c.map_err.result
    (MatchResult-weaker c.new.result c.new.ensures
    (λ l made w. ((λ h. (chosen w).0 (made.1.0 w h)), (λ h. made.1.1 w ((chosen w).1 h.0 h.1))))
    (λ e not w h p. let there = (chosen w).1 h p in not.0 (omega (arith, there.1), c.deref.ensures.1)))
    (search rules)
