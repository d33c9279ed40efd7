use Rattle.std.proofs.Common.{◌≡◌, ℕ, ◌+◌, Bool, true, false, MatchBool, sym, refl, ap, ◌∙◌, subst, inl, inr, arith}
use Rattle.std.proofs.lemmas.Bool.{MatchBool-at_true, MatchBool-at_false}
use Rattle.fluents.specs.Sets.{bit}
use Rattle.plans.specs.Trees.{ask, past, NodeAt}
use Rattle.plans.proofs.Places.{node_true}
use Rattle.runs.proofs.Room.{room}
use Rattle.runs.proofs.pending.Pending.branches.Goals as goal

half_open : {P Q : Type 0} (b : Bool) → MatchBool b P Q → (Q → ⊥) → P
half_open true h n = h
half_open false h n = absurd (n h)

some_value : (b : Bool) → (b ≡ true → ⊥) → (b ≡ false → ⊥) → ⊥
some_value true n m = n refl
some_value false n m = m refl

pub returns-then-halves-2 : goal.returns-then-halves-2
returns-then-halves-2 g c = λ p e a t f node.
    let within = room c.args.loaded.now.file.now p e c.args.self.place (ask a t f) node in
    let first : c.saturating_add-first.result ≡ c.args.self.place + 2 = omega (arith, within) in
    let node-t = subst (λ (j : ℕ). NodeAt p.place p.plan j t) (sym first) (node_true p.plan p.place c.args.self.place a t f node) in (
      record { there = first; knows = MatchBool-at_true _ _ c.if-halves-2.true c.split-halves.ensures.true_half },
      record { there = c.place_past.ensures p e t node-t ∙ ap (λ (j : ℕ). past j t) first; knows = MatchBool-at_true _ _ c.if-halves.true c.split-halves.ensures.false_half },
    )

pub returns-else-halves-2 : goal.returns-else-halves-2
returns-else-halves-2 g c = λ p e a t f node.
    let within = room c.args.loaded.now.file.now p e c.args.self.place (ask a t f) node in
    let first : c.saturating_add-first.result ≡ c.args.self.place + 2 = omega (arith, within) in
    let node-t = subst (λ (j : ℕ). NodeAt p.place p.plan j t) (sym first) (node_true p.plan p.place c.args.self.place a t f node) in
    let none = (MatchBool-at_false _ _ c.if-halves-2.false c.split-halves.ensures.true_half).1 in
    inr (
      record { there = c.place_past.ensures p e t node-t ∙ ap (λ (j : ℕ). past j t) first; knows = MatchBool-at_true _ _ c.if-halves.true c.split-halves.ensures.false_half },
      λ (w, (k, h)). none w k h,
    )

-- where no world has the fluent false, some world has it true
pub returns-else-halves : goal.returns-else-halves
returns-else-halves g c = λ p e a t f node.
    let within = room c.args.loaded.now.file.now p e c.args.self.place (ask a t f) node in
    let first : c.saturating_add-first.result ≡ c.args.self.place + 2 = omega (arith, within) in
    let none = (MatchBool-at_false _ _ c.if-halves.false c.split-halves.ensures.false_half).1 in
    let one = g.met.K.Knowledge.some c.args.self.knowledge in
    inl (
      record {
        there = first;
        knows = half_open c.split-halves.result.has_true c.split-halves.ensures.true_half
            (λ (gone : (c.split-halves.result.when_true ≡ c.args.self.knowledge) × ((w : ℕ) → g.K.Knowledge.worlds c.args.self.knowledge w → bit w c.args.self.fluent.index ≡ true → ⊥)). some_value _ (gone.1 one.0 one.1) (none one.0 one.1));
      },
      λ (w, (k, h)). none w k h,
    )
