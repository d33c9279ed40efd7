use Rattle.std.proofs.Common.{◌≡◌, ℕ, ◌+◌, MatchResult, Ok, Err, Result, is_ok, sym, ap, ◌∙◌, subst, arith}
use Rattle.knowledge.specs.Meaning.{Same, Learned}
use Rattle.plans.specs.Trees.{ask, past, NodeAt}
use Rattle.plans.proofs.Places.{node_true}
use Rattle.runs.specs.Stepping.{branch}
use Rattle.runs.proofs.Room.{room}
use Rattle.runs.proofs.pending.Pending.settle.Goals as goal
use Rattle.runs.proofs.pending.Pending.settle.Goals.{then-value, else-value}

-- what is learned is not changed where only the error is
kept : {X D E : Type 0} (r : Result X D) (m : Result X E) (x : X) (P : X → Type 0) (Q R : D → Type 0) → m ≡ Ok x → is_ok m ≡ is_ok r
    → MatchResult r (λ y. m ≡ Ok y) Q → MatchResult r P R → P x
kept (Ok y) m x P Q R is same cases h = let one : y ≡ x = cc in subst P one h
kept (Err e) m x P Q R is same cases h = absurd (cc (ap is_ok is))

pub returns : goal.returns
returns g c =
    let k = c.in_ok-knowledge.knowledge in
    let one = g.met.K.Knowledge.some k in
    let same = kept c.learn-learned.result c.map_err.result k (λ x. Same (g.K.Knowledge.worlds x) (Learned (record { fluent = c.args.self.fluent; value = c.args.value }) (g.K.Knowledge.worlds c.args.self.knowledge)))
    _ _ c.in_ok-knowledge.was c.map_err.ensures.variant c.map_err.ensures.cases c.learn-learned.ensures in
    record {
      learned = ((one.0, (same one.0).0 one.1), same);
      goes = λ p e a t f node.
          let within = room c.args.loaded.now.file.now p e c.args.self.place (ask a t f) node in
          let first : c.saturating_add-first.result ≡ c.args.self.place + 2 = omega (arith, within) in
          elim c.if-value.branch [
            | then-value w ↦ w.place-is ∙ first ∙ ap (λ b. branch c.args.self.place b t) (sym w.if-value.true)
            | else-value w ↦
                (let node-t = node_true p.plan p.place c.args.self.place a t f node in
                let behind = w.place_past-place.ensures p e t (subst (λ (j : ℕ). NodeAt p.place p.plan j t) (sym first) node-t) in
                w.place-is ∙ behind ∙ ap (λ (j : ℕ). past j t) first ∙ ap (λ b. branch c.args.self.place b t) (sym w.if-value.false))
          ];
    }
