use Rattle.std.proofs.Common.{refl, sym, ap, ◌∙◌, subst, inl, inr, ℕ, rules}
use Rattle.plans.specs.Trees.{NodeAt}
use Rattle.plans.proofs.Places.{node_root}
use Rattle.procedure.specs.Procedures.{procedure_of}
use Rattle.panel.proofs.Keeping.{as_before}
use Rattle.client.proofs.first_action.Goals as goal
use Rattle.client.proofs.first_action.Goals.{in-Ok, in-Err}

pub returns-clause-first : goal.returns-clause-first
returns-clause-first c = λ p is.
    elim c.match-arm.branch [
      | in-Ok w ↦
          let armed = w.in-Ok.ensures.value in
          let root = armed.root p is in
          rw w.number-is
          (inl (
            root.1,
            w.number_here.ensures.number p (ap (λ v. procedure_of v.file.now) armed.same ∙ is) p.plan (subst (λ (j : ℕ). NodeAt p.place p.plan j p.plan) (sym root.0) (node_root p.plan p.place)),
          ))
      | in-Err w ↦ rw w.number-is (inr (_, _, (w.in-Err.ensures.value.fails p is).0, refl))
    ]

pub returns-clause-word : goal.returns-clause-word
returns-clause-word c =
    elim c.match-arm.branch [
      | in-Ok w ↦
          let back = as_before c.args.loaded c.args.start _ w.in-Ok.armed _ w.in-Ok.ensures.value w.number_here.ensures.back in
          let held = ap (λ v. v.1.word.ghost_name) w.number-is ∙ back.held in
          let kept = ap (λ v. v.1.word.now) w.number-is ∙ back.kept in
          search rules
      | in-Err w ↦
          let back = w.in-Err.ensures.value.back in
          let held = ap (λ v. v.1.word.ghost_name) w.number-is ∙ ap (λ o. o.word.ghost_name) w.given_back.ensures ∙ back.held in
          let kept = ap (λ v. v.1.word.now) w.number-is ∙ ap (λ o. o.word.now) w.given_back.ensures ∙ back.kept in
          search rules
    ]
