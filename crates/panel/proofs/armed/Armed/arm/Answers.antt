use Rattle.std.proofs.Common.{sym, ap, ◌∙◌, subst}
use Rattle.plans.specs.Trees.{NodeAt}
use Rattle.plans.proofs.Places.{node_root}
use Rattle.procedure.specs.Procedures.{procedure_of}
use Rattle.procedure.proofs.Holding.{kept}
use Rattle.meaning.specs.Follows.{Follows}
use Rattle.meaning.specs.Steps.{steps_of, tree_of}
use Rattle.meaning.specs.declared.answers.Verdict.TheVariants.{Holds}
use Rattle.panel.specs.Cases.{worlds_in}
use Rattle.panel.proofs.armed.Armed.arm.Goals as goal

pub invariant_of-result : goal.invariant_of-result
invariant_of-result c =
    let l = c.args.loaded in
    let k = kept (procedure_of l.file.now) l.n l.goal.trues l.goal.falses l.actions l.plan l.len l.held in
    let p = k.p in
    let run = c.begin-run.result in
    let there = c.begin-run.ensures.1 p k.is in
    let holds : Follows p.goal (tree_of p) (worlds_in c.args.start) Holds = c.in-Holds.ensures.value p k.is in record {
      ready =
          ∣
          record {
            p = p;
            is = ap (λ v. procedure_of v.file.now) c.put-loaded.ensures ∙ k.is;
            q = p.plan;
            at = subst (λ j. NodeAt p.place p.plan j p.plan) (sym there) (node_root p.plan p.place);
            holds = subst (λ j. Follows p.goal (steps_of p.actions j p.plan) (worlds_in run.knowledge) Holds) (sym there)
                (subst (λ x. Follows p.goal (tree_of p) (worlds_in x) Holds) (sym c.begin-run.ensures.0) holds);
          }
          ∣₁;
    }
