use Rattle.std.proofs.Common.{◌≡◌, ℕ, ◌+◌, ◌≤◌, length, take, drop, sym, ap, ◌∙◌, arith, rules}
use Rattle.plans.specs.Trees.{encode}
use Rattle.procedure.specs.Procedures.{procedure_of}
use Rattle.procedure.proofs.Holding.{kept, plan_lies, nodes_stand}
use Rattle.procedure.proofs.Walking.{ok_same}
use Rattle.procedure.proofs.loaded.Loaded.plan.Goals as goal

pub overflow_add-result : goal.overflow_add-result
overflow_add-result c =
    let l = c.args.self.now in
    let k = kept (procedure_of l.file.now) l.n l.goal.trues l.goal.falses l.actions l.plan l.len l.held in
    let lies = (plan_lies l.file.now k.p k.is).0 in
    let within : l.plan + l.len ≤ length l.file.now = omega (arith, lies, k.place_is, k.len_is) in
    search rules

pub slice_bounds-result-end : goal.slice_bounds-result-end
slice_bounds-result-end c =
    let l = c.args.self.now in
    let k = kept (procedure_of l.file.now) l.n l.goal.trues l.goal.falses l.actions l.plan l.len l.held in
    let lies = (plan_lies l.file.now k.p k.is).0 in
    let within : l.plan + l.len ≤ length l.file.now = omega (arith, lies, k.place_is, k.len_is) in
    search rules

pub returns : goal.returns
returns c =
    let l = c.args.self.now in
    record {
      nodes = λ p e. nodes_stand l.file.now p e;
      value = λ p e.
          let k = kept (procedure_of l.file.now) l.n l.goal.trues l.goal.falses l.actions l.plan l.len l.held in
          let same : k.p ≡ p = ok_same (sym k.is ∙ e) in
          let place : l.plan ≡ p.place = sym k.place_is ∙ ap (λ x. x.place) same in
          let len : l.len ≡ length (encode p.plan) = sym k.len_is ∙ ap (λ x. length (encode x.plan)) same in (
            ap (λ (m : ℕ). take m (drop l.plan l.file.now)) (omega (arith, len))
                ∙ ap (λ (q : ℕ). take (length (encode p.plan)) (drop q l.file.now)) place
                ∙ (plan_lies l.file.now p e).1,
            place,
          );
    }
