use Rattle.std.proofs.Common.{◌≡◌, ℕ, ◌^◌, ◌<◌, sym, ◌∙◌, subst, ap₂}
use lib.Bits.{bit_and}
use Rattle.fluents.specs.Sets.{Apart, Within, union, minus}
use Rattle.knowledge.proofs.Extending.{step_fits, after_apart, after_extends, earlier, earlier_within, earlier_apart, earlier_after, earlier_fits}
use Rattle.knowledge.proofs.states.kind.PartialStateKnowledge.apply.Goals as goal

pub invariant_of-result : goal.invariant_of-result
invariant_of-result c =
    let s = c.args.self in
    let add = c.add-add.result in
    let del = c.del-del.result in
    let effects : Apart add del = ap₂ bit_and c.add-add.ensures c.del-del.ensures ∙ c.args.action.apart in
    record {
      apart =
          ap₂ (λ m n. bit_and (union m add) (union n del)) c.minus.ensures c.minus-2.ensures
          ∙ after_apart s.trues s.falses add del s.apart effects;
      fit = subst (λ (m : ℕ). union m add < 2 ^ 64) (sym c.minus.ensures) (step_fits s.trues del add s.fit c.add-add.type_inv);
      fit_falses = subst (λ (m : ℕ). union m del < 2 ^ 64) (sym c.minus-2.ensures) (step_fits s.falses add del s.fit_falses c.del-del.type_inv);
    }

pub returns-clause-meaning : goal.returns-clause-meaning
returns-clause-meaning c =
    let s = c.args.self in
    let add = c.add-add.result in
    let del = c.del-del.result in
    let effects : Apart add del = ap₂ bit_and c.add-add.ensures c.del-del.ensures ∙ c.args.action.apart in
    let same : (v : ℕ) → union (minus v del) add ≡ union (minus v c.args.action.del) c.args.action.add =
    λ v. ap₂ (λ d a. union (minus v d) a) c.del-del.ensures c.add-add.ensures in
    λ w. (
      (λ h.
          let on : Within (union (minus s.trues del) add) w = subst (λ m. Within (union m add) w) c.minus.ensures h.1 in
          let off : Apart (union (minus s.falses add) del) w = subst (λ m. Apart (union m del) w) c.minus-2.ensures h.2 in
          let v = earlier s.trues s.falses add del s.apart effects w on off in (
            v,
            (
              earlier_fits s.trues s.falses add del s.apart effects w on off s.fit h.0,
              earlier_within s.trues s.falses add del s.apart effects w on off,
              earlier_apart s.trues s.falses add del s.apart effects w on off,
            ),
            earlier_after s.trues s.falses add del s.apart effects w on off ∙ same v,
          )),
      (λ h.
          let v = h.0 in
          let e : w ≡ union (minus v del) add = h.2 ∙ sym (same v) in
          let on = after_extends s.trues s.falses add del s.apart effects v h.1.1 h.1.2 in (
            subst (λ (n : ℕ). n < 2 ^ 64) (sym e) (step_fits v del add h.1.0 c.add-add.type_inv),
            subst (λ m. Within (union m add) w) (sym c.minus.ensures) (subst (Within (union (minus s.trues del) add)) (sym e) on.0),
            subst (λ m. Apart (union m del) w) (sym c.minus-2.ensures) (subst (Apart (union (minus s.falses add) del)) (sym e) on.1),
          )),
    )
