use Rattle.std.proofs.Common.{◌≡◌, ℕ, false, cond, sym, ap, ◌∙◌, subst}
use lib.Bits.{or_lt, and_comm, bit_and}
use Rattle.fluents.specs.Sets.{Apart, Within, bit, only, union}
use Rattle.fluents.proofs.Bits.{within_members, apart_members}
use Rattle.knowledge.proofs.Extending.{not_apart_has, apart_has_not, union_within, within_union, union_apart, apart_union, true_not_false}
use Rattle.knowledge.proofs.states.kind.PartialStateKnowledge.learn.Goals as goal

pub returns-then-self-alone-ne0 : goal.returns-then-self-alone-ne0
returns-then-self-alone-ne0 c =
    let s = c.args.self in
    let i = c.args.literal.fluent.index in
    let has = not_apart_has s.falses i (λ h. c.if-self-alone-ne0.true (ap (bit_and s.falses) c.alone-alone.ensures ∙ h)) in
    record { fields = tt; meaning = (c.into.ensures, λ w x holds. true_not_false (sym (holds ∙ c.if-literal.true) ∙ apart_members s.falses w x.2 i has)) }

pub invariant_of-result : goal.invariant_of-result
invariant_of-result c =
    let s = c.args.self in
    let i = c.args.literal.fluent.index in
    let out : bit s.falses i ≡ false = apart_has_not s.falses i (ap (bit_and s.falses) (sym c.alone-alone.ensures) ∙ c.if-self-alone-ne0.false) in
    record {
      apart = subst (λ (a : ℕ). Apart (union s.trues a) s.falses) (sym c.alone-alone.ensures) (apart_union s.trues i s.falses s.apart out);
      fit = or_lt 64 s.trues c.alone-alone.result s.fit c.alone-alone.type_inv;
      fit_falses = s.fit_falses;
    }

pub returns-else-self-alone-ne0 : goal.returns-else-self-alone-ne0
returns-else-self-alone-ne0 c =
    let s = c.args.self in
    let i = c.args.literal.fluent.index in
    let e = c.alone-alone.ensures in
    let v = c.if-literal.true in
    record {
      fields = (
        ap (union s.trues) e ∙ sym (ap (λ b. cond b (union s.trues (only i)) s.trues) v),
        sym (ap (λ b. cond b s.falses (union s.falses (only i))) v),
      );
      meaning = λ w. (
        (λ h.
            let on = union_within s.trues i w (subst (λ (a : ℕ). Within (union s.trues a) w) e h.1) in
            ((h.0, on.0, h.2), on.1 ∙ sym c.if-literal.true)),
        (λ h. (h.0.0, subst (λ (a : ℕ). Within (union s.trues a) w) (sym e) (within_union s.trues i w h.0.1 (h.1 ∙ c.if-literal.true)), h.0.2)),
      );
    }

pub returns-then-self-alone-ne0-2 : goal.returns-then-self-alone-ne0-2
returns-then-self-alone-ne0-2 c =
    let s = c.args.self in
    let i = c.args.literal.fluent.index in
    let has = not_apart_has s.trues i (λ h. c.if-self-alone-ne0-2.true (ap (bit_and s.trues) c.alone-alone.ensures ∙ h)) in
    record { fields = tt; meaning = (c.into-then-self-alone-ne0-2.ensures, λ w x holds. true_not_false (sym (within_members s.trues w x.1 i has) ∙ holds ∙ c.if-literal.false)) }

pub invariant_of-result-else-literal : goal.invariant_of-result-else-literal
invariant_of-result-else-literal c =
    let s = c.args.self in
    let i = c.args.literal.fluent.index in
    let out : bit s.trues i ≡ false = apart_has_not s.trues i (ap (bit_and s.trues) (sym c.alone-alone.ensures) ∙ c.if-self-alone-ne0-2.false) in
    let apart : Apart (union s.falses (only i)) s.trues = apart_union s.falses i s.trues (and_comm s.falses s.trues ∙ s.apart) out in
    record {
      apart = subst (λ (a : ℕ). Apart s.trues (union s.falses a)) (sym c.alone-alone.ensures) (and_comm s.trues (union s.falses (only i)) ∙ apart);
      fit = s.fit;
      fit_falses = or_lt 64 s.falses c.alone-alone.result s.fit_falses c.alone-alone.type_inv;
    }

pub returns-else-self-alone-ne0-2 : goal.returns-else-self-alone-ne0-2
returns-else-self-alone-ne0-2 c =
    let s = c.args.self in
    let i = c.args.literal.fluent.index in
    let e = c.alone-alone.ensures in
    let v = c.if-literal.false in
    record {
      fields = (
        sym (ap (λ b. cond b (union s.trues (only i)) s.trues) v),
        ap (union s.falses) e ∙ sym (ap (λ b. cond b s.falses (union s.falses (only i))) v),
      );
      meaning = λ w. (
        (λ h.
            let on = union_apart s.falses i w (subst (λ (a : ℕ). Apart (union s.falses a) w) e h.2) in
            ((h.0, h.1, on.0), on.1 ∙ sym c.if-literal.false)),
        (λ h. (h.0.0, h.0.1, subst (λ (a : ℕ). Apart (union s.falses a) w) (sym e) (apart_union s.falses i w h.0.2 (h.1 ∙ c.if-literal.false)))),
      );
    }
