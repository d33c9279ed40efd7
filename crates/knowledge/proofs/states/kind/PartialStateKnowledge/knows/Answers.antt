use Rattle.std.proofs.Common.{◌≡◌, sym, ap, ◌∙◌}
use Rattle.fluents.specs.Sets.{bit}
use Rattle.knowledge.proofs.Extending.{knows_true, knows_false}
use Rattle.knowledge.proofs.states.kind.PartialStateKnowledge.knows.Goals as goal

pub returns-then-literal : goal.returns-then-literal
returns-then-literal c =
    let s = c.args.self.now in
    let i = c.args.literal.fluent.index in
    let v = c.if-literal.true in
    let at : c.has.result ≡ bit s.trues i = c.has.ensures ∙ ap (bit s.trues) c.index-index.ensures in
    let k = knows_true s.trues s.falses i s.apart s.fit in (
      (λ e w h. k.0 (sym at ∙ e) w h ∙ sym v),
      (λ h. at ∙ k.1 (λ w x. h w x ∙ v)),
    )

pub returns-else-literal : goal.returns-else-literal
returns-else-literal c =
    let s = c.args.self.now in
    let i = c.args.literal.fluent.index in
    let v = c.if-literal.false in
    let at : c.has-else-literal.result ≡ bit s.falses i = c.has-else-literal.ensures ∙ ap (bit s.falses) c.index-index.ensures in
    let k = knows_false s.trues s.falses i s.apart s.fit c.args.literal.fluent.within in (
      (λ e w h. k.0 (sym at ∙ e) w h ∙ sym v),
      (λ h. at ∙ k.1 (λ w x. h w x ∙ v)),
    )
