use Rattle.std.proofs.Common.{◌≡◌, true, false, ◌⊎◌, inl, inr, sym, ◌∙◌}
use Rattle.fluents.specs.Sets.{bit}
use Rattle.procedure.specs.Acts.{row_of}
use Rattle.runs.proofs.Knowing.{literal_made}
use Rattle.runs.proofs.conditions.literal_of.Goals as goal
use Rattle.runs.proofs.conditions.literal_of.Goals.{then-value, else-value}

pub returns-then-has : goal.returns-then-has
returns-then-has c =
    let r = row_of c.args.state in
    let i = c.args.index in
    let value : c.has-value.result ≡ bit r.trues i = cc in
    let there : (bit r.trues i ≡ true) ⊎ ((bit r.trues i ≡ false) × (bit r.falses i ≡ true)) =
    elim c.if-value.branch [ then-value w ↦ inl (sym value ∙ w.if-value.true) | else-value w ↦ inr (sym value ∙ w.if-value.false, (let f = w.falses.ensures in let h = w.has.ensures in let v = w.value-is in cc)) ] in
    rw (c.ok.ensures.value) (literal_made r i c.args.state.fit c.args.state.fit_falses there c.new.result _ (rw value at c.new.ensures))
