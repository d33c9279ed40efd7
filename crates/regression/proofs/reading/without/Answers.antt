use Rattle.std.proofs.Common.{◌≡◌, ℕ, Bool, true, false, ap, ◌∙◌}
use Rattle.std.specs.Prelude.{bit_xor}
use Rattle.std.specs.Int.Bits.{and_zero_r, or_zero_l, xor_zero_r}
use Rattle.fluents.specs.Sets.{minus, only}
use Rattle.knowledge.specs.declared.states.Row.{Row}
use Rattle.meaning.specs.Rows.{plus, less}
use Rattle.regression.proofs.reading.without.Goals as goal

minus_none : (a : ℕ) → minus a 0 ≡ a
minus_none a = ap (bit_xor a) (and_zero_r a) ∙ xor_zero_r a

-- what the row of one literal takes away is that literal
less_alone : (f : ℕ) (v : Bool) (r : Row)
    → record { trues = minus r.trues (plus f v (record { trues = 0; falses = 0 })).trues; falses = minus r.falses (plus f v (record { trues = 0; falses = 0 })).falses }
    ≡ less f v r
less_alone f true r = λ i. record { trues = ap (minus r.trues) (or_zero_l (only f)) i; falses = minus_none r.falses i }
less_alone f false r = λ i. record { trues = minus_none r.trues i; falses = ap (minus r.falses) (or_zero_l (only f)) i }

pub returns : goal.returns
returns c =
    let row = c.args.row in
    (λ i. record { trues = (c.minus.ensures ∙ ap (λ (l : Row). minus row.trues l.trues) c.alone-trues.ensures) i; falses = (c.minus-2.ensures ∙ ap (λ (l : Row). minus row.falses l.falses) c.alone-trues.ensures) i })
    ∙ less_alone c.args.literal.fluent.index c.args.literal.value row
