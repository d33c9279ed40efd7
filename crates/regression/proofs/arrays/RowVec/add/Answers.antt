use Rattle.std.proofs.Common.{◌≡◌, [], ◌∷◌, ◌++◌, sym, ap, ◌∙◌, ap₂, append-nil, eq-eqb, ne_eqb}
use lib.Bits.{bit_and, bit_or}
use Rattle.knowledge.specs.declared.states.Row.{Row}
use Rattle.meaning.specs.Rows.{joined}
use Rattle.procedure.specs.Acts.{row_of}
use Rattle.regression.proofs.Lists.{guarded_sound, guarded_unsound}
use Rattle.regression.proofs.arrays.RowVec.add.Goals as goal

pub returns-then-trues-falses-eq0-clause-rows : goal.returns-then-trues-falses-eq0-clause-rows
returns-then-trues-falses-eq0-clause-rows g c =
    let r = c.args.row in
    let t : bit_or c.trues.result r.trues ≡ bit_or c.args.conditions.trues r.trues = ap (λ n. bit_or n r.trues) c.trues.ensures in
    let f : bit_or c.falses.result r.falses ≡ bit_or c.args.conditions.falses r.falses = ap (λ n. bit_or n r.falses) c.falses.ensures in
    let is : record { trues = bit_or c.trues.result r.trues; falses = bit_or c.falses.result r.falses } ≡ joined (row_of c.args.conditions) r =
    λ i. record { trues = t i; falses = f i } in
    c.push.ensures ∙ ap (λ (x : Row). c.args.self.now ++ x ∷ []) is
    ∙ ap (λ xs. c.args.self.now ++ xs) (sym (guarded_sound (row_of c.args.conditions) r (eq-eqb _ 0 (sym (ap₂ bit_and t f) ∙ c.if-trues-falses-eq0.true))))

pub returns-else-trues-falses-eq0-clause-rows : goal.returns-else-trues-falses-eq0-clause-rows
returns-else-trues-falses-eq0-clause-rows g c =
    let r = c.args.row in
    let t : bit_or c.trues.result r.trues ≡ bit_or c.args.conditions.trues r.trues = ap (λ n. bit_or n r.trues) c.trues.ensures in
    let f : bit_or c.falses.result r.falses ≡ bit_or c.args.conditions.falses r.falses = ap (λ n. bit_or n r.falses) c.falses.ensures in
    sym (append-nil c.args.self.now)
    ∙ ap (λ xs. c.args.self.now ++ xs) (sym (guarded_unsound (row_of c.args.conditions) r (ne_eqb _ 0 (λ e. c.if-trues-falses-eq0.false (ap₂ bit_and t f ∙ e)))))
