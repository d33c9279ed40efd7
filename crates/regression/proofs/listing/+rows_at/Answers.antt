use Rattle.std.proofs.Common.{◌≡◌, [], ◌∷◌, Ok, sym, ap, ◌∙◌, arith, rules}
use Rattle.std.proofs.lemmas.Result.{err_from_is_err_and}
use Rattle.knowledge.specs.declared.states.Row.{Row}
use Rattle.regression.proofs.Roots.{end_rows, gap_rows, act_err, act_rows, true_err, false_err, ask_rows, stands_more, stands_rest, stands_true, stands_false}
use Rattle.regression.proofs.listing.+rows_at.Goals as goal

pub overflow_add-result : goal.overflow_add-result
overflow_add-result t c = let more = stands_more c.args.loaded.now c.args.place c.requires in search rules

pub overflow_add-result-in-Gap : goal.overflow_add-result-in-Gap
overflow_add-result-in-Gap t c = let more = stands_more c.args.loaded.now c.args.place c.requires in search rules

pub overflow_add-place : goal.overflow_add-place
overflow_add-place t c =
    let w = c.requires in
    let rest = stands_rest c.args.loaded.now c.args.place w c.in-Doing.number c.in-Doing.action (c.in-Doing.ensures w.p w.is w.q w.node) in
    search rules

pub rows_at-requires : goal.rows_at-requires
rows_at-requires t c =
    let w = c.requires in
    let rest = stands_rest c.args.loaded.now c.args.place w c.in-Doing.number c.in-Doing.action (c.in-Doing.ensures w.p w.is w.q w.node) in
    (omega (arith, c.decreases), rest.stands)

pub returns-in_err-rest-in-Doing : goal.returns-in_err-rest-in-Doing
returns-in_err-rest-in-Doing t c = λ p is q node.
    let e = err_from_is_err_and c.from_residual.result c.from_residual.ensures.1 in
    rw (e.1, e.2) (act_err p c.args.place q node c.in-Doing.number c.in-Doing.action (c.in-Doing.ensures p is q node) _ (λ u at. c.in_err-rest-in-Doing.ensures p is u at))

pub returns-in_err-listed-in-Doing : goal.returns-in_err-listed-in-Doing
returns-in_err-listed-in-Doing t c = λ p is q node.
    let e = err_from_is_err_and c.from_residual-in_err-listed-in-Doing.result c.from_residual-in_err-listed-in-Doing.ensures.1 in
    rw (e.1, e.2)
    (act_rows p c.args.place q node c.in-Doing.number c.in-Doing.action (c.in-Doing.ensures p is q node) c.in_ok-rest-in-Doing.rest.listed c.in_ok-rest-in-Doing.rest.end _
    (λ u at. c.in_ok-rest-in-Doing.ensures p is u at)
    (sym c.in_err-listed-in-Doing.ensures)).0

pub returns-in_ok-listed-in-Doing : goal.returns-in_ok-listed-in-Doing
returns-in_ok-listed-in-Doing t c = λ p is q node.
    act_rows p c.args.place q node c.in-Doing.number c.in-Doing.action (c.in-Doing.ensures p is q node) c.in_ok-rest-in-Doing.rest.listed c.in_ok-rest-in-Doing.rest.end _
    (λ u at. c.in_ok-rest-in-Doing.ensures p is u at)
    (sym c.in_ok-listed-in-Doing.ensures)

pub overflow_add-place-in-Reading : goal.overflow_add-place-in-Reading
overflow_add-place-in-Reading t c =
    let w = c.requires in
    let first = stands_true c.args.loaded.now c.args.place w c.in-Reading.number c.in-Reading.action (c.in-Reading.ensures w.p w.is w.q w.node) in
    search rules

pub rows_at-requires-in-Reading : goal.rows_at-requires-in-Reading
rows_at-requires-in-Reading t c =
    let w = c.requires in
    let first = stands_true c.args.loaded.now c.args.place w c.in-Reading.number c.in-Reading.action (c.in-Reading.ensures w.p w.is w.q w.node) in
    (omega (arith, c.decreases), first.stands)

pub returns-in_err-on-in-Reading : goal.returns-in_err-on-in-Reading
returns-in_err-on-in-Reading t c = λ p is q node.
    let e = err_from_is_err_and c.from_residual-in_err-on-in-Reading.result c.from_residual-in_err-on-in-Reading.ensures.1 in
    rw (e.1, e.2) (true_err p c.args.place q node c.in-Reading.number c.in-Reading.action (c.in-Reading.ensures p is q node) _ (λ u at. c.in_err-on-in-Reading.ensures p is u at))

pub rows_at-requires-in-Reading-2 : goal.rows_at-requires-in-Reading-2
rows_at-requires-in-Reading-2 t c =
    let w = c.requires in
    let second = stands_false c.args.loaded.now c.args.place w c.in-Reading.number c.in-Reading.action (c.in-Reading.ensures w.p w.is w.q w.node)
    c.in_ok-on-in-Reading.on.end (λ u at. (c.in_ok-on-in-Reading.ensures w.p w.is u at).1) in
    (omega (arith, c.decreases), second.stands)

pub returns-in_err-off-in-Reading : goal.returns-in_err-off-in-Reading
returns-in_err-off-in-Reading t c = λ p is q node.
    let e = err_from_is_err_and c.from_residual-in_err-off-in-Reading.result c.from_residual-in_err-off-in-Reading.ensures.1 in
    rw (e.1, e.2)
    (false_err p c.args.place q node c.in-Reading.number c.in-Reading.action (c.in-Reading.ensures p is q node) c.in_ok-on-in-Reading.on.listed c.in_ok-on-in-Reading.on.end
    (λ u at. c.in_ok-on-in-Reading.ensures p is u at) _ (λ u at. c.in_err-off-in-Reading.ensures p is u at))

pub returns-in_err-listed-in-Reading : goal.returns-in_err-listed-in-Reading
returns-in_err-listed-in-Reading t c = λ p is q node.
    let e = err_from_is_err_and c.from_residual-in_err-listed-in-Reading.result c.from_residual-in_err-listed-in-Reading.ensures.1 in
    rw (e.1, e.2)
    (ask_rows p c.args.place q node c.in-Reading.number c.in-Reading.action (c.in-Reading.ensures p is q node) c.in_ok-on-in-Reading.on.listed c.in_ok-on-in-Reading.on.end
    (λ u at. c.in_ok-on-in-Reading.ensures p is u at)
    c.in_ok-off-in-Reading.off.listed c.in_ok-off-in-Reading.off.end _
    (λ u at. c.in_ok-off-in-Reading.ensures p is u at)
    (sym c.in_err-listed-in-Reading.ensures)).0

pub returns-in_ok-listed-in-Reading : goal.returns-in_ok-listed-in-Reading
returns-in_ok-listed-in-Reading t c = λ p is q node.
    ask_rows p c.args.place q node c.in-Reading.number c.in-Reading.action (c.in-Reading.ensures p is q node) c.in_ok-on-in-Reading.on.listed c.in_ok-on-in-Reading.on.end
    (λ u at. c.in_ok-on-in-Reading.ensures p is u at)
    c.in_ok-off-in-Reading.off.listed c.in_ok-off-in-Reading.off.end _
    (λ u at. c.in_ok-off-in-Reading.ensures p is u at)
    (sym c.in_ok-listed-in-Reading.ensures)

pub returns-in-End : goal.returns-in-End
returns-in-End t c = λ p is q node.
    let got = end_rows p c.args.place q (c.in-End.ensures p is q node) in
    let goal : p.goal ≡ c.into.result = sym ((λ i. record { trues = c.into.ensures.0 i; falses = c.into.ensures.1 i }) ∙ c.goal.ensures p is) in
    (got.0 ∙ ap (λ (r : Row). Ok (r ∷ [])) goal ∙ ap Ok (sym c.of.ensures), got.1)

pub returns-in-Gap : goal.returns-in-Gap
returns-in-Gap t c = λ p is q node.
    let got = gap_rows p c.args.place q (c.in-Gap.ensures p is q node) in
    (got.0 ∙ ap Ok (sym c.new.ensures), got.1)
