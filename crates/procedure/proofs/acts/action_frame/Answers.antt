use Rattle.std.proofs.Common.{◌≡◌, ℕ, ◌+◌, sym, ◌∙◌, subst, arith}
use Rattle.frames.specs.Frames.{frame_at, after_at}
use Rattle.frames.specs.declared.frame.Due.TheVariants.{Body}
use Rattle.frames.proofs.Reading.{some_none, end_at}
use Rattle.procedure.proofs.Options.{was_err, was_ok, kept_ok}
use Rattle.procedure.proofs.Walking.{Reached, reached_first, reached_next, reached_frame, reached_more}
use Rattle.procedure.proofs.acts.action_frame.Goals as goal

pub loop-k-init : goal.loop-k-init
loop-k-init c = λ whole e h. reached_first c.args.file.now whole e

pub returns-in_err-ok-clause-value : goal.returns-in_err-ok-clause-value
returns-in_err-ok-clause-value c = λ whole e h.
    let l = c.loop-k in
    let bad = was_err _ _ c.read.result c.read.ensures (sym c.ok.ensures.value ∙ c.in_err-ok.was) in
    some_none (sym bad.1.0 ∙ (reached_next c.args.file.now whole l.k l.place (l.invariant whole e h) (omega (arith, h, c.loop-k-test.true))).sound)

pub loop-k-preserved : goal.loop-k-preserved
loop-k-preserved c = λ whole e h.
    let s = c.args.file.now in
    let l = c.loop-k in
    let frame = c.in_ok-ok.field-0 in
    let read = was_ok _ _ c.read.result frame c.read.ensures (sym c.ok.ensures.value ∙ c.in_ok-ok.was) in
    let ended : c.end-place.result ≡ after_at s l.place = end_at s l.place (Body l.k) frame read.0 read.1 (omega arith) c.end-place.ensures in
    subst (λ (q : ℕ). Reached s whole (l.k + 1) q) (sym ended) (reached_more s whole l.k l.place (l.invariant whole e h) (omega (arith, h, c.loop-k-test.true)))

pub returns-clause-value : goal.returns-clause-value
returns-clause-value c = λ whole e h.
    let s = c.args.file.now in
    let l = c.loop-k in
    let number = c.args.number in
    let last : l.k ≡ number = omega (arith, c.loop-k-test.false, l.auto.k-end) in
    let r = subst (λ (k : ℕ). Reached s whole k l.place) last (l.invariant whole e h) in
    let next = reached_next s whole number l.place r h in
    kept_ok _ _ _ _ c.read-2.result c.ok-2.result c.read-2.ensures c.ok-2.ensures.value
    (λ fault bad. some_none (sym bad.0 ∙ next.sound))
    (λ frame read. (frame_at s l.place, reached_frame s whole number l.place r h, read.1, next.action))
