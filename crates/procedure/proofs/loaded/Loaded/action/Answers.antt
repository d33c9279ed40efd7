use Rattle.std.proofs.Common.{◌≡◌, ℕ, ◌<◌, ◌≤◌, length, Ok, sym, ap, ◌∙◌, subst, arith}
use Rattle.procedure.specs.Procedures.{act_of, procedure_of}
use Rattle.procedure.proofs.Holding.{kept, parts, few_fluents, asked}
use Rattle.procedure.proofs.Joining.{acts_length, acts_at}
use Rattle.procedure.proofs.Walking.{ok_same}
use Rattle.procedure.proofs.loaded.Loaded.action.Goals as goal

pub returns-in_err-frame : goal.returns-in_err-frame
returns-in_err-frame c = λ p e.
    let l = c.args.self.now in
    let k = kept (procedure_of l.file.now) l.n l.goal.trues l.goal.falses l.actions l.plan l.len l.held in
    let t = parts l.file.now k.p k.is in
    let long = acts_length k.p.n t.whole.rest.actions k.p.actions t.acts in
    let there : c.args.number < length t.whole.rest.actions = omega (arith, long, k.actions_are, c.if-number-self.false) in
    absurd (c.in_err-frame.ensures.value t.whole t.frames there)

pub action_of-requires : goal.action_of-requires
action_of-requires c =
    let l = c.args.self.now in
    let k = kept (procedure_of l.file.now) l.n l.goal.trues l.goal.falses l.actions l.plan l.len l.held in
    (c.in_ok-frame.ensures.fits, subst (λ (n : ℕ). n ≤ 64) k.n_is (few_fluents l.file.now k.p k.is))

pub returns : goal.returns
returns c = λ p e.
    let l = c.args.self.now in
    let k = kept (procedure_of l.file.now) l.n l.goal.trues l.goal.falses l.actions l.plan l.len l.held in
    let same : k.p ≡ p = ok_same (sym k.is ∙ e) in
    let n : p.n ≡ l.n = ap (λ x. x.n) (sym same) ∙ k.n_is in
    let t = parts l.file.now p e in
    let long = acts_length p.n t.whole.rest.actions p.actions t.acts in
    let within : c.args.number < length p.actions = omega (arith, ap (λ x. length x.actions) same, k.actions_are, c.if-number-self.false) in
    let there : c.args.number < length t.whole.rest.actions = omega (arith, long, within) in
    let frame = c.in_ok-frame.ensures.value t.whole t.frames there in
    let act = acts_at p.n t.whole.rest.actions p.actions c.args.number frame.0 t.acts there frame.1 in
    asked c.action_of.result l.n frame.0 p.actions c.args.number act.0 within
    (subst (λ (m : ℕ). act_of m frame.0 ≡ Ok act.0) n act.1) act.2 (c.action_of.ensures.value frame.0 frame.2 frame.3)
