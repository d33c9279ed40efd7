use Rattle.std.proofs.Common.{ℕ, ◌+◌, length, Ok, Err, sym, refl, ap, ◌∙◌}
use Rattle.std.proofs.lemmas.Result.{err_from_is_err_and}
use Rattle.plans.proofs.Parses.{plan_spells}
use Rattle.procedure.specs.Procedures.{does_at, reads_at}
use Rattle.procedure.proofs.Joining.{laid, after_frames, after_header, after_acts, after_plan, acts_length}
use Rattle.procedure.proofs.contents.contents_of.Goals as goal

pub returns-in_err-header : goal.returns-in_err-header
returns-in_err-header c =
    let p = err_from_is_err_and c.from_residual.result c.from_residual.ensures.1 in
    let sel = c.args.selected.now in
    let l = laid sel.file.now sel.actions sel.plan sel.start sel.laid in
    let e = c.in_err-header.field-0.0 in
    rw (p.1, p.2) (after_frames sel.file.now l.whole l.frames (Err e) (c.in_err-header.ensures.value l.whole l.frames), refl)

pub returns-in_err-sorts : goal.returns-in_err-sorts
returns-in_err-sorts c =
    let p = err_from_is_err_and c.from_residual-in_err-sorts.result c.from_residual-in_err-sorts.ensures.1 in
    let sel = c.args.selected.now in
    let l = laid sel.file.now sel.actions sel.plan sel.start sel.laid in
    let header = (c.in_ok-header.ensures.value l.whole l.frames).0 in
    let e = c.in_err-sorts.field-0.0 in
    rw (p.1, p.2) (after_header sel.file.now l.whole l.frames c.in_ok-header.header.n (Err e) header (c.in_err-sorts.ensures l.whole l.frames), refl)

pub returns-in_err-len : goal.returns-in_err-len
returns-in_err-len c =
    let p = err_from_is_err_and c.from_residual-in_err-len.result c.from_residual-in_err-len.ensures.1 in
    let sel = c.args.selected.now in
    let l = laid sel.file.now sel.actions sel.plan sel.start sel.laid in
    let header = (c.in_ok-header.ensures.value l.whole l.frames).0 in
    let acts = c.in_ok-sorts.ensures l.whole l.frames in
    let e = c.in_err-len.field-0.0 in
    rw (p.1, p.2) (
      after_acts sel.file.now l.whole l.frames c.in_ok-header.header.n acts.0 (Err e) header acts.1
          (c.in_err-len.ensures l.whole l.frames acts.0 acts.2),
      refl,
    )

pub returns-in_err-start : goal.returns-in_err-start
returns-in_err-start c =
    let p = err_from_is_err_and c.from_residual-in_err-start.result c.from_residual-in_err-start.ensures.1 in
    let sel = c.args.selected.now in
    let l = laid sel.file.now sel.actions sel.plan sel.start sel.laid in
    let header = (c.in_ok-header.ensures.value l.whole l.frames).0 in
    let acts = c.in_ok-sorts.ensures l.whole l.frames in
    let plan = (c.in_ok-len.ensures l.whole l.frames acts.0 acts.2).1 in
    let e = c.in_err-start.field-0.0 in
    rw (p.1, p.2) (
      after_plan sel.file.now l.whole l.frames c.in_ok-header.header.n acts.0 plan.0 (Err e) header acts.1 plan.1
          (c.in_err-start.ensures.value l.whole l.frames),
      c.in_err-start.ensures.stays,
    )

pub returns : goal.returns
returns c =
    let sel = c.args.selected.now in
    let l = laid sel.file.now sel.actions sel.plan sel.start sel.laid in
    let header = c.in_ok-header.ensures.value l.whole l.frames in
    let acts = c.in_ok-sorts.ensures l.whole l.frames in
    let checked = c.in_ok-len.ensures l.whole l.frames acts.0 acts.2 in
    let plan = checked.1 in
    let known = c.in_ok-start.ensures.value l.whole l.frames in (
      _,
      after_plan sel.file.now l.whole l.frames c.in_ok-header.header.n acts.0 plan.0 (Ok known.0) header.0 acts.1 plan.1 known.1,
      record {
        n = refl;
        goal = header.1;
        actions_are = sym l.lie.count ∙ sym (acts_length c.in_ok-header.header.n l.whole.rest.actions acts.0 acts.1);
        place = ap (λ (n : ℕ). n + 4) (sym l.lie.plan_at);
        long = checked.0 ∙ ap length (plan_spells (does_at acts.0) (reads_at acts.0) l.whole.rest.plan.payload plan.0 plan.1).1;
      },
      known.2,
    )
