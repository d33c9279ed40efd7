use Rattle.std.proofs.Common.{length, sym, ap, ◌∙◌, arith}
use Rattle.meaning.proofs.Beginnings.{kind_read, no_kind_read}
use Rattle.meaning.proofs.Passing.{ahead_first, ahead_some, ahead_known, leaf_passed, doing_passed, reading_passed, not_longer}
use Rattle.meaning.proofs.nodes.length_of_first.Goals as goal

pub loop-due-init : goal.loop-due-init
loop-due-init c = record {
  few = omega (arith, c.iter-rest.ensures.len);
  within = omega (arith, c.iter-rest.ensures.len);
  ahead = λ q rest e. ahead_first _ q rest (c.iter-rest.ensures.rest ∙ e);
}

pub returns-in_err-next : goal.returns-in_err-next
returns-in_err-next c = λ q rest e. absurd (ahead_some _ _ rest c.loop-due-test.true c.in_err-next.ensures.steps.0 (c.loop-due.invariant.ahead q rest e))

pub returns-in_err-ok : goal.returns-in_err-ok
returns-in_err-ok c = λ q rest e. absurd (ahead_known _ _ rest _ _ c.loop-due-test.true c.in_ok-next.ensures.steps (no_kind_read _ _ c.try_from.ensures (sym c.in_err-ok.was ∙ c.ok.ensures.value)) (c.loop-due.invariant.ahead q rest e))

pub loop-due-preserved-in-End : goal.loop-due-preserved-in-End
loop-due-preserved-in-End c =
    let first = c.in_ok-next.ensures.steps in
    let long = ap length first in
    let code = kind_read _ _ _ c.try_from.ensures (sym c.in_ok-ok.was ∙ c.ok.ensures.value) in
    record {
      few = omega arith;
      within = omega arith;
      ahead = λ q rest e. leaf_passed _ _ rest _ _ c.next.new.self first code c.loop-due-test.true c.in-End.is (c.loop-due.invariant.ahead q rest e);
    }

pub loop-due-preserved-in-Doing : goal.loop-due-preserved-in-Doing
loop-due-preserved-in-Doing c =
    let first = c.in_ok-next.ensures.steps in
    let long = ap length first in
    let code = kind_read _ _ _ c.try_from.ensures (sym c.in_ok-ok.was ∙ c.ok.ensures.value) in
    let after = c.next-in-Doing.ensures.steps in
    let more = not_longer c.next.new.self c.next-in-Doing.new.self _ after in
    record {
      few = omega arith;
      within = omega arith;
      ahead = λ q rest e. doing_passed _ _ rest _ _ c.next.new.self first code c.loop-due-test.true c.next-in-Doing.new.self _ after c.in-Doing.is (c.loop-due.invariant.ahead q rest e);
    }

pub loop-due-preserved : goal.loop-due-preserved
loop-due-preserved c =
    let first = c.in_ok-next.ensures.steps in
    let long = ap length first in
    let code = kind_read _ _ _ c.try_from.ensures (sym c.in_ok-ok.was ∙ c.ok.ensures.value) in
    let after = c.next-in-Reading.ensures.steps in
    let more = not_longer c.next.new.self c.next-in-Reading.new.self _ after in
    record {
      few = omega arith;
      within = omega arith;
      ahead = λ q rest e. reading_passed _ _ rest _ _ c.next.new.self first code c.loop-due-test.true c.next-in-Reading.new.self _ after c.in-Reading.is (c.loop-due.invariant.ahead q rest e);
    }
