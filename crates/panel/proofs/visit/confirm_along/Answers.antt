use Rattle.std.proofs.Common.{refl, ap, ◌∙◌, arith, length}
use Rattle.panel.proofs.Onward.{stands_within}
use Rattle.runs.proofs.Along.{left_begun}
use Rattle.panel.proofs.Visits.{walked_did, walked_ended, walked_used_up, walked_refused, walked_settled}
use Rattle.panel.proofs.visit.confirm_along.Goals as goal

pub loop-next-init : goal.loop-next-init
loop-next-init c = record {
  stays = record { same = refl; permit = refl };
  few = omega arith;
  walked = λ p is there. left_begun p is _ there refl;
}

pub loop-next-smaller-in-Did : goal.loop-next-smaller-in-Did
loop-next-smaller-in-Did c =
    let on = c.in-Did.ensures in
    omega (arith, on.onward, ap (λ v. length v.file.now) on.kept.same, stands_within _ _ c.loop-next.armed.ready)

pub loop-next-preserved-in-Did : goal.loop-next-preserved-in-Did
loop-next-preserved-in-Did c =
    let i = c.loop-next.invariant in
    let on = c.in-Did.ensures in record {
      stays = record { same = on.kept.same ∙ i.stays.same; permit = on.kept.permit ∙ i.stays.permit };
      few = i.few;
      walked = λ p is there. walked_did _ _ _ _ c.loop-next.armed (ap (λ v. v.file.now) i.stays.same) (i.walked p is there) c.in-Did.number c.in-Did.next on.value;
    }

pub returns-in_default-clause-walk : goal.returns-in_default-clause-walk
returns-in_default-clause-walk c = λ p is there.
    let i = c.loop-next.invariant in
    walked_used_up _ _ _ _ c.loop-next.armed (ap (λ v. v.file.now) i.stays.same) (i.walked p is there) c.in-Reads.reading c.in-Reads.ensures.value
    c.in_default.ensures.cases c.place-place.result c.place-place.ensures p is

pub loop-next-smaller : goal.loop-next-smaller
loop-next-smaller c =
    let waits = c.in-Reads.ensures in
    let on = c.in-Ok.ensures in
    omega (
      arith,
      waits.onward,
      ap (λ v. length v.file.now) waits.kept.same,
      on.onward,
      ap (λ v. length v.file.now) on.value.0.same,
      stands_within _ _ c.loop-next.armed.ready,
    )

pub loop-next-preserved : goal.loop-next-preserved
loop-next-preserved c =
    let i = c.loop-next.invariant in
    let waits = c.in-Reads.ensures in
    let on = c.in-Ok.ensures in
    let same = ap (λ v. v.file.now) i.stays.same in record {
      stays = record { same = on.value.0.same ∙ waits.kept.same ∙ i.stays.same; permit = on.value.0.permit ∙ waits.kept.permit ∙ i.stays.permit };
      few = omega (arith, i.few, c.in-Some.ensures.cases.1);
      walked = λ p is there.
          walked_settled _ _ _ _ c.loop-next.armed same (i.walked p is there) c.in-Reads.reading waits.value c.in-Some.value.now c.in-Some.rest.now c.in-Some.ensures.cases.0
          c.in-Ok.next (ap (λ v. v.file.now) waits.kept.same ∙ same) on.value;
    }

pub returns-in-Err-clause-walk : goal.returns-in-Err-clause-walk
returns-in-Err-clause-walk c = λ p is there.
    let i = c.loop-next.invariant in
    walked_refused _ _ _ _ c.loop-next.armed (ap (λ v. v.file.now) i.stays.same) (i.walked p is there) c.in-Reads.reading c.in-Reads.ensures.value
    c.in-Some.value.now c.in-Some.rest.now c.in-Some.ensures.cases.0 c.in-Err.field-0 c.in-Err.ensures.value p is

pub returns-in-Ended-clause-walk : goal.returns-in-Ended-clause-walk
returns-in-Ended-clause-walk c = λ p is there.
    let i = c.loop-next.invariant in
    walked_ended _ _ _ _ c.loop-next.armed (ap (λ v. v.file.now) i.stays.same) (i.walked p is there) c.in-Ended.over c.in-Ended.ensures.value p is
