use Rattle.std.proofs.Common.{◌≡◌, ℕ, arith}
use Rattle.panel.proofs.Keeping.{as_before}
use Rattle.panel.proofs.Visits.{visited_as, visited_covered}
use Rattle.panel.proofs.visit.visit.Goals as goal
use Rattle.panel.proofs.visit.visit.Goals.{in-Ok, in-Err}

pub returns-clause-value : goal.returns-clause-value
returns-clause-value c =
    elim c.match-arm.branch [
      | in-Ok w ↦ rw w.visited-is (visited_as _ _ _ _ w.in-Ok.ensures.value _ _ w.confirm_along-over.ensures.walk)
      | in-Err w ↦ rw w.visited-is w.in-Err.ensures.value.fails
    ]

pub returns-clause-word : goal.returns-clause-word
returns-clause-word c =
    elim c.match-arm.branch [
      | in-Ok w ↦ rw w.visited-is (let back = as_before _ _ c.args.word _ _ w.in-Ok.ensures.value w.confirm_along-over.ensures.back in (back.held, back.kept))
      | in-Err w ↦ rw w.visited-is (w.in-Err.ensures.value.back.held, w.in-Err.ensures.value.back.kept)
    ]

pub returns-clause-covered : goal.returns-clause-covered
returns-clause-covered c =
    elim c.match-arm.branch [
      | in-Ok w ↦ rw w.visited-is (visited_covered _ _ _ _ w.in-Ok.ensures.value _ _ w.confirm_along-over.ensures.walk)
      | in-Err w ↦ rw w.visited-is (λ p e rs rows cov. let z : ◌≡◌ {A = ℕ} 0 1 = cc (w.in-Err.ensures.covered p e rs rows cov) in omega arith)
    ]
