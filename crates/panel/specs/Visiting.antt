-- What a whole visit comes to: an armed run along readings is the walk. Assumes nothing.
use Rattle.std.specs.Prelude.{◌≡◌, Bool, List, Result, MatchResult}
use Rattle.procedure.specs.Procedures.{Procedure}
use Rattle.meaning.specs.Follows.{Follows}
use Rattle.meaning.specs.Laws.{NoFailure}
use Rattle.meaning.specs.Steps.{tree_of}
use Rattle.meaning.specs.Walks.{Walks, Agrees}
use Rattle.meaning.specs.declared.answers.Stop.TheVariants.{EndedWell}
use Rattle.meaning.specs.declared.answers.Verdict.TheVariants.{Holds}
use Rattle.runs.specs.declared.walk.Walked.{Walked}
use Rattle.panel.specs.Arming.{RejectedAs}
use Rattle.panel.specs.Cases.{worlds_in}
use Rattle.panel.specs.declared.answers.Rejection.{Rejection}
use Rattle.panel.specs.declared.known.Known.{Known}

-- Arm was refused since following fails there; or following holds, and the run was the walk from the start along the readings:
-- it ended well, by a refused value, or for want of a value.
abbrev pub VisitedAs : Procedure → Known → List Bool → Result Walked Rejection → Type 0
VisitedAs p start vs r =
    MatchResult r
    (λ w. Follows p.goal (tree_of p) (worlds_in start) Holds × Walks p.goal (tree_of p) (worlds_in start) vs w.used w.stop × NoFailure w.stop)
    (RejectedAs p start)

-- From a covered start Arm is not refused, the run does not fail, and where the readings agree with the start it ends well.
abbrev pub CoveredVisit : Procedure → Known → List Bool → Result Walked Rejection → Type 0
CoveredVisit p start vs r = MatchResult r (λ w. NoFailure w.stop × (Agrees p.goal (tree_of p) (worlds_in start) vs → w.stop ≡ EndedWell)) (λ _. ⊥)
