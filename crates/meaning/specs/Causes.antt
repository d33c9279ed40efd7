-- The number of each cause of a failure. Assumes nothing.
use Rattle.std.specs.Prelude.{ℕ}
use Rattle.meaning.specs.declared.answers.Cause.{Cause}
use Rattle.meaning.specs.declared.answers.Cause.TheVariants.{UnmetConditions, GoalUnknown, Gap}

abbrev pub cause_number : Cause → ℕ
cause_number UnmetConditions = 1
cause_number GoalUnknown = 2
cause_number Gap = 3
