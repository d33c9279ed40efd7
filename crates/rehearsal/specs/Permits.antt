-- How the permit goes through a visit. Assumes nothing.
use Rattle.std.specs.Borrow.{MutBor}
use Rattle.std.specs.Prelude.{◌≡◌, ℕ, ◌<◌, Result, Ok, Err}
use Rattle.panel.specs.Confirming.{GivenBack, Stays}
use Rattle.panel.specs.declared.answers.Over.{Over}
use Rattle.panel.specs.declared.armed.Armed.{Armed}
use Rattle.panel.specs.declared.reading.Reading.{Reading}

-- the later reference is to the same word, which has the same value
pub record SameWord (word later : MutBor ℕ) : Type 0 where
  pub held : later.ghost_name ≡ word.ghost_name
  pub value : later.now ≡ word.now

-- after a reading: the run goes on behind it under the same permit, or has ended
abbrev pub TurnedAs : Reading → Result Armed Over → Type 0
TurnedAs x (Ok a) = Stays x.permitted a.permitted × (x.pending.place < a.run.place)
TurnedAs x (Err o) = GivenBack x.permitted o
