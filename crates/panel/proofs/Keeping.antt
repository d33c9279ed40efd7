-- What a run gives back is as it was before Arm. Assumes nothing.
use Rattle.std.specs.Borrow.{MutBor}
use Rattle.std.proofs.Common.{ℕ, ap, ◌∙◌}
use Rattle.permit.specs.Words.{lowered}
use Rattle.permit.proofs.Bits.{lowered_back}
use Rattle.procedure.specs.declared.loaded.Loaded.{Loaded}
use Rattle.panel.specs.Arming.{ArmedAs, AsBefore}
use Rattle.panel.specs.Confirming.{GivenBack, Stays}
use Rattle.panel.specs.declared.answers.Over.{Over}
use Rattle.panel.specs.declared.armed.Armed.{Armed}
use Rattle.panel.specs.declared.known.Known.{Known}
use Rattle.panel.specs.declared.permitted.Permitted.{Permitted}

pub back_then : (h k : Permitted) (o : Over) → Stays h k → GivenBack k o → GivenBack h o
back_then h k o stays back = record {
  same = back.same ∙ stays.same;
  held = back.held ∙ ap (λ p. p.word.ghost_name) stays.permit;
  word = back.word ∙ ap (λ p. lowered p.earlier p.word.now) stays.permit;
}

-- A permit that was raised and then lowered leaves the word as it was.
pub as_before : (l : Loaded) (start : Known) (w : MutBor ℕ) (a : Armed) (o : Over) → ArmedAs l start w a → GivenBack a.permitted o → AsBefore l w o
as_before l start w a o armed back = record {
  same = back.same ∙ armed.same;
  held = back.held ∙ armed.held;
  kept = back.word ∙ ap (λ (x : ℕ). lowered a.permitted.permit.earlier x) armed.set ∙ lowered_back w.now a.permitted.permit.earlier armed.earlier;
}
