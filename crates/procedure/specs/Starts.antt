-- The start that the code gives, as the definitions see it. Assumes nothing.
use Rattle.std.specs.Prelude.{◌≡◌, ℕ, List, Ok}
use Rattle.knowledge.specs.Worlds.{list_of, SameWorlds}
use Rattle.knowledge.specs.declared.worlds.WorldList.{WorldList}
use Rattle.procedure.specs.Acts.{row_of}
use Rattle.procedure.specs.Procedures.{Known, Procedure, partly, worlds, procedure_of}
use Rattle.procedure.specs.declared.starts.Start.{Start}
use Rattle.procedure.specs.declared.starts.Start.TheVariants.{Partial, Worlds}

-- the start that was given, and the lent list before and after, are what is known: a partial state leaves
-- the list as it was, and worlds are put into it
abbrev pub Gives : Start → WorldList → WorldList → Known → Type 0
Gives (Partial state) before after known = (known ≡ partly (row_of state)) × (after ≡ before)
Gives Worlds before after known = (ws : List ℕ) × (known ≡ worlds ws) × SameWorlds (list_of after) ws

-- the bytes have a procedure, and the start that was given is what is known at its start
abbrev pub OpensAs : List ℕ → Start → WorldList → WorldList → Type 0
OpensAs s start before after = (p : Procedure) × (procedure_of s ≡ Ok p) × Gives start before after p.start
