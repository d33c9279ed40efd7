use Rattle.std.proofs.Common.{◌≡◌, ℕ, List, Ok, Err, Result, sym, ap, ◌∙◌, subst}
use Rattle.fluents.specs.declared.faults.Fault.{Fault}
use Rattle.knowledge.specs.Meaning.{Same}
use Rattle.knowledge.specs.Worlds.{list_of}
use Rattle.knowledge.specs.declared.worlds.WorldList.{WorldList}
use Rattle.procedure.specs.Acts.{row_of}
use Rattle.procedure.specs.Procedures.{Procedure, partly, worlds, procedure_of}
use Rattle.procedure.specs.Starts.{Gives}
use Rattle.procedure.specs.declared.starts.Start.{Start}
use Rattle.procedure.specs.declared.starts.Start.TheVariants.{Partial, Worlds}
use Rattle.meaning.specs.Starts.{worlds_of}
use Rattle.meaning.specs.Steps.{tree_of}
use Rattle.meaning.proofs.Following.{follows_same}
use Rattle.verdicts.specs.Reports.{Found, Reported}
use Rattle.verdicts.specs.declared.findings.Findings.{Findings}
use Rattle.verdicts.proofs.report.Goals as goal

-- what is found from the same worlds is the same
found_same : (p : Procedure) (K L : ℕ → Type 0) (r : Result Findings Fault) → Same K L → Found p K r → Found p L r
found_same p K L (Ok f) same h = (follows_same p.goal (tree_of p) K L same f.verdict h.0, h.1)
found_same p K L (Err fault) same h = h

-- the worlds of a start that was given with a list
abbrev given : Start → WorldList → ℕ → Type 0
given (Partial state) list = worlds_of (partly (row_of state))
given Worlds list = worlds_of (worlds (list_of list))

-- they are those of what is known at the start
found_given : (start : Start) (before after : WorldList) (p : Procedure) (r : Result Findings Fault) → Gives start before after p.start → Found p (given start after) r
    → Found p (worlds_of p.start) r
found_given (Partial state) before after p r gives found = subst (λ k. Found p (worlds_of k) r) (sym gives.0) found
found_given Worlds before after p r gives found =
    subst (λ k. Found p (worlds_of k) r) (sym gives.1) (found_same p _ (worlds_of (worlds gives.0)) r (λ w. (gives.2.0 w, gives.2.1 w)) found)

-- what is found from the start that was given is what is to be said of the file
reported : (start seen : Start) (before after : WorldList) (file lent : List ℕ) (r : Result Findings Fault) → start ≡ seen → lent ≡ file
    → (p : Procedure) × (procedure_of file ≡ Ok p) × Gives start before after p.start → ((p : Procedure) → procedure_of lent ≡ Ok p → Found p (given seen after) r)
    → Reported (procedure_of file) r
reported start seen before after file lent r is same (p, loads, gives) found =
    let given_seen = subst (λ x. Gives x before after p.start) is gives in
    subst (λ x. Reported x r) (sym loads) (found_given seen before after p r given_seen (found p (ap procedure_of same ∙ loads)))

pub returns-in-Partial : goal.returns-in-Partial
returns-in-Partial c =
    let got = c.in_ok-opened.ensures in
    reported _ _ _ _ _ _ _ c.in-Partial.is (ap (λ f. f.now) got.0) got.1 c.checked.ensures

pub returns-in-Worlds : goal.returns-in-Worlds
returns-in-Worlds c =
    let got = c.in_ok-opened.ensures in
    reported _ _ _ _ _ _ _ c.in-Worlds.is (ap (λ f. f.now) got.0) got.1 c.checked-in-Worlds.ensures
