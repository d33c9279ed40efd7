-- The byte that stands for each kind of node. Assumes nothing.
use Rattle.std.specs.Prelude.{◌≡◌, ℕ, ◌<◌, Result, MatchResult}
use Rattle.fluents.specs.declared.faults.Refusal.{Refusal}
use Rattle.fluents.specs.declared.faults.Refusal.TheVariants.{BadPlan}
use Rattle.plans.specs.declared.Kind.{Kind}
use Rattle.plans.specs.declared.Kind.TheVariants.{End, Doing, Reading, Gap}

-- the first byte of a node of this kind
abbrev pub code_of : Kind → ℕ
code_of End = 0
code_of Doing = 1
code_of Reading = 2
code_of Gap = 3

-- the answer is the kind with this byte; a byte that no kind has is refused as a bad plan
abbrev pub Decodes : ℕ → Result Kind Refusal → Type 0
Decodes byte r = MatchResult r (λ kind. code_of kind ≡ byte) (λ why. (why ≡ BadPlan) × (3 < byte))
