-- What the code reads at a node of a loaded plan. Assumes nothing.
use Rattle.std.specs.Prelude.{◌≡◌, ℕ, List, Some}
use Rattle.knowledge.specs.declared.actions.Action.TheVariants.{Doing as DoingAct, Reading as ReadingAct}
use Rattle.knowledge.specs.declared.actions.DoingAction.{DoingAction}
use Rattle.knowledge.specs.declared.actions.ReadingAction.{ReadingAction}
use Rattle.plans.specs.Trees.{Plan, finish, act, ask, gap}
use Rattle.procedure.specs.Acts.{act_seen}
use Rattle.procedure.specs.Procedures.{Act}
use Rattle.meaning.specs.Steps.{act_at}
use Rattle.meaning.specs.declared.nodes.Node.{Node}
use Rattle.meaning.specs.declared.nodes.Node.TheVariants.{End, Doing, Reading, Gap}

-- a node that does the action a, which is there
abbrev pub ShownDoing : List Act → ℕ → Node → Type 0
ShownDoing acts a r = (x : DoingAction) × (r ≡ Doing a x) × (act_at acts a ≡ Some (act_seen (DoingAct x)))

-- a node that reads by the action a, which is there
abbrev pub ShownReading : List Act → ℕ → Node → Type 0
ShownReading acts a r = (x : ReadingAction) × (r ≡ Reading a x) × (act_at acts a ≡ Some (act_seen (ReadingAct x)))

-- the first node of the plan
abbrev pub Shown : List Act → Plan → Node → Type 0
Shown acts finish r = r ≡ End
Shown acts (act a p) r = ShownDoing acts a r
Shown acts (ask a p q) r = ShownReading acts a r
Shown acts gap r = r ≡ Gap
