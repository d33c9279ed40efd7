-- What a step of a run comes to at a node of a loaded plan, and what settling a reading gives. Assumes nothing.
use Rattle.std.specs.Prelude.{◌≡◌, ℕ, ◌+◌, Bool, true, false, ◌⊎◌, List, Some, Result, MatchResult}
use Rattle.fluents.specs.Refusals.{fault_at}
use Rattle.fluents.specs.declared.faults.Fault.{Fault}
use Rattle.fluents.specs.declared.faults.Refusal.TheVariants.{Contradiction}
use Rattle.knowledge.specs.Meaning.{Same}
use Rattle.knowledge.specs.declared.states.Row.{Row}
use Rattle.plans.specs.Trees.{Plan, finish, act, ask, gap, past}
use Rattle.procedure.specs.Procedures.{Act, doing, reading}
use Rattle.meaning.specs.Sets.{Covers, Moved, Told, Possible, Either}
use Rattle.meaning.specs.Steps.{act_at}
use Rattle.meaning.specs.declared.answers.Cause.TheVariants.{UnmetConditions, GoalUnknown, Gap}
use Rattle.runs.specs.declared.pending.Branches.{Branches}
use Rattle.runs.specs.declared.pending.Branches.TheVariants.{One, Both}
use Rattle.runs.specs.declared.pending.Pending.{Pending}
use Rattle.runs.specs.declared.run.Run.{Run}
use Rattle.runs.specs.declared.run.Step.{Step}
use Rattle.runs.specs.declared.run.Step.TheVariants.{Did, Asks, Ended, Failed}

-- the place of the branch for the value, behind a reading node at i whose plan for true is t
abbrev pub branch : ℕ → Bool → Plan → ℕ
branch i true t = i + 2
branch i false t = past (i + 2) t

-- `worlds k` is the set of worlds that the knowledge k of a kind means.
module _ {A : Type 0} (worlds : A → ℕ → Type 0) where
  -- an action was done: the run stands at the node behind it, with the worlds after the action
  abbrev pub Done : ℕ → ℕ → ℕ → ℕ → A → Step A → Type 0
  Done i a add del k s = (r : Run A) × (s ≡ Did a r) × (r.place ≡ i + 2) × Same (worlds r.knowledge) (Moved add del (worlds k))

  -- a reading waits: of this node, action and fluent, with the knowledge as it was
  abbrev pub Waits : ℕ → ℕ → ℕ → A → Step A → Type 0
  Waits i a f k s = (x : Pending A) × (s ≡ Asks x) × (x.place ≡ i) × (x.number ≡ a) × (x.fluent.index ≡ f) × (x.knowledge ≡ k)

  -- The step from a node at the place i, the first of the plan, with the knowledge k.
  abbrev pub Stepped : Row → List Act → ℕ → A → Plan → Step A → Type 0
  Stepped goal acts i k finish s = Either (Covers goal (worlds k)) (s ≡ Ended) (s ≡ Failed i GoalUnknown)
  Stepped goal acts i k (act a p) s =
      (c : Row) × (add : ℕ) × (del : ℕ) × (act_at acts a ≡ Some (doing c add del)) × Either (Covers c (worlds k)) (Done i a add del k s) (s ≡ Failed i UnmetConditions)
  Stepped goal acts i k (ask a p q) s =
      (c : Row) × (f : ℕ) × (act_at acts a ≡ Some (reading c f)) × Either (Covers c (worlds k)) (Waits i a f k s) (s ≡ Failed i UnmetConditions)
  Stepped goal acts i k gap s = s ≡ Failed i Gap

  -- A settled reading: the run has the worlds with that value; or no world has it, and the value is refused at the node.
  abbrev pub Settled : Pending A → Bool → Result (Run A) Fault → Type 0
  Settled x v r =
      MatchResult r (λ run. Possible (Told x.fluent.index v (worlds x.knowledge)) × Same (worlds run.knowledge) (Told x.fluent.index v (worlds x.knowledge)))
      (λ e. (e ≡ fault_at Contradiction x.place) × (Possible (Told x.fluent.index v (worlds x.knowledge)) → ⊥))

  -- the run stands in the branch for the value, with the worlds that have it
  pub record InBranch (x : Pending A) (t : Plan) (v : Bool) (r : Run A) : Type 0 where
    pub there : r.place ≡ branch x.place v t
    pub knows : Same (worlds r.knowledge) (Told x.fluent.index v (worlds x.knowledge))

  -- no world has the value
  abbrev pub Closed : Pending A → Bool → Type 0
  Closed x v = Possible (Told x.fluent.index v (worlds x.knowledge)) → ⊥

  -- The branches that are open, behind a reading node whose plan for true is t: both, or the one whose other is closed.
  abbrev pub Branched : Pending A → Plan → Branches A → Type 0
  Branched x t (One r) = (InBranch x t true r × Closed x false) ⊎ (InBranch x t false r × Closed x true)
  Branched x t (Both r s) = InBranch x t true r × InBranch x t false s
