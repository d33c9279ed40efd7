-- What Confirm, settling and the ways to end a run give. Assumes nothing.
use Rattle.std.specs.Prelude.{◌≡◌, ℕ, ◌+◌, ◌<◌, Bool, List, Some, Result, MatchResult}
use Rattle.fluents.specs.Refusals.{fault_at}
use Rattle.fluents.specs.declared.faults.Refusal.TheVariants.{Contradiction}
use Rattle.knowledge.specs.Meaning.{Same}
use Rattle.knowledge.specs.declared.states.Row.{Row}
use Rattle.permit.specs.Words.{lowered}
use Rattle.plans.specs.Trees.{Plan, finish, act, ask, gap}
use Rattle.procedure.specs.Procedures.{Act, doing, reading}
use Rattle.procedure.specs.Asked.{IfLoads, IfAsks}
use Rattle.meaning.specs.Sets.{Covers, Moved, Told, Possible}
use Rattle.meaning.specs.Steps.{act_at}
use Rattle.runs.specs.Stepping.{branch}
use Rattle.panel.specs.Cases.{worlds_in}
use Rattle.panel.specs.declared.answers.Confirmed.{Confirmed}
use Rattle.panel.specs.declared.answers.Confirmed.TheVariants.{Did, Reads, Ended}
use Rattle.panel.specs.declared.answers.Denied.{Denied}
use Rattle.panel.specs.declared.answers.Over.{Over}
use Rattle.panel.specs.declared.armed.Armed.{Armed}
use Rattle.panel.specs.declared.permitted.Permitted.{Permitted}
use Rattle.panel.specs.declared.reading.Reading.{Reading}

-- The run has ended: the procedure is given back, and the word, with bit 0 at its earlier value.
pub record GivenBack (h : Permitted) (o : Over) : Type 0 where
  pub same : o.loaded.value ≡ h.loaded.value
  pub held : o.word.ghost_name ≡ h.permit.word.ghost_name
  pub word : o.word.now ≡ lowered h.permit.earlier h.permit.word.now

-- the later has the same procedure, under the same permit
pub record Stays (h later : Permitted) : Type 0 where
  pub same : later.loaded.value ≡ h.loaded.value
  pub permit : later.permit ≡ h.permit

-- an action was done: the run stands at the node behind it with the worlds after the action, under the same permit
pub record GoneOn (a : Armed) (add del : ℕ) (b : Armed) : Type 0 where
  pub stays : Stays a.permitted b.permitted
  pub place : b.run.place ≡ a.run.place + 2
  pub worlds : Same (worlds_in b.run.knowledge) (Moved add del (worlds_in a.run.knowledge))

-- a reading waits: of this node, action and fluent, with the knowledge as it was, under the same permit
pub record WaitsFor (a : Armed) (number f : ℕ) (x : Reading) : Type 0 where
  pub stays : Stays a.permitted x.permitted
  pub place : x.pending.place ≡ a.run.place
  pub action : x.pending.number ≡ number
  pub fluent : x.pending.fluent.index ≡ f
  pub knowledge : x.pending.knowledge ≡ a.run.knowledge

-- What Confirm gives at the first node of the plan: no armed run stands at a gap, or fails.
-- Where an action is done or read, its conditions are known; where the plan ends, the goal is.
abbrev pub ConfirmedAs : Row → List Act → Armed → Plan → Confirmed → Type 0
ConfirmedAs goal acts a finish r = Covers goal (worlds_in a.run.knowledge) × ((o : Over) × (r ≡ Ended o) × GivenBack a.permitted o)
ConfirmedAs goal acts a (act n q) r =
    (c : Row) × (add : ℕ) × (del : ℕ) × (act_at acts n ≡ Some (doing c add del)) × Covers c (worlds_in a.run.knowledge) × ((b : Armed) × (r ≡ Did n b) × GoneOn a add del b)
ConfirmedAs goal acts a (ask n t e) r =
    (c : Row) × (f : ℕ) × (act_at acts n ≡ Some (reading c f)) × Covers c (worlds_in a.run.knowledge) × ((x : Reading) × (r ≡ Reads x) × WaitsFor a n f x)
ConfirmedAs goal acts a gap r = ⊥

-- Whatever the node: procedure and permit stay with the run, or are given back.
abbrev pub Keeps : Permitted → Confirmed → Type 0
Keeps h (Did n b) = Stays h b.permitted
Keeps h (Reads x) = Stays h x.permitted
Keeps h (Ended o) = GivenBack h o

-- From the place of a node a run goes on to a later one, or waits there for its reading.
abbrev pub Onward : ℕ → Confirmed → Type 0
Onward i (Did n b) = i < b.run.place
Onward i (Reads x) = x.pending.place ≡ i
Onward i (Ended o) = Unit {0}

-- A settled reading: the run stands in the branch of the value with the worlds that have it, under the same permit; or no
-- world has the value, which is refused at the reading node, and the run has ended.
abbrev pub SettledAs : Reading → Bool → Result Armed Denied → Type 0
SettledAs x v r =
    MatchResult r
    (λ b. Stays x.permitted b.permitted
    × Same (worlds_in b.run.knowledge) (Told x.pending.fluent.index v (worlds_in x.pending.knowledge))
    × IfLoads x.permitted.loaded.value (λ p. IfAsks p x.pending.place (λ t. b.run.place ≡ branch x.pending.place v t)))
    (λ d. GivenBack x.permitted d.over × (d.fault ≡ fault_at Contradiction x.pending.place) × (Possible (Told x.pending.fluent.index v (worlds_in x.pending.knowledge)) → ⊥))
