-- Following a plan, computed, from a partial state or from a finite list of worlds. Assumes nothing.
use Rattle.std.specs.Prelude.{ℕ, Bool, true, false, cond, ◌&&◌, ◌||◌, List, [], ◌∷◌, map, filter, ◌==◌, bit_and}
use Rattle.std.specs.Bool.{beq}
use Rattle.fluents.specs.Sets.{bit, union, minus}
use Rattle.knowledge.specs.Orders.{row_below}
use Rattle.knowledge.specs.declared.states.Row.{Row}
use Rattle.procedure.specs.Fields.{is_apart}
use Rattle.procedure.specs.Procedures.{Known, partly, worlds}
use Rattle.meaning.specs.Rows.{plus, allows}
use Rattle.meaning.specs.Steps.{Steps, ends, does, reads, gaps}
use Rattle.meaning.specs.declared.answers.Cause.TheVariants.{UnmetConditions, GoalUnknown, Gap}
use Rattle.meaning.specs.declared.answers.Verdict.{Verdict}
use Rattle.meaning.specs.declared.answers.Verdict.TheVariants.{Holds, Fails}

-- ---- one world

-- the world has every literal of the row
abbrev pub meets : Row → ℕ → Bool
meets r w = bit_and r.trues w == r.trues && is_apart r.falses w

-- the fluent f has the value b in the world
abbrev pub shows : ℕ → Bool → ℕ → Bool
shows f b w = beq (bit w f) b

abbrev pub every : (ℕ → Bool) → List ℕ → Bool
every test [] = true
every test (w ∷ ws) = test w && every test ws

abbrev pub some : (ℕ → Bool) → List ℕ → Bool
some test [] = false
some test (w ∷ ws) = test w || some test ws

-- ---- what is known

-- the row covers it: every literal of the row is one of the state; every world of the list has them all
abbrev pub covers_at : Row → Known → Bool
covers_at r (partly s) = row_below r s
covers_at r (worlds ws) = every (meets r) ws

-- after a doing action: what is true loses Del and gains Add, what is false loses Add and gains Del; each world moves
abbrev pub moved_at : ℕ → ℕ → Known → Known
moved_at add del (partly s) = partly (record { trues = union (minus s.trues del) add; falses = union (minus s.falses add) del })
moved_at add del (worlds ws) = worlds (map (λ w. union (minus w del) add) ws)

-- after the fluent f was read with the value b: one literal more; the worlds that have that value
abbrev pub told_at : ℕ → Bool → Known → Known
told_at f b (partly s) = partly (plus f b s)
told_at f b (worlds ws) = worlds (filter (shows f b) ws)

-- the value b may come: the state does not have the other one; some world has it
abbrev pub possible_at : ℕ → Bool → Known → Bool
possible_at f b (partly s) = allows f b s
possible_at f b (worlds ws) = some (shows f b) ws

-- ---- following

-- the verdict u, or v where u holds
abbrev pub and_then : Verdict → Verdict → Verdict
and_then Holds v = v
and_then (Fails place cause) v = Fails place cause

module _ (goal : Row) where
  -- the verdict of following the tree from what is known
  unfoldable pub judge : Steps → Known → Verdict
  judge (ends at) k = cond (covers_at goal k) Holds (Fails at GoalUnknown)
  judge (gaps at) k = Fails at Gap
  judge (does at c add del t) k = cond (covers_at c k) (judge t (moved_at add del k)) (Fails at UnmetConditions)
  judge (reads at c f t e) k =
      cond (covers_at c k)
      (and_then (cond (possible_at f true k) (judge t (told_at f true k)) Holds) (cond (possible_at f false k) (judge e (told_at f false k)) Holds))
      (Fails at UnmetConditions)
