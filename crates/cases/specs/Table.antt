-- Worked cases: plans with their rows, and the verdict of following each from a start. Assumes nothing.
use Rattle.std.specs.Prelude.{◌≡◌, ℕ, Bool, true, false, ◌&&◌, List, [], ◌∷◌, Ok, Err, Result, ◌==◌}
use Rattle.fluents.specs.declared.faults.Fault.{Fault}
use Rattle.knowledge.specs.declared.states.Row.{Row}
use Rattle.plans.specs.Checks.{plan_of}
use Rattle.plans.specs.Trees.{Plan}
use Rattle.plans.specs.declared.Flaw.{Flaw}
use Rattle.procedure.specs.Fields.{is_state, are_inside}
use Rattle.procedure.specs.Procedures.{Act, doing, reading, Known, partly, worlds, does_at, reads_at}
use Rattle.meaning.specs.Causes.{cause_number}
use Rattle.meaning.specs.Follows.{Follows}
use Rattle.meaning.specs.Rows.{rows_of}
use Rattle.meaning.specs.Steps.{Steps, steps_of}
use Rattle.meaning.specs.declared.answers.Cause.TheVariants.{UnmetConditions, GoalUnknown, Gap}
use Rattle.meaning.specs.declared.answers.Verdict.{Verdict}
use Rattle.meaning.specs.declared.answers.Verdict.TheVariants.{Holds, Fails}
use Rattle.cases.specs.Judging.{judge}
use Rattle.meaning.specs.Starts.{worlds_of}

-- ---- the procedure

-- Sets and worlds are numbers: fluent i is a member where bit i is set.

-- the fluents of t true, and those of f false
abbrev pub row : ℕ → ℕ → Row
row t f = record { trues = t; falses = f }

-- the fluents are 0, 1 and 2
abbrev pub fluents : ℕ
fluents = 3

-- fluent 1 is to be known true
abbrev pub goal : Row
goal = row 2 0

-- 1 is made true, if 0 is known true; 0 is made true, if it is known false; 0 is read; 1 is made false; 2 is read
abbrev pub acts : List Act
acts = doing (row 1 0) 2 0 ∷ doing (row 0 1) 1 0 ∷ reading (row 0 0) 0 ∷ doing (row 0 0) 0 2 ∷ reading (row 0 0) 2 ∷ []

-- the plan that bytes spell
abbrev pub plan_in : List ℕ → Result Plan Flaw
plan_in s = plan_of (does_at acts) (reads_at acts) s

-- the tree of a plan whose first byte has the file place 187
abbrev pub tree : Plan → Steps
tree p = steps_of acts 187 p

-- ---- the cases

pub record Case : Type 0 where
  pub bytes : List ℕ
  pub start : Known
  pub rows : List Row
  pub verdict : Verdict

-- What a case says: its bytes are those of a plan, whose rows are the given ones, and following the plan from the worlds
-- of the start has the given verdict.
abbrev pub Stands : Case → Type 0
Stands c = (p : Plan) × (plan_in c.bytes ≡ Ok p) × (rows_of goal (tree p) ≡ Ok c.rows) × Follows goal (tree p) (worlds_of c.start) c.verdict

abbrev pub AllStand : List Case → Type 0
AllStand [] = Unit {0}
AllStand (c ∷ cs) = Stands c × AllStand cs

-- ---- the plans, by their bytes

-- the plan ends at once
abbrev pub plan1 : List ℕ
plan1 = 0 ∷ []

-- 1 is made true
abbrev pub plan2 : List ℕ
plan2 = 1 ∷ 0 ∷ 0 ∷ []

-- 0 is read; where it is false it is made true; then 1 is made true
abbrev pub plan3 : List ℕ
plan3 = 2 ∷ 2 ∷ 1 ∷ 0 ∷ 0 ∷ 1 ∷ 1 ∷ 1 ∷ 0 ∷ 0 ∷ []

-- 0 is read; where it is true, 1 is made true; there is a gap where it is false
abbrev pub plan4 : List ℕ
plan4 = 2 ∷ 2 ∷ 1 ∷ 0 ∷ 0 ∷ 3 ∷ []

-- 1 is made false
abbrev pub plan5 : List ℕ
plan5 = 1 ∷ 3 ∷ 0 ∷ []

-- 0 is read, and the plan ends either way
abbrev pub plan6 : List ℕ
plan6 = 2 ∷ 2 ∷ 0 ∷ 0 ∷ []

-- the third plan with 2 read in place of 0
abbrev pub plan7 : List ℕ
plan7 = 2 ∷ 4 ∷ 1 ∷ 0 ∷ 0 ∷ 1 ∷ 1 ∷ 1 ∷ 0 ∷ 0 ∷ []

-- 0 is made true
abbrev pub plan9 : List ℕ
plan9 = 1 ∷ 1 ∷ 0 ∷ []

-- ---- the table

-- plan bytes, start, rows, verdict
abbrev pub case : List ℕ → Known → List Row → Verdict → Case
case bytes start rows verdict = record { bytes = bytes; start = start; rows = rows; verdict = verdict }

abbrev pub known : ℕ → ℕ → Known
known t f = partly (row t f)

-- Each plan from a start that one of its rows covers, and from one that none covers. But the one row of the third plan has
-- no literal, so it covers every start, and the fifth plan has no row. From the worlds 0 and 5 the seventh plan holds, though
-- neither row covers them: in both worlds 0 and 2 have the same value, which no partial state says.
unfoldable pub table : List Case
table =
    case plan1 (known 2 0) (row 2 0 ∷ []) Holds
    ∷ case plan1 (known 0 0) (row 2 0 ∷ []) (Fails 187 GoalUnknown)
    ∷ case plan2 (known 1 0) (row 1 0 ∷ []) Holds
    ∷ case plan2 (known 2 0) (row 1 0 ∷ []) (Fails 187 UnmetConditions)
    ∷ case plan3 (known 0 0) (row 0 0 ∷ []) Holds
    ∷ case plan3 (worlds (0 ∷ 7 ∷ [])) (row 0 0 ∷ []) Holds
    ∷ case plan4 (known 1 0) (row 1 0 ∷ []) Holds
    ∷ case plan4 (known 2 0) (row 1 0 ∷ []) (Fails 192 Gap)
    ∷ case plan5 (known 2 0) [] (Fails 189 GoalUnknown)
    ∷ case plan6 (known 2 0) (row 2 0 ∷ []) Holds
    ∷ case plan6 (worlds (0 ∷ 3 ∷ [])) (row 2 0 ∷ []) (Fails 190 GoalUnknown)
    ∷ case plan7 (known 0 5) (row 0 5 ∷ row 5 0 ∷ []) Holds
    ∷ case plan7 (known 0 4) (row 0 5 ∷ row 5 0 ∷ []) (Fails 192 UnmetConditions)
    ∷ case plan7 (worlds (0 ∷ 5 ∷ [])) (row 0 5 ∷ row 5 0 ∷ []) Holds
    ∷ case plan7 (known 0 2) (row 0 5 ∷ row 5 0 ∷ []) (Fails 189 UnmetConditions)
    ∷ case plan9 (known 2 1) (row 2 1 ∷ []) Holds
    ∷ case plan9 (known 0 1) (row 2 1 ∷ []) (Fails 189 GoalUnknown)
    ∷ []

-- ---- the test

-- the same literals, by their numbers
abbrev pub same_row : Row → Row → Bool
same_row a b = a.trues == b.trues && a.falses == b.falses

abbrev pub same_rows : List Row → List Row → Bool
same_rows [] [] = true
same_rows [] (b ∷ bs) = false
same_rows (a ∷ more) [] = false
same_rows (a ∷ more) (b ∷ bs) = same_row a b && same_rows more bs

-- the answer is these rows
abbrev pub are_rows : Result (List Row) Fault → List Row → Bool
are_rows (Ok rs) ss = same_rows rs ss
are_rows (Err fault) ss = false

abbrev pub same_verdict : Verdict → Verdict → Bool
same_verdict Holds Holds = true
same_verdict Holds (Fails place cause) = false
same_verdict (Fails place cause) Holds = false
same_verdict (Fails place cause) (Fails at why) = place == at && cause_number cause == cause_number why

-- a start that a file over these fluents may have
abbrev pub is_start : Known → Bool
is_start (partly s) = is_state fluents s
is_start (worlds ws) = are_inside fluents ws

-- what is computed of a case, once its bytes were read
abbrev pub stands_by : Case → Result Plan Flaw → Bool
stands_by c (Ok p) = is_start c.start && (are_rows (rows_of goal (tree p)) c.rows && same_verdict (judge goal (tree p) c.start) c.verdict)
stands_by c (Err flaw) = false

abbrev pub stands : Case → Bool
stands c = stands_by c (plan_in c.bytes)

abbrev pub all_stand : List Case → Bool
all_stand [] = true
all_stand (c ∷ cs) = stands c && all_stand cs
