-- Every line of the table stands, by one computed check. Assumes nothing.
use Rattle.std.proofs.Common.{◌≡◌, true, false, ◌&&◌, eqb, List, [], ◌∷◌, Ok, Err, Result, refl, ap, subst, arith}
use Rattle.std.proofs.lemmas.Bool.{and_parts, eqb-true, both_ways}
use Rattle.fluents.specs.declared.faults.Fault.{Fault}
use Rattle.knowledge.specs.declared.states.Row.{Row}
use Rattle.plans.specs.Checks.{plan_of, plan_at, parse, node_of}
use Rattle.plans.specs.Trees.{Plan}
use Rattle.plans.specs.declared.Flaw.{Flaw}
use Rattle.procedure.specs.Procedures.{Known, partly, worlds}
use Rattle.meaning.specs.Causes.{cause_number}
use Rattle.meaning.specs.Follows.{Follows}
use Rattle.meaning.specs.Laws.{IsState}
use Rattle.meaning.specs.Rows.{guarded, regressed, asked, least_rows, rows_of}
use Rattle.meaning.specs.Steps.{steps_of}
use Rattle.meaning.specs.declared.answers.Cause.{Cause}
use Rattle.meaning.specs.declared.answers.Cause.TheVariants.{UnmetConditions, GoalUnknown, Gap}
use Rattle.meaning.specs.declared.answers.Verdict.{Verdict}
use Rattle.meaning.specs.declared.answers.Verdict.TheVariants.{Holds, Fails}
use Rattle.meaning.proofs.Loading.{AllFit, state_fits, steps_proper}
use Rattle.cases.specs.Judging.{judge}
use Rattle.meaning.specs.Starts.{worlds_of}
use Rattle.cases.specs.Table.{fluents, goal, acts, tree, plan_in, Case, Stands, AllStand, table, same_row, same_rows, are_rows, same_verdict, is_start, stands, stands_by, all_stand}
use Rattle.cases.proofs.Judged.{ValidStart, judge_follows}

-- ---- what the tests say

row_same : (a b : Row) → same_row a b ≡ true → a ≡ b
row_same a b e =
    let both = and_parts (eqb a.trues b.trues) (eqb a.falses b.falses) e in
    λ i. record { trues = eqb-true a.trues b.trues both.0 i; falses = eqb-true a.falses b.falses both.1 i }

rows_same : (xs ys : List Row) → same_rows xs ys ≡ true → xs ≡ ys
rows_same [] [] e = refl
rows_same [] (y ∷ ys) e = absurd (both_ways false refl e)
rows_same (x ∷ xs) [] e = absurd (both_ways false refl e)
rows_same (x ∷ xs) (y ∷ ys) e =
    let both = and_parts (same_row x y) (same_rows xs ys) e in
    let first = row_same x y both.0 in
    let rest = rows_same xs ys both.1 in
    cc

rows_are : (answer : Result (List Row) Fault) (rows : List Row) → are_rows answer rows ≡ true → answer ≡ Ok rows
rows_are (Ok rs) rows e = ap Ok (rows_same rs rows e)
rows_are (Err fault) rows e = absurd (both_ways false refl e)

cause_same : (a b : Cause) → eqb (cause_number a) (cause_number b) ≡ true → a ≡ b
cause_same UnmetConditions UnmetConditions e = refl
cause_same UnmetConditions GoalUnknown e = absurd (both_ways false refl e)
cause_same UnmetConditions Gap e = absurd (both_ways false refl e)
cause_same GoalUnknown UnmetConditions e = absurd (both_ways false refl e)
cause_same GoalUnknown GoalUnknown e = refl
cause_same GoalUnknown Gap e = absurd (both_ways false refl e)
cause_same Gap UnmetConditions e = absurd (both_ways false refl e)
cause_same Gap GoalUnknown e = absurd (both_ways false refl e)
cause_same Gap Gap e = refl

verdict_same : (u v : Verdict) → same_verdict u v ≡ true → u ≡ v
verdict_same Holds Holds e = refl
verdict_same Holds (Fails place cause) e = absurd (both_ways false refl e)
verdict_same (Fails place cause) Holds e = absurd (both_ways false refl e)
verdict_same (Fails place cause) (Fails at why) e =
    let both = and_parts (eqb place at) (eqb (cause_number cause) (cause_number why)) e in
    let where-is = eqb-true place at both.0 in
    let why-is = cause_same cause why both.1 in
    cc

start_valid : (k : Known) → is_start k ≡ true → ValidStart k
start_valid (partly s) e = state_fits fluents s (omega arith) e
start_valid (worlds ws) e = tt

-- ---- the procedure of the table

goal_state : IsState goal
goal_state = (refl, omega arith, omega arith)

acts_fit : AllFit acts
acts_fit = search arith

-- ---- from the test to the statement

stands_by_lem : (c : Case) (r : Result Plan Flaw) → plan_in c.bytes ≡ r → stands_by c r ≡ true → Stands c
stands_by_lem c (Ok p) is e =
    let both = and_parts (is_start c.start) (are_rows (rows_of goal (tree p)) c.rows && same_verdict (judge goal (tree p) c.start) c.verdict) e in
    let answers = and_parts (are_rows (rows_of goal (tree p)) c.rows) (same_verdict (judge goal (tree p) c.start) c.verdict) both.1 in (
      p,
      is,
      rows_are (rows_of goal (tree p)) c.rows answers.0,
      subst (Follows goal (tree p) (worlds_of c.start)) (verdict_same (judge goal (tree p) c.start) c.verdict answers.1)
          (judge_follows goal (tree p) c.start goal_state (steps_proper acts acts_fit 187 p) (start_valid c.start both.0)),
    )
stands_by_lem c (Err flaw) is e = absurd (both_ways false refl e)

pub cases_stand : (cs : List Case) → all_stand cs ≡ true → AllStand cs
cases_stand [] e = tt
cases_stand (c ∷ cs) e =
    let both = and_parts (stands c) (all_stand cs) e in
    (stands_by_lem c (plan_in c.bytes) refl both.0, cases_stand cs both.1)

-- the computed check
all_pass : all_stand table ≡ true
unfolding table plan_of plan_at parse node_of steps_of rows_of guarded regressed asked least_rows judge
all_pass = refl

pub all_stand_lem : AllStand table
all_stand_lem = cases_stand table all_pass
