-- The definition on small plans: actions 0 to 3 are doing actions, and action 4 is a reading action. Assumes nothing.
use Rattle.std.proofs.Common.{◌≡◌, ℕ, zero, suc, List, [], ◌∷◌, Ok, Err, Result, refl}
use Rattle.fluents.specs.Sets.{bit}
use Rattle.plans.specs.Trees.{Plan, finish, act, ask, gap, encode}
use Rattle.plans.specs.Checks.{bad, deep, node_of, parse, plan_at, plan_of}
use Rattle.plans.specs.declared.Flaw.{Flaw}

abbrev answer : List ℕ → Result Plan Flaw
answer s = plan_of (bit 15) (bit 16) s

-- so many readings, one below the other, each with an end where its fluent is false
abbrev readings_down : ℕ → Plan
readings_down zero = finish
readings_down (suc n) = ask 4 (readings_down n) finish

-- so many readings begin, and then so many ends
abbrev starts : ℕ → List ℕ → List ℕ
starts zero s = s
starts (suc n) s = 2 ∷ 4 ∷ starts n s

abbrev ends : ℕ → List ℕ
ends zero = []
ends (suc n) = 0 ∷ ends n

empty : answer [] ≡ Err (bad 0)
unfolding plan_of plan_at parse node_of
empty = refl

left_over : answer (0 ∷ 0 ∷ []) ≡ Err (bad 1)
unfolding plan_of plan_at parse node_of
left_over = refl

no_action : answer (1 ∷ []) ≡ Err (bad 1)
unfolding plan_of plan_at parse node_of
no_action = refl

other_sort : answer (1 ∷ 2 ∷ 1 ∷ 4 ∷ 0 ∷ []) ≡ Err (bad 2)
unfolding plan_of plan_at parse node_of
other_sort = refl

two_plans : answer (2 ∷ 4 ∷ 1 ∷ 0 ∷ 3 ∷ 0 ∷ []) ≡ Ok (ask 4 (act 0 gap) finish)
unfolding plan_of plan_at parse node_of
two_plans = refl

eight_deep : answer (encode (readings_down 8)) ≡ Ok (readings_down 8)
unfolding plan_of plan_at parse node_of
eight_deep = refl

nine_deep : answer (starts 9 (ends 10)) ≡ Err (deep 16)
unfolding plan_of plan_at parse node_of
nine_deep = refl

-- the action of a ninth reading is looked at before its depth
nine_deep_doing : answer (starts 8 (2 ∷ 0 ∷ ends 10)) ≡ Err (bad 16)
unfolding plan_of plan_at parse node_of
nine_deep_doing = refl
