-- How a plan's bytes are checked: the tree that they spell, or the first refusal. Assumes nothing.
use Rattle.std.specs.Prelude.{ℕ, zero, suc, ◌+◌, ◌-◌, Bool, cond, List, [], ◌∷◌, length, drop, Ok, Err, Result, ◌==◌, nat_lt}
use Rattle.fluents.specs.declared.faults.Refusal.TheVariants.{BadPlan, TooManyReadings}
use Rattle.plans.specs.declared.Flaw.{Flaw}
use Rattle.plans.specs.declared.Node.{Node}
use Rattle.plans.specs.declared.Node.TheVariants.{End, Doing, Reading, Gap}
use Rattle.plans.specs.Trees.{Plan, finish, act, ask, gap}

-- the two refusals, about the plan byte at offset i
abbrev pub bad : ℕ → Flaw
bad i = record { refusal = BadPlan; offset = i }

abbrev pub deep : ℕ → Flaw
deep i = record { refusal = TooManyReadings; offset = i }

-- go on with the value; a refusal stands
abbrev pub next : {A B : Type 0} → Result A Flaw → (A → Result B Flaw) → Result B Flaw
next (Ok x) f = f x
next (Err e) f = Err e

-- The plan whose first node is n, at offset i below d readings, and the offset just past it. Here
-- `sub j e` is the plan at offset j below e readings: the plan for true is worked before that for false.
abbrev pub follow : (ℕ → ℕ → Result (Plan × ℕ) Flaw) → ℕ → ℕ → Node → Result (Plan × ℕ) Flaw
follow sub i d End = Ok (finish, i + 1)
follow sub i d (Doing a) = next (sub (i + 2) d) λ r. Ok (act a r.0, r.1)
follow sub i d (Reading a) =
    next (sub (i + 2) (d + 1)) λ r. next (sub r.1 (d + 1)) λ t. Ok (ask a r.0 t.0, t.1)
follow sub i d Gap = Ok (gap, i + 1)

module _ (doing reading : ℕ → Bool) where
  -- A doing node at offset i, by the bytes after its first: its action must be there, and doing.
  abbrev pub doing_node : ℕ → List ℕ → Result Node Flaw
  doing_node i [] = Err (bad (i + 1))
  doing_node i (a ∷ bs) = cond (doing a) (Ok (Doing a)) (Err (bad i))

  -- A reading node at offset i, by the bytes after its first, below d readings: its action must be
  -- there, and reading, and it must not be the ninth reading on its path.
  abbrev pub reading_node : ℕ → ℕ → List ℕ → Result Node Flaw
  reading_node i d [] = Err (bad (i + 1))
  reading_node i d (a ∷ bs) = cond (reading a) (cond (nat_lt d 8) (Ok (Reading a)) (Err (deep i))) (Err (bad i))

  -- The node that the unread bytes begin with. They begin at offset i, below d readings.
  unfoldable pub node_of : ℕ → ℕ → List ℕ → Result Node Flaw
  node_of i d [] = Err (bad i)
  node_of i d (b ∷ bs) =
      cond (b == 0) (Ok End)
      (cond (b == 1) (doing_node i bs)
      (cond (b == 2) (reading_node i d bs)
      (cond (b == 3) (Ok Gap) (Err (bad i)))))

  -- The plan that stands at offset i of the bytes s, below d readings, and the offset just past it;
  -- or the first refusal. At most k bytes are left to read, so where k is 0 there is no byte.
  unfoldable pub parse : ℕ → List ℕ → ℕ → ℕ → Result (Plan × ℕ) Flaw
  parse zero s i d = Err (bad i)
  parse (suc k) s i d = next (node_of i d (drop i s)) (follow (parse k s) i d)

  -- The same at a count that is enough: the bytes from offset i on.
  unfoldable pub plan_at : List ℕ → ℕ → ℕ → Result (Plan × ℕ) Flaw
  plan_at s i d = parse (length s - i) s i d

  -- The plan that the bytes s spell: it stands at offset 0, and no byte is left after it.
  unfoldable pub plan_of : List ℕ → Result Plan Flaw
  plan_of s = next (plan_at s 0 0) λ r. cond (r.1 == length s) (Ok r.0) (Err (bad r.1))

-- what the code keeps of such an answer: the offset, or only that there is a plan
abbrev pub ending : Result (Plan × ℕ) Flaw → Result ℕ Flaw
ending (Ok x) = Ok x.1
ending (Err e) = Err e

abbrev pub verdict : Result Plan Flaw → Result (Unit {0}) Flaw
verdict (Ok x) = Ok tt
verdict (Err e) = Err e
