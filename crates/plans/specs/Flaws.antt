-- The refusals of a plan, rule by rule. Assumes nothing.
use Rattle.std.specs.Prelude.{◌≡◌, ℕ, ◌+◌, ◌<◌, ◌≤◌, Bool, true, false, ◌⊎◌, List, [], ◌∷◌, ◌++◌, drop}
use Rattle.fluents.specs.declared.faults.Refusal.TheVariants.{BadPlan, TooManyReadings}
use Rattle.plans.specs.Checks.{bad, deep}
use Rattle.plans.specs.Trees.{Plan, encode, past, Fits}
use Rattle.plans.specs.declared.Flaw.{Flaw}

-- the bytes l stand at offset i of s
abbrev pub At : List ℕ → ℕ → List ℕ → Type 0
At s i l = (rest : List ℕ) × (drop i s ≡ l ++ rest)

-- The refusal e is the first that is met in the plan at offset i of s, below d readings.
pub data Flawed (doing reading : ℕ → Bool) (s : List ℕ) (e : Flaw) : ℕ → ℕ → Type 0 where
  -- the node: it has no byte; its first byte is none of the four; it has no second byte; its action
  -- is absent or of the other sort; it is the ninth reading on its path
  no_byte : {i d : ℕ} → drop i s ≡ [] → e ≡ bad i → Flawed doing reading s e i d
  no_kind : {i d : ℕ} (b : ℕ) → At s i (b ∷ []) → 3 < b → e ≡ bad i → Flawed doing reading s e i d
  no_action : {i d : ℕ} (b : ℕ) → drop i s ≡ b ∷ [] → (b ≡ 1) ⊎ (b ≡ 2) → e ≡ bad (i + 1) → Flawed doing reading s e i d
  not_doing : {i d : ℕ} (a : ℕ) → At s i (1 ∷ a ∷ []) → doing a ≡ false → e ≡ bad i → Flawed doing reading s e i d
  not_reading : {i d : ℕ} (a : ℕ) → At s i (2 ∷ a ∷ []) → reading a ≡ false → e ≡ bad i → Flawed doing reading s e i d
  ninth : {i d : ℕ} (a : ℕ) → At s i (2 ∷ a ∷ []) → reading a ≡ true → 8 ≤ d → e ≡ deep i → Flawed doing reading s e i d
  -- what follows the node: the rest of a doing node; of a reading node the plan for true, or else the
  -- plan for false, behind a plan p for true that is within the limits
  in_rest : {i d : ℕ} (a : ℕ) → At s i (1 ∷ a ∷ []) → doing a ≡ true → Flawed doing reading s e (i + 2) d → Flawed doing reading s e i d
  in_true : {i d : ℕ} (a : ℕ) → At s i (2 ∷ a ∷ []) → reading a ≡ true → d < 8 → Flawed doing reading s e (i + 2) (d + 1) → Flawed doing reading s e i d
  in_false : {i d : ℕ} (a : ℕ) (p : Plan) → At s i (2 ∷ a ∷ encode p) → reading a ≡ true → d < 8 → Fits doing reading (d + 1) p
      → Flawed doing reading s e (past (i + 2) p) (d + 1) → Flawed doing reading s e i d

-- The refusal of the bytes s: one that is met in the plan at offset 0, or a byte b is left over
-- behind a plan p that is within the limits.
pub data Refused (doing reading : ℕ → Bool) (s : List ℕ) (e : Flaw) : Type 0 where
  met : Flawed doing reading s e 0 0 → Refused doing reading s e
  left_over : (p : Plan) (b : ℕ) → Fits doing reading 0 p → At s 0 (encode p ++ b ∷ []) → e ≡ bad (past 0 p) → Refused doing reading s e

-- What every refusal of a plan of n bytes says: it is one of the two, about a byte of the plan or the
-- place just past its last.
abbrev pub Placed : ℕ → Flaw → Type 0
Placed n e = ((e.refusal ≡ BadPlan) ⊎ (e.refusal ≡ TooManyReadings)) × (e.offset ≤ n)
