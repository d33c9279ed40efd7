-- Plans as trees, their bytes, and the trees that are within the limits. Assumes nothing.
use Rattle.std.specs.Prelude.{◌≡◌, ℕ, suc, ◌+◌, ◌≤◌, max, Bool, true, ◌⊎◌, List, [], ◌∷◌, ◌++◌, length}

-- A plan: it ends; or it does an action and goes on; or it reads a fluent by an action, and goes on
-- by one plan where the fluent is true and by another where it is false; or it has a gap.
pub data Plan : Type 0 where
  finish : Plan
  act : ℕ → Plan → Plan
  ask : ℕ → Plan → Plan → Plan
  gap : Plan

-- The bytes of a plan: each node before what follows it, the plan for true before the plan for false.
abbrev pub encode : Plan → List ℕ
encode finish = 0 ∷ []
encode (act a p) = 1 ∷ a ∷ encode p
encode (ask a p q) = 2 ∷ a ∷ (encode p ++ encode q)
encode gap = 3 ∷ []

-- Where a plan's first node stands at offset i, this is the offset just past the plan's last byte.
-- What follows a node at i stands at i + 2: the rest of a doing node, and the plan for true of a
-- reading node. The plan for false stands just past the plan p for true, at `past (i + 2) p`.
abbrev pub past : ℕ → Plan → ℕ
past i p = i + length (encode p)

-- In the plan p whose first node stands at i, the plan q stands at j: the place of each node.
abbrev pub NodeAt : ℕ → Plan → ℕ → Plan → Type 0
NodeAt i finish j q = (j ≡ i) × (q ≡ finish)
NodeAt i (act a p) j q = ((j ≡ i) × (q ≡ act a p)) ⊎ NodeAt (i + 2) p j q
NodeAt i (ask a p r) j q = ((j ≡ i) × (q ≡ ask a p r)) ⊎ (NodeAt (i + 2) p j q ⊎ NodeAt (past (i + 2) p) r j q)
NodeAt i gap j q = (j ≡ i) × (q ≡ gap)

-- the most readings that lie on one path from the root to a leaf
abbrev pub readings : Plan → ℕ
readings finish = 0
readings (act a p) = readings p
readings (ask a p q) = suc (max (readings p) (readings q))
readings gap = 0

-- Each doing node names a doing action, and each reading node a reading action.
abbrev pub Named : (ℕ → Bool) → (ℕ → Bool) → Plan → Type 0
Named doing reading finish = Unit {0}
Named doing reading (act a p) = (doing a ≡ true) × Named doing reading p
Named doing reading (ask a p q) = (reading a ≡ true) × Named doing reading p × Named doing reading q
Named doing reading gap = Unit {0}

-- The plan is within the limits below d readings: its actions are named rightly, and no path has
-- more than 8 readings with those d. A whole plan stands below none.
abbrev pub Fits : (ℕ → Bool) → (ℕ → Bool) → ℕ → Plan → Type 0
Fits doing reading d p = Named doing reading p × (d + readings p ≤ 8)

-- The bytes s are those of the plan p, which is within the limits.
abbrev pub Spells : (ℕ → Bool) → (ℕ → Bool) → List ℕ → Plan → Type 0
Spells doing reading s p = Fits doing reading 0 p × (s ≡ encode p)
