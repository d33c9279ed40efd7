-- What the rows promise to every set of worlds: no walk from worlds that a row covers fails. Assumes nothing.
use Rattle.std.proofs.Common.{◌≡◌, ℕ, Bool, true, false, ◌⊎◌, List, [], ◌∷◌, length, Ok, sym, subst, inl, inr}
use Rattle.std.specs.List.{ContainsAt as Has}
use Rattle.std.proofs.lemmas.Bool.{both_ways}
use Rattle.fluents.specs.Refusals.{fault_at}
use Rattle.fluents.specs.Sets.{bit}
use Rattle.fluents.specs.declared.faults.Fault.{Fault}
use Rattle.fluents.specs.declared.faults.Refusal.TheVariants.{Contradiction}
use Rattle.knowledge.specs.declared.states.Row.{Row}
use Rattle.meaning.specs.declared.answers.Stop.{Stop}
use Rattle.meaning.specs.declared.answers.Stop.TheVariants.{Refused}
use Rattle.meaning.specs.Laws.{CoveredBy, NoFailure, Safe}
use Rattle.meaning.specs.Rows.{joined, guarded, regressed, plus, less, asked, least_rows, rows_of}
use Rattle.meaning.specs.Sets.{Meets, Covers, Moved, Told, Possible, Either}
use Rattle.meaning.specs.Steps.{Steps, ends, does, reads, gaps}
use Rattle.meaning.specs.Walks.{Walks, AtNode, AllEndWell}
use Rattle.meaning.proofs.Leasts.{least_of}
use Rattle.meaning.proofs.Meeting.{meets_joined, meets_before, meets_plus, less_meets}
use Rattle.meaning.proofs.Members.{has_none, has_single, in_guarded, in_regressed, in_asked, ToldBy, Untold}
use Rattle.meaning.proofs.Unrolled.{ends_rows, gaps_rows, does_rows, reads_rows}
use Rattle.meaning.proofs.Walking.{ended_well, walks_only, either_then}

-- ---- what covers the worlds of a node covers those of the nodes below it

-- one of the least guarded rows: the conditions are known, and so is a row of the list
guarded_covered : (c : Row) (rs : List Row) (K : ℕ → Type 0) → CoveredBy (least_rows (guarded c rs)) K → Covers c K × CoveredBy rs K
guarded_covered c rs K (r, has, covers) =
    let from = in_guarded c rs r ((least_of (guarded c rs)).made r has) in
    let both : (w : ℕ) → K w → Meets c w × Meets from.0 w = λ w k.
    meets_joined c from.0 w (subst (λ v. Meets v w) from.2 (covers w k)) in
    ((λ w k. (both w k).0), (from.0, from.1, λ w k. (both w k).1))

regressed_covered : (add del : ℕ) (rs : List Row) (K : ℕ → Type 0) → CoveredBy (regressed add del rs) K → CoveredBy rs (Moved add del K)
regressed_covered add del rs K (r, has, covers) =
    let from = in_regressed add del rs r has in
    let x : Row = from.0 in
    (x, from.1, λ w m. subst (Meets x) (sym m.2) (meets_before add del x m.0 from.2 (subst (λ v. Meets v m.0) from.3 (covers m.0 m.1))))

-- a row with the literal of f and b promises it of every world, and has its other literals too
plus_covers : (f : ℕ) (b : Bool) (x : Row) (K : ℕ → Type 0) → Covers (plus f b x) K → Covers x (Told f b K)
plus_covers f b x K covers w told = (meets_plus f b x w (covers w told.0)).0

plus_tells : (f : ℕ) (b : Bool) (x : Row) (K : ℕ → Type 0) → Covers (plus f b x) K → (w : ℕ) → K w → bit w f ≡ b
plus_tells f b x K covers w k = (meets_plus f b x w (covers w k)).1

less_covers : (f : ℕ) (b : Bool) (x : Row) (K : ℕ → Type 0) → Covers (less f b x) K → Covers x (Told f b K)
less_covers f b x K covers w told = less_meets f b x w (covers w told.0) told.1

module _ (f : ℕ) (ts es : List Row) (K : ℕ → Type 0) (r : Row) (covers : Covers r K) where
  covers_as : (x : Row) → r ≡ x → Covers x K
  covers_as x e w k = subst (λ y. Meets y w) e (covers w k)

  -- the two rows that are joined
  covers_first : (x y : Row) → r ≡ joined x y → Covers x K
  covers_first x y e w k = (meets_joined x y w (covers_as (joined x y) e w k)).0

  covers_second : (x y : Row) → r ≡ joined x y → Covers y K
  covers_second x y e w k = (meets_joined x y w (covers_as (joined x y) e w k)).1

  -- where a world has f true, a row for true covers those that have; and so for false
  true_covered : ToldBy f true ts r ⊎ (ToldBy f false es r ⊎ Untold f ts es r) → Possible (Told f true K) → CoveredBy ts (Told f true K)
  true_covered (inl (x, has, allowed, e)) some = (x, has, plus_covers f true x K (covers_as (plus f true x) e))
  true_covered (inr (inl (x, has, allowed, e))) (v, told) =
      absurd (both_ways (bit v f) (plus_tells f false x K (covers_as (plus f false x) e) v told.0) told.1)
  true_covered (inr (inr (x, y, has-x, allowed-x, has-y, allowed-y, e))) some =
      (x, has-x, less_covers f true x K (covers_first (less f true x) (less f false y) e))

  false_covered : ToldBy f true ts r ⊎ (ToldBy f false es r ⊎ Untold f ts es r) → Possible (Told f false K) → CoveredBy es (Told f false K)
  false_covered (inl (x, has, allowed, e)) (v, told) =
      absurd (both_ways (bit v f) told.1 (plus_tells f true x K (covers_as (plus f true x) e) v told.0))
  false_covered (inr (inl (x, has, allowed, e))) some = (x, has, plus_covers f false x K (covers_as (plus f false x) e))
  false_covered (inr (inr (x, y, has-x, allowed-x, has-y, allowed-y, e))) some =
      (y, has-y, less_covers f false y K (covers_second (less f true x) (less f false y) e))

-- ---- walks

-- a walk whose value was refused has not failed
value_taken : {P A : Type 0} (n : ℕ) (s : Stop) (fault : Fault) → (P → A → NoFailure s) → Either P A ((s ≡ Refused fault) × (n ≡ 1)) → NoFailure s
value_taken n s fault on (inl (p, a)) = on p a
value_taken n s fault on (inr (none, e)) = subst NoFailure (sym e.0) tt

module _ (goal : Row) where
  -- at a reading node: the rows of both branches, and that the conditions and one of the candidates cover K
  reads_covered : (at : ℕ) (c : Row) (f : ℕ) (t e : Steps) (rs : List Row) → rows_of goal (reads at c f t e) ≡ Ok rs → (K : ℕ → Type 0) → CoveredBy rs K
      → (ts : List Row) × (es : List Row) × (rows_of goal t ≡ Ok ts) × (rows_of goal e ≡ Ok es) × Covers c K × CoveredBy (asked f ts es) K
  reads_covered at c f t e rs q K covered =
      let from = reads_rows goal at c f t e rs q in
      let ready = guarded_covered c (asked f from.0 from.1) K (subst (λ l. CoveredBy l K) from.4 covered) in
      (from.0, from.1, from.2, from.3, ready.0, ready.1)

  pub covered_walks : (t : Steps) (rs : List Row) → rows_of goal t ≡ Ok rs → (K : ℕ → Type 0) → CoveredBy rs K
      → (vs : List Bool) (n : ℕ) (s : Stop) → Walks goal t K vs n s → NoFailure s
  unfolding Walks
  covered_walks (ends at) rs e K (r, has, covers) vs n s walk =
      let same : goal ≡ r = has_single goal r (subst (λ l. Has l r) (ends_rows goal at rs e) has) in
      subst NoFailure (sym (either_then (λ w k. subst (λ v. Meets v w) (sym same) (covers w k)) walk.0)) tt
  covered_walks (gaps at) rs e K (r, has, covers) vs n s walk = absurd (has_none r (subst (λ l. Has l r) (gaps_rows goal at rs e) has))
  covered_walks (does at c add del t) rs e K covered vs n s walk =
      let from = does_rows goal at c add del t rs e in
      let ready = guarded_covered c (regressed add del from.0) K (subst (λ l. CoveredBy l K) from.2 covered) in
      covered_walks t from.0 from.1 (Moved add del K) (regressed_covered add del from.0 K ready.1) vs n s (either_then ready.0 walk)
  covered_walks (reads at c f t e) rs q K covered [] n s walk =
      subst NoFailure (sym (either_then (reads_covered at c f t e rs q K covered).4 walk.0)) tt
  covered_walks (reads at c f t e) rs q K covered (true ∷ vs) n s walk =
      let (ts, es, rows-t, rows-e, ready, (r, has, covers)) = reads_covered at c f t e rs q K covered in
      value_taken n s (fault_at Contradiction at)
      (λ some on. covered_walks t ts rows-t (Told f true K) (true_covered f ts es K r covers (in_asked f ts es r has) some) vs on.0 s on.2)
      (either_then ready walk)
  covered_walks (reads at c f t e) rs q K covered (false ∷ vs) n s walk =
      let (ts, es, rows-t, rows-e, ready, (r, has, covers)) = reads_covered at c f t e rs q K covered in
      value_taken n s (fault_at Contradiction at)
      (λ some on. covered_walks e es rows-e (Told f false K) (false_covered f ts es K r covers (in_asked f ts es r has) some) vs on.0 s on.2)
      (either_then ready walk)

  pub covered_safe : (t : Steps) (rs : List Row) → rows_of goal t ≡ Ok rs → (K : ℕ → Type 0) → Safe goal t rs K
  covered_safe t rs e K covered vs n s walk =
      let fine = covered_walks t rs e K covered vs n s walk in (
        fine,
        λ (u, other, at_node).
            let same : s ≡ u = (walks_only goal t K vs n (length vs) s u walk other).1 in
            ended_well s (subst AtNode (sym same) at_node) fine,
      )

  -- so every agreeing walk ends well
  pub covered_well : (t : Steps) (rs : List Row) → rows_of goal t ≡ Ok rs → (K : ℕ → Type 0) → CoveredBy rs K → AllEndWell goal t K
  covered_well t rs e K covered vs agrees =
      subst (Walks goal t K vs (length vs)) ((covered_safe t rs e K covered vs (length vs) agrees.0 agrees.1).1 agrees) agrees.1
