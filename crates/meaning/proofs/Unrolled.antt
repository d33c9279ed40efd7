-- How the rows of a node come from those of the nodes below it. Assumes nothing.
use Rattle.std.proofs.Common.{◌≡◌, ℕ, ◌≤◌, Bool, true, false, cond, leb, List, [], ◌∷◌, length, Ok, Err, sym, refl, subst}
use Rattle.std.proofs.lemmas.Bool.{leb-true}
use Rattle.fluents.specs.Refusals.{fault_at}
use Rattle.fluents.specs.declared.faults.Refusal.TheVariants.{TooManyRows}
use Rattle.knowledge.specs.declared.states.Row.{Row}
use Rattle.procedure.specs.Procedures.{then}
use Rattle.procedure.proofs.Holding.{then_ok}
use Rattle.meaning.specs.Rows.{guarded, regressed, asked, least_rows, limited, rows_of}
use Rattle.meaning.specs.Steps.{Steps, ends, does, reads, gaps}

pub limited_ok : (at : ℕ) (xs rs : List Row) → limited at xs ≡ Ok rs → (rs ≡ xs) × (length rs ≤ 16)
limited_ok at xs rs e = go (leb (length xs) 16) refl e
  where
    go : (b : Bool) → leb (length xs) 16 ≡ b → cond b (Ok xs) (Err (fault_at TooManyRows at)) ≡ Ok rs → (rs ≡ xs) × (length rs ≤ 16)
    go true few q = let same : xs ≡ rs = cc in (sym same, subst (λ l. length l ≤ 16) same (leb-true (length xs) 16 few))
    go false many q = cc

module _ (goal : Row) where
  pub ends_rows : (at : ℕ) (rs : List Row) → rows_of goal (ends at) ≡ Ok rs → rs ≡ goal ∷ []
  unfolding rows_of
  ends_rows at rs e = cc

  pub gaps_rows : (at : ℕ) (rs : List Row) → rows_of goal (gaps at) ≡ Ok rs → rs ≡ []
  unfolding rows_of
  gaps_rows at rs e = cc

  pub does_rows : (at : ℕ) (c : Row) (add del : ℕ) (t : Steps) (rs : List Row) → rows_of goal (does at c add del t) ≡ Ok rs
      → (ts : List Row) × (rows_of goal t ≡ Ok ts) × (rs ≡ least_rows (guarded c (regressed add del ts))) × (length rs ≤ 16)
  unfolding rows_of
  does_rows at c add del t rs e =
      let one = then_ok (rows_of goal t) (λ ts. limited at (least_rows (guarded c (regressed add del ts)))) rs e in
      let last = limited_ok at (least_rows (guarded c (regressed add del one.0))) rs one.2 in
      (one.0, one.1, last.0, last.1)

  pub reads_rows : (at : ℕ) (c : Row) (f : ℕ) (t e : Steps) (rs : List Row) → rows_of goal (reads at c f t e) ≡ Ok rs
      → (ts : List Row) × (es : List Row) × (rows_of goal t ≡ Ok ts) × (rows_of goal e ≡ Ok es) × (rs ≡ least_rows (guarded c (asked f ts es))) × (length rs ≤ 16)
  unfolding rows_of
  reads_rows at c f t e rs q =
      let one = then_ok (rows_of goal t) (λ ts. then (rows_of goal e) (λ es. limited at (least_rows (guarded c (asked f ts es))))) rs q in
      let two = then_ok (rows_of goal e) (λ es. limited at (least_rows (guarded c (asked f one.0 es)))) rs one.2 in
      let last = limited_ok at (least_rows (guarded c (asked f one.0 two.0))) rs two.2 in
      (one.0, two.0, one.1, two.1, last.0, last.1)
