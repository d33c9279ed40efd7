-- What is known of every fluent, from what is known of each below 64. Assumes nothing.
use Rattle.std.proofs.Common.{◌≡◌, ℕ, ◌^◌, ◌<◌, ◌≤◌, Bool, true, false, MatchBool, ◌⊎◌, inl, inr, length, Option, Some, None, MatchOption, Ok, Err, Result, MatchResult, get_or, sym, refl, ◌∙◌, ap₂, subst, arith, ⊎_elim}
use Rattle.std.specs.List.{range_with_len, AllWithin, HoldsAt}
use Rattle.std.specs.Result.{result_ok}
use Rattle.std.proofs.lemmas.Iterator.Search.{true_from_All}
use Rattle.std.proofs.lemmas.List.Elements.{All-from_all_within}
use Rattle.std.proofs.lemmas.List.FromFn.{get_or-range_with_len}
use Rattle.std.proofs.lemmas.Bool.{cases_lt, both_ways}
use Rattle.fluents.specs.Sets.{bit, Apart}
use Rattle.fluents.specs.declared.faults.Fault.{Fault}
use Rattle.fluents.specs.declared.literals.Literal.{Literal}
use Rattle.fluents.proofs.Bits.{bit-above, apart_members}
use Rattle.knowledge.specs.Meaning.{Knows}
use Rattle.knowledge.specs.declared.states.Row.{Row}
use Rattle.meaning.specs.Sets.{Covers}
use Rattle.runs.specs.Knowing.{CoversAt}

-- the literal that the row has of the fluent is known, or the row has none
module _ (r : Row) (i : ℕ) (K : ℕ → Type 0) (apart : Apart r.trues r.falses) (known : Bool) where
  covers_literal : (l : Literal) → l.fluent.index ≡ i → (v : Bool) → l.value ≡ v → MatchBool v (bit r.trues i ≡ true) (bit r.falses i ≡ true)
      → (known ≡ true → Knows K l) × (Knows K l → known ≡ true) → (known ≡ true → CoversAt r i K) × (CoversAt r i K → known ≡ true)
  covers_literal l same true value t (to, from) =
      let is : (w : ℕ) → (bit w l.fluent.index ≡ l.value) ≡ (bit w i ≡ true) = λ w. ap₂ (λ (j : ℕ) b. bit w j ≡ b) same value in (
        (λ e w k. ((λ t'. subst (λ P. P) (is w) (to e w k)), (λ h. absurd (both_ways (bit r.falses i) (apart_members r.trues r.falses apart i t) h)))),
        (λ cov. from (λ w k. subst (λ P. P) (sym (is w)) ((cov w k).0 t))),
      )
  covers_literal l same false value h (to, from) =
      let is : (w : ℕ) → (bit w l.fluent.index ≡ l.value) ≡ (bit w i ≡ false) = λ w. ap₂ (λ (j : ℕ) b. bit w j ≡ b) same value in (
        (λ e w k. ((λ t. absurd (both_ways (bit r.falses i) (apart_members r.trues r.falses apart i t) h)), (λ h'. subst (λ P. P) (is w) (to e w k)))),
        (λ cov. from (λ w k. subst (λ P. P) (sym (is w)) ((cov w k).1 h))),
      )

  pub covers_option : (o : Option Literal) (told : Literal → Type 0)
      → MatchOption o ((bit r.trues i ≡ false) × (bit r.falses i ≡ false)) (λ l. (l.fluent.index ≡ i) × MatchBool l.value (bit r.trues i ≡ true) (bit r.falses i ≡ true))
      → MatchOption o (known ≡ true) told → ((l : Literal) → told l → (known ≡ true → Knows K l) × (Knows K l → known ≡ true))
      → (known ≡ true → CoversAt r i K) × (CoversAt r i K → known ≡ true)
  covers_option None told (t, h) e answers = ((λ e' w k. ((λ t'. absurd (both_ways (bit r.trues i) t t')), (λ h'. absurd (both_ways (bit r.falses i) h h')))), (λ cov. e))
  covers_option (Some l) told (same, value) answer answers = covers_literal l same l.value refl value (answers l answer)

-- where the row has the fluent, its literal can be made
pub literal_made : (r : Row) (i : ℕ) → r.trues < 2 ^ 64 → r.falses < 2 ^ 64 → (bit r.trues i ≡ true) ⊎ ((bit r.trues i ≡ false) × (bit r.falses i ≡ true))
    → (made : Result Literal Fault) (Q : Fault → Type 0) → MatchResult made (λ l. (i < 64) × (l.fluent.index ≡ i) × (l.value ≡ bit r.trues i)) (λ e. (64 ≤ i) × Q e)
    → MatchOption (result_ok made) ((bit r.trues i ≡ false) × (bit r.falses i ≡ false)) (λ l. (l.fluent.index ≡ i) × MatchBool l.value (bit r.trues i ≡ true) (bit r.falses i ≡ true))
literal_made r i t f (inl has) (Ok l) Q (low, index, value) = (index, subst (λ b. MatchBool b (bit r.trues i ≡ true) (bit r.falses i ≡ true)) (sym (value ∙ has)) has)
literal_made r i t f (inr (lacks, has)) (Ok l) Q (low, index, value) = (index, subst (λ b. MatchBool b (bit r.trues i ≡ true) (bit r.falses i ≡ true)) (sym (value ∙ lacks)) has)
literal_made r i t f (inl has) (Err e) Q (high, q) = absurd (both_ways (bit r.trues i) (bit-above r.trues 64 i t high) has)
literal_made r i t f (inr (lacks, has)) (Err e) Q (high, q) = absurd (both_ways (bit r.falses i) (bit-above r.falses 64 i f high) has)

pub covers_all : (r : Row) (K : ℕ → Type 0) → r.trues < 2 ^ 64 → r.falses < 2 ^ 64 → ((i : ℕ) → i < 64 → CoversAt r i K) → Covers r K
covers_all r K t f h w k i =
    ⊎_elim (λ (low : i < 64). h i low w k)
    (λ (high : 64 ≤ i). ((λ e. absurd (both_ways (bit r.trues i) (bit-above r.trues 64 i t high) e)), (λ e. absurd (both_ways (bit r.falses i) (bit-above r.falses 64 i f high) e))))
    (cases_lt i 64)

-- what a search through the fluents below 64 finds
pub covers_found : (r : Row) (K : ℕ → Type 0) → r.trues < 2 ^ 64 → r.falses < 2 ^ 64 → (found : Bool)
    → MatchBool found (AllWithin (λ i. CoversAt r i K) (range_with_len 0 64) 0 (length (range_with_len 0 64)))
    ((k : ℕ) × (k < length (range_with_len 0 64)) × HoldsAt (λ i. CoversAt r i K → ⊥) (range_with_len 0 64) k)
    → (found ≡ true → Covers r K) × (Covers r K → found ≡ true)
covers_found r K t f true h = (
  (λ e. covers_all r K t f (λ i low.
      let same : get_or (range_with_len 0 64) i 0 ≡ i = get_or-range_with_len 0 64 i 0 low ∙ omega arith in
      subst (λ (j : ℕ). CoversAt r j K) same (All-from_all_within (λ j. CoversAt r j K) (range_with_len 0 64) h i 0 low))),
  (λ cov. refl),
)
covers_found r K t f false h = (
  (λ e. absurd (cc e)),
  (λ cov. true_from_All (λ i. CoversAt r i K) (λ i. CoversAt r i K → ⊥) false (range_with_len 0 64) (λ i p q. q p) h (λ k d low w kw. cov w kw _)),
)
