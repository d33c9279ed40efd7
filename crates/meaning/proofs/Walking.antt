-- Walks from the same worlds are the same, and along given values there is one walk. Assumes nothing.
use Rattle.std.proofs.Common.{◌≡◌, ℕ, suc, Bool, true, false, List, [], ◌∷◌, length, sym, refl, ap, ◌∙◌, inl, inr}
use Rattle.knowledge.specs.Meaning.{Same}
use Rattle.knowledge.specs.declared.states.Row.{Row}
use Rattle.meaning.specs.declared.answers.Stop.{Stop}
use Rattle.meaning.specs.declared.answers.Stop.TheVariants.{EndedWell, Failed, Refused, UsedUp}
use Rattle.meaning.specs.Sets.{Covers, Moved, Told, Possible, Either}
use Rattle.meaning.specs.Steps.{Steps, ends, does, reads, gaps}
use Rattle.meaning.specs.Laws.{NoFailure}
use Rattle.meaning.specs.Walks.{Walks, AtNode, Agrees, AllEndWell}

-- a walk that stops at a node and does not fail ends well
pub ended_well : (s : Stop) → AtNode s → NoFailure s → s ≡ EndedWell
ended_well EndedWell at none = refl
ended_well (Failed place cause) at none = absurd none
ended_well (Refused fault) at none = absurd at
ended_well (UsedUp place) at none = absurd at

-- ---- either way

pub either_map : {P Q A B C D : Type 0} → (P → Q) → (Q → P) → (A → C) → (B → D) → Either P A B → Either Q C D
either_map to from f g (inl h) = inl (to h.0, f h.1)
either_map to from f g (inr h) = inr ((λ q. h.0 (from q)), g h.1)

pub either_then : {P A B : Type 0} → P → Either P A B → A
either_then p (inl h) = h.1
either_then p (inr h) = absurd (h.0 p)

pub either_else : {P A B : Type 0} → (P → ⊥) → Either P A B → B
either_else n (inl h) = absurd (n h.0)
either_else n (inr h) = h.1

-- two answers to one question go the same way
pub either_both : {P A B C D R : Type 0} → (A → C → R) → (B → D → R) → Either P A B → Either P C D → R
either_both f g (inl h) k = f h.1 (either_then h.0 k)
either_both f g (inr h) k = g h.1 (either_else h.0 k)

-- ---- the same worlds

pub same_sym : (K L : ℕ → Type 0) → Same K L → Same L K
same_sym K L same w = ((same w).1, (same w).0)

pub covers_same : (r : Row) (K L : ℕ → Type 0) → Same K L → Covers r K → Covers r L
covers_same r K L same covers w l = covers w ((same w).1 l)

pub possible_same : (K L : ℕ → Type 0) → Same K L → Possible K → Possible L
possible_same K L same some = (some.0, (same some.0).0 some.1)

pub moved_same : (add del : ℕ) (K L : ℕ → Type 0) → Same K L → Same (Moved add del K) (Moved add del L)
moved_same add del K L same w = ((λ m. (m.0, (same m.0).0 m.1, m.2)), (λ m. (m.0, (same m.0).1 m.1, m.2)))

pub told_same : (f : ℕ) (b : Bool) (K L : ℕ → Type 0) → Same K L → Same (Told f b K) (Told f b L)
told_same f b K L same w = ((λ k. ((same w).0 k.0, k.1)), (λ l. ((same w).1 l.0, l.1)))

-- a question to what is known has the same answer at the same worlds
pub cover_map : {A B C D : Type 0} (r : Row) (K L : ℕ → Type 0) → Same K L → (A → C) → (B → D) → Either (Covers r K) A B → Either (Covers r L) C D
cover_map r K L same f g h = either_map (covers_same r K L same) (covers_same r L K (same_sym K L same)) f g h

pub possible_map : {A B C D : Type 0} (K L : ℕ → Type 0) → Same K L → (A → C) → (B → D) → Either (Possible K) A B → Either (Possible L) C D
possible_map K L same f g h = either_map (possible_same K L same) (possible_same L K (same_sym K L same)) f g h

-- ---- walks

stops : {n m k : ℕ} {s u v : Stop} → (s ≡ v) × (n ≡ k) → (u ≡ v) × (m ≡ k) → (n ≡ m) × (s ≡ u)
stops one other = (one.1 ∙ sym other.1, one.0 ∙ sym other.0)

module _ (goal : Row) where
  pub walks_same : (t : Steps) (K L : ℕ → Type 0) → Same K L → (vs : List Bool) (n : ℕ) (s : Stop) → Walks goal t K vs n s → Walks goal t L vs n s
  unfolding Walks
  walks_same (ends at) K L same vs n s h = (cover_map goal K L same (λ e. e) (λ e. e) h.0, h.1)
  walks_same (gaps at) K L same vs n s h = h
  walks_same (does at c add del t) K L same vs n s h =
      cover_map c K L same (walks_same t (Moved add del K) (Moved add del L) (moved_same add del K L same) vs n s) (λ e. e) h
  walks_same (reads at c f t e) K L same [] n s h = (cover_map c K L same (λ e. e) (λ e. e) h.0, h.1)
  walks_same (reads at c f t e) K L same (true ∷ vs) n s h =
      let told = told_same f true K L same in
      cover_map c K L same
      (possible_map (Told f true K) (Told f true L) told
      (λ w. (w.0, w.1, walks_same t (Told f true K) (Told f true L) told vs w.0 s w.2))
      (λ e. e))
      (λ e. e) h
  walks_same (reads at c f t e) K L same (false ∷ vs) n s h =
      let told = told_same f false K L same in
      cover_map c K L same
      (possible_map (Told f false K) (Told f false L) told
      (λ w. (w.0, w.1, walks_same e (Told f false K) (Told f false L) told vs w.0 s w.2))
      (λ e. e))
      (λ e. e) h

  pub walks_only : (t : Steps) (K : ℕ → Type 0) (vs : List Bool) (n m : ℕ) (s u : Stop) → Walks goal t K vs n s → Walks goal t K vs m u → (n ≡ m) × (s ≡ u)
  unfolding Walks
  walks_only (ends at) K vs n m s u h k = (h.1 ∙ sym k.1, either_both (λ p q. p ∙ sym q) (λ p q. p ∙ sym q) h.0 k.0)
  walks_only (gaps at) K vs n m s u h k = stops h k
  walks_only (does at c add del t) K vs n m s u h k = either_both (walks_only t (Moved add del K) vs n m s u) stops h k
  walks_only (reads at c f t e) K [] n m s u h k = (h.1 ∙ sym k.1, either_both (λ p q. p ∙ sym q) (λ p q. p ∙ sym q) h.0 k.0)
  walks_only (reads at c f t e) K (true ∷ vs) n m s u h k =
      either_both
      (either_both (λ p q. let on = walks_only t (Told f true K) vs p.0 q.0 s u p.2 q.2 in (p.1 ∙ ap suc on.0 ∙ sym q.1, on.1)) stops)
      stops h k
  walks_only (reads at c f t e) K (false ∷ vs) n m s u h k =
      either_both
      (either_both (λ p q. let on = walks_only e (Told f false K) vs p.0 q.0 s u p.2 q.2 in (p.1 ∙ ap suc on.0 ∙ sym q.1, on.1)) stops)
      stops h k

  pub agrees_same : (t : Steps) (K L : ℕ → Type 0) → Same K L → (vs : List Bool) → Agrees goal t K vs → Agrees goal t L vs
  agrees_same t K L same vs h = (h.0, walks_same t K L same vs (length vs) h.0 h.1, h.2)

  pub all_well_same : (t : Steps) (K L : ℕ → Type 0) → Same K L → AllEndWell goal t K → AllEndWell goal t L
  all_well_same t K L same h vs agrees = walks_same t K L same vs (length vs) _ (h vs (agrees_same t L K (same_sym K L same) vs agrees))
