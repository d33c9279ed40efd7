-- What an accepted node says of the bytes that it was read from, and which bytes are accepted.
-- Assumes nothing.
use Rattle.std.proofs.Common.{◌≡◌, ℕ, ◌+◌, ◌<◌, ◌≤◌, Bool, true, cond, eqb, ltb, List, [], ◌∷◌, length, get_or, drop, Ok, Err, Result, sym, refl, ap, ◌∙◌, subst, inl, inr, arith, ltb-false, ltb-true, lt-ltb, ne_eqb, eqb-true, MatchResult}
use borrow.Author.Tests.{eqb-false}
use Rattle.std.proofs.lemmas.List.{at_drop_all, at_drop_more}
use Rattle.std.proofs.lemmas.Bool.{cond_both}
use Rattle.std.proofs.lemmas.Bool.Decides.{nat_tests}
use Rattle.plans.specs.Checks.{bad, deep, doing_node, reading_node, node_of}
use Rattle.plans.specs.Flaws.{At, Flawed, no_byte, no_kind, no_action, not_doing, not_reading, ninth}
use Rattle.plans.specs.declared.Flaw.{Flaw}
use Rattle.plans.specs.declared.Node.{Node}
use Rattle.plans.specs.declared.Node.TheVariants.{End, Doing, Reading, Gap}
use Rattle.plans.proofs.Places.{rest_one, rest_two}

module _ (doing reading : ℕ → Bool) where
  -- the bytes that the node n, read from the offset i of s below d readings, was read from
  abbrev pub Spelled : List ℕ → ℕ → ℕ → Node → Type 0
  Spelled s i d End = drop i s ≡ 0 ∷ drop (i + 1) s
  Spelled s i d (Doing a) = (drop i s ≡ 1 ∷ a ∷ drop (i + 2) s) × (doing a ≡ true)
  Spelled s i d (Reading a) = (drop i s ≡ 2 ∷ a ∷ drop (i + 2) s) × (reading a ≡ true) × (d < 8)
  Spelled s i d Gap = drop i s ≡ 3 ∷ drop (i + 1) s

  -- what was read at offset i of s: a node, or a refusal by one of the rules of a node
  abbrev Read : List ℕ → ℕ → ℕ → Result Node Flaw → Type 0
  Read s i d r = MatchResult r (Spelled s i d) (λ e. Flawed doing reading s e i d)

  doing_spelled : (s : List ℕ) (i d : ℕ) (bs : List ℕ) → drop i s ≡ 1 ∷ bs → Read s i d (doing_node doing reading i bs)
  doing_spelled s i d [] e = no_action 1 e (inl refl) refl
  doing_spelled s i d (a ∷ bs) e =
      cond_both (doing a) _ _ (Read s i d)
      (λ h. (subst (λ l. drop i s ≡ 1 ∷ a ∷ l) (sym (rest_two s i 1 a bs e)) e, h))
      (λ h. not_doing a (bs, e) h refl)

  reading_spelled : (s : List ℕ) (i d : ℕ) (bs : List ℕ) → drop i s ≡ 2 ∷ bs → Read s i d (reading_node doing reading i d bs)
  reading_spelled s i d [] e = no_action 2 e (inr refl) refl
  reading_spelled s i d (a ∷ bs) e =
      cond_both (reading a) _ _ (Read s i d)
      (λ h.
      cond_both (ltb d 8) _ _ (Read s i d)
      (λ low. (subst (λ l. drop i s ≡ 2 ∷ a ∷ l) (sym (rest_two s i 2 a bs e)) e, h, ltb-true d 8 low))
      (λ high. ninth a (bs, e) h (ltb-false d 8 high) refl))
      (λ h. not_reading a (bs, e) h refl)

  spelled_from : (s : List ℕ) (i d : ℕ) (bs : List ℕ) → drop i s ≡ bs → Read s i d (node_of doing reading i d bs)
  unfolding node_of
  spelled_from s i d [] e = no_byte e refl
  spelled_from s i d (b ∷ bs) e =
      let here : (n : ℕ) → eqb b n ≡ true → drop i s ≡ n ∷ bs = λ n t. e ∙ ap (λ (x : ℕ). x ∷ bs) (eqb-true b n t) in
      let leaf : (n : ℕ) → eqb b n ≡ true → drop i s ≡ n ∷ drop (i + 1) s = λ n t. subst (λ l. drop i s ≡ n ∷ l) (sym (rest_one s i n bs (here n t))) (here n t) in
      cond_both (eqb b 0) _ _ (Read s i d) (leaf 0) λ f₀.
      cond_both (eqb b 1) _ _ (Read s i d) (λ t. doing_spelled s i d bs (here 1 t)) λ f₁.
      cond_both (eqb b 2) _ _ (Read s i d) (λ t. reading_spelled s i d bs (here 2 t)) λ f₂.
      cond_both (eqb b 3) _ _ (Read s i d) (leaf 3) λ f₃.
      no_kind b (bs, e) (omega (arith, eqb-false b 0 f₀, eqb-false b 1 f₁, eqb-false b 2 f₂, eqb-false b 3 f₃)) refl

  -- an accepted node was spelled by the bytes at its offset, and a refused one breaks a rule
  pub spelled : (s : List ℕ) (i d : ℕ) → MatchResult (node_of doing reading i d (drop i s)) (Spelled s i d) (λ e. Flawed doing reading s e i d)
  spelled s i d = spelled_from s i d (drop i s) refl

  -- ---- what the node is, by the bytes that are left

  pub node_none : (s : List ℕ) (i d : ℕ) → length s ≤ i → node_of doing reading i d (drop i s) ≡ Err (bad i)
  unfolding node_of
  node_none s i d h = at_drop_all (node_of doing reading i d) s i h

  pub node_other : (s : List ℕ) (i d b : ℕ) (l : List ℕ) → (b ≡ 0 → ⊥) → (b ≡ 1 → ⊥) → (b ≡ 2 → ⊥) → (b ≡ 3 → ⊥) → drop i s ≡ b ∷ l
      → node_of doing reading i d (drop i s) ≡ Err (bad i)
  unfolding node_of
  node_other s i d b l n₀ n₁ n₂ n₃ e =
      ap (node_of doing reading i d) e ∙ simp (ne_eqb b 0 n₀, ne_eqb b 1 n₁, ne_eqb b 2 n₂, ne_eqb b 3 n₃)

  pub node_is_doing : (s : List ℕ) (i d a : ℕ) → At s i (1 ∷ a ∷ []) → doing a ≡ true → node_of doing reading i d (drop i s) ≡ Ok (Doing a)
  unfolding node_of
  node_is_doing s i d a h k = ap (node_of doing reading i d) h.1 ∙ ap (λ t. cond t (Ok (Doing a)) (Err (bad i))) k

  pub node_is_reading : (s : List ℕ) (i d a : ℕ) → At s i (2 ∷ a ∷ []) → reading a ≡ true → d < 8 → node_of doing reading i d (drop i s) ≡ Ok (Reading a)
  unfolding node_of
  node_is_reading s i d a h k low =
      ap (node_of doing reading i d) h.1
      ∙ ap (λ t. cond t (cond (ltb d 8) (Ok (Reading a)) (Err (deep i))) (Err (bad i))) k
      ∙ ap (λ t. cond t (Ok (Reading a)) (Err (deep i))) (lt-ltb d 8 low)

  -- ---- what is read at offset i, by the bytes there

  pub read_some : (s : List ℕ) (i d : ℕ) → i < length s
      → node_of doing reading i d (drop i s)
      ≡ cond (eqb (get_or s i 0) 0) (Ok End)
      (cond (eqb (get_or s i 0) 1) (doing_node doing reading i (drop (i + 1) s))
      (cond (eqb (get_or s i 0) 2) (reading_node doing reading i d (drop (i + 1) s))
      (cond (eqb (get_or s i 0) 3) (Ok Gap) (Err (bad i)))))
  unfolding node_of
  read_some s i d h = at_drop_more (node_of doing reading i d) s i 0 h

  pub doing_none : (s : List ℕ) (i : ℕ) → length s ≤ i + 1 → doing_node doing reading i (drop (i + 1) s) ≡ Err (bad (i + 1))
  doing_none s i h = at_drop_all (doing_node doing reading i) s (i + 1) h

  pub doing_some : (s : List ℕ) (i : ℕ) → i + 1 < length s
      → doing_node doing reading i (drop (i + 1) s) ≡ cond (doing (get_or s (i + 1) 0)) (Ok (Doing (get_or s (i + 1) 0))) (Err (bad i))
  doing_some s i h = at_drop_more (doing_node doing reading i) s (i + 1) 0 h

  pub reading_none : (s : List ℕ) (i d : ℕ) → length s ≤ i + 1 → reading_node doing reading i d (drop (i + 1) s) ≡ Err (bad (i + 1))
  reading_none s i d h = at_drop_all (reading_node doing reading i d) s (i + 1) h

  pub reading_some : (s : List ℕ) (i d : ℕ) → i + 1 < length s
      → reading_node doing reading i d (drop (i + 1) s) ≡ cond (reading (get_or s (i + 1) 0)) (cond (ltb d 8) (Ok (Reading (get_or s (i + 1) 0))) (Err (deep i))) (Err (bad i))
  reading_some s i d h = at_drop_more (reading_node doing reading i d) s (i + 1) 0 h

-- how a node is read, byte by byte
pub ruleset reads = (node_none, read_some, doing_none, doing_some, reading_none, reading_some, nat_tests)
