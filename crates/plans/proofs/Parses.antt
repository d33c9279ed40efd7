-- The check of a plan's bytes, and the trees that they spell. Assumes nothing.
use Rattle.std.proofs.Common.{◌≡◌, ℕ, zero, suc, ◌+◌, ◌-◌, ◌<◌, ◌≤◌, Bool, cond, eqb, ltb, List, [], ◌∷◌, ◌++◌, length, get_or, drop, Ok, Err, Result, sym, refl, ap, ◌∙◌, subst, inl, inr, append_assoc, append-nil, arith, length-append, length-drop, le-ltb, eq-eqb, ne_eqb, eqb-true, MatchResult}
use borrow.Author.Tests.{eqb-false}
use Rattle.std.proofs.lemmas.Bool.{cond_both}
use Rattle.std.proofs.lemmas.List.{drop_all, drop_more}
use Rattle.std.proofs.lemmas.Result.{MatchResult-at_ok, MatchResult-at_err}
use Rattle.plans.specs.Trees.{Plan, finish, act, ask, gap, encode, past, Fits, Spells}
use Rattle.plans.specs.Checks.{bad, deep, next, follow, node_of, parse, plan_at, plan_of}
use Rattle.plans.specs.Flaws.{Flawed, no_byte, no_kind, no_action, not_doing, not_reading, ninth, in_rest, in_true, in_false, Refused, met, left_over, Placed}
use Rattle.plans.specs.declared.Flaw.{Flaw}
use Rattle.plans.specs.declared.Node.{Node}
use Rattle.plans.specs.declared.Node.TheVariants.{End, Doing, Reading, Gap}
use Rattle.plans.proofs.Nodes.{Spelled, spelled, node_none, node_other, node_is_doing, node_is_reading}
use Rattle.plans.proofs.Codes.{some_bytes}
use Rattle.plans.proofs.Places.{rest_two, long_one, long_two, rest_stands, true_stands, false_stands, fits_rest, fits_both}

-- what holds of a value and of a refusal, one step on
by_next : {A B : Type 0} (P : A → Type 0) (Q Q' : Flaw → Type 0) (R : B → Type 0) (x : Result A Flaw) (f : A → Result B Flaw)
    → MatchResult x P Q → ((e : Flaw) → Q e → Q' e) → ((v : A) → P v → MatchResult (f v) R Q') → MatchResult (next x f) R Q'
by_next P Q Q' R (Ok v) f h g k = k v h
by_next P Q Q' R (Err e) f h g k = g e h

-- two ways on that agree on what the value can be
same_next : {A B : Type 0} (P : A → Type 0) (Q : Flaw → Type 0) (x : Result A Flaw) (f g : A → Result B Flaw)
    → MatchResult x P Q → ((v : A) → P v → f v ≡ g v) → next x f ≡ next x g
same_next P Q (Ok v) f g h k = k v h
same_next P Q (Err e) f g h k = refl

module _ (doing reading : ℕ → Bool) where
  -- the plan p stands at offset i of s, below d readings, and ends just before j
  pub record Stands (s : List ℕ) (i d : ℕ) (p : Plan) (j : ℕ) : Type 0 where
    pub spells : drop i s ≡ encode p ++ drop j s
    pub ends : j ≡ past i p
    pub fits : Fits doing reading d p

  -- it ends within the bytes
  pub stands_within : (s : List ℕ) (i d : ℕ) (p : Plan) (j : ℕ) → Stands s i d p j → (i < j) × (j ≤ length s)
  stands_within s i d p j w =
      let long = ap length w.spells ∙ length-append (encode p) (drop j s) in
      (omega (arith, w.ends, some_bytes p), omega (arith, w.ends, length-drop i s, length-drop j s, some_bytes p))

  stands_end : (s : List ℕ) (i d : ℕ) → d ≤ 8 → Spelled doing reading s i d End → Stands s i d finish (i + 1)
  stands_end s i d low h = record { spells = h; ends = refl; fits = (tt, omega arith) }

  stands_gap : (s : List ℕ) (i d : ℕ) → d ≤ 8 → Spelled doing reading s i d Gap → Stands s i d gap (i + 1)
  stands_gap s i d low h = record { spells = h; ends = refl; fits = (tt, omega arith) }

  stands_act : (s : List ℕ) (i d a : ℕ) (p : Plan) (j : ℕ) → Spelled doing reading s i d (Doing a) → Stands s (i + 2) d p j → Stands s i d (act a p) j
  stands_act s i d a p j h w = record {
    spells = h.0 ∙ ap (λ (l : List ℕ). 1 ∷ a ∷ l) w.spells;
    ends = omega (arith, w.ends);
    fits = ((h.1, w.fits.0), w.fits.1);
  }

  stands_ask : (s : List ℕ) (i d a : ℕ) (p : Plan) (j : ℕ) (q : Plan) (k : ℕ) → Spelled doing reading s i d (Reading a)
      → Stands s (i + 2) (d + 1) p j → Stands s j (d + 1) q k → Stands s i d (ask a p q) k
  stands_ask s i d a p j q k h v w = record {
    spells = h.0 ∙ ap (λ (l : List ℕ). 2 ∷ a ∷ l) (v.spells ∙ ap (λ (l : List ℕ). encode p ++ l) w.spells ∙ sym (append_assoc (encode p) (encode q) (drop k s)));
    ends = omega (arith, w.ends, v.ends, length-append (encode p) (encode q));
    fits = ((h.1, v.fits.0, w.fits.0), omega (arith, v.fits.1, w.fits.1));
  }

  -- A plan that the definition gives stands there, within the limits, and a refusal is by the rules.
  pub sound : (k : ℕ) (s : List ℕ) (i d : ℕ) → length s ≤ k + i → d ≤ 8
      → MatchResult (parse doing reading k s i d) (λ x. Stands s i d x.0 x.1) (λ e. Flawed doing reading s e i d)
  unfolding parse
  sound zero s i d h low = no_byte (drop_all i s (omega arith)) refl
  sound (suc k) s i d h low =
      let P : ℕ → ℕ → Plan × ℕ → Type 0 = λ j c x. Stands s j c x.0 x.1 in
      let Q : ℕ → ℕ → Flaw → Type 0 = λ j c e. Flawed doing reading s e j c in
      by_next (Spelled doing reading s i d) (Q i d) (Q i d) (P i d) (node_of doing reading i d (drop i s)) _ (spelled doing reading s i d) (λ e q. q)
      (elim [
        | End ↦ λ n. stands_end s i d low n
        | Doing a ↦ λ n.
            by_next (P (i + 2) d) (Q (i + 2) d) (Q i d) (P i d) (parse doing reading k s (i + 2) d) _
            (sound k s (i + 2) d (omega arith) low)
            (λ e q. in_rest a (_, n.0) n.1 q)
            (λ x w. stands_act s i d a x.0 x.1 n w)
        | Reading a ↦ λ n.
            by_next (P (i + 2) (d + 1)) (Q (i + 2) (d + 1)) (Q i d) (P i d) (parse doing reading k s (i + 2) (d + 1)) _
            (sound k s (i + 2) (d + 1) (omega arith) (omega (arith, n.2)))
            (λ e q. in_true a (_, n.0) n.1 n.2 q)
            (λ x v.
            let on = stands_within s (i + 2) (d + 1) x.0 x.1 v in
            by_next (P x.1 (d + 1)) (Q x.1 (d + 1)) (Q i d) (P i d) (parse doing reading k s x.1 (d + 1)) _
            (sound k s x.1 (d + 1) (omega arith) (omega (arith, n.2)))
            (λ e q. in_false a x.0 (_, n.0 ∙ ap (λ (l : List ℕ). 2 ∷ a ∷ l) v.spells) n.1 n.2 v.fits (subst (λ (j : ℕ). Flawed doing reading s e j (d + 1)) v.ends q))
            (λ y w. stands_ask s i d a x.0 x.1 y.0 y.1 n v w))
        | Gap ↦ λ n. stands_gap s i d low n
      ])

  -- More than enough bytes to read make no difference.
  enough : (k m : ℕ) (s : List ℕ) (i d : ℕ) → length s ≤ k + i → length s ≤ m + i → parse doing reading k s i d ≡ parse doing reading m s i d
  unfolding parse
  enough zero zero s i d h g = refl
  enough zero (suc m) s i d h g = rw (node_none doing reading s i d (omega arith)) refl
  enough (suc k) zero s i d h g = rw (node_none doing reading s i d (omega arith)) refl
  enough (suc k) (suc m) s i d h g =
      same_next (Spelled doing reading s i d) (λ e. Flawed doing reading s e i d) (node_of doing reading i d (drop i s)) _ _ (spelled doing reading s i d)
      (elim [
        | End ↦ λ n. refl
        | Doing a ↦ λ n. ap (λ x. next x (λ r. Ok (act a r.0, r.1))) (enough k m s (i + 2) d (omega arith) (omega arith))
        | Reading a ↦ λ n.
            ap (λ x. next x (λ r. next (parse doing reading k s r.1 (d + 1)) (λ t. Ok (ask a r.0 t.0, t.1)))) (enough k m s (i + 2) (d + 1) (omega arith) (omega arith))
            ∙ same_next (λ x. Stands s (i + 2) (d + 1) x.0 x.1) (λ e. Flawed doing reading s e (i + 2) (d + 1)) (parse doing reading m s (i + 2) (d + 1)) _ _
            (sound m s (i + 2) (d + 1) (omega arith) (omega (arith, n.2)))
            (λ x w.
            let on = stands_within s (i + 2) (d + 1) x.0 x.1 w in
            ap (λ y. next y (λ t. Ok (ask a x.0 t.0, t.1))) (enough k m s x.1 (d + 1) (omega arith) (omega arith)))
        | Gap ↦ λ n. refl
      ])

  -- The definition with no count of the bytes left.
  pub unrolled : (s : List ℕ) (i d : ℕ) → plan_at doing reading s i d ≡ next (node_of doing reading i d (drop i s)) (follow (plan_at doing reading s) i d)
  unfolding plan_at parse
  unrolled s i d =
      let same : (j e : ℕ) → parse doing reading (length s) s j e ≡ plan_at doing reading s j e = λ j e. enough (length s) (length s - j) s j e (omega arith) (omega arith) in
      enough (length s - i) (suc (length s)) s i d (omega arith) (omega arith) ∙ (λ t. next (node_of doing reading i d (drop i s)) (follow (λ j e. same j e t) i d))

  -- what a node read at i leads to
  pub at_node : (s : List ℕ) (i d : ℕ) (n : Node) → node_of doing reading i d (drop i s) ≡ Ok n → plan_at doing reading s i d ≡ follow (plan_at doing reading s) i d n
  at_node s i d n e = unrolled s i d ∙ ap (λ x. next x (follow (plan_at doing reading s) i d)) e

  pub at_flaw : (s : List ℕ) (i d : ℕ) (f : Flaw) → node_of doing reading i d (drop i s) ≡ Err f → plan_at doing reading s i d ≡ Err f
  at_flaw s i d f e = unrolled s i d ∙ ap (λ x. next x (follow (plan_at doing reading s) i d)) e

  -- The bytes of a plan within the limits give that plan, whatever bytes follow.
  pub complete : (p : Plan) (s : List ℕ) (i d : ℕ) (rest : List ℕ) → Fits doing reading d p → drop i s ≡ encode p ++ rest → plan_at doing reading s i d ≡ Ok (p, past i p)
  unfolding node_of
  complete finish s i d rest f e = at_node s i d End (ap (node_of doing reading i d) e)
  complete (act a p) s i d rest f e =
      let sub = fits_rest doing reading d a p f in
      at_node s i d (Doing a) (node_is_doing doing reading s i d a (_, e) sub.0)
      ∙ ap (λ x. next x (λ r. Ok (act a r.0, r.1))) (complete p s (i + 2) d rest sub.1 (rest_stands s i a rest p e))
      ∙ ap (λ (j : ℕ). Ok (act a p, j)) (omega arith)
  complete (ask a p q) s i d rest f e =
      let sub = fits_both doing reading d a p q f in
      at_node s i d (Reading a) (node_is_reading doing reading s i d a (_, e) sub.0 sub.1)
      ∙ ap (λ x. next x (λ r. next (plan_at doing reading s r.1 (d + 1)) (λ t. Ok (ask a r.0 t.0, t.1))))
      (complete p s (i + 2) (d + 1) (encode q ++ rest) sub.2 (true_stands s i a rest p q e))
      ∙ ap (λ x. next x (λ t. Ok (ask a p t.0, t.1)))
      (complete q s (past (i + 2) p) (d + 1) rest sub.3 (false_stands s i a rest p q e))
      ∙ ap (λ (j : ℕ). Ok (ask a p q, j)) (omega (arith, length-append (encode p) (encode q)))
  complete gap s i d rest f e = at_node s i d Gap (ap (node_of doing reading i d) e)

  -- A refusal by the rules is the one that the definition gives.
  pub flaw_found : (s : List ℕ) (e : Flaw) {i d : ℕ} → Flawed doing reading s e i d → plan_at doing reading s i d ≡ Err e
  unfolding node_of
  flaw_found s e {i} {d} (no_byte h q) = at_flaw s i d e (ap (node_of doing reading i d) h ∙ ap Err (sym q))
  flaw_found s e {i} {d} (no_kind b h more q) =
      at_flaw s i d e (node_other doing reading s i d b _ (omega arith) (omega arith) (omega arith) (omega arith) h.1 ∙ ap Err (sym q))
  flaw_found s e {i} {d} (no_action b h (inl is) q) =
      at_flaw s i d e (ap (node_of doing reading i d) (h ∙ ap (λ (x : ℕ). x ∷ []) is) ∙ ap Err (sym q))
  flaw_found s e {i} {d} (no_action b h (inr is) q) =
      at_flaw s i d e (ap (node_of doing reading i d) (h ∙ ap (λ (x : ℕ). x ∷ []) is) ∙ ap Err (sym q))
  flaw_found s e {i} {d} (not_doing a h k q) =
      at_flaw s i d e (ap (node_of doing reading i d) h.1 ∙ ap (λ t. cond t (Ok (Doing a)) (Err (bad i))) k ∙ ap Err (sym q))
  flaw_found s e {i} {d} (not_reading a h k q) =
      at_flaw s i d e
      (ap (node_of doing reading i d) h.1 ∙ ap (λ t. cond t (cond (ltb d 8) (Ok (Reading a)) (Err (deep i))) (Err (bad i))) k ∙ ap Err (sym q))
  flaw_found s e {i} {d} (ninth a h k high q) =
      at_flaw s i d e
      (ap (node_of doing reading i d) h.1
      ∙ ap (λ t. cond t (cond (ltb d 8) (Ok (Reading a)) (Err (deep i))) (Err (bad i))) k
      ∙ ap (λ t. cond t (Ok (Reading a)) (Err (deep i))) (le-ltb d 8 high)
      ∙ ap Err (sym q))
  flaw_found s e {i} {d} (in_rest a h k f) =
      at_node s i d (Doing a) (node_is_doing doing reading s i d a h k) ∙ ap (λ x. next x (λ r. Ok (act a r.0, r.1))) (flaw_found s e f)
  flaw_found s e {i} {d} (in_true a h k low f) =
      at_node s i d (Reading a) (node_is_reading doing reading s i d a h k low)
      ∙ ap (λ x. next x (λ r. next (plan_at doing reading s r.1 (d + 1)) (λ t. Ok (ask a r.0 t.0, t.1)))) (flaw_found s e f)
  flaw_found s e {i} {d} (in_false a p h k low fits f) =
      at_node s i d (Reading a) (node_is_reading doing reading s i d a (_, h.1) k low)
      ∙ ap (λ x. next x (λ r. next (plan_at doing reading s r.1 (d + 1)) (λ t. Ok (ask a r.0 t.0, t.1))))
      (complete p s (i + 2) (d + 1) h.0 fits (rest_two s i 2 a _ h.1))
      ∙ ap (λ x. next x (λ t. Ok (ask a p t.0, t.1))) (flaw_found s e f)

  -- ---- whole plans

  -- The bytes of a plan within the limits give that plan.
  pub plan_complete : (s : List ℕ) (p : Plan) → Spells doing reading s p → plan_of doing reading s ≡ Ok p
  unfolding plan_of
  plan_complete s p h =
      ap (λ x. next x (λ r. cond (eqb r.1 (length s)) (Ok r.0) (Err (bad r.1)))) (complete p s 0 0 [] h.0 (h.1 ∙ sym (append-nil (encode p))))
      ∙ ap (λ t. cond t (Ok p) (Err (bad (past 0 p)))) (eq-eqb (past 0 p) (length s) (omega (arith, ap length h.1)))

  -- A refusal by the rules is the one that the definition gives.
  pub plan_flaw : (s : List ℕ) (e : Flaw) → Refused doing reading s e → plan_of doing reading s ≡ Err e
  unfolding plan_of
  plan_flaw s e (met f) = ap (λ x. next x (λ r. cond (eqb r.1 (length s)) (Ok r.0) (Err (bad r.1)))) (flaw_found s e f)
  plan_flaw s e (left_over p b fits h q) =
      let bytes = h.1 ∙ append_assoc (encode p) (b ∷ []) h.0 in
      let more : past 0 p ≡ length s → ⊥ = λ same. omega (arith, ap length bytes ∙ length-append (encode p) (b ∷ h.0)) in
      ap (λ x. next x (λ r. cond (eqb r.1 (length s)) (Ok r.0) (Err (bad r.1)))) (complete p s 0 0 (b ∷ h.0) fits bytes)
      ∙ ap (λ t. cond t (Ok p) (Err (bad (past 0 p)))) (ne_eqb (past 0 p) (length s) more)
      ∙ ap Err (sym q)

  -- A plan that the definition gives is spelled by the bytes and within the limits, and a refusal is by the rules.
  pub plan_sound : (s : List ℕ) → MatchResult (plan_of doing reading s) (Spells doing reading s) (Refused doing reading s)
  unfolding plan_of plan_at
  plan_sound s =
      by_next (λ x. Stands s 0 0 x.0 x.1) (λ e. Flawed doing reading s e 0 0) (Refused doing reading s) (Spells doing reading s) (plan_at doing reading s 0 0) _
      (sound (length s - 0) s 0 0 (omega arith) (omega arith))
      (λ e f. met f)
      (λ x w.
      cond_both (eqb x.1 (length s)) _ _ (λ r. MatchResult r (Spells doing reading s) (Refused doing reading s))
      (λ t.
      let end = eqb-true x.1 (length s) t in
      (w.fits, w.spells ∙ ap (λ (l : List ℕ). encode x.0 ++ l) (drop_all x.1 s (omega arith)) ∙ append-nil (encode x.0)))
      (λ t.
      let short : x.1 < length s = omega (arith, eqb-false x.1 (length s) t, (stands_within s 0 0 x.0 x.1 w).1) in
      left_over x.0 (get_or s x.1 0) w.fits
      (_, w.spells ∙ ap (λ (l : List ℕ). encode x.0 ++ l) (drop_more s x.1 0 short) ∙ sym (append_assoc (encode x.0) (get_or s x.1 0 ∷ []) (drop (x.1 + 1) s)))
      (ap bad w.ends)))

  pub plan_spells : (s : List ℕ) (p : Plan) → plan_of doing reading s ≡ Ok p → Spells doing reading s p
  plan_spells s p e = MatchResult-at_ok (Spells doing reading s) (Refused doing reading s) p e (plan_sound s)

  pub plan_refused : (s : List ℕ) (f : Flaw) → plan_of doing reading s ≡ Err f → Refused doing reading s f
  plan_refused s f e = MatchResult-at_err (Spells doing reading s) (Refused doing reading s) f e (plan_sound s)

  -- ---- the place of a refusal

  at_bad : (n i : ℕ) (e : Flaw) → i ≤ n → e ≡ bad i → Placed n e
  at_bad n i e h q = (inl (ap (λ f. f.refusal) q), omega (arith, ap (λ f. f.offset) q))

  flawed_placed : (s : List ℕ) (e : Flaw) {i d : ℕ} → i ≤ length s → Flawed doing reading s e i d → Placed (length s) e
  flawed_placed s e h (no_byte b q) = at_bad (length s) _ e h q
  flawed_placed s e h (no_kind b x more q) = at_bad (length s) _ e h q
  flawed_placed s e {i} h (no_action b x k q) = at_bad (length s) _ e (long_one s i b [] x) q
  flawed_placed s e h (not_doing a x k q) = at_bad (length s) _ e h q
  flawed_placed s e h (not_reading a x k q) = at_bad (length s) _ e h q
  flawed_placed s e h (ninth a x k high q) = (inr (ap (λ f. f.refusal) q), omega (arith, ap (λ f. f.offset) q))
  flawed_placed s e {i} h (in_rest a x k f) = flawed_placed s e (long_two s i 1 a _ x.1) f
  flawed_placed s e {i} h (in_true a x k low f) = flawed_placed s e (long_two s i 2 a _ x.1) f
  flawed_placed s e {i} h (in_false a p x k low fits f) =
      let room = long_two s i 2 a _ x.1 in
      let long = ap length (rest_two s i 2 a _ x.1) ∙ length-append (encode p) x.0 in
      flawed_placed s e (omega (arith, length-drop (i + 2) s)) f

  pub refused_placed : (s : List ℕ) (e : Flaw) → Refused doing reading s e → Placed (length s) e
  refused_placed s e (met f) = flawed_placed s e (omega arith) f
  refused_placed s e (left_over p b fits h q) =
      at_bad (length s) (past 0 p) e (omega (arith, ap length h.1 ∙ length-append (encode p ++ b ∷ []) h.0, length-append (encode p) (b ∷ []))) q
