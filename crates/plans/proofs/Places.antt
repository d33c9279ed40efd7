-- Where the parts of a plan stand, and what its parts are within. Assumes nothing.
use Rattle.std.proofs.Common.{◌≡◌, ℕ, ◌+◌, ◌<◌, ◌≤◌, Bool, true, List, ◌∷◌, ◌++◌, length, drop, sym, refl, ap, ◌∙◌, subst, inl, inr, append_assoc, arith, length-append, length-drop}
use Rattle.std.proofs.lemmas.List.{drop-drop, drop_at}
use Rattle.plans.specs.Trees.{Plan, finish, act, ask, gap, encode, past, NodeAt, Fits}

-- ---- what is left behind the first bytes of what is left

pub rest_one : (s : List ℕ) (i b : ℕ) (bs : List ℕ) → drop i s ≡ b ∷ bs → drop (i + 1) s ≡ bs
rest_one s i b bs e = sym (drop-drop 1 i s) ∙ ap (λ (l : List ℕ). drop 1 l) e

pub rest_two : (s : List ℕ) (i b a : ℕ) (bs : List ℕ) → drop i s ≡ b ∷ a ∷ bs → drop (i + 2) s ≡ bs
rest_two s i b a bs e = sym (drop-drop 2 i s) ∙ ap (λ (l : List ℕ). drop 2 l) e

pub long_one : (s : List ℕ) (i b : ℕ) (bs : List ℕ) → drop i s ≡ b ∷ bs → i + 1 ≤ length s
long_one s i b bs e = omega (arith, length-drop i s, ap length e)

pub long_two : (s : List ℕ) (i b a : ℕ) (bs : List ℕ) → drop i s ≡ b ∷ a ∷ bs → i + 2 ≤ length s
long_two s i b a bs e = omega (arith, length-drop i s, ap length e)

-- ---- the parts of a plan that stands at offset i of s

module _ (s : List ℕ) (i a : ℕ) (rest : List ℕ) where
  pub rest_stands : (p : Plan) → drop i s ≡ encode (act a p) ++ rest → drop (i + 2) s ≡ encode p ++ rest
  rest_stands p e = rest_two s i 1 a _ e

  pub true_stands : (p q : Plan) → drop i s ≡ encode (ask a p q) ++ rest → drop (i + 2) s ≡ encode p ++ (encode q ++ rest)
  true_stands p q e = rest_two s i 2 a _ e ∙ append_assoc (encode p) (encode q) rest

  pub false_stands : (p q : Plan) → drop i s ≡ encode (ask a p q) ++ rest → drop (past (i + 2) p) s ≡ encode q ++ rest
  false_stands p q e =
      sym (drop-drop (length (encode p)) (i + 2) s)
      ∙ ap (λ (l : List ℕ). drop (length (encode p)) l) (true_stands p q e)
      ∙ drop_at (encode p) (encode q ++ rest) (length (encode p)) refl

-- ---- every node of a plan that stands at offset i of s stands at its place, with its bytes

here : (s : List ℕ) (i j : ℕ) (p q : Plan) (rest : List ℕ) → drop i s ≡ encode p ++ rest → (j ≡ i) × (q ≡ p) → (more : List ℕ) × (drop j s ≡ encode q ++ more)
here s i j p q rest e h = (rest, ap (λ (n : ℕ). drop n s) h.0 ∙ e ∙ ap (λ x. encode x ++ rest) (sym h.1))

pub node_stands : (p : Plan) (s : List ℕ) (i j : ℕ) (q : Plan) (rest : List ℕ) → drop i s ≡ encode p ++ rest → NodeAt i p j q → (more : List ℕ) × (drop j s ≡ encode q ++ more)
node_stands finish s i j q rest e h = here s i j finish q rest e h
node_stands (act a p) s i j q rest e (inl h) = here s i j (act a p) q rest e h
node_stands (act a p) s i j q rest e (inr h) = node_stands p s (i + 2) j q rest (rest_stands s i a rest p e) h
node_stands (ask a p r) s i j q rest e (inl h) = here s i j (ask a p r) q rest e h
node_stands (ask a p r) s i j q rest e (inr (inl h)) = node_stands p s (i + 2) j q (encode r ++ rest) (true_stands s i a rest p r e) h
node_stands (ask a p r) s i j q rest e (inr (inr h)) = node_stands r s (past (i + 2) p) j q rest (false_stands s i a rest p r e) h
node_stands gap s i j q rest e h = here s i j gap q rest e h

-- ---- the places of the nodes of a plan whose first node stands at i

pub node_root : (p : Plan) (i : ℕ) → NodeAt i p i p
node_root finish i = (refl, refl)
node_root (act a p) i = inl (refl, refl)
node_root (ask a p q) i = inl (refl, refl)
node_root gap i = (refl, refl)

same_node : (i j k : ℕ) (p q r : Plan) → (j ≡ i) × (q ≡ p) → NodeAt j q k r → NodeAt i p k r
same_node i j k p q r h n = subst (λ x. NodeAt i x k r) h.1 (subst (λ (x : ℕ). NodeAt x q k r) h.0 n)

-- a node of a part of the plan is a node of the plan
pub node_under : (p : Plan) (i j : ℕ) (q : Plan) (k : ℕ) (r : Plan) → NodeAt i p j q → NodeAt j q k r → NodeAt i p k r
node_under finish i j q k r h n = same_node i j k finish q r h n
node_under (act a p) i j q k r (inl h) n = same_node i j k (act a p) q r h n
node_under (act a p) i j q k r (inr h) n = inr (node_under p (i + 2) j q k r h n)
node_under (ask a p e) i j q k r (inl h) n = same_node i j k (ask a p e) q r h n
node_under (ask a p e) i j q k r (inr (inl h)) n = inr (inl (node_under p (i + 2) j q k r h n))
node_under (ask a p e) i j q k r (inr (inr h)) n = inr (inr (node_under e (past (i + 2) p) j q k r h n))
node_under gap i j q k r h n = same_node i j k gap q r h n

-- what follows a node of the plan: the rest of a doing node, the plan for true and the plan for false of a reading node
module _ (p : Plan) (i j a : ℕ) where
  pub node_rest : (q : Plan) → NodeAt i p j (act a q) → NodeAt i p (j + 2) q
  node_rest q h = node_under p i j (act a q) (j + 2) q h (inr (node_root q (j + 2)))

  pub node_true : (t e : Plan) → NodeAt i p j (ask a t e) → NodeAt i p (j + 2) t
  node_true t e h = node_under p i j (ask a t e) (j + 2) t h (inr (inl (node_root t (j + 2))))

  pub node_false : (t e : Plan) → NodeAt i p j (ask a t e) → NodeAt i p (past (j + 2) t) e
  node_false t e h = node_under p i j (ask a t e) (past (j + 2) t) e h (inr (inr (node_root e (past (j + 2) t))))

same_within : (i j : ℕ) (p q : Plan) → (j ≡ i) × (q ≡ p) → (i ≤ j) × (past j q ≤ past i p)
same_within i j p q h = (omega (arith, h.0), omega (arith, h.0, ap (λ x. length (encode x)) h.1))

-- the bytes of a node lie between the first byte of the plan and its end
pub node_within : (p : Plan) (i j : ℕ) (q : Plan) → NodeAt i p j q → (i ≤ j) × (past j q ≤ past i p)
node_within finish i j q h = same_within i j finish q h
node_within (act a p) i j q (inl h) = same_within i j (act a p) q h
node_within (act a p) i j q (inr h) = let ih = node_within p (i + 2) j q h in (omega (arith, ih.0), omega (arith, ih.1))
node_within (ask a p e) i j q (inl h) = same_within i j (ask a p e) q h
node_within (ask a p e) i j q (inr (inl h)) =
    let ih = node_within p (i + 2) j q h in
    (omega (arith, ih.0), omega (arith, ih.1, length-append (encode p) (encode e)))
node_within (ask a p e) i j q (inr (inr h)) =
    let ih = node_within e (past (i + 2) p) j q h in
    (omega (arith, ih.0), omega (arith, ih.1, length-append (encode p) (encode e)))
node_within gap i j q h = same_within i j gap q h

-- ---- the parts of a plan within the limits

module _ (doing reading : ℕ → Bool) (d a : ℕ) where
  pub fits_rest : (p : Plan) → Fits doing reading d (act a p) → (doing a ≡ true) × Fits doing reading d p
  fits_rest p f = (f.0.0, (f.0.1, f.1))

  pub fits_both : (p q : Plan) → Fits doing reading d (ask a p q)
      → (reading a ≡ true) × (d < 8) × Fits doing reading (d + 1) p × Fits doing reading (d + 1) q
  fits_both p q f = (f.0.0, omega (arith, f.1), (f.0.1, omega (arith, f.1)), (f.0.2, omega (arith, f.1)))
