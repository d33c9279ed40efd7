-- No plan's bytes begin another plan's, and two plans with the same bytes are one. Assumes nothing.
use Rattle.std.proofs.Common.{◌≡◌, ℕ, ◌<◌, List, [], ◌++◌, length, sym, refl, ◌∙◌, ap₂, append_assoc, append-nil, arith}
use Rattle.plans.specs.Trees.{Plan, finish, act, ask, gap, encode}

pub some_bytes : (p : Plan) → 0 < length (encode p)
some_bytes finish = omega arith
some_bytes (act a p) = omega arith
some_bytes (ask a p q) = omega arith
some_bytes gap = omega arith

-- two plans, each with bytes after it
pub prefix_free : (p q : Plan) (x y : List ℕ) → encode p ++ x ≡ encode q ++ y → (p ≡ q) × (x ≡ y)
prefix_free finish finish x y e = (refl, cc e)
prefix_free finish (act b q) x y e = cc e
prefix_free finish (ask b q q') x y e = cc e
prefix_free finish gap x y e = cc e
prefix_free (act a p) finish x y e = cc e
prefix_free (act a p) (act b q) x y e =
    let same : encode p ++ x ≡ encode q ++ y = cc e in
    let name : a ≡ b = cc e in
    let ih = prefix_free p q x y same in
    (ap₂ act name ih.0, ih.1)
prefix_free (act a p) (ask b q q') x y e = cc e
prefix_free (act a p) gap x y e = cc e
prefix_free (ask a p p') finish x y e = cc e
prefix_free (ask a p p') (act b q) x y e = cc e
prefix_free (ask a p p') (ask b q q') x y e =
    let name : a ≡ b = cc e in
    let same : (encode p ++ encode p') ++ x ≡ (encode q ++ encode q') ++ y = cc e in
    let first = prefix_free p q _ _ (sym (append_assoc (encode p) (encode p') x) ∙ same ∙ append_assoc (encode q) (encode q') y) in
    let second = prefix_free p' q' x y first.1 in
    ((λ t. ask (name t) (first.0 t) (second.0 t)), second.1)
prefix_free (ask a p p') gap x y e = cc e
prefix_free gap finish x y e = cc e
prefix_free gap (act b q) x y e = cc e
prefix_free gap (ask b q q') x y e = cc e
prefix_free gap gap x y e = (refl, cc e)

pub encode_injective : (p q : Plan) → encode p ≡ encode q → p ≡ q
encode_injective p q e = (prefix_free p q [] [] (append-nil (encode p) ∙ e ∙ sym (append-nil (encode q)))).0
