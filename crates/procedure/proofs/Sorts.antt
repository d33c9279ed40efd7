-- Which actions are of which sort, as two sets. Assumes nothing.
use Rattle.std.proofs.Common.{◌≡◌, ℕ, zero, suc, ◌*◌, ◌%◌, ◌^◌, ◌<◌, Bool, true, false, ◌&&◌, ◌||◌, eqb, List, [], ◌∷◌, ◌++◌, length, sym, refl, ap, ◌∙◌}
use lib.Bits.{bit_or}
use lib.Dec.{eqb-zero-suc, eqb-suc-zero, eqb-suc-suc}
use Rattle.std.proofs.lemmas.Nat.{one_shl}
use Rattle.fluents.specs.Sets.{bit}
use Rattle.fluents.proofs.Bits.{bit-or, bit-only}
use Rattle.procedure.specs.Acts.{is_do, is_read}
use Rattle.procedure.specs.Procedures.{Act, doing, reading, does_at, reads_at}

and_yes : (x y b : Bool) → b ≡ true → (x || y) ≡ (x || (y && b))
and_yes x true b e = ap (λ z. x || z) (sym e)
and_yes x false b e = refl

and_not : (x y b : Bool) → b ≡ false → x ≡ (x || (y && b))
and_not true y b e = refl
and_not false true b e = sym e
and_not false false b e = refl

-- action k joins the set
pub joins : (set k a : ℕ) (b : Bool) → k < 64 → b ≡ true → bit (bit_or set (1 * 2 ^ k % 2 ^ 64)) a ≡ (bit set a || (eqb a k && b))
joins set k a b h e =
    ap (λ (n : ℕ). bit (bit_or set n) a) (one_shl k 64 h) ∙ bit-or set (2 ^ k) a ∙ ap (λ x. bit set a || x) (bit-only k a)
    ∙ and_yes (bit set a) (eqb a k) b e

-- action k does not
pub stays_out : (set k a : ℕ) (b : Bool) → b ≡ false → bit set a ≡ (bit set a || (eqb a k && b))
stays_out set k a b e = and_not (bit set a) (eqb a k) b e

-- one action more
pub does_more : (acts : List Act) (act : Act) (a : ℕ) → does_at (acts ++ (act ∷ [])) a ≡ (does_at acts a || (eqb a (length acts) && is_do act))
does_more [] (doing row add del) zero = refl
does_more [] (reading row fluent) zero = refl
does_more [] (doing row add del) (suc a) = ap (λ x. x && true) (sym (eqb-suc-zero a))
does_more [] (reading row fluent) (suc a) = ap (λ x. x && false) (sym (eqb-suc-zero a))
does_more (doing row add del ∷ acts) act zero = refl
does_more (reading row fluent ∷ acts) act zero = ap (λ x. x && is_do act) (sym (eqb-zero-suc (length acts)))
does_more (doing row add del ∷ acts) act (suc a) = does_more acts act a ∙ ap (λ x. does_at acts a || (x && is_do act)) (sym (eqb-suc-suc a (length acts)))
does_more (reading row fluent ∷ acts) act (suc a) = does_more acts act a ∙ ap (λ x. does_at acts a || (x && is_do act)) (sym (eqb-suc-suc a (length acts)))

pub reads_more : (acts : List Act) (act : Act) (a : ℕ) → reads_at (acts ++ (act ∷ [])) a ≡ (reads_at acts a || (eqb a (length acts) && is_read act))
reads_more [] (doing row add del) zero = refl
reads_more [] (reading row fluent) zero = refl
reads_more [] (doing row add del) (suc a) = ap (λ x. x && false) (sym (eqb-suc-zero a))
reads_more [] (reading row fluent) (suc a) = ap (λ x. x && true) (sym (eqb-suc-zero a))
reads_more (doing row add del ∷ acts) act zero = ap (λ x. x && is_read act) (sym (eqb-zero-suc (length acts)))
reads_more (reading row fluent ∷ acts) act zero = refl
reads_more (doing row add del ∷ acts) act (suc a) = reads_more acts act a ∙ ap (λ x. reads_at acts a || (x && is_read act)) (sym (eqb-suc-suc a (length acts)))
reads_more (reading row fluent ∷ acts) act (suc a) = reads_more acts act a ∙ ap (λ x. reads_at acts a || (x && is_read act)) (sym (eqb-suc-suc a (length acts)))
