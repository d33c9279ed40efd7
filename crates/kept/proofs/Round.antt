-- The one machine value of a struct of one field. Assumes nothing.
use Rattle.std.proofs.Common.{◌≡◌, T, List, [], ◌∷◌, refl}
use mir.Syntax.{Ty}
use mir.Val.{Val, vstruct, vcons, vnil, has_ty, WT}
use denote.Laws.{Typed}

abbrev pub Good : Ty → Val → Type 0
Good τ v = T (has_ty τ v) × WT v

pub one : (τ : Ty) (vs : List Val) → Typed (τ ∷ []) vs → (v : Val) × (vs ≡ v ∷ []) × Good τ v
one τ [] t = absurd t
one τ (v ∷ []) t = (v, refl, t.0)
one τ (v ∷ w ∷ vs) t = absurd t.1

abbrev pub round : Val → Val
round v = vstruct (vcons v vnil)
