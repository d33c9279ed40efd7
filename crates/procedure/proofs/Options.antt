-- Options made results, and results made options. Assumes nothing.
use Rattle.std.proofs.Common.{◌≡◌, Some, None, Ok, Err, Option, Result, sym, refl, ap, ◌∙◌, subst, MatchOption, MatchResult}
use Rattle.std.specs.Option.{ok_or}
use Rattle.std.specs.Result.{result_ok, IsErrAnd}
use Rattle.frames.proofs.Reading.{some_none, some_same, ok_err}
use Rattle.procedure.proofs.Walking.{ok_same}

-- what holds of an option, by the result that `ok_or` makes of it
module _ {A E : Type 0} (P : Type 0) (Q : A → Type 0) where
  pub was_none : (o : Option A) (e f : E) → MatchOption o P Q → ok_or o e ≡ Err f → P × (f ≡ e)
  was_none None e f m is = (m, cc)
  was_none (Some x) e f m is = ok_err is

  pub was_some : (o : Option A) (e : E) (x : A) → MatchOption o P Q → ok_or o e ≡ Ok x → Q x
  was_some None e x m is = ok_err (sym is)
  was_some (Some y) e x m is = subst Q (ok_same is) m

  pub answered : (R : A → Type 0) (S : E → Type 0) (o : Option A) (e : E) (r : Result A E) → MatchOption o P Q → r ≡ ok_or o e
      → (P → S e) → ((x : A) → Q x → R x) → MatchResult r R S
  answered R S None e r m is bad good = subst (λ v. MatchResult v R S) (sym is) (bad m)
  answered R S (Some x) e r m is bad good = subst (λ v. MatchResult v R S) (sym is) (good x m)

-- what holds of a result, by the option that `ok` makes of it
module _ {A E : Type 0} (P : A → Type 0) (Q : E → Type 0) where
  pub was_err : (r : Result A E) → MatchResult r P Q → result_ok r ≡ None → (e : E) × Q e
  was_err (Ok x) m is = some_none is
  was_err (Err e) m is = (e, m)

  pub was_ok : (r : Result A E) (x : A) → MatchResult r P Q → result_ok r ≡ Some x → P x
  was_ok (Ok y) x m is = subst P (some_same is) m
  was_ok (Err e) x m is = some_none (sym is)

  pub kept_ok : (N : Type 0) (R : A → Type 0) (r : Result A E) (o : Option A) → MatchResult r P Q → o ≡ result_ok r
      → ((e : E) → Q e → N) → ((x : A) → P x → R x) → MatchOption o N R
  kept_ok N R (Ok x) o m is bad good = subst (λ v. MatchOption v N R) (sym is) (good x m)
  kept_ok N R (Err e) o m is bad good = subst (λ v. MatchOption v N R) (sym is) (bad e m)

-- what holds of a result whose error was mapped
module _ {A E D : Type 0} (N : E → D → Type 0) where
  pub mapped_err : (r : Result A E) (m : Result A D) (d : D) → MatchResult r (λ x. m ≡ Ok x) (λ e. IsErrAnd m (N e)) → m ≡ Err d → (e : E) × (r ≡ Err e) × N e d
  mapped_err (Ok x) m d h is = ok_err (sym h ∙ is)
  mapped_err (Err e) m d h is = (e, refl, err_and m d h is)
    where
      err_and : (m : Result A D) (d : D) → IsErrAnd m (N e) → m ≡ Err d → N e d
      err_and (Ok x) d h is = ok_err is
      err_and (Err f) d h is = let same : f ≡ d = cc in subst (N e) same h

  pub mapped_ok : (r : Result A E) (m : Result A D) (x : A) → MatchResult r (λ y. m ≡ Ok y) (λ e. IsErrAnd m (N e)) → m ≡ Ok x → r ≡ Ok x
  mapped_ok (Ok y) m x h is = ap Ok (ok_same (sym h ∙ is))
  mapped_ok (Err e) (Ok y) x h is = absurd h
  mapped_ok (Err e) (Err f) x h is = ok_err (sym is)
