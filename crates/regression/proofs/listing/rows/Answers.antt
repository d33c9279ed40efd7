use Rattle.std.proofs.Common.{◌≡◌, ℕ, true, ◌++◌, length, take, drop, IfOk, Ok, Err, Result, sym, refl, ap, ◌∙◌, subst, arith}
use Rattle.std.proofs.lemmas.List.{take_at}
use Rattle.std.proofs.lemmas.Slice.{drop-append-drop}
use Rattle.std.proofs.lemmas.Result.{err_from_is_err_and}
use Rattle.fluents.specs.declared.faults.Fault.{Fault}
use Rattle.procedure.specs.Procedures.{Procedure, procedure_of}
use Rattle.meaning.specs.Rows.{rows_of}
use Rattle.meaning.specs.Steps.{tree_of}
use Rattle.meaning.proofs.Coverage.{rows_exact, rows_only}
use Rattle.meaning.proofs.Covering.{covered_safe}
use Rattle.meaning.proofs.Listing.{rows_list}
use Rattle.meaning.proofs.Loading.{goal_state, tree_proper}
use Rattle.regression.proofs.Roots.{rows_at, root_node, stands_root}
use Rattle.regression.proofs.listing.rows.Goals as goal

pub rows_at-requires : goal.rows_at-requires
rows_at-requires c = stands_root c.args.loaded.now c.plan.result.place (λ p is. (c.plan.ensures.value p is).1)

-- a refused call promises nothing of rows
no_rows : {A : Type 0} (r : Result A Fault) (e : Fault) (P : A → Type 0) → r ≡ Err e → IfOk r P
no_rows r e P is = subst (λ x. IfOk x P) (sym is) tt

pub returns-in_err-rooted : goal.returns-in_err-rooted
returns-in_err-rooted c =
    let e = err_from_is_err_and c.from_residual.result c.from_residual.ensures.1 in
    record {
      value = λ p is.
          let place = (c.plan.ensures.value p is).1 in
          rw (e.1, e.2) (
            sym (ap (λ (i : ℕ). rows_at p i p.plan) place) ∙ c.in_err-rooted.ensures p is p.plan (root_node p c.plan.result.place place),
            refl,
          );
      list = λ p is. no_rows _ e.0 _ e.1;
      safe = λ p is. no_rows _ e.0 _ e.1;
      exact = λ p is. no_rows _ e.0 _ e.1;
      only = λ p is. no_rows _ e.0 _ e.1;
    }

pub returns : goal.returns
returns c =
    let rs = c.as_slice-rows.result.now in
    let written = c.copy_from_slice.ensures.after in
    let file = c.args.loaded.now.file.now in
    let listed : (p : Procedure) → procedure_of file ≡ Ok p → rows_of p.goal (tree_of p) ≡ Ok (take (length rs) (c.copy_from_slice.new.self ++ drop (length rs) c.args.out.now)) = λ p is.
    let place = (c.plan.ensures.value p is).1 in
    let got = c.in_ok-rooted.ensures p is p.plan (root_node p c.plan.result.place place) in
    sym (ap (λ (i : ℕ). rows_at p i p.plan) place) ∙ got.0
    ∙ ap Ok (sym c.as_slice-rows.ensures.value ∙ sym (take_at c.copy_from_slice.new.self _ (length rs) (ap length written) ∙ written)) in
    record {
      value = λ p is. (
        listed p is,
        c.as_slice-rows.ensures.fits,
        drop-append-drop (length rs) c.args.out.now c.copy_from_slice.new.self (length rs) (omega arith) (omega (arith, ap length written)),
      );
      list = λ p is. rows_list p.goal (tree_of p) _ (goal_state file p is) (tree_proper file p is) (listed p is);
      safe = λ p is K. covered_safe p.goal (tree_of p) _ (listed p is) (λ w. K w ≡ true);
      exact = λ p is. rows_exact p.goal (tree_of p) _ (goal_state file p is) (tree_proper file p is) (listed p is);
      only = λ p is. rows_only p.goal (tree_of p) _ (goal_state file p is) (tree_proper file p is) (listed p is);
    }
