-- The plan of a loaded file, and where it lies. Assumes nothing.
use Rattle.std.proofs.Common.{◌≡◌, ℕ, ◌+◌, ◌≤◌, List, length, Ok, sym, ap, ◌∙◌, arith}
use Rattle.plans.specs.Trees.{Plan, past, NodeAt}
use Rattle.plans.proofs.Places.{node_within}
use Rattle.procedure.specs.Procedures.{Procedure, procedure_of}
use Rattle.procedure.specs.declared.loaded.Loaded.{Loaded}
use Rattle.procedure.proofs.Holding.{kept, plan_lies}
use Rattle.procedure.proofs.Walking.{ok_same}

-- the nodes lie within the file
pub room : (s : List ℕ) (p : Procedure) → procedure_of s ≡ Ok p → (i : ℕ) (q : Plan) → NodeAt p.place p.plan i q → past i q ≤ length s
room s p e i q at = omega (arith, (node_within p.plan p.place i q at).1, (plan_lies s p e).0)

-- there is a procedure
pub loaded_has : (l : Loaded) → (p : Procedure) × (procedure_of l.file.now ≡ Ok p)
loaded_has l = let k = kept (procedure_of l.file.now) l.n l.goal.trues l.goal.falses l.actions l.plan l.len l.held in (k.p, k.is)

-- the plan ends where the numbers that the file keeps say
pub plan_end : (l : Loaded) (p : Procedure) → procedure_of l.file.now ≡ Ok p → past p.place p.plan ≡ l.plan + l.len
plan_end l p e =
    let k = kept (procedure_of l.file.now) l.n l.goal.trues l.goal.falses l.actions l.plan l.len l.held in
    ap (λ x. past x.place x.plan) (ok_same (sym e ∙ k.is)) ∙ omega (arith, k.place_is, k.len_is)
