-- How clauses name the procedure of a loaded file, and the nodes of its plan. Assumes nothing.
use Rattle.std.specs.Prelude.{◌≡◌, ℕ, List, Ok}
use Rattle.frames.specs.Files.{File, frames_of}
use Rattle.plans.specs.Trees.{Plan, ask, NodeAt}
use Rattle.procedure.specs.Procedures.{Procedure, procedure_of}
use Rattle.procedure.specs.declared.loaded.Loaded.{Loaded}

-- P holds of the frames of the bytes, if they are those of a file
abbrev pub IfFramed : List ℕ → (File → Type 0) → Type 0
IfFramed s P = (file : File) → frames_of s ≡ Ok file → P file

-- P holds of the procedure of the loaded file; there is always one
abbrev pub IfLoads : Loaded → (Procedure → Type 0) → Type 0
IfLoads loaded P = (p : Procedure) → procedure_of loaded.file.now ≡ Ok p → P p

-- P holds of the plan that begins at this place of the file, if one does
abbrev pub IfNode : Procedure → ℕ → (Plan → Type 0) → Type 0
IfNode p place P = (q : Plan) → NodeAt p.place p.plan place q → P q

-- P holds of the plan for true, if a reading node begins at this place of the file
abbrev pub IfAsks : Procedure → ℕ → (Plan → Type 0) → Type 0
IfAsks p place P = (a : ℕ) (t e : Plan) → NodeAt p.place p.plan place (ask a t e) → P t
