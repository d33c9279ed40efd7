-- From the parts of a file to its procedure. Assumes nothing.
use Rattle.std.proofs.Common.{◌≡◌, ℕ, zero, suc, ◌+◌, ◌<◌, true, List, [], ◌∷◌, length, get_or, Ok, Err, Result, sym, refl, ap, ◌∙◌, arith}
use Rattle.fluents.specs.declared.faults.Fault.{Fault}
use Rattle.plans.specs.Checks.{plan_of}
use Rattle.plans.specs.Trees.{Plan}
use Rattle.frames.specs.Frames.{Frame}
use Rattle.frames.specs.Files.{File, outline, frames_of, outline_of, is_laid}
use Rattle.frames.proofs.Reading.{ok_err, laid_is}
use Rattle.procedure.specs.Fields.{is_header, row_at}
use Rattle.procedure.specs.Procedures.{Act, Known, Procedure, then, good_or, act_of, acts_of, does_at, reads_at, placed, known_of, procedure_in, procedure_of}
use Rattle.procedure.proofs.Walking.{ok_same}

-- ---- the frames that a selected file has

-- where the frames of the file lie
pub record Lies (whole : File) (actions plan start : ℕ) : Type 0 where
  pub count : length whole.rest.actions ≡ actions
  pub plan_at : whole.rest.plan.place ≡ plan
  pub start_at : whole.rest.start.place ≡ start

pub lies : (s : List ℕ) (actions plan start : ℕ) (whole : File) → is_laid (outline_of (frames_of s)) actions plan start ≡ true → frames_of s ≡ Ok whole
    → Lies whole actions plan start
lies s actions plan start whole laid e =
    let same : outline (0 + length whole.rest.actions) whole.rest.plan.place whole.rest.start.place ≡ outline actions plan start =
    ok_same (ap outline_of (sym e) ∙ laid_is (outline_of (frames_of s)) actions plan start laid) in
    record { count = omega (arith, ap (λ x. x.actions) same); plan_at = ap (λ x. x.plan) same; start_at = ap (λ x. x.start) same }

pub record Laid (s : List ℕ) (actions plan start : ℕ) : Type 0 where
  pub whole : File
  pub frames : frames_of s ≡ Ok whole
  pub lie : Lies whole actions plan start

pub laid : (s : List ℕ) (actions plan start : ℕ) → is_laid (outline_of (frames_of s)) actions plan start ≡ true → Laid s actions plan start
laid s actions plan start e = go (frames_of s) refl
  where
    go : (r : Result File Fault) → frames_of s ≡ r → Laid s actions plan start
    go (Ok whole) f = record { whole = whole; frames = f; lie = lies s actions plan start whole e f }
    go (Err fault) f = ok_err (sym (ap outline_of (sym f) ∙ laid_is (outline_of (frames_of s)) actions plan start e))

-- ---- one refusal after another

-- a file that is not selected has no procedure
pub not_selected : (s : List ℕ) (fault : Fault) → frames_of s ≡ Err fault → procedure_of s ≡ Err fault
unfolding procedure_of
not_selected s fault e = ap (λ r. then r procedure_in) e

module _ (s : List ℕ) (whole : File) (frames : frames_of s ≡ Ok whole) where
  of_frames : procedure_of s ≡ procedure_in whole
  unfolding procedure_of
  of_frames = ap (λ r. then r procedure_in) frames

  abbrev of_start : ℕ → List Act → Plan → Known → Result Procedure Fault
  of_start n acts plan known = Ok (record { n = n; goal = row_at whole.header.payload 1; actions = acts; plan = plan; place = whole.rest.plan.place + 4; start = known })

  abbrev of_plan : ℕ → List Act → Plan → Result Procedure Fault
  of_plan n acts plan = then (known_of n whole.rest.start) (of_start n acts plan)

  abbrev of_acts : ℕ → List Act → Result Procedure Fault
  of_acts n acts = then (placed whole.rest.plan (plan_of (does_at acts) (reads_at acts) whole.rest.plan.payload)) (of_plan n acts)

  abbrev of_header : ℕ → Result Procedure Fault
  of_header n = then (acts_of n whole.rest.actions) (of_acts n)

  pub after_frames : (r : Result ℕ Fault) → good_or whole.header (is_header whole.header.payload) (get_or whole.header.payload 0 0) ≡ r → procedure_of s ≡ then r of_header
  unfolding procedure_in
  after_frames r e = of_frames ∙ ap (λ x. then x of_header) e

  pub after_header : (n : ℕ) (r : Result (List Act) Fault) → good_or whole.header (is_header whole.header.payload) (get_or whole.header.payload 0 0) ≡ Ok n
      → acts_of n whole.rest.actions ≡ r → procedure_of s ≡ then r (of_acts n)
  after_header n r h e = after_frames (Ok n) h ∙ ap (λ x. then x (of_acts n)) e

  pub after_acts : (n : ℕ) (acts : List Act) (r : Result Plan Fault) → good_or whole.header (is_header whole.header.payload) (get_or whole.header.payload 0 0) ≡ Ok n
      → acts_of n whole.rest.actions ≡ Ok acts → placed whole.rest.plan (plan_of (does_at acts) (reads_at acts) whole.rest.plan.payload) ≡ r
      → procedure_of s ≡ then r (of_plan n acts)
  after_acts n acts r h a e = after_header n (Ok acts) h a ∙ ap (λ x. then x (of_plan n acts)) e

  pub after_plan : (n : ℕ) (acts : List Act) (plan : Plan) (r : Result Known Fault) → good_or whole.header (is_header whole.header.payload) (get_or whole.header.payload 0 0) ≡ Ok n
      → acts_of n whole.rest.actions ≡ Ok acts → plan_of (does_at acts) (reads_at acts) whole.rest.plan.payload ≡ Ok plan → known_of n whole.rest.start ≡ r
      → procedure_of s ≡ then r (of_start n acts plan)
  after_plan n acts plan r h a p e = after_acts n acts (Ok plan) h a (ap (placed whole.rest.plan) p) ∙ ap (λ x. then x (of_start n acts plan)) e

-- ---- the actions of several frames

pub record Parted (n : ℕ) (frame : Frame) (frames : List Frame) (acts : List Act) : Type 0 where
  pub act : Act
  pub more : List Act
  pub first : act_of n frame ≡ Ok act
  pub others : acts_of n frames ≡ Ok more
  pub is : acts ≡ act ∷ more

pub parted : (n : ℕ) (frame : Frame) (frames : List Frame) (acts : List Act) → acts_of n (frame ∷ frames) ≡ Ok acts → Parted n frame frames acts
parted n frame frames acts e = go (act_of n frame) refl
  where
    go : (r : Result Act Fault) → act_of n frame ≡ r → Parted n frame frames acts
    go (Err fault) f = ok_err (sym e ∙ ap (λ r. then r (λ act. then (acts_of n frames) (λ more. Ok (act ∷ more)))) f)
    go (Ok act) f = rest (acts_of n frames) refl
      where
        rest : (r : Result (List Act) Fault) → acts_of n frames ≡ r → Parted n frame frames acts
        rest (Err fault) g =
            ok_err (sym e ∙ ap (λ r. then r (λ act. then (acts_of n frames) (λ more. Ok (act ∷ more)))) f ∙ ap (λ r. then r (λ more. Ok (act ∷ more))) g)
        rest (Ok more) g =
            record {
              act = act;
              more = more;
              first = f;
              others = g;
              is = ok_same (sym e ∙ ap (λ r. then r (λ act. then (acts_of n frames) (λ more. Ok (act ∷ more)))) f ∙ ap (λ r. then r (λ more. Ok (act ∷ more))) g);
            }

-- there are as many actions as action frames
pub acts_length : (n : ℕ) (frames : List Frame) (acts : List Act) → acts_of n frames ≡ Ok acts → length acts ≡ length frames
acts_length n [] acts e = ap length (sym (ok_same e))
acts_length n (frame ∷ frames) acts e =
    let p = parted n frame frames acts e in
    ap length p.is ∙ ap suc (acts_length n frames p.more p.others)

-- the action of a number is that of its frame
pub acts_at : (n : ℕ) (frames : List Frame) (acts : List Act) (k : ℕ) (frame : Frame) → acts_of n frames ≡ Ok acts → k < length frames
    → ((d : Frame) → get_or frames k d ≡ frame) → (act : Act) × (act_of n frame ≡ Ok act) × ((d : Act) → get_or acts k d ≡ act)
acts_at n [] acts k frame e h at = absurd (omega arith)
acts_at n (first ∷ frames) acts zero frame e h at =
    let p = parted n first frames acts e in
    (p.act, ap (act_of n) (sym (at first)) ∙ p.first, λ d. ap (λ xs. get_or xs 0 d) p.is)
acts_at n (first ∷ frames) acts (suc k) frame e h at =
    let p = parted n first frames acts e in
    let later = acts_at n frames p.more k frame p.others (omega arith) at in
    (later.0, later.1, λ d. ap (λ xs. get_or xs (suc k) d) p.is ∙ later.2 d)
