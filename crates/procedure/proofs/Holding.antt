-- The parts of a file that has a procedure, and what a loaded file keeps of them. Assumes nothing.
use Rattle.std.proofs.Common.{◌≡◌, ℕ, ◌+◌, ◌<◌, ◌≤◌, Bool, true, false, ◌&&◌, eqb, List, ◌++◌, length, get_or, take, drop, Some, None, Ok, Err, Option, Result, sym, refl, ap, ◌∙◌, subst, arith, take-append-drop, eq-eqb, eqb-true, MatchOption}
use Rattle.fluents.specs.Refusals.{fault_at}
use Rattle.fluents.specs.declared.faults.Fault.{Fault}
use Rattle.fluents.specs.declared.faults.Refusal.TheVariants.{BadField}
use Rattle.knowledge.specs.declared.actions.Action.{Action}
use Rattle.plans.specs.Checks.{plan_of}
use Rattle.plans.specs.Trees.{Plan, encode, NodeAt}
use Rattle.plans.specs.declared.Flaw.{Flaw}
use Rattle.plans.proofs.Parses.{plan_spells}
use Rattle.plans.proofs.Places.{node_stands}
use Rattle.frames.specs.Frames.{Frame, frame_at, length_at}
use Rattle.frames.specs.Files.{File, frames_of}
use Rattle.frames.specs.declared.frame.Due.TheVariants.{Body}
use Rattle.frames.proofs.Reading.{ok_err, payload_length, whole_le}
use Rattle.procedure.specs.Acts.{act_seen}
use Rattle.procedure.specs.Fields.{is_header, row_at}
use Rattle.procedure.specs.Held.{is_held}
use Rattle.procedure.specs.Procedures.{Act, Procedure, then, good_or, act_of, acts_of, does_at, reads_at, placed, known_of, procedure_in, procedure_of}
use Rattle.procedure.proofs.Rereading.{header_few}
use Rattle.procedure.proofs.Walking.{ok_same, tail_of}

-- a value that a chain of parts gives: its first part gave one, and the rest gave it from that
pub then_ok : {A B : Type 0} (r : Result A Fault) (f : A → Result B Fault) (y : B) → then r f ≡ Ok y → (x : A) × (r ≡ Ok x) × (f x ≡ Ok y)
then_ok (Ok x) f y e = (x, refl, e)
then_ok (Err fault) f y e = ok_err (sym e)

placed_plan : (frame : Frame) (r : Result Plan Flaw) (plan : Plan) → placed frame r ≡ Ok plan → r ≡ Ok plan
placed_plan frame (Ok p) plan e = ap Ok (ok_same e)
placed_plan frame (Err flaw) plan e = ok_err (sym e)

-- every part of a file is good, and is that part of the procedure
pub record Parts (s : List ℕ) (p : Procedure) : Type 0 where
  pub whole : File
  pub frames : frames_of s ≡ Ok whole
  pub header : good_or whole.header (is_header whole.header.payload) (get_or whole.header.payload 0 0) ≡ Ok p.n
  pub goal : p.goal ≡ row_at whole.header.payload 1
  pub acts : acts_of p.n whole.rest.actions ≡ Ok p.actions
  pub plan : plan_of (does_at p.actions) (reads_at p.actions) whole.rest.plan.payload ≡ Ok p.plan
  pub place : p.place ≡ whole.rest.plan.place + 4

pub parts : (s : List ℕ) (p : Procedure) → procedure_of s ≡ Ok p → Parts s p
unfolding procedure_of procedure_in
parts s p e =
    let file = then_ok (frames_of s) procedure_in p e in
    let whole = file.0 in
    let header = then_ok (good_or whole.header (is_header whole.header.payload) (get_or whole.header.payload 0 0)) _ p file.2 in
    let n = header.0 in
    let acts = then_ok (acts_of n whole.rest.actions) _ p header.2 in
    let plan = then_ok (placed whole.rest.plan (plan_of (does_at acts.0) (reads_at acts.0) whole.rest.plan.payload)) _ p acts.2 in
    let known = then_ok (known_of n whole.rest.start) _ p plan.2 in
    let is : record { n = n; goal = row_at whole.header.payload 1; actions = acts.0; plan = plan.0; place = whole.rest.plan.place + 4; start = known.0 } ≡ p = ok_same known.2 in
    subst (Parts s) is
    (record {
      whole = whole;
      frames = file.1;
      header = header.1;
      goal = refl;
      acts = acts.1;
      plan = placed_plan whole.rest.plan (plan_of (does_at acts.0) (reads_at acts.0) whole.rest.plan.payload) plan.0 plan.1;
      place = refl;
    })

-- the plan's bytes are a part of the file
pub plan_lies : (s : List ℕ) (p : Procedure) → procedure_of s ≡ Ok p
    → (p.place + length (encode p.plan) ≤ length s) × (take (length (encode p.plan)) (drop p.place s) ≡ encode p.plan)
plan_lies s p e =
    let t = parts s p e in
    let tail = tail_of s t.whole t.frames in
    let frame = t.whole.rest.plan in
    let at = frame.place in
    let whole = whole_le s at (Body (length t.whole.rest.actions)) tail.plan_sound in
    let spelled : frame.payload ≡ encode p.plan = (plan_spells (does_at p.actions) (reads_at p.actions) frame.payload p.plan t.plan).1 in
    let payload : frame.payload ≡ (frame_at s at).payload = ap (λ f. f.payload) tail.plan_is in
    let long : length (encode p.plan) ≡ length_at s at = ap length (sym spelled ∙ payload) ∙ payload_length s at whole in (
      omega (arith, long, t.place, whole),
      ap (λ (n : ℕ). take n (drop p.place s)) long ∙ ap (λ (q : ℕ). take (length_at s at) (drop q s)) t.place ∙ sym payload ∙ spelled,
    )

-- and every node of the plan stands at its place
pub nodes_stand : (s : List ℕ) (p : Procedure) → procedure_of s ≡ Ok p → (j : ℕ) (q : Plan) → NodeAt p.place p.plan j q
    → (rest : List ℕ) × (drop j s ≡ encode q ++ rest)
nodes_stand s p e j q at =
    let n = length (encode p.plan) in
    node_stands p.plan s p.place j q (drop n (drop p.place s))
    (sym (take-append-drop n (drop p.place s)) ∙ ap (λ xs. xs ++ drop n (drop p.place s)) (plan_lies s p e).1) at

-- ---- the numbers that a loaded file keeps

both : (a b : Bool) → (a && b) ≡ true → (a ≡ true) × (b ≡ true)
both true b e = (refl, e)
both false b e = let z : ◌≡◌ {A = ℕ} 0 1 = cc in absurd (omega arith)

join : (a b : Bool) → a ≡ true → b ≡ true → (a && b) ≡ true
join a b x y = ap (λ z. z && b) x ∙ y

pub record Kept (r : Result Procedure Fault) (n trues falses actions place len : ℕ) : Type 0 where
  pub p : Procedure
  pub is : r ≡ Ok p
  pub n_is : p.n ≡ n
  pub trues_are : p.goal.trues ≡ trues
  pub falses_are : p.goal.falses ≡ falses
  pub actions_are : length p.actions ≡ actions
  pub place_is : p.place ≡ place
  pub len_is : length (encode p.plan) ≡ len

pub kept : (r : Result Procedure Fault) (n trues falses actions place len : ℕ) → is_held r n trues falses actions place len ≡ true → Kept r n trues falses actions place len
kept (Ok p) n t f a q l e =
    let e5 = both (eqb p.n n && eqb p.goal.trues t && eqb p.goal.falses f && eqb (length p.actions) a && eqb p.place q) (eqb (length (encode p.plan)) l) e in
    let e4 = both (eqb p.n n && eqb p.goal.trues t && eqb p.goal.falses f && eqb (length p.actions) a) (eqb p.place q) e5.0 in
    let e3 = both (eqb p.n n && eqb p.goal.trues t && eqb p.goal.falses f) (eqb (length p.actions) a) e4.0 in
    let e2 = both (eqb p.n n && eqb p.goal.trues t) (eqb p.goal.falses f) e3.0 in
    let e1 = both (eqb p.n n) (eqb p.goal.trues t) e2.0 in
    record {
      p = p;
      is = refl;
      n_is = eqb-true p.n n e1.0;
      trues_are = eqb-true p.goal.trues t e1.1;
      falses_are = eqb-true p.goal.falses f e2.1;
      actions_are = eqb-true (length p.actions) a e3.1;
      place_is = eqb-true p.place q e4.1;
      len_is = eqb-true (length (encode p.plan)) l e5.1;
    }
kept (Err fault) n t f a q l e = let z : ◌≡◌ {A = ℕ} 0 1 = cc in absurd (omega arith)

pub keeps : (r : Result Procedure Fault) (n trues falses actions place len : ℕ) → Kept r n trues falses actions place len → is_held r n trues falses actions place len ≡ true
keeps r n t f a q l k =
    let p = k.p in
    ap (λ x. is_held x n t f a q l) k.is
    ∙ join _ (eqb (length (encode p.plan)) l)
    (join _ (eqb p.place q)
    (join _ (eqb (length p.actions) a)
    (join _ (eqb p.goal.falses f)
    (join (eqb p.n n) (eqb p.goal.trues t) (eq-eqb p.n n k.n_is) (eq-eqb p.goal.trues t k.trues_are))
    (eq-eqb p.goal.falses f k.falses_are))
    (eq-eqb (length p.actions) a k.actions_are))
    (eq-eqb p.place q k.place_is))
    (eq-eqb (length (encode p.plan)) l k.len_is)

-- ---- what a loaded procedure has

-- a frame that gives a value is good, and that is the value
pub good_is : {A : Type 0} (frame : Frame) (good : Bool) (v w : A) → good_or frame good v ≡ Ok w → (good ≡ true) × (v ≡ w)
good_is frame true v w e = (refl, ok_same e)
good_is frame false v w e = ok_err (sym e)

-- there are at most 64 fluents
pub few_fluents : (s : List ℕ) (p : Procedure) → procedure_of s ≡ Ok p → p.n ≤ 64
few_fluents s p e =
    let t = parts s p e in
    let header = t.whole.header in
    let good = good_is header (is_header header.payload) (get_or header.payload 0 0) p.n t.header in
    subst (λ (n : ℕ). n ≤ 64) good.1 (header_few header.payload good.0)

-- the action that the code made of a frame is the one that the procedure has
pub asked : (r : Option Action) (n : ℕ) (frame : Frame) (acts : List Act) (k : ℕ) (act : Act) → k < length acts → act_of n frame ≡ Ok act → ((d : Act) → get_or acts k d ≡ act)
    → MatchOption r (act_of n frame ≡ Err (fault_at BadField frame.place)) (λ a. act_of n frame ≡ Ok (act_seen a))
    → MatchOption r (length acts ≤ k) (λ a. (k < length acts) × ((d : Act) → get_or acts k d ≡ act_seen a))
asked None n frame acts k act h e at r = ok_err (sym e ∙ r)
asked (Some a) n frame acts k act h e at r = (h, λ d. at d ∙ ok_same (sym e ∙ r))
