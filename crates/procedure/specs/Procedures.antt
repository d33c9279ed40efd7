-- What a file means: the procedure and its start, or the first refusal. Assumes nothing.
use Rattle.std.specs.Prelude.{ℕ, zero, suc, ◌+◌, Bool, true, false, cond, List, [], ◌∷◌, Ok, Err, Result, ◌==◌, slice_index}
use Rattle.fluents.specs.Refusals.{fault_at}
use Rattle.fluents.specs.declared.faults.Fault.{Fault}
use Rattle.fluents.specs.declared.faults.Refusal.TheVariants.{BadField}
use Rattle.knowledge.specs.declared.states.Row.{Row}
use Rattle.plans.specs.Trees.{Plan}
use Rattle.plans.specs.Checks.{plan_of}
use Rattle.plans.specs.declared.Flaw.{Flaw}
use Rattle.frames.specs.Frames.{Frame}
use Rattle.frames.specs.Files.{File, frames_of}
use Rattle.procedure.specs.Fields.{set_at, row_at, is_state, is_header, is_doing, is_reading, worlds_in, are_inside}

-- an action: conditions, fluents made true, fluents made false; or conditions and the fluent that is read
pub data Act : Type 0 where
  doing : Row → ℕ → ℕ → Act
  reading : Row → ℕ → Act

-- what is known at the start: a partial state, or the worlds in the order of the file
pub data Known : Type 0 where
  partly : Row → Known
  worlds : List ℕ → Known

pub record Procedure : Type 0 where
  -- the fluents are the numbers below n
  pub n : ℕ
  pub goal : Row
  pub actions : List Act
  pub plan : Plan
  -- the file place of the plan's first byte
  pub place : ℕ
  pub start : Known

-- the value goes on; a refusal stands
abbrev pub then : {A B : Type 0} → Result A Fault → (A → Result B Fault) → Result B Fault
then (Ok x) f = f x
then (Err fault) f = Err fault

-- a frame whose fields are good gives a value; any other is refused at its first byte
abbrev pub good_or : {A : Type 0} → Frame → Bool → A → Result A Fault
good_or frame good value = cond good (Ok value) (Err (fault_at BadField frame.place))

-- the action of a frame, over the fluents below n
abbrev pub act_of : ℕ → Frame → Result Act Fault
act_of n frame =
    cond (frame.kind == 2)
    (good_or frame (is_doing n frame.payload) (doing (row_at frame.payload 0) (set_at frame.payload 16) (set_at frame.payload 24)))
    (good_or frame (is_reading n frame.payload) (reading (row_at frame.payload 0) (slice_index frame.payload 16)))

abbrev pub acts_of : ℕ → List Frame → Result (List Act) Fault
acts_of n [] = Ok []
acts_of n (frame ∷ frames) = then (act_of n frame) (λ act. then (acts_of n frames) (λ acts. Ok (act ∷ acts)))

-- whether the action of this number is there and is a doing action
abbrev pub does_at : List Act → ℕ → Bool
does_at [] a = false
does_at (doing row add del ∷ acts) zero = true
does_at (reading row fluent ∷ acts) zero = false
does_at (act ∷ acts) (suc a) = does_at acts a

-- whether the action of this number is there and is a reading action
abbrev pub reads_at : List Act → ℕ → Bool
reads_at [] a = false
reads_at (doing row add del ∷ acts) zero = false
reads_at (reading row fluent ∷ acts) zero = true
reads_at (act ∷ acts) (suc a) = reads_at acts a

-- the plan of a frame; plan byte i has the place of the frame's first byte, plus 4, plus i
abbrev pub placed : Frame → Result Plan Flaw → Result Plan Fault
placed frame (Ok plan) = Ok plan
placed frame (Err flaw) = Err (fault_at flaw.refusal (frame.place + 4 + flaw.offset))

-- the start of a frame, over the fluents below n
abbrev pub known_of : ℕ → Frame → Result Known Fault
known_of n frame =
    cond (frame.kind == 5)
    (good_or frame (is_state n (row_at frame.payload 0)) (partly (row_at frame.payload 0)))
    (good_or frame (are_inside n (worlds_in frame.payload)) (worlds (worlds_in frame.payload)))

-- the procedure of a file's frames: each frame in file order
unfoldable pub procedure_in : File → Result Procedure Fault
procedure_in file =
    then (good_or file.header (is_header file.header.payload) (slice_index file.header.payload 0)) (λ n.
    then (acts_of n file.rest.actions) (λ acts.
    then (placed file.rest.plan (plan_of (does_at acts) (reads_at acts) file.rest.plan.payload)) (λ plan.
    then (known_of n file.rest.start) (λ known.
    Ok (record { n = n; goal = row_at file.header.payload 1; actions = acts; plan = plan; place = file.rest.plan.place + 4; start = known })))))

-- the procedure of a file, or the first refusal: all frames come before all fields
unfoldable pub procedure_of : List ℕ → Result Procedure Fault
procedure_of s = then (frames_of s) procedure_in
