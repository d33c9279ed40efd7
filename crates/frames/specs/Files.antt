-- A file is a list of frames: one header, up to 64 actions, one plan, one start, and nothing behind. Assumes nothing.
use Rattle.std.specs.Prelude.{ℕ, zero, suc, ◌+◌, ◌-◌, Bool, false, cond, ◌&&◌, List, [], ◌∷◌, length, Some, None, Ok, Err, Option, Result, ◌==◌, nat_lt}
use Rattle.fluents.specs.Refusals.{fault_at}
use Rattle.fluents.specs.declared.faults.Fault.{Fault}
use Rattle.fluents.specs.declared.faults.Refusal.{Refusal}
use Rattle.fluents.specs.declared.faults.Refusal.TheVariants.{UnexpectedKind}
use Rattle.frames.specs.Frames.{Frame, frame_at, after_at, kind_at, is_action, flaw_at}
use Rattle.frames.specs.declared.frame.Due.TheVariants.{Header, Body, Start}

-- the frames behind the header
pub record Rest : Type 0 where
  pub actions : List Frame
  pub plan : Frame
  pub start : Frame

pub record File : Type 0 where
  pub header : Frame
  pub rest : Rest

-- a frame with a flaw is refused at its first byte; one without lets the reading go on
abbrev pub unless : {A : Type 0} → Option Refusal → ℕ → Result A Fault → Result A Fault
unless None p more = more
unless (Some why) p more = Err (fault_at why p)

-- one action in front of the frames that follow
abbrev pub with_action : Frame → Result Rest Fault → Result Rest Fault
with_action frame (Ok rest) = Ok (record { actions = frame ∷ rest.actions; plan = rest.plan; start = rest.start })
with_action frame (Err fault) = Err fault

abbrev pub with_header : Frame → Result Rest Fault → Result File Fault
with_header frame (Ok rest) = Ok (record { header = frame; rest = rest })
with_header frame (Err fault) = Err fault

-- the start is due at place p, and the file ends with it
abbrev pub start_from : List ℕ → Frame → ℕ → Result Rest Fault
start_from s plan p =
    unless (flaw_at s p Start) p
    (cond (nat_lt (after_at s p) (length s)) (Err (fault_at UnexpectedKind (after_at s p))) (Ok (record { actions = []; plan = plan; start = frame_at s p })))

-- an action or the plan is due at place p, and there is room for so many actions
unfoldable pub rest_from : ℕ → List ℕ → ℕ → Result Rest Fault
rest_from zero s p = unless (flaw_at s p (Body 64)) p (start_from s (frame_at s p) (after_at s p))
rest_from (suc room) s p =
    unless (flaw_at s p (Body (64 - suc room))) p
    (cond (is_action (kind_at s p)) (with_action (frame_at s p) (rest_from room s (after_at s p))) (start_from s (frame_at s p) (after_at s p)))

-- the frames of a file, or the first refusal on the way through it
unfoldable pub frames_of : List ℕ → Result File Fault
frames_of s = unless (flaw_at s 0 Header) 0 (with_header (frame_at s 0) (rest_from 64 s (after_at s 0)))

-- where the frames lie: how many actions there are, and the first bytes of the plan and the start
pub record Outline : Type 0 where
  pub actions : ℕ
  pub plan : ℕ
  pub start : ℕ

abbrev pub outline : ℕ → ℕ → ℕ → Outline
outline actions plan start = record { actions = actions; plan = plan; start = start }

-- the outline of the frames behind the header and behind so many actions
abbrev pub outline_from : ℕ → Result Rest Fault → Result Outline Fault
outline_from before (Ok rest) = Ok (outline (before + length rest.actions) rest.plan.place rest.start.place)
outline_from before (Err fault) = Err fault

abbrev pub outline_of : Result File Fault → Result Outline Fault
outline_of (Ok file) = outline_from 0 (Ok file.rest)
outline_of (Err fault) = Err fault

-- whether the frames lie so
abbrev pub is_laid : Result Outline Fault → ℕ → ℕ → ℕ → Bool
is_laid (Ok o) actions plan start = o.actions == actions && o.plan == plan && o.start == start
is_laid (Err fault) actions plan start = false
