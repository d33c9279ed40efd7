-- The code's frames as the definitions see them. Assumes nothing.
use Rattle.std.specs.Prelude.{◌≡◌, ℕ, ◌+◌, true, List, length}
use Rattle.frames.specs.declared.frame.Frame.{Frame as Held}
use Rattle.frames.specs.declared.frame.Frame.TheVariants.{Header, Doing, Reading, Plan, PartialStart, WorldStart}
use Rattle.frames.specs.declared.frame.Payload.{Payload}
use Rattle.frames.specs.declared.frame.Parts.{Parts}
use Rattle.frames.specs.Frames.{Frame, is_fit, body_at, sum_at, length_at, kind_at, frame_at}

-- the number of a frame's kind
abbrev pub kind_of : Held → ℕ
kind_of (Header p) = 1
kind_of (Doing p) = 2
kind_of (Reading p) = 3
kind_of (Plan p) = 4
kind_of (PartialStart p) = 5
kind_of (WorldStart p) = 6

abbrev pub payload_of : Held → Payload
payload_of (Header p) = p
payload_of (Doing p) = p
payload_of (Reading p) = p
payload_of (Plan p) = p
payload_of (PartialStart p) = p
payload_of (WorldStart p) = p

-- the payload has a length that the frame's kind may have
abbrev pub Fits : Held → Type 0
Fits held = is_fit (kind_of held) (length (payload_of held).bytes.now) ≡ true

-- the code's frame is the one of the definitions: its kind, and its payload as a part of the file
pub record Shows (held : Held) (frame : Frame) : Type 0 where
  pub kind : kind_of held ≡ frame.kind
  pub payload : (payload_of held).bytes.now ≡ frame.payload
  pub place : (payload_of held).place ≡ frame.place + 4

-- the code's parts are those of the frame at place p
pub record PartsAt (s : List ℕ) (p : ℕ) (parts : Parts) : Type 0 where
  pub body : parts.body.now ≡ body_at s p
  pub kind : parts.kind ≡ kind_at s p
  pub payload : parts.payload.bytes.now ≡ (frame_at s p).payload
  pub long : length parts.payload.bytes.now ≡ length_at s p
  pub place : parts.payload.place ≡ p + 4
  pub sum : parts.sum ≡ sum_at s p
