-- What a file is, as a string of bytes. Assumes nothing.
use Rattle.std.specs.Prelude.{◌≡◌, ℕ, ◌%◌, ◌≤◌, true, ◌⊎◌, List, [], ◌∷◌, ◌++◌, length, sum}
use Rattle.std.specs.List.{flat_map, AllByRecursion}
use Rattle.frames.specs.Bytes.{little_bytes}
use Rattle.frames.specs.Frames.{is_fit}

-- what a frame holds
pub record Content : Type 0 where
  pub kind : ℕ
  pub payload : List ℕ

-- the bytes of a frame before its sum: two bytes length, two bytes kind, the payload
abbrev pub body_of : Content → List ℕ
body_of c = little_bytes 2 (length c.payload) ++ (little_bytes 2 c.kind ++ c.payload)

-- all bytes of a frame
abbrev pub bytes_of : Content → List ℕ
bytes_of c = body_of c ++ little_bytes 2 (sum (body_of c) % 65536)

-- the payload has a length that its kind may have
abbrev pub Fit : Content → Type 0
Fit c = is_fit c.kind (length c.payload) ≡ true

-- the frames of a file in their order
abbrev pub in_order : Content → List Content → Content → Content → List Content
in_order header actions plan start = header ∷ (actions ++ plan ∷ start ∷ [])

-- the string s is a header, up to 64 actions, a plan and a start, one frame's bytes after the other's
pub record Composed (s : List ℕ) : Type 0 where
  pub header : Content
  pub actions : List Content
  pub plan : Content
  pub start : Content
  pub header_kind : header.kind ≡ 1
  pub action_kinds : AllByRecursion (λ a. (a.kind ≡ 2) ⊎ (a.kind ≡ 3)) actions
  pub plan_kind : plan.kind ≡ 4
  pub start_kind : (start.kind ≡ 5) ⊎ (start.kind ≡ 6)
  pub few : length actions ≤ 64
  pub fit : AllByRecursion Fit (in_order header actions plan start)
  pub bytes : s ≡ flat_map bytes_of (in_order header actions plan start)
