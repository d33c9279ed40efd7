-- One byte of a file spoiled. Assumes nothing.
use Rattle.std.specs.Prelude.{◌≡◌, ℕ, ◌+◌, ◌<◌, ◌≤◌, ◌≢◌, ◌⊎◌, List, [], ◌∷◌, ◌++◌, Ok, Err, slice_index, slice_set}
use Rattle.fluents.specs.Refusals.{fault_at}
use Rattle.fluents.specs.declared.faults.Refusal.TheVariants.{WrongSum}
use Rattle.frames.specs.Frames.{Frame, after_at}
use Rattle.frames.specs.Files.{Rest, File, frames_of}

-- the frames behind the header in their order
abbrev pub rest_frames : Rest → List Frame
rest_frames rest = rest.actions ++ rest.plan ∷ rest.start ∷ []

-- all frames of a file in their order
abbrev pub all_frames : File → List Frame
all_frames file = file.header ∷ rest_frames file.rest

abbrev pub Among : Frame → List Frame → Type 0
Among frame [] = ⊥
Among frame (first ∷ more) = (frame ≡ first) ⊎ Among frame more

-- whatever byte of a frame behind the two bytes of its length is replaced by another, the file is refused for the sum of that frame
abbrev pub SpoiledRefused : List ℕ → Type 0
SpoiledRefused s =
    (file : File) → frames_of s ≡ Ok file → (frame : Frame) → Among frame (all_frames file)
    → (i v : ℕ) → frame.place + 2 ≤ i → i < after_at s frame.place → v < 256 → v ≢ slice_index s i
    → frames_of (slice_set s i v) ≡ Err (fault_at WrongSum frame.place)
