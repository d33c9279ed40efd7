-- One frame of a file: two bytes length, two bytes kind, the payload, two bytes sum. Assumes nothing.
use Rattle.std.specs.Prelude.{ℕ, ◌+◌, ◌%◌, Bool, false, cond, ◌&&◌, ◌||◌, List, length, take, drop, Some, None, sum, Option, ◌==◌, nat_le}
use Rattle.fluents.specs.declared.faults.Refusal.{Refusal}
use Rattle.fluents.specs.declared.faults.Refusal.TheVariants.{Incomplete, WrongSum, UnexpectedKind, UnfitLength, TooManyActions}
use Rattle.frames.specs.Bytes.{little}
use Rattle.frames.specs.declared.frame.Due.{Due}
use Rattle.frames.specs.declared.frame.Due.TheVariants.{Header, Body, Start}

-- a frame as a part of the file: its first byte's place, its kind and its payload
pub record Frame : Type 0 where
  pub place : ℕ
  pub kind : ℕ
  pub payload : List ℕ

-- the length of the payload, as the frame at place p states it
abbrev pub length_at : List ℕ → ℕ → ℕ
length_at s p = little 2 s p

abbrev pub kind_at : List ℕ → ℕ → ℕ
kind_at s p = little 2 s (p + 2)

-- the place just past the frame at place p
abbrev pub after_at : List ℕ → ℕ → ℕ
after_at s p = p + length_at s p + 6

-- the frame at place p
abbrev pub frame_at : List ℕ → ℕ → Frame
frame_at s p = record { place = p; kind = kind_at s p; payload = take (length_at s p) (drop (p + 4) s) }

-- the file reaches to the end of the frame
abbrev pub is_whole : List ℕ → ℕ → Bool
is_whole s p = nat_le (after_at s p) (length s)

-- all bytes of the frame before its last two
abbrev pub body_at : List ℕ → ℕ → List ℕ
body_at s p = take (length_at s p + 4) (drop p s)

-- the number in the last two bytes of the frame
abbrev pub sum_at : List ℕ → ℕ → ℕ
sum_at s p = little 2 s (p + length_at s p + 4)

-- the last two bytes of the frame are the sum of all its bytes before them, modulo 65,536
abbrev pub sum_holds : List ℕ → ℕ → Bool
sum_holds s p = sum (body_at s p) % 65536 == sum_at s p

-- the kinds: 1 header, 2 doing action, 3 reading action, 4 plan, 5 start as a partial state, 6 start as worlds
abbrev pub is_action : ℕ → Bool
is_action k = k == 2 || k == 3

-- the kinds that may come where something is due
abbrev pub is_due : Due → ℕ → Bool
is_due Header k = k == 1
is_due (Body actions) k = is_action k || k == 4
is_due Start k = k == 5 || k == 6

-- 64 actions have come already, and this is one more
abbrev pub is_excess : Due → ℕ → Bool
is_excess Header k = false
is_excess (Body actions) k = is_action k && nat_le 64 actions
is_excess Start k = false

-- the lengths that the payload of a kind may have
abbrev pub is_fit : ℕ → ℕ → Bool
is_fit k l =
    cond (k == 1) (l == 17)
    (cond (k == 2) (l == 32)
    (cond (k == 3) (l == 17)
    (cond (k == 4) (nat_le 1 l && nat_le l 1024)
    (cond (k == 5) (l == 16)
    (nat_le 8 l && nat_le l 512 && l % 8 == 0)))))

-- what is wrong with the frame at place p, where `due` is due: the first of these that applies
abbrev pub flaw_at : List ℕ → ℕ → Due → Option Refusal
flaw_at s p due =
    cond (is_whole s p)
    (cond (sum_holds s p)
    (cond (is_due due (kind_at s p))
    (cond (is_excess due (kind_at s p))
    (Some TooManyActions)
    (cond (is_fit (kind_at s p) (length_at s p)) None (Some UnfitLength)))
    (Some UnexpectedKind))
    (Some WrongSum))
    (Some Incomplete)
