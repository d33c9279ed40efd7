-- The start of an input. Assumes nothing.
use Rattle.std.specs.Prelude.{◌≡◌, ◌≤◌, ℕ, List, length, take, Option, IfSome}

-- What was taken is the start of an input, up to a limit: at most so many bytes, and where the bytes of the input are known,
-- the first of these.
pub record IsStart (limit : ℕ) (input : Option (List ℕ)) (taken : List ℕ) : Type 0 where
  pub most : length taken ≤ limit
  pub bytes : IfSome input (λ xs. taken ≡ take limit xs)
