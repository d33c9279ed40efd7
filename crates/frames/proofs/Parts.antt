-- The parts of a whole frame's bytes. Assumes nothing.
use Rattle.std.proofs.Common.{◌≡◌, ℕ, ◌+◌, ◌-◌, ◌≤◌, true, List, length, get_or, take, drop, sym, refl, ap, ◌∙◌, arith, length-drop, length-take, leb-true}
use Rattle.std.proofs.lemmas.List.{drop-drop, get_or-drop, get_or-take, take-take, drop-take}
use Rattle.frames.specs.Bytes.{little}
use Rattle.frames.specs.Frames.{body_at, sum_at, kind_at, length_at, after_at, is_whole, frame_at}

-- a number in the bytes from place p on
pub little_at : (s t : List ℕ) (p q j : ℕ) → drop p s ≡ t → q ≡ p + j → little 2 s q ≡ little 2 t j
little_at s t p q j e at =
    let read : (k : ℕ) → get_or s (p + k) 0 ≡ get_or t k 0 = λ k. sym (get_or-drop p s k 0) ∙ ap (λ (xs : List ℕ). get_or xs k 0) e in
    let low : get_or s q 0 ≡ get_or t j 0 = ap (λ (k : ℕ). get_or s k 0) at ∙ read j in
    let next : q + 1 ≡ p + (j + 1) = omega arith in
    let high : get_or s (q + 1) 0 ≡ get_or t (j + 1) 0 = ap (λ (k : ℕ). get_or s k 0) next ∙ read (j + 1) in
    omega (arith, low, high)

-- a number in the first bytes
little_front : (t : List ℕ) (m j : ℕ) → j + 2 ≤ m → little 2 (take m t) j ≡ little 2 t j
little_front t m j h = omega (arith, get_or-take m t j 0 (omega arith), get_or-take m t (j + 1) 0 (omega arith))

pub record Split (s : List ℕ) (p : ℕ) (body end : List ℕ) : Type 0 where
  pub body_is : body ≡ body_at s p
  pub kind_is : little 2 body 2 ≡ kind_at s p
  pub payload_is : drop 4 body ≡ (frame_at s p).payload
  pub long : length (drop 4 body) ≡ length_at s p
  pub sum_is : little 2 end 0 ≡ sum_at s p

-- the bytes of a whole frame, split before the last two
pub split : (s : List ℕ) (p : ℕ) (bytes body end : List ℕ) → is_whole s p ≡ true → bytes ≡ take (length_at s p + 6) (drop p s)
    → body ≡ take (length bytes - 2) bytes → end ≡ drop (length bytes - 2) bytes → Split s p body end
split s p bytes body end whole all front back = parted (length_at s p) refl
  where
    parted : (n : ℕ) → length_at s p ≡ n → Split s p body end
    parted n is =
        let t = drop p s in
        let within : after_at s p ≤ length s = leb-true (after_at s p) (length s) whole in
        let bytes_are : bytes ≡ take (n + 6) t = all ∙ ap (λ (k : ℕ). take (k + 6) t) is in
        let long : length bytes - 2 ≡ n + 4 = omega (arith, is, within, ap length bytes_are, length-take (n + 6) t, length-drop p s) in
        let mine : body ≡ take (n + 4) t
        = front ∙ ap (λ (k : ℕ). take k bytes) long ∙ ap (take (n + 4)) bytes_are ∙ take-take (n + 4) (n + 6) t (omega arith) in
        let last : end ≡ take 2 (drop (n + 4) t)
        = back ∙ ap (λ (k : ℕ). drop k bytes) long ∙ ap (drop (n + 4)) bytes_are
        ∙ ap (λ (k : ℕ). drop (n + 4) (take k t)) (omega arith) ∙ drop-take (n + 4) 2 t in
        record {
          body_is = mine ∙ ap (λ (k : ℕ). take (k + 4) t) (sym is);
          kind_is = ap (λ (xs : List ℕ). little 2 xs 2) mine ∙ little_front t (n + 4) 2 (omega arith) ∙ sym (little_at s t p (p + 2) 2 refl refl);
          payload_is =
              ap (drop 4) mine ∙ ap (λ (k : ℕ). drop 4 (take k t)) (omega arith) ∙ drop-take 4 n t
              ∙ ap (take n) (drop-drop 4 p s) ∙ ap (λ (k : ℕ). take k (drop (p + 4) s)) (sym is);
          long = omega (arith, is, within, length-drop 4 body, ap length mine, length-take (n + 4) t, length-drop p s);
          sum_is =
              ap (λ (xs : List ℕ). little 2 xs 0) last ∙ little_front (drop (n + 4) t) 2 0 (omega arith)
              ∙ sym (little_at s (drop (n + 4) t) (p + (n + 4)) (p + length_at s p + 4) 0 (sym (drop-drop (n + 4) p s)) (omega (arith, is)));
        }
