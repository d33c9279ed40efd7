-- How far the loading of the actions has come. Assumes nothing.
use Rattle.std.proofs.Common.{◌≡◌, ℕ, suc, ◌+◌, ◌-◌, ◌<◌, ◌≤◌, ◌&&◌, ◌||◌, eqb, List, [], ◌∷◌, ◌++◌, length, Ok, Err, Result, sym, refl, ap, ◌∙◌, arith}
use Rattle.std.proofs.lemmas.List.{append-nil, append_assoc, length_push, nil_from_length}
use Rattle.fluents.specs.Sets.{bit}
use Rattle.fluents.specs.declared.faults.Fault.{Fault}
use Rattle.fluents.proofs.Bits.{bit-zero}
use Rattle.plans.specs.declared.Sorts.{Sorts}
use Rattle.frames.specs.Frames.{Frame, frame_at, after_at}
use Rattle.frames.specs.Files.{Rest, File, rest_from, frames_of}
use Rattle.procedure.specs.Acts.{is_do, is_read, Sorted}
use Rattle.procedure.specs.Procedures.{Act, then, act_of, acts_of, does_at, reads_at}
use Rattle.procedure.proofs.Sorts.{does_more, reads_more}
use Rattle.procedure.proofs.Walking.{Next, next_action, opening}

-- the actions that are done, before what the others give
abbrev pub prefixed : List Act → Result (List Act) Fault → Result (List Act) Fault
prefixed done (Ok acts) = Ok (done ++ acts)
prefixed done (Err fault) = Err fault

prefixed_nil : (r : Result (List Act) Fault) → r ≡ prefixed [] r
prefixed_nil (Ok acts) = refl
prefixed_nil (Err fault) = refl

prefixed_more : (done : List Act) (act : Act) (r : Result (List Act) Fault) → prefixed done (then r (λ acts. Ok (act ∷ acts))) ≡ prefixed (done ++ (act ∷ [])) r
prefixed_more done act (Ok acts) = ap Ok (sym (append_assoc done (act ∷ []) acts))
prefixed_more done act (Err fault) = refl

-- k actions are done, the next frame lies at this place, and these are the sets so far
pub record Progress (n : ℕ) (s : List ℕ) (all : List Frame) (k place : ℕ) (sorts : Sorts) : Type 0 where
  pub rest : Rest
  pub within : k ≤ 64
  pub here : rest_from (64 - k) s place ≡ Ok rest
  pub left : k + length rest.actions ≡ length all
  pub done : List Act
  pub count : length done ≡ k
  pub acts : acts_of n all ≡ prefixed done (acts_of n rest.actions)
  pub sorted : Sorted done sorts

pub none_done : (n : ℕ) (s : List ℕ) (file : File) → frames_of s ≡ Ok file → Progress n s file.rest.actions 0 23 (record { doing = 0; reading = 0 })
none_done n s file e =
    let first = opening s file e in
    record {
      rest = file.rest;
      within = omega arith;
      here = first.goes_on;
      left = omega arith;
      done = [];
      count = refl;
      acts = prefixed_nil (acts_of n file.rest.actions);
      sorted = record { does = bit-zero; reads = bit-zero };
    }

module _ (n : ℕ) (s : List ℕ) (all : List Frame) (k place : ℕ) (sorts : Sorts) (before : Progress n s all k place sorts) (more : k < length all) where
  pub at_next : Next k s place before.rest
  at_next = next_action k s place before.rest before.within before.here (omega (arith, before.left))

  acts_next : acts_of n all ≡ prefixed before.done (then (act_of n (frame_at s place)) (λ act. then (acts_of n at_next.tail.actions) (λ acts. Ok (act ∷ acts))))
  acts_next = before.acts ∙ ap (λ r. prefixed before.done (acts_of n r.actions)) at_next.is

  pub refused_next : (fault : Fault) → act_of n (frame_at s place) ≡ Err fault → acts_of n all ≡ Err fault
  refused_next fault e = acts_next ∙ ap (λ r. prefixed before.done (then r (λ act. then (acts_of n at_next.tail.actions) (λ acts. Ok (act ∷ acts))))) e

  pub one_done : (act : Act) (after : Sorts) → act_of n (frame_at s place) ≡ Ok act
      → ((a : ℕ) → bit after.doing a ≡ (bit sorts.doing a || (eqb a k && is_do act)))
      → ((a : ℕ) → bit after.reading a ≡ (bit sorts.reading a || (eqb a k && is_read act)))
      → Progress n s all (k + 1) (after_at s place) after
  one_done act after e d r =
      let next = at_next in
      let cut : length before.rest.actions ≡ suc (length next.tail.actions) = ap (λ x. length x.actions) next.is in
      record {
        rest = next.tail;
        within = next.within;
        here = next.goes_on;
        left = omega (arith, before.left, cut);
        done = before.done ++ (act ∷ []);
        count = length_push before.done act ∙ ap (λ (m : ℕ). m + 1) before.count;
        acts =
            acts_next
            ∙ ap (λ x. prefixed before.done (then x (λ act. then (acts_of n next.tail.actions) (λ acts. Ok (act ∷ acts))))) e
            ∙ prefixed_more before.done act (acts_of n next.tail.actions);
        sorted = record {
          does = λ a.
              d a ∙ ap (λ x. x || (eqb a k && is_do act)) (before.sorted.does a)
              ∙ ap (λ (m : ℕ). does_at before.done a || (eqb a m && is_do act)) (sym before.count)
              ∙ sym (does_more before.done act a);
          reads = λ a.
              r a ∙ ap (λ x. x || (eqb a k && is_read act)) (before.sorted.reads a)
              ∙ ap (λ (m : ℕ). reads_at before.done a || (eqb a m && is_read act)) (sym before.count)
              ∙ sym (reads_more before.done act a);
        };
      }

-- every action is done
pub all_done : (n : ℕ) (s : List ℕ) (all : List Frame) (k place : ℕ) (sorts : Sorts) → Progress n s all k place sorts → length all ≤ k
    → (acts : List Act) × (acts_of n all ≡ Ok acts) × Sorted acts sorts
all_done n s all k place sorts p end =
    let none : p.rest.actions ≡ [] = nil_from_length p.rest.actions (omega (arith, p.left)) in (
      p.done,
      p.acts ∙ ap (λ xs. prefixed p.done (acts_of n xs)) none ∙ ap Ok (append-nil p.done),
      p.sorted,
    )
