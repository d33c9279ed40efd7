-- The laws of the cases of knowledge: some world is possible, and each fits 64 bits. Assumes nothing.
use Rattle.std.specs.Prelude.{ℕ, ◌^◌, ◌<◌, slice_index}
use Rattle.std.proofs.Common.{sym, subst, ◌∙◌, arith}
use Rattle.std.specs.Int.Bits.{and_self}
use Rattle.std.proofs.lemmas.Nat.{and_comm}
use Rattle.std.proofs.ByRecursion.{has_get_or}
use Rattle.std.proofs.lemmas.List.{length-take-le, get_or-take}
use Rattle.knowledge.specs.Worlds.{list_of}
use Rattle.panel.specs.Cases.{worlds_in}
use Rattle.panel.specs.declared.known.Known.{Known}
use Rattle.panel.specs.declared.known.Known.TheVariants.{Partial, Worlds}

pub known_some : (k : Known) → (w : ℕ) × worlds_in k w
known_some (Partial s) = (s.trues, (s.fit, and_self s.trues, and_comm s.falses s.trues ∙ s.apart))
known_some (Worlds l) =
    let long = length-take-le l.len l.worlds (omega (arith, l.few, l.long)) in
    (slice_index (list_of l) 0, has_get_or (list_of l) 0 0 (omega (arith, long, l.some)))

pub known_fit : (k : Known) (w : ℕ) → worlds_in k w → w < 2 ^ 64
known_fit (Partial s) w h = h.0
known_fit (Worlds l) w h =
    let long = length-take-le l.len l.worlds (omega (arith, l.few, l.long)) in
    let at : h.0 < l.len = omega (arith, long, h.1) in
    subst (λ (n : ℕ). n < 2 ^ 64) (sym (get_or-take l.len l.worlds h.0 0 at) ∙ h.2 0) (l.fit h.0)
