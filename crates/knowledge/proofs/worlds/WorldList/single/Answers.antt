use Rattle.std.proofs.Common.{◌≡◌, ℕ, zero, suc, ◌^◌, ◌<◌, ◌≤◌, ◌∷◌, get_or, replicate, sym, refl, subst, arith, lit<}
use Rattle.knowledge.proofs.Listing.{zeros}
use Rattle.knowledge.proofs.worlds.WorldList.single.Goals as goal

-- zeros follow the one world
blank : (w i : ℕ) → 1 ≤ i → get_or (w ∷ replicate 63 0) i 0 ≡ 0
blank w zero h = absurd (omega arith)
blank w (suc i) h = zeros 63 i

fit : (w i : ℕ) → w < 2 ^ 64 → get_or (w ∷ replicate 63 0) i 0 < 2 ^ 64
fit w zero h = h
fit w (suc i) h = subst (λ (n : ℕ). n < 2 ^ 64) (sym (zeros 63 i)) (lit< tt)

pub invariant_of-result : goal.invariant_of-result
invariant_of-result c =
    let w = c.args.world in
    record {
      some = omega arith;
      few = omega arith;
      long = refl;
      ascends = λ i j lt h. absurd (omega arith);
      blank = blank w;
      fit = λ i. fit w i c.ranges.world.fits;
    }
