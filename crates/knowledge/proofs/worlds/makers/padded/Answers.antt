use Rattle.std.proofs.Common.{◌≡◌, map, length, take, refl, ap, ◌∙◌, subst, arith}
use Rattle.std.proofs.lemmas.List.{length-set, take_all, get_or-set_other}
use Rattle.knowledge.specs.Worlds.{world_of}
use Rattle.knowledge.proofs.Listing.{zeros, padded_more}
use Rattle.knowledge.proofs.worlds.makers.padded.Goals as goal

pub loop-i-init : goal.loop-i-init
loop-i-init c = (refl, refl, λ k le. zeros 64 k)

pub loop-i-preserved : goal.loop-i-preserved
loop-i-preserved c =
    let ws = c.loop-i.array in
    let ds = c.args.items.now in
    let i = c.loop-i.i in (
      length-set ws i _ ∙ c.loop-i.invariant.0,
      padded_more ws ds i _ (omega arith) (omega arith) c.loop-i.invariant.1,
      λ k le. get_or-set_other ws i k _ 0 (λ e. omega arith) ∙ c.loop-i.invariant.2 k (omega arith),
    )

pub returns : goal.returns
returns c =
    let ds = c.args.items.now in
    let all : c.loop-i.i ≡ length ds = omega arith in
    record {
      long = c.loop-i.invariant.0;
      front = subst (λ n. take n c.loop-i.array ≡ map world_of ds) all (c.loop-i.invariant.1 ∙ ap (map world_of) (take_all c.loop-i.i ds (omega arith)));
      blank = λ k le. c.loop-i.invariant.2 k (omega arith);
    }
