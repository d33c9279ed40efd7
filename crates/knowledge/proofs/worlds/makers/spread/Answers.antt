use Rattle.std.proofs.Common.{◌≡◌, map, length, take, refl, ◌∙◌, subst, arith}
use Rattle.std.proofs.lemmas.List.{length-set, take_all}
use Rattle.knowledge.specs.Worlds.{world_of}
use Rattle.knowledge.proofs.Listing.{spread_more}
use Rattle.knowledge.proofs.worlds.makers.spread.Goals as goal

pub loop-i-preserved : goal.loop-i-preserved
loop-i-preserved c =
    let ds = c.loop-i.items in
    let ws = c.args.worlds.now in
    let i = c.loop-i.i in (
      length-set ds i _ ∙ c.loop-i.invariant.0,
      spread_more ds ws i _ (omega arith) (omega arith) refl c.loop-i.invariant.1,
    )

pub returns : goal.returns
returns c =
    let ws = c.args.worlds.now in
    let all : c.loop-i.i ≡ length ws = omega arith in
    record {
      long = c.loop-i.invariant.0;
      front = subst (λ n. map world_of (take n c.loop-i.items) ≡ ws) all (c.loop-i.invariant.1 ∙ take_all c.loop-i.i ws (omega arith));
    }
