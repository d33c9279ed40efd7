use Rattle.std.proofs.Common.{◌^◌, length, arith, lit<}
use mir.Facts.{Fits-lt-pow}
use Rattle.std.specs.Range.{range_inclusive_start, range_inclusive_end}
use Rattle.std.proofs.lemmas.List.{length-take-le}
use Rattle.std.proofs.lemmas.Map.Keys.{le_from_is_le}
use Rattle.knowledge.specs.Worlds.{FitCount}
use Rattle.knowledge.proofs.Listing.{Listed, listed, listed_below}
use Rattle.knowledge.proofs.worlds.WorldList.new.Goals as goal
use Rattle.knowledge.proofs.worlds.WorldList.new.Goals.{After-padded}

fits : (c : goal.After-padded) → FitCount (length c.args.worlds.now)
fits c =
    let n = length c.args.worlds.now in
    let within = c.if-not-contains.ensures.cases in (
      omega (arith, c.new.ensures.start, le_from_is_le (range_inclusive_start c.new.result) n within.0),
      omega (arith, c.new.ensures.end, le_from_is_le n (range_inclusive_end c.new.result) within.1),
    )

made : (c : goal.After-padded) → Listed c.args.worlds.now c.padded.result c.keep_least-len.result
made c =
    let kept = c.keep_least-len.ensures in
    let array = c.padded.ensures in
    listed c.args.worlds.now c.spread-items.result c.keep_least-len.new.items _ c.padded.result c.keep_least-len.result
    (fits c).0 c.spread-items.ensures.front (omega arith) array.front array.blank kept.made kept.ascending kept.reaches

pub invariant_of-result : goal.invariant_of-result
invariant_of-result c =
    let l = made c in
    let few : FitCount (length c.args.worlds.now) = fits c in
    let size = length-take-le (length c.args.worlds.now) c.spread-items.result (omega arith) in
    let long = c.padded.ensures.long in
    let fit = listed_below _ _ _ (2 ^ 64) (lit< tt) (omega arith) l (λ i. Fits-lt-pow (c.type_inv.worlds i)) in
    record { some = l.some; few = omega (arith, size); long = long; ascends = l.ascends; blank = l.blank; fit = fit }

pub returns : goal.returns
returns c = let d = (goal.at.returns c).After-padded in (fits d, (made d).same)
