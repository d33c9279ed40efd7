use Rattle.std.proofs.Common.{◌/◌, ◌^◌, eqb, sym, ap, ◌∙◌, le-ltb}
use Rattle.fluents.proofs.Bits.{low_digit, bit-above}
use Rattle.fluents.proofs.sets.has.Goals as goal

pub returns-then-member-lt64 : goal.returns-then-member-lt64
returns-then-member-lt64 c = ap (λ n. eqb n 1) (low_digit (c.args.set / 2 ^ c.args.member))

pub returns-else-member-lt64 : goal.returns-else-member-lt64
returns-else-member-lt64 c =
    le-ltb c.args.member 64 c.if-member-lt64.false
    ∙ sym (bit-above c.args.set 64 c.args.member c.ranges.set.fits c.if-member-lt64.false)
