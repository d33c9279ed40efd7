use Rattle.std.proofs.Common.{◌^◌, ◌<◌, ◌≤◌, sym, ◌∙◌, arith, pow_mono, lt-ltb, le-leb}
use Rattle.procedure.proofs.Inside.{shifted_out}
use Rattle.procedure.proofs.fields.is_inside.Goals as goal

pub returns-then-n-ge64 : goal.returns-then-n-ge64
returns-then-n-ge64 c =
    let n = c.args.n in
    let set = c.args.set in
    let wide : 2 ^ 64 ≤ 2 ^ n = pow_mono c.if-n-ge64.true in
    let small : set < 2 ^ 64 = c.ranges.set.fits in
    le-leb 64 n c.if-n-ge64.true ∙ sym (lt-ltb set (2 ^ n) (omega arith))

pub returns-else-n-ge64 : goal.returns-else-n-ge64
returns-else-n-ge64 c = shifted_out c.args.set c.args.n
