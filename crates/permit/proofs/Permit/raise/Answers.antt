use Rattle.std.proofs.Common.{refl}
use Rattle.permit.proofs.Bits.{zero_test, raised_set, raised_others, lowered_back}
use Rattle.permit.proofs.Permit.raise.Goals as goal

pub returns : goal.returns
returns c =
    let w = c.args.word.now in
    record { zero = raised_set w; held = refl; set = refl; kept = zero_test w; back = lowered_back w _ (zero_test w); others = raised_others w }
