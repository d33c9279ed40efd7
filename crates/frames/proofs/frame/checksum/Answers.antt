use Rattle.std.proofs.Common.{◌≡◌, ℕ, ◌+◌, ◌%◌, fold, ◌∙◌, rules}
use Rattle.frames.proofs.Sums.{sum_folded}
use Rattle.frames.proofs.frame.checksum.Goals as goal

pub returns : goal.returns
returns c =
    let folded : c.fold.result ≡ fold (λ (total b : ℕ). (total + b) % 65536) 0 c.args.bytes.now = search rules in
    folded ∙ sum_folded c.args.bytes.now
