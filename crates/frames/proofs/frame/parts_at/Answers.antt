use Rattle.std.proofs.Common.{◌≡◌, length, refl, ap, ◌∙◌, rules}
use Rattle.std.proofs.lemmas.List.{take_rest}
use Rattle.frames.specs.Bytes.{little}
use Rattle.frames.proofs.Parts.{split}
use Rattle.frames.proofs.frame.parts_at.Goals as goal

pub returns : goal.returns
returns c =
    let whole = c.in_ok-bytes.ensures in
    let body = c.split_at.result.0.now in
    let kind : c.from_le_bytes.result ≡ little 2 body 2 = search rules in
    let sum : c.from_le_bytes-2.result ≡ little 2 c.split_at.result.1.now 0 = search rules in
    let parts =
    split c.args.file.now c.args.place c.in_ok-bytes.bytes.now body c.split_at.result.1.now whole.0 whole.1
    c.split_at.ensures.front c.split_at.ensures.back in (
      whole.0,
      record {
        body = parts.body_is;
        kind = kind ∙ parts.kind_is;
        payload = take_rest body 4 ∙ parts.payload_is;
        long = ap length (take_rest body 4) ∙ parts.long;
        place = refl;
        sum = sum ∙ parts.sum_is;
      },
    )
