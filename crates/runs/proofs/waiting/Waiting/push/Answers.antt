use Rattle.std.proofs.Common.{refl, ◌+◌, [], ◌∷◌, length, ap, ◌∙◌, arith}
use Rattle.std.proofs.lemmas.List.{length-take-le}
use Rattle.runs.proofs.Slots.{shifted}
use Rattle.runs.proofs.waiting.Waiting.push.Goals as goal

pub returns : goal.returns
returns g c =
    let w = c.self.inside in
    let xs = w.first ∷ w.second ∷ w.third ∷ w.fourth ∷ w.fifth ∷ w.sixth ∷ w.seventh ∷ [] in
    let size = length-take-le w.count (w.first ∷ w.second ∷ w.third ∷ w.fourth ∷ w.fifth ∷ w.sixth ∷ w.seventh ∷ w.eighth ∷ []) c.self.invariant in
    shifted c.args.run xs w.eighth (w.count + 1) w.count refl (omega (arith, size, ap length c.self.view_is, c.requires)) ∙ ap (λ l. c.args.run ∷ l) c.self.view_is
