use Rattle.std.proofs.Common.{◌-◌, [], ◌∷◌, sym, ◌∙◌, arith}
use Rattle.runs.proofs.Slots.{shifted}
use Rattle.runs.proofs.waiting.Waiting.pop.Goals as goal

pub returns : goal.returns
returns g c =
    let w = c.self.inside in
    let xs = w.second ∷ w.third ∷ w.fourth ∷ w.fifth ∷ w.sixth ∷ w.seventh ∷ w.eighth ∷ [] in
    sym c.self.view_is ∙ shifted w.first xs w.eighth w.count (w.count - 1) (omega arith) (omega arith)
