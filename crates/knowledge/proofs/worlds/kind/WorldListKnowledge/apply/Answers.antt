use Rattle.std.proofs.Common.{◌≡◌, ℕ, map, take, sym, ap, ◌∙◌, subst}
use Rattle.std.specs.List.{ContainsAt as Has}
use Rattle.std.proofs.lemmas.List.{take_all}
use Rattle.std.proofs.lemmas.Result.{MatchResult-at_ok}
use Rattle.knowledge.specs.Meaning.{after}
use Rattle.knowledge.specs.Worlds.{list_of, SameWorlds}
use Rattle.knowledge.proofs.Choosing.{has_map, has_unmap}
use Rattle.knowledge.proofs.worlds.kind.WorldListKnowledge.apply.Goals as goal

pub returns : goal.returns
returns c = λ w.
    let ws = list_of c.args.self in
    let f : ℕ → ℕ = after c.args.action in
    let seen : ws ≡ c.as_slice-world-items.result.now = sym c.as_slice-world-items.ensures in
    let all : c.deref.result.now ≡ map f ws =
    c.deref.ensures.0 ∙ c.loop-world.invariant ∙ ap (map f) (ap (take c.loop-world.world-index) seen ∙ take_all c.loop-world.world-index c.as_slice-world-items.result.now c.loop-world-test.false ∙ sym seen) in
    let same = subst (SameWorlds (list_of c.unwrap.result)) all (MatchResult-at_ok _ _ _ c.unwrap.ensures c.new.ensures).1 in (
      (λ h. has_unmap f 0 ws w (same.0 w h)),
      (λ h. same.1 w (subst (Has (map f ws)) (sym h.2) (has_map f ws h.0 h.1))),
    )
