use Rattle.std.proofs.Common.{◌≡◌, sym, refl, ap, ◌∙◌, subst}
use Rattle.knowledge.specs.Worlds.{list_of, SameWorlds}
use Rattle.procedure.specs.Fields.{are_inside, worlds_in}
use Rattle.procedure.proofs.Options.{was_ok}
use Rattle.procedure.proofs.Worlds.{all_inside}
use Rattle.procedure.proofs.starts.worlds_into.Goals as goal

pub returns-then-not-are_inside : goal.returns-then-not-are_inside
returns-then-not-are_inside c =
    let lent : c.deref.result.now ≡ worlds_in c.args.bytes.now = c.deref.ensures.0 ∙ c.worlds_in-worlds.ensures.items in
    (ap (are_inside c.args.n) (sym lent) ∙ sym (all_inside c.args.n c.deref.result.now) ∙ sym c.are_inside.ensures ∙ c.if-not-are_inside.true, refl)

pub returns : goal.returns
returns c =
    let lent : c.deref.result.now ≡ worlds_in c.args.bytes.now = c.deref.ensures.0 ∙ c.worlds_in-worlds.ensures.items in
    let again : c.deref-2.result.now ≡ worlds_in c.args.bytes.now = c.deref-2.ensures.0 ∙ c.worlds_in-worlds.ensures.items in
    let made = was_ok _ _ c.new.result c.in_ok-list.field-0 c.new.ensures (sym c.ok.ensures.value ∙ c.in_ok-list.was) in (
      ap (are_inside c.args.n) (sym lent) ∙ sym (all_inside c.args.n c.deref.result.now) ∙ sym c.are_inside.ensures ∙ c.if-not-are_inside.false,
      (worlds_in c.args.bytes.now, refl, subst (SameWorlds (list_of c.in_ok-list.field-0)) again made.1),
    )
