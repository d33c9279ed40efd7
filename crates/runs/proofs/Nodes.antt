-- By the node that was read, which plan begins there. Assumes nothing.
use Rattle.std.proofs.Common.{◌≡◌, ℕ, List, Some, sym, ap, ◌∙◌, subst}
use Rattle.knowledge.specs.declared.actions.Action.TheVariants.{Doing as DoingAct, Reading as ReadingAct}
use Rattle.knowledge.specs.declared.actions.DoingAction.{DoingAction}
use Rattle.knowledge.specs.declared.actions.ReadingAction.{ReadingAction}
use Rattle.plans.specs.Trees.{Plan, finish, act, ask, gap}
use Rattle.procedure.specs.Acts.{act_seen}
use Rattle.procedure.specs.Procedures.{Act}
use Rattle.meaning.specs.Nodes.{Shown}
use Rattle.meaning.specs.Steps.{act_at}
use Rattle.meaning.specs.declared.nodes.Node.TheVariants.{End, Doing, Reading, Gap}

module _ (acts : List Act) (P : Plan → Type 0) where
  pub shown_end : (q : Plan) → Shown acts q End → P finish → P q
  shown_end finish s h = h
  shown_end (act a p) (x, e, found) h = absurd (cc e)
  shown_end (ask a p q) (x, e, found) h = absurd (cc e)
  shown_end gap s h = absurd (cc s)

  pub shown_gap : (q : Plan) → Shown acts q Gap → P gap → P q
  shown_gap finish s h = absurd (cc s)
  shown_gap (act a p) (x, e, found) h = absurd (cc e)
  shown_gap (ask a p q) (x, e, found) h = absurd (cc e)
  shown_gap gap s h = h

  pub shown_doing : (q : Plan) (n : ℕ) (x : DoingAction) → Shown acts q (Doing n x)
      → ((p : Plan) → act_at acts n ≡ Some (act_seen (DoingAct x)) → P (act n p)) → P q
  shown_doing finish n x s h = absurd (cc s)
  shown_doing (act a p) n x (y, e, found) h =
      let same : n ≡ a = cc e in
      let one : x ≡ y = cc e in
      subst (λ (m : ℕ). P (act m p)) same (h p (ap (act_at acts) same ∙ found ∙ ap (λ v. Some (act_seen (DoingAct v))) (sym one)))
  shown_doing (ask a p q) n x (y, e, found) h = absurd (cc e)
  shown_doing gap n x s h = absurd (cc s)

  pub shown_reading : (q : Plan) (n : ℕ) (x : ReadingAction) → Shown acts q (Reading n x)
      → ((p r : Plan) → act_at acts n ≡ Some (act_seen (ReadingAct x)) → P (ask n p r)) → P q
  shown_reading finish n x s h = absurd (cc s)
  shown_reading (act a p) n x (y, e, found) h = absurd (cc e)
  shown_reading (ask a p q) n x (y, e, found) h =
      let same : n ≡ a = cc e in
      let one : x ≡ y = cc e in
      subst (λ (m : ℕ). P (ask m p q)) same (h p q (ap (act_at acts) same ∙ found ∙ ap (λ v. Some (act_seen (ReadingAct v))) (sym one)))
  shown_reading gap n x s h = absurd (cc s)
