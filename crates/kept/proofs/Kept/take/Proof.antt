-- `take` takes the value out. Assumes `Logic`.
use Rattle.std.proofs.Common.{◌≡◌, List, [], ◌∷◌, ◌++◌, sym, refl, ap, ◌∙◌, subst}
use seplogic.Ra.Ura.{Ura}
use mir.Syntax.{Fn, a_type}
use mir.Val.{Val, vstruct, of_list}
use mir.MapTy.{inst_fn}
use base.Logic.{SProp, ent, sep}
use prog.Memory.{Memory}
use prog.Routine.{Routine}
use prog.Wp.{Calls, Loops, WpFn, Tables}
use types.Logic.{Logic, sem}
use contract.Monad.{Fun}
use contract.Running.{tables, tables_of}
use sound.WpLaws.{WpFn-mono}
use types.Kit.{‵, raw, ◌⊛◌, ◌$◌, ◌∵◌, !, qed, by, move, keep, split, join, fsplit, fjoin, suffices, done, fpick, feq_l, rewrite, updating, now}
use base.Fml.{ftrue}
use types.Run.{stop, of_opd, returns, enter, fld}
use types.ByLocal.{alloc_all, pass_all, free_all, look_at, get, sets, get_in}
use types.Part.{sub, whole}
use denote.Exit.{no}
use denote.RattleType.{RattleType, owns}
use denote.Laws.{Lawful, Is, shows}
use denote.Signature.{plain}
use denote.Steps.{nothing, peeks}
use denote.Param.{layout, layouts, param}
use denote.Param.Laws.{param_laws}
use denote.Struct.Struct.{as_fields}
use denote.Triple.Clauses.{Clauses, closing}
use denote.Triple.Entry.{alive}
use denote.Triple.Spec.{Meets, triple_of}
use denote.Triple.Table.{entered}
use denote.Triple.Walked.{Stays, stay_dropped, walk_of, ends_at, Goes, walk_Meets, says}
use Rattle.kept.specs.contracts.Kept.{the_row}
use Rattle.kept.specs.contracts.Kept.take.{ended, clauses}
use Rattle.kept.specs.contracts.Kept.take.Key.{name as #self}
use Rattle.kept.proofs.Kept.take.Statement as stated
use Rattle.kept.proofs.Kept.take.Code as code
use Rattle.kept.proofs.Round.{Good, one, round}

module _ (Y : RattleType) where
  abbrev function : Fn
  function = inst_fn (layouts (a_type ∷ []) (Y, tt)) code.function

  abbrev stayed : Stays (ended Y).signature.params (ended Y).kept
  stayed = (stay_dropped (plain (λ _. the_row (param 0 Y))) no, tt)

module _ (Y : RattleType) {M : Type 1} {𝓤 : Ura M} (𝓛 : Logic 𝓤) (L : Lawful 𝓛 (param 0 Y)) (mem : Memory → SProp 𝓤) (run : Routine → Fun 𝓤) where
  open 𝓛 use {H}

  abbrev held : Clauses 𝓤 (ended Y)
  held = clauses Y 𝓛 mem run

  module _ (C : Calls 𝓤 H) (Λ : Loops 𝓤 H) (z : (walk_of 𝓛 (ended Y) (stayed Y) held).Ghost) where
    abbrev At : List Val → (walk_of 𝓛 (ended Y) (stayed Y) held).Ghost
    At us = ((z.0.0, z.0.1, z.0.2, z.0.3, (us, tt)), z.1)

    abbrev Post : List Val → Val → SProp 𝓤
    Post us = (walk_of 𝓛 (ended Y) (stayed Y) held).post (At us)

    abbrev Runs : List Val → Type 1
    Runs us = ent 𝓤 ((walk_of 𝓛 (ended Y) (stayed Y) held).pre (At us)) (WpFn 𝓤 H C Λ (function Y) (us ++ []) (Post us))

    abbrev x : Y.Denot
    x = z.0.3.0.value

    exits : (us : List Val) (v : Val) → ent 𝓤 (sep 𝓤 (alive 𝓛 (ended Y).signature z.0.0 z.0.1) (sem 𝓛 (Y.own_val x (v ∷ [])))) (Post us v)
    exits us v =
        qed 𝓛 (raw (alive 𝓛 (ended Y).signature z.0.0 z.0.1) ∷ ‵ (Y.own_val x (v ∷ [])) ∷ []) ∵ suffices ! _ (ends_at 𝓛 (ended Y) (stayed Y) held (At us) v x ((tt, tt), tt) (tt, tt)) $
        says ! refl $ nothing ! $ nothing ! $ fjoin ! $ move ! (0 ∷ 2 ∷ []) $ join ! $ move ! (1 ∷ 0 ∷ []) $ join ! $ done !

    walks : (v : Val) → Good (layout Y) v → ent 𝓤 (sep 𝓤 (sem 𝓛 (Y.own_val x (v ∷ []))) (alive 𝓛 (ended Y).signature z.0.0 z.0.1)) (WpFn 𝓤 H C Λ (function Y) (round v ∷ []) (Post (round v ∷ [])))
    walks v g =
        qed 𝓛 (‵ (Y.own_val x (v ∷ [])) ∷ raw (alive 𝓛 (ended Y).signature z.0.0 z.0.1) ∷ []) ∵
        enter ! C Λ (function Y) (round v ∷ []) _ $ alloc_all ! (λ l. pass_all ! refl (as_fields (layout Y ∷ []) (v ∷ []) (g, tt), tt) $
        sets ! (of_opd ! (get_in ! (fld ! refl (stop !)) (sub ! 0 refl (whole !)))) refl g $
        sets ! (of_opd ! (get ! refl)) refl g $
        returns ! (look_at ! 0 refl) $ free_all ! refl $ keep ! (1 ∷ 0 ∷ []) $ by ! (exits (round v ∷ []) v))

    entry : (us : List Val) → Runs us
    entry us =
        qed 𝓛 ((raw (alive 𝓛 (ended Y).signature z.0.0 z.0.1) ⊛ ‵ (owns (the_row (param 0 Y) ∷ []) z.0.3 (us, tt))) ∷ raw ((held z.0.0 z.0.3).requires z.1) ∷ []) ∵ split ! $ move ! (1 ∷ []) $ fsplit ! $ fsplit ! $ keep ! (0 ∷ 3 ∷ []) $
        fpick ! (λ vss. fsplit ! $ feq_l ! (λ e₀. fsplit ! $ keep ! (0 ∷ 2 ∷ []) $ peeks ! (param 0 Y) (Is (param 0 Y)) (shows 𝓛 (param 0 Y)) x vss.0 (λ is.
        let got = one (layout Y) vss.0 (L.typed x vss.0 is) in
        rewrite ! 0 (λ (ws : List Val). ‵ (Y.own_val x ws)) got.1 refl $
        let e : us ≡ round got.0 ∷ [] = e₀ ∙ ap (λ (ws : List Val). vstruct (of_list (ws ++ [])) ∷ []) got.1 in
        by ! (subst (λ (ws : List Val). ent 𝓤 (sep 𝓤 (sem 𝓛 (Y.own_val x (got.0 ∷ []))) (alive 𝓛 (ended Y).signature z.0.0 z.0.1)) (WpFn 𝓤 H C Λ (function Y) (ws ++ []) (Post ws))) (sym e) (walks got.0 got.2)))))

  gone : Goes 𝓛 1 (plain (λ _. the_row (param 0 Y))) no (stay_dropped (plain (λ _. the_row (param 0 Y))) no)
  gone κs x f vs ok = qed 𝓛 (‵ ftrue ∷ []) ∵ updating ! $ now ! $ nothing ! $ fjoin ! $ done !

  meets : (𝓣 : Tables 𝓤 H) → Meets 𝓛 (ended Y).signature (WpFn 𝓤 H 𝓣.C 𝓣.Λ (function Y)) (closing 𝓛 (ended Y) held)
  meets 𝓣 =
      walk_Meets 𝓛 (ended Y) (stayed Y) (gone, tt) held
      (WpFn 𝓤 H 𝓣.C 𝓣.Λ (function Y)) (WpFn-mono 𝓤 H 𝓛.laws 𝓣 (function Y))
      (λ z. entry 𝓣.C 𝓣.Λ z z.0.4.0)

pub take_spec : {M : Type 1} → stated.statement M
unfolding tables_of
take_spec 𝓤 𝓛 𝓜 𝓡 wired Y laws =
    let A = 𝓛.A in
    let 𝓣 : Tables 𝓤 𝓛.H = tables_of 𝓤 𝓛.H 𝓜 (tables 𝓤 𝓛.H 𝓜 𝓡 𝓡.env) in
    entered 𝓤 𝓛.H (triple_of 𝓛 (ended Y).signature (closing 𝓛 (ended Y) (clauses Y 𝓛 𝓜.mem 𝓡.returns))) 𝓣.C 𝓣.Λ (#self (layouts (a_type ∷ []) (Y, tt))) (function Y) (code.unfolded 𝓤 𝓛.H 𝓜 𝓡 wired (Y, tt))
    (meets Y 𝓛 ((param_laws 0 Y laws).lawful 𝓛) 𝓜.mem 𝓡.returns 𝓣)
