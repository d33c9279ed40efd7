-- A list of worlds is determined by the worlds that stand in it. Assumes nothing.
use Rattle.std.proofs.Common.{◌≡◌, ℕ, ◌<◌, ◌≤◌, leb, List, length, get_or, sym, ap, ◌∙◌, subst, ⊎_elim, arith}
use Rattle.std.proofs.lemmas.List.{ext_get_or, get_or_default, get_or-take, length-take-le}
use Rattle.std.proofs.lemmas.Bool.{cases_lt, le-leb, lt-leb, leb-false}
use Rattle.least.specs.Kept.{Ascending}
use Rattle.least.proofs.Only.{same_from_members}
use Rattle.knowledge.specs.declared.worlds.WorldList.{WorldList}
use Rattle.knowledge.specs.contracts.worlds.WorldList.{the_values, the_ghost, the_propositions}
use Rattle.knowledge.specs.Worlds.{list_of, SameWorlds}

length_list : (l : WorldList) → length (list_of l) ≡ l.len
length_list l = length-take-le l.len l.worlds (omega (arith, l.long, l.few))

list_ascends : (l : WorldList) → Ascending leb (list_of l)
list_ascends l i j d lt in-j =
    let ws : List ℕ = list_of l in
    let size : length ws ≡ l.len = length_list l in
    let at : (k : ℕ) → k < length ws → get_or ws k d ≡ get_or l.worlds k 0 = λ k in-k.
    get_or_default ws k d 0 in-k ∙ get_or-take l.len l.worlds k 0 (omega arith) in
    lt-leb (get_or ws j d) (get_or ws i d) (omega (arith, at i (omega arith), at j in-j, l.ascends i j lt (omega arith)))

same_arrays : (a b : WorldList) → list_of a ≡ list_of b → a.len ≡ b.len → a.worlds ≡ b.worlds
same_arrays a b same len =
    ext_get_or 0 a.worlds b.worlds (a.long ∙ sym b.long)
    (λ i in-i.
    ⊎_elim
    (λ (lt : i < a.len).
    sym (get_or-take a.len a.worlds i 0 lt) ∙ ap (λ xs. get_or xs i 0) same ∙ get_or-take b.len b.worlds i 0 (omega arith))
    (λ (le : a.len ≤ i). a.blank i le ∙ sym (b.blank i (omega arith)))
    (cases_lt i a.len))

built : (v : the_values) → the_ghost v → WorldList
built v g = record {
  worlds = v.0;
  len = v.1.0;
  some = g.0;
  few = g.1.0;
  long = g.1.1.0;
  ascends = g.1.1.1.0;
  blank = g.1.1.1.1.0;
  fit = g.1.1.1.1.1.0;
}

-- the facts of a list have one proof at most, so the list is determined by its numbers
same_built : (v w : the_values) → v ≡ w → (g : the_ghost v) (h : the_ghost w) → built v g ≡ built w h
unfolding built
same_built v w e g =
    subst (λ w. (h : the_ghost w) → built v g ≡ built w h) e (λ h. ap (built v) (the_propositions v g h))

-- two lists in which the same worlds stand are one value
pub same_list : (a b : WorldList) → SameWorlds (list_of a) (list_of b) → a ≡ b
unfolding built
same_list a b same =
    let lists : list_of a ≡ list_of b = same_from_members leb (λ x y h. le-leb y x (omega (arith, leb-false x y h))) (list_of a) (list_of b) (list_ascends a) (list_ascends b) same.0 same.1 in
    let len : a.len ≡ b.len = sym (length_list a) ∙ ap length lists ∙ length_list b in
    same_built (a.worlds, (a.len, tt)) (b.worlds, (b.len, tt))
    (ap (λ ws. (ws, (a.len, tt))) (same_arrays a b lists len) ∙ ap (λ n. (b.worlds, (n, tt))) len)
    (a.some, (a.few, (a.long, (a.ascends, (a.blank, (a.fit, tt))))))
    (b.some, (b.few, (b.long, (b.ascends, (b.blank, (b.fit, tt))))))
