-- How a list of worlds is made from the distinct ones. Assumes nothing.
use Rattle.std.proofs.Common.{◌≡◌, ℕ, ◌+◌, ◌<◌, ◌≤◌, List, [], ◌∷◌, ◌++◌, map, length, get_or, take, set, replicate, sym, ap, ◌∙◌, subst, ⊎_elim, arith}
use Rattle.std.specs.List.{ContainsAt as Has}
use Rattle.std.proofs.lemmas.List.{get_or_default, get_or-replicate, get_or_past, get_or-take, get_or-map, length-map, length-replicate, length-take-le, map_more, map_push, take-append-le, take_more, take_more_set}
use Rattle.std.proofs.lemmas.Bool.{cases_lt, eqb-true, leb-false}
use Rattle.knowledge.proofs.Choosing.{has_map, has_unmap}
use Rattle.least.specs.Kept.{MadeOf, Ascending, Reaches}
use Rattle.knowledge.specs.declared.orders.Distinct.{Distinct}
use Rattle.knowledge.specs.Orders.{world_below, world_upto}
use Rattle.knowledge.specs.Worlds.{world_of, SameWorlds}

pub zeros : (n k : ℕ) → ◌≡◌ {A = ℕ} (get_or (replicate n 0) k 0) 0
zeros n k =
    ⊎_elim
    (λ (lt : k < n). get_or-replicate n k 0 0 lt)
    (λ (le : n ≤ k). get_or_past (replicate n 0) k 0 (subst (λ m. m ≤ k) (sym (length-replicate n 0)) le))
    (cases_lt k n)

-- one more world is wrapped
pub spread_more : (ds : List Distinct) (ws : List ℕ) (i : ℕ) (x : Distinct) → i < length ds → i < length ws → world_of x ≡ get_or ws i 0
    → map world_of (take i ds) ≡ take i ws → map world_of (take (i + 1) (set ds i x)) ≡ take (i + 1) ws
spread_more ds ws i x in-ds in-ws at before =
    ap (map world_of) (take_more_set ds i x in-ds) ∙ map_push world_of (take i ds) x ∙ ap (λ xs. xs ++ world_of x ∷ []) before
    ∙ ap (λ w. take i ws ++ w ∷ []) at ∙ sym (take_more ws i 0 in-ws)

-- one more world is unwrapped
pub padded_more : (ws : List ℕ) (ds : List Distinct) (i : ℕ) (d : Distinct) → i < length ws → i < length ds
    → take i ws ≡ map world_of (take i ds) → take (i + 1) (set ws i (world_of (get_or ds i d))) ≡ map world_of (take (i + 1) ds)
padded_more ws ds i d in-ws in-ds before =
    take_more_set ws i (world_of (get_or ds i d)) in-ws ∙ ap (λ xs. xs ++ world_of (get_or ds i d) ∷ []) before ∙ sym (map_more world_of ds i d in-ds)

-- a world stands in a list where it stands wrapped
has_wrapped : (ds : List Distinct) (w : ℕ) → Has (map world_of ds) w → Has ds (record { world = w })
has_wrapped ds w has =
    let got = has_unmap world_of (record { world = 0 }) ds w has in
    subst (Has ds) (ap (λ n. record { world = n }) (sym got.2)) got.1

-- What a made list has: the given worlds stand in the first n places of ws, strictly ascending, and zeros after them.
pub record Listed (given ws : List ℕ) (n : ℕ) : Type 0 where
  pub some : 1 ≤ n
  pub ascends : (i j : ℕ) → i < j → j < n → get_or ws i 0 < get_or ws j 0
  pub blank : (k : ℕ) → n ≤ k → get_or ws k 0 ≡ 0
  pub same : SameWorlds (take n ws) given

-- ds are the given worlds, es the distinct ones among them, and ws begins with those
module _ (ds es : List Distinct) (ws : List ℕ) (n : ℕ) (size : length es ≡ n) (front : take n ws ≡ map world_of es) where
  kept_some : 0 < length ds → Reaches world_below ds es → 1 ≤ n
  kept_some some reaches =
      let d : Distinct = record { world = 0 } in
      let under = reaches (get_or ds 0 d) (0, some, λ e. get_or_default ds 0 e d some) in
      omega (arith, size, under.1.1)

  kept_ascends : Ascending world_upto es → (i j : ℕ) → i < j → j < n → get_or ws i 0 < get_or ws j 0
  kept_ascends up i j lt in-j =
      let d : Distinct = record { world = 0 } in
      let at : (k : ℕ) → k < n → get_or ws k 0 ≡ world_of (get_or es k d) = λ k in-k.
      sym (get_or-take n ws k 0 in-k) ∙ ap (λ xs. get_or xs k 0) front ∙ get_or-map world_of es k d 0 (omega (arith, size)) in
      omega (arith, at i (omega arith), at j in-j, leb-false (world_of (get_or es j d)) (world_of (get_or es i d)) (up i j d lt (omega (arith, size))))

  kept_same : MadeOf ds es → Reaches world_below ds es → SameWorlds (take n ws) (map world_of ds)
  kept_same made reaches = (
    λ w has. has_map world_of ds (record { world = w }) (made (record { world = w }) (has_wrapped es w (subst (λ xs. Has xs w) front has))),
    λ w has.
        (let under = reaches (record { world = w }) (has_wrapped ds w has) in
        let same : world_of under.0 ≡ w = eqb-true _ _ under.2 in
        subst (λ xs. Has xs w) (sym front) (subst (λ v. Has (map world_of es) v) same (has_map world_of es under.0 under.1))),
  )

-- the first n of the kept worlds are the distinct ones, and ws begins with those
pub listed : (given : List ℕ) (spread kept rest : List Distinct) (ws : List ℕ) (n : ℕ) → 0 < length given
    → map world_of (take (length given) spread) ≡ given → n ≤ length kept → take (length (take n (kept ++ rest))) ws ≡ map world_of (take n (kept ++ rest))
    → ((k : ℕ) → length (take n (kept ++ rest)) ≤ k → get_or ws k 0 ≡ 0)
    → MadeOf (take (length given) spread) (take n kept) → Ascending world_upto (take n kept) → Reaches world_below (take (length given) spread) (take n kept)
    → Listed given ws n
listed given spread kept rest ws n some all in-n front blank made up reaches =
    let ds : List Distinct = take (length given) spread in
    let es : List Distinct = take n kept in
    let part : take n (kept ++ rest) ≡ es = take-append-le n kept rest in-n in
    let size : length es ≡ n = length-take-le n kept in-n in
    let begins : take n ws ≡ map world_of es = subst (λ m. take m ws ≡ map world_of es) size (subst (λ xs. take (length xs) ws ≡ map world_of xs) part front) in
    record {
      some = kept_some ds es ws n size begins (omega (arith, length-map ds world_of, ap length all)) reaches;
      ascends = kept_ascends ds es ws n size begins up;
      blank = λ k le. blank k (subst (λ m. m ≤ k) (sym (ap length part ∙ size)) le);
      same = subst (λ xs. SameWorlds (take n ws) xs) all (kept_same ds es ws n size begins made reaches);
    }

-- a number that bounds the given worlds bounds the made list
pub listed_below : (given ws : List ℕ) (n m : ℕ) → 0 < m → n ≤ length ws → Listed given ws n → ((i : ℕ) → get_or given i 0 < m) → (i : ℕ) → get_or ws i 0 < m
listed_below given ws n m pos in-n l small i =
    ⊎_elim
    (λ (lt : i < n).
    let has = l.same.0 (get_or ws i 0) (i, omega (arith, length-take-le n ws in-n), λ d. get_or-take n ws i d lt ∙ get_or_default ws i d 0 (omega arith)) in
    subst (λ w. w < m) (has.2 0) (small has.0))
    (λ (le : n ≤ i). subst (λ w. w < m) (sym (l.blank i le)) pos)
    (cases_lt i n)
