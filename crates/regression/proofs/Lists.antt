-- How the definitions of rows go through a list, one row after the other. Assumes nothing.
use Rattle.std.proofs.Common.{◌≡◌, ℕ, ◌^◌, Bool, true, false, not, ◌&&◌, ◌||◌, cond, List, [], ◌∷◌, ◌++◌, map, sym, refl, ap, ◌∙◌, ap₂, append_assoc, append-nil}
use Rattle.std.specs.Int.Bits.{bit_or, or_zero_l}
use Rattle.std.proofs.lemmas.Nat.{or_comm}
use Rattle.std.proofs.lemmas.List.{map-append}
use Rattle.fluents.specs.Sets.{bit, only, union, minus}
use Rattle.fluents.proofs.Bits.{bit-or, bit-minus, same_members}
use Rattle.knowledge.specs.declared.states.Row.{Row}
use Rattle.meaning.specs.Rows.{keep, joined, is_sound, guarded, survives, before, regressed, plus, less, allows, pairs, asked}

-- ---- the rows that pass a test

keep_append : (test : Row → Bool) (xs ys : List Row) → keep test (xs ++ ys) ≡ keep test xs ++ keep test ys
keep_append test [] ys = refl
keep_append test (x ∷ xs) ys = go (test x) (keep_append test xs ys)
  where
    go : (b : Bool) → keep test (xs ++ ys) ≡ keep test xs ++ keep test ys
        → cond b (x ∷ keep test (xs ++ ys)) (keep test (xs ++ ys)) ≡ cond b (x ∷ keep test xs) (keep test xs) ++ keep test ys
    go true ih = ap (λ l. x ∷ l) ih
    go false ih = ih

pub keep_yes : (test : Row → Bool) (xs : List Row) (x : Row) → test x ≡ true → keep test (xs ++ x ∷ []) ≡ keep test xs ++ x ∷ []
keep_yes test xs x e = keep_append test xs (x ∷ []) ∙ ap (λ b. keep test xs ++ cond b (x ∷ []) []) e

pub keep_no : (test : Row → Bool) (xs : List Row) (x : Row) → test x ≡ false → keep test (xs ++ x ∷ []) ≡ keep test xs
keep_no test xs x e = keep_append test xs (x ∷ []) ∙ ap (λ b. keep test xs ++ cond b (x ∷ []) []) e ∙ append-nil (keep test xs)

-- ---- the conditions joined to each row

pub guarded_append : (c : Row) (xs ys : List Row) → guarded c (xs ++ ys) ≡ guarded c xs ++ guarded c ys
unfolding guarded
guarded_append c xs ys = ap (keep is_sound) (map-append (joined c) xs ys) ∙ keep_append is_sound (map (joined c) xs) (map (joined c) ys)

pub guarded_none : (c : Row) → guarded c [] ≡ []
unfolding guarded
guarded_none c = refl

pub guarded_sound : (c r : Row) → is_sound (joined c r) ≡ true → guarded c (r ∷ []) ≡ joined c r ∷ []
unfolding guarded
guarded_sound c r e = ap (λ b. cond b (joined c r ∷ []) []) e

pub guarded_unsound : (c r : Row) → is_sound (joined c r) ≡ false → guarded c (r ∷ []) ≡ []
unfolding guarded
guarded_unsound c r e = ap (λ b. cond b (joined c r ∷ []) []) e

-- ---- the rows before a doing action

pub regressed_none : (add del : ℕ) → regressed add del [] ≡ []
unfolding regressed
regressed_none add del = refl

pub regressed_yes : (add del : ℕ) (xs : List Row) (x : Row) → survives add del x ≡ true → regressed add del (xs ++ x ∷ []) ≡ regressed add del xs ++ before add del x ∷ []
unfolding regressed
regressed_yes add del xs x e =
    ap (map (before add del)) (keep_yes (survives add del) xs x e) ∙ map-append (before add del) (keep (survives add del) xs) (x ∷ [])

pub regressed_no : (add del : ℕ) (xs : List Row) (x : Row) → survives add del x ≡ false → regressed add del (xs ++ x ∷ []) ≡ regressed add del xs
unfolding regressed
regressed_no add del xs x e = ap (map (before add del)) (keep_no (survives add del) xs x e)

-- ---- the pairs of rows

pub pairs_more : (ts : List Row) (t : Row) (es : List Row) → pairs (ts ++ t ∷ []) es ≡ pairs ts es ++ map (joined t) es
pairs_more [] t es = append-nil (map (joined t) es)
pairs_more (x ∷ ts) t es = ap (λ l. map (joined x) es ++ l) (pairs_more ts t es) ∙ sym (append_assoc (map (joined x) es) (pairs ts es) (map (joined t) es))

-- ---- the row with one literal alone

-- no literal
abbrev blank : Row
blank = record { trues = 0; falses = 0 }

joined_alone : (f : ℕ) (v : Bool) (r : Row) → joined (plus f v blank) r ≡ plus f v r
joined_alone f true r = λ i. record { trues = (ap (λ (n : ℕ). bit_or n r.trues) (or_zero_l (2 ^ f)) ∙ or_comm (2 ^ f) r.trues) i; falses = or_zero_l r.falses i }
joined_alone f false r = λ i. record { trues = or_zero_l r.trues i; falses = (ap (λ (n : ℕ). bit_or n r.falses) (or_zero_l (2 ^ f)) ∙ or_comm (2 ^ f) r.falses) i }

-- a literal that was lost comes back
absorbed : (x y : Bool) → (y && not x || x) ≡ (y || x)
absorbed true true = refl
absorbed true false = refl
absorbed false true = refl
absorbed false false = refl

union_less : (a o : ℕ) → union (minus a o) o ≡ union a o
union_less a o = same_members _ _ (λ i. bit-or (minus a o) o i ∙ ap (λ b. b || bit o i) (bit-minus a o i) ∙ absorbed (bit o i) (bit a i) ∙ sym (bit-or a o i))

plus_less : (f : ℕ) (v : Bool) (r : Row) → plus f v (less f v r) ≡ plus f v r
plus_less f true r = λ i. record { trues = union_less r.trues (only f) i; falses = r.falses }
plus_less f false r = λ i. record { trues = r.trues; falses = union_less r.falses (only f) i }

joined_less_each : (f : ℕ) (v : Bool) (rs : List Row) → map (joined (plus f v blank)) (map (less f v) rs) ≡ map (plus f v) rs
joined_less_each f v [] = refl
joined_less_each f v (r ∷ rs) = ap₂ (λ x xs. x ∷ xs) (joined_alone f v (less f v r) ∙ plus_less f v r) (joined_less_each f v rs)

-- ---- what is gathered, with the conditions c, behind what was there

pub gather_none : (c : Row) (start : List Row) → start ≡ start ++ guarded c []
gather_none c start = sym (ap (λ l. start ++ l) (guarded_none c) ∙ append-nil start)

-- the three sorts of candidates of a reading, one after the other
pub gather_asked : (c : Row) (f : ℕ) (ts es ts' es' : List Row) → ts' ≡ map (less f true) (keep (allows f true) ts) → es' ≡ map (less f false) (keep (allows f false) es)
    → (first second third : List Row) → first ≡ guarded c (map (joined (plus f true blank)) ts')
    → second ≡ first ++ guarded c (map (joined (plus f false blank)) es')
    → third ≡ second ++ guarded c (pairs ts' es')
    → third ≡ guarded c (asked f ts es)
unfolding asked
gather_asked c f ts es ts' es' p q first second third a b d =
    d ∙ ap₂ (λ l r. l ++ guarded c r)
    (b ∙ ap₂ (λ l r. l ++ guarded c r) (a ∙ ap (guarded c) (ap (map (joined (plus f true blank))) p ∙ joined_less_each f true us)) (ap (map (joined (plus f false blank))) q ∙ joined_less_each f false vs))
    (ap₂ pairs p q)
    ∙ append_assoc (guarded c (map (plus f true) us)) (guarded c (map (plus f false) vs)) (guarded c both)
    ∙ ap (λ l. guarded c (map (plus f true) us) ++ l) (sym (guarded_append c (map (plus f false) vs) both))
    ∙ sym (guarded_append c (map (plus f true) us) (map (plus f false) vs ++ both))
  where
    us : List Row
    us = keep (allows f true) ts

    vs : List Row
    vs = keep (allows f false) es

    both : List Row
    both = pairs (map (less f true) us) (map (less f false) vs)
