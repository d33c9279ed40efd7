-- The kind of the node that bytes begin with, and what is read there. Assumes nothing.
use Rattle.std.proofs.Common.{◌≡◌, ℕ, zero, suc, ◌<◌, true, List, ◌∷◌, ◌++◌, Option, Some, None, IsSomeAnd, Result, Ok, Err, sym, refl, ap, ◌∙◌, subst, slice_get}
use Rattle.std.specs.Result.{result_ok}
use Rattle.fluents.specs.declared.faults.Refusal.{Refusal}
use Rattle.plans.specs.Kinds.{code_of, Decodes}
use Rattle.plans.specs.Trees.{Plan, finish, act, ask, gap, encode, Named}
use Rattle.plans.specs.declared.Kind.{Kind}
use Rattle.plans.specs.declared.Kind.TheVariants.{End, Doing, Reading, Gap}
use Rattle.procedure.specs.Procedures.{Act, does_at, reads_at}
use Rattle.meaning.specs.Nodes.{Shown, ShownDoing, ShownReading}
use Rattle.meaning.specs.declared.nodes.Node.{Node}

-- the kind that a byte was read as, and a byte that is of no kind
pub kind_read : (b : ℕ) (r : Result Kind Refusal) (k : Kind) → Decodes b r → Some k ≡ result_ok r → code_of k ≡ b
kind_read b (Ok x) k d e = cc
kind_read b (Err why) k d e = cc

pub no_kind_read : (b : ℕ) (r : Result Kind Refusal) → Decodes b r → None ≡ result_ok r → 3 < b
no_kind_read b (Ok x) d e = cc
no_kind_read b (Err why) d e = d.1

-- the kind of a plan's first node
abbrev kind_at : Plan → Kind
kind_at finish = End
kind_at (act a p) = Doing
kind_at (ask a p q) = Reading
kind_at gap = Gap

abbrev kind_of : ℕ → Kind
kind_of zero = End
kind_of (suc zero) = Doing
kind_of (suc (suc zero)) = Reading
kind_of (suc (suc (suc n))) = Gap

kind_is : (k : Kind) → kind_of (code_of k) ≡ k
kind_is End = refl
kind_is Doing = refl
kind_is Reading = refl
kind_is Gap = refl

first_code : (q : Plan) (b : ℕ) (tail more : List ℕ) → b ∷ tail ≡ encode q ++ more → b ≡ code_of (kind_at q)
first_code finish b tail more e = cc
first_code (act a p) b tail more e = cc
first_code (ask a p q) b tail more e = cc
first_code gap b tail more e = cc

first_kind : (k : Kind) (q : Plan) (b : ℕ) (tail more : List ℕ) → code_of k ≡ b → b ∷ tail ≡ encode q ++ more → k ≡ kind_at q
first_kind k q b tail more code e = sym (kind_is k) ∙ ap kind_of (code ∙ first_code q b tail more e) ∙ kind_is (kind_at q)

-- Where the plan q begins with the byte b, of the kind k of an acting node, the next byte is the number a of its action.
-- What is answered for that action is what the code is to read.
module _ (acts : List Act) (k : Kind) (b a : ℕ) (tail more : List ℕ) (o : Option Node) where
  by_kind : (q : Plan) → k ≡ kind_at q → (k ≡ End → ⊥) → (k ≡ Gap → ⊥) → b ∷ tail ≡ encode q ++ more → Some a ≡ slice_get tail 0
      → Named (does_at acts) (reads_at acts) q
      → (k ≡ Doing → does_at acts a ≡ true → IsSomeAnd o (ShownDoing acts a)) → (k ≡ Reading → reads_at acts a ≡ true → IsSomeAnd o (ShownReading acts a))
      → IsSomeAnd o (Shown acts q)
  by_kind finish is no_end no_gap e number named d r = absurd (no_end is)
  by_kind (act n p) is no_end no_gap e number named d r =
      let same : a ≡ n = cc in
      subst (λ (x : ℕ). IsSomeAnd o (ShownDoing acts x)) same (d is (ap (does_at acts) same ∙ named.0))
  by_kind (ask n p q) is no_end no_gap e number named d r =
      let same : a ≡ n = cc in
      subst (λ (x : ℕ). IsSomeAnd o (ShownReading acts x)) same (r is (ap (reads_at acts) same ∙ named.0))
  by_kind gap is no_end no_gap e number named d r = absurd (no_gap is)

  pub reads_action : (q : Plan) → code_of k ≡ b → (k ≡ End → ⊥) → (k ≡ Gap → ⊥) → b ∷ tail ≡ encode q ++ more → Some a ≡ slice_get tail 0
      → Named (does_at acts) (reads_at acts) q
      → (k ≡ Doing → does_at acts a ≡ true → IsSomeAnd o (ShownDoing acts a)) → (k ≡ Reading → reads_at acts a ≡ true → IsSomeAnd o (ShownReading acts a))
      → IsSomeAnd o (Shown acts q)
  reads_action q code no_end no_gap e = by_kind q (first_kind k q b tail more code e) no_end no_gap e
