-- What a fresh statement answers, for whatever statement the bytes encode (layout, specs/Layout).
use Rattle.std.specs.Prelude.{ℕ, zero, suc, ◌+◌, ◌≡◌, List, get_or}
use Rattle.spec_language.specs.Statement.{Statement}
use Rattle.theory_language.specs.Traced.{start_traced}
use Rattle.layout.specs.Layout.{Lies, Ready}
use Rattle.reaction.specs.declared.Reaction.{Reaction}
use Rattle.reaction.specs.Reactions.{Realizes}

-- r is the tree of the statement encoded there, and the litres x of all farms become y by it
abbrev pub Started : (t : List ℕ) (d a : ℕ) (bs : List ℕ) (e : ℕ) (x y : List ℕ) (r : Reaction) → Type 0
Started t d a bs e x y r = (base : ℕ) (p : Statement) → Lies t d base a bs p → (f : ℕ) → Realizes f x y r (start_traced f p e)

-- b is none of the n bytes from `low` on
abbrev pub Without : (b low n : ℕ) → Type 0
Without b low zero = Unit {0}
Without b low (suc n) = Without b low n × (b ≡ low + n → ⊥)

-- b is none of the commands with parts: 04 to 09 and 0B
abbrev pub Partless : (b : ℕ) → Type 0
Partless b = Without b 4 6 × (b ≡ 11 → ⊥)

-- a command without parts is encoded at the front of bs
pub record Leaf (bs : List ℕ) : Type 0 where
  pub t : List ℕ
  pub d : ℕ
  pub a : ℕ
  pub ready : Ready t d a bs
  pub partless : Partless (get_or bs 0 0)
