-- What a fresh statement answers behind one that reacted, for whatever statement the bytes encode (layout, specs/Layout).
use Rattle.std.specs.Prelude.{ℕ, List}
use Rattle.spec_language.specs.Statement.{Statement}
use Rattle.theory_language.specs.Traced as Traces
use Rattle.theory_language.specs.Traced.{start_traced, seq_traced}
use Rattle.layout.specs.Layout.{Lies}
use Rattle.reaction.specs.declared.Reaction.{Reaction}
use Rattle.reaction.specs.Reactions.{Realizes}

-- r is what comes of a tree u, by which the litres were x, and then the statement encoded there, started where u has ended
abbrev pub StartedAfter : (t : List ℕ) (d a : ℕ) (bs : List ℕ) (e : ℕ) (x y : List ℕ) (p r : Reaction) → Type 0
StartedAfter t d a bs e x y p r =
    (base : ℕ) (q : Statement) → Lies t d base a bs q → (f : ℕ) (u : Traces.Traced) (w : List ℕ) → Realizes f w x p u
    → Realizes f w y r (seq_traced q u (start_traced f q e))
