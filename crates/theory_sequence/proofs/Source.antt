-- What stands in a statement within the limits is within them; so no bytes spell a held suspend.
use Prim.Native.Nat.{ℕ}
use mathlib.Core.List.{List}
use Rattle.spec_language.specs.Statement.{Statement}
use Rattle.spec_language.specs.Places.{Part, PartOf, seq₁, seq₂, par₁, par₂, loop₁, present₁, present₂, signal₁, try₁, suspend₁, Place, At}
use Rattle.spec_language.specs.States.{Source}
use Rattle.spec_sequence.specs.Writer.{Ranged}
use Rattle.spec_sequence.specs.Rows.{Spells}

ranged_part : {d : Part} {p w : Statement} → PartOf d p w → Ranged w → Ranged p
ranged_part seq₁ r = r.0
ranged_part seq₂ r = r.1
ranged_part par₁ r = r.0
ranged_part par₂ r = r.1
ranged_part loop₁ r = r
ranged_part present₁ r = r.1
ranged_part present₂ r = r.2
ranged_part signal₁ r = r.2
ranged_part try₁ r = r
ranged_part suspend₁ r = r.1

pub ranged_at : {x p : Statement} {a : Place} → At x a p → Ranged p → Ranged x
ranged_at At.here r = r
ranged_at (At.inside i u) r = ranged_at u (ranged_part i r)

pub spells_source : (bs : List ℕ) (p : Statement) → Spells bs p → Source p
spells_source bs p w s K q h = ranged_at h.1 w.1.ranged
