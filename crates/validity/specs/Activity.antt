-- Row 11 over the bytes, for whatever statement they encode (layout, specs/Layout), by the ranks that reading noted.
use Rattle.std.specs.Prelude.{ℕ, ◌<◌, ◌≡◌, true, false, List, Option, Some, None}
use Rattle.spec_base.specs.Limits.{label_count}
use Rattle.spec_base.specs.Sets.{member, Subset}
use Rattle.spec_language.specs.Statement.{Statement}
use Rattle.spec_language.specs.LabelTests.{pauses, distinct, valid}
use Rattle.theory_language.specs.Ranks.{mask}
use Rattle.labels.specs.Labels.{label_set}
use Rattle.layout.specs.Notes.{Noted, rank_in}
use Rattle.layout.specs.Known.{Known}
use Rattle.labels.specs.declared.Labels.{Labels}

-- the numbers of L are labels, and their noted ranks are numbers of a mask
abbrev pub Ranked : (notes : List ℕ) (L : ℕ) → Type 0
Ranked notes L = (l : ℕ) → member l L ≡ true → (l < label_count) × (rank_in notes l < label_count)

-- m is the mask of the ranks of the pauses in L
abbrev pub Masked : (notes : List ℕ) (L m : ℕ) → Type 0
Masked notes L m = (p : Statement) → Noted p notes → distinct p ≡ true → Subset L (pauses p) → m ≡ mask 0 p L

-- r says whether L is valid, and has the ranks of its pauses
abbrev pub ValidityOf : Statement → (L : ℕ) → Option Labels → Type 0
ValidityOf p L (Some m) = (valid p L ≡ true) × (label_set m ≡ mask 0 p L)
ValidityOf p L None = valid p L ≡ false

abbrev pub Judges : (t notes bs : List ℕ) (L : ℕ) (r : Option Labels) → Type 0
Judges t notes bs L r = (p : Statement) → Known t notes bs p → ValidityOf p L r
