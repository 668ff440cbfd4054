-- What the machine by rewriting of demand 3 (spec_tick, Paper) shows for a program and its inputs, up to the instant that ends it:
-- every field of a listing but the labels, which the paper does not know. A listing does not print the number of reactions.
use Rattle.std.specs.Prelude.{ℕ, suc, List, [], ◌∷◌}
use Rattle.spec_language.specs.Statement.{Statement}
use Rattle.spec_language.specs.Machines.{Seen, instant, refused, Rewriting, by_rewriting, run}
use Rattle.spec_tick.specs.AnswerRecord.{code_byte}
use Rattle.spec_programs.specs.Listing.{Entry}

pub record Columns : Type 0 where
  pub instant : ℕ
  pub code : ℕ
  pub kind : ℕ
  pub place : ℕ
  pub emitted : ℕ

abbrev pub columns : Entry → Columns
columns r = record { instant = r.instant; code = r.code; kind = r.kind; place = r.place; emitted = r.emitted }

-- numbered from i
unfoldable pub instants : (i : ℕ) → List Seen → List Columns
instants i [] = []
instants i (instant k x o n after ∷ later) =
    record { instant = i; code = code_byte k; kind = x.kind; place = x.place; emitted = o } ∷ instants (suc i) later
instants i (refused ∷ later) = []

abbrev pub paper_columns : Statement → (inputs : List ℕ) → List Columns
paper_columns p inputs = instants 1 (run by_rewriting (Rewriting.fresh p) inputs)
