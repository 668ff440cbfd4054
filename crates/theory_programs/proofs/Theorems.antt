-- The theorems of this crate: the pieces of a run are the listing of its file, a listing shows what the machine by rewriting
-- shows, 01's example, and one with a read-back set.
use Prim.Native.Nat.{ℕ, ◌+◌, ◌≤◌}
use mathlib.Core.Path.{◌≡◌}
use mathlib.Core.List.{List, ◌++◌, map}
use lib.ListN.{length}
use Rattle.spec_language.specs.Statement.{Statement}
use Rattle.spec_language.specs.States.{NoSetpause}
use Rattle.spec_sequence.specs.Program.{program}
use Rattle.spec_sequence.specs.Rows.{Spells}
use Rattle.spec_programs.specs.Text.{heading, ending}
use Rattle.spec_programs.specs.File.{runs, file_of}
use Rattle.spec_programs.specs.Listing.{Entry, lines, listing_of}
use Rattle.spec_programs.specs.Stages.{opening, turns}
use Rattle.spec_programs.specs.ListingPaper.{columns, paper_columns}
use Rattle.spec_programs.specs.RunExamples.{example_file, example_listing, read_back_file, read_back_listing}
use Rattle.theory_programs.proofs.Turns as all
use Rattle.theory_programs.proofs.Paper as paper
use Rattle.spec_programs.proofs.RunExamples as examples

-- as many turns as the file has bytes, and two, give the whole listing
pub turns_list : (file : List ℕ) (n : ℕ) → length file + 2 ≤ n → turns n (opening file) ≡ listing_of file
turns_list = all.turns_list

-- for a sequence without setpause: a heading, rows that are the machine's in every field but the labels, and the end; the
-- machine is fed the sequence under the declarations of its read-back set
pub listing_by_paper : (file sequence : List ℕ) (read_back : ℕ) (inputs : List ℕ) → file_of file ≡ runs sequence read_back inputs
    → (p : Statement) → Spells sequence p → NoSetpause p
    → (rs : List Entry) × (listing_of file ≡ heading ++ (lines rs ++ ending)) × (map columns rs ≡ paper_columns (program read_back p) inputs)
listing_by_paper = paper.listing_by_paper

pub example : listing_of example_file ≡ example_listing
example = examples.example

-- a signal that is read back is seen by a test behind its emission, and reported
pub read-back_example : listing_of read_back_file ≡ read_back_listing
read-back_example = examples.read_back
