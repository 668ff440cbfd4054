-- Laws of a row: the fields that the records hold, each put before the next.
use Prim.Native.Nat.{ℕ}
use mathlib.Core.Path.{◌≡◌, subst}
use mathlib.Core.List.{List, ◌++◌}
use lib.ListN.{length}
use Rattle.spec_tick.specs.StateRecord.{labels_in}
use Rattle.spec_tick.specs.AnswerRecord.{code_in, kind_in, place_in, emitted_in}
use Rattle.spec_programs.specs.Listing.{numbers_of, sets_of, line_of, entry_read}
use Rattle.lines.specs.declared.line.Line.{Line}
use Rattle.lines.specs.Buffer.{Prepended}
use Rattle.lines.specs.Shown.{line_length, Displays}
use Rattle.lines.proofs.Lines.{shown}
use Rattle.lines.proofs.Buffers.{before}

-- what a row reads of the records
pub record Fields (state answer : List ℕ) (labels emitted place kind code : ℕ) : Type 0 where
  pub labels_are : labels ≡ labels_in state
  pub emitted_are : emitted ≡ emitted_in answer
  pub place_is : place ≡ place_in answer
  pub kind_is : kind ≡ kind_in answer
  pub code_is : code ≡ code_in answer

row_text : {state answer : List ℕ} {labels emitted place kind code : ℕ} (instant : ℕ) → Fields state answer labels emitted place kind code
    → numbers_of instant code kind place ++ sets_of emitted labels ≡ line_of (entry_read instant state answer)
unfolding line_of
row_text instant f = rw (f.labels_are, f.emitted_are, f.place_is, f.kind_is, f.code_is)

-- a row: its numbers before its sets
pub shown_row : {l m state answer : List ℕ} {at labels emitted place kind code : ℕ} (instant : ℕ) → Fields state answer labels emitted place kind code
    → (line : Line) → length l ≡ line_length → length line.bytes ≡ length l
    → Prepended l line_length (sets_of emitted labels) m at → Prepended m at (numbers_of instant code kind place) line.bytes line.from
    → Displays line (line_of (entry_read instant state answer))
shown_row {l} instant f line n k p q =
    shown line n k (subst (λ (t : List ℕ). Prepended l line_length t line.bytes line.from) (row_text instant f) (before p q))
