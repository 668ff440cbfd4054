-- What an admission and a release leave (02, item 8: 'A bay is admitted, fresh'; 'A bay taken out gives its part back'), each a predicate of any
-- function in the place of `call_of`, in every box, whatever its bytes.
use Rattle.std.specs.Prelude.{ℕ, ◌≡◌, List}
use Rattle.std.proofs.Math.Option.{none}
use Rattle.spec_sequence.specs.Check.{checked, check_of}
use Rattle.spec_sequence.specs.Ceilings.{ceiling_of}
use Rattle.spec_tick.specs.Demands.{cleared}
use Rattle.spec_base.specs.Parts.{slot, zeros}
use Rattle.spec_bay.specs.Table.{lookup}
use Rattle.spec_bay.specs.Called.{number, memory_after}
use Rattle.spec_bay.specs.Stretch.{bay_length, length_in, sequence_in, read_back_in, ceiling_in, service_only_in, state_in, last_number_in, positions_in, ledger_in, Terms}
use Rattle.spec_box.specs.Box.{stretch_of, admit, release}
use Rattle.spec_box.specs.Lists.{Calling}
use Rattle.spec_box.specs.Shares.{Sendable}

-- the bay after an admission with the terms t
pub record FreshlyFilled (t : Terms) (before after : List ℕ) : Type 0 where
  -- the sequence passes the check, and the bay holds it with both sets
  pub accepted : check_of t.sequence t.read_back ≡ 0
  pub sequence : sequence_in after ≡ t.sequence
  pub read_back : read_back_in after ≡ t.read_back
  pub service_only : service_only_in after ≡ t.service_only
  -- 'fresh', with no instant yet and no positions
  pub state : state_in after ≡ cleared
  pub no_instant : last_number_in after ≡ 0
  pub no_positions : (name : ℕ) → lookup name (positions_in after) ≡ none
  -- its part of the shared ceiling is Item 6's
  pub ceiling : ceiling_in after ≡ ceiling_of t.read_back (checked t.sequence t.read_back)
  -- the ledger of the bay number stays
  pub ledger : ledger_in after ≡ ledger_in before

abbrev pub AdmissionLeaves : Calling → Type 0
AdmissionLeaves call =
    (box : List ℕ) (bay : ℕ) (t : Terms) → Sendable (admit t) → number (call box bay (admit t)) ≡ 0
    → FreshlyFilled t (stretch_of bay box) (stretch_of bay (memory_after (call box bay (admit t))))

-- the bay after it was taken out: empty, with nothing left of it but the ledger of the bay number
pub record TakenOut (before after : List ℕ) : Type 0 where
  pub empty : length_in after ≡ 0
  pub nothing_left : slot 0 bay_length after ≡ zeros bay_length
  pub ledger : ledger_in after ≡ ledger_in before

abbrev pub ReleaseLeaves : Calling → Type 0
ReleaseLeaves call =
    (box : List ℕ) (bay : ℕ) → number (call box bay release) ≡ 0
    → TakenOut (stretch_of bay box) (stretch_of bay (memory_after (call box bay release)))
