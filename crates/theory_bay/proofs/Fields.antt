-- What the fields of a slot hold after each thing that is written to it.
use Prim.Native.Nat.{ℕ, ◌+◌, ◌-◌, ◌^◌, ◌≤◌, ◌<◌}
use native.Mathlib.Omega.{arith}
use mathlib.Core.Path.{◌≡◌, refl, ap, ◌∙◌}
use mathlib.Core.List.{List}
use lib.ListN.{length, drop, length-drop}
use lib.Seq.{length-take-le}
use Rattle.spec_base.specs.Limits.{max_bytes, signal_bytes, reactions_bytes}
use Rattle.spec_base.specs.Bytes.{le_bytes, le_number}
use Rattle.numbers.proofs.Bytes.{length_le_bytes, le_round_trip}
use Rattle.spec_tick.specs.StateRecord.{state_length}
use Rattle.spec_tick.specs.Demands.{cleared}
use Rattle.spec_base.specs.Parts.{slot, put, zeros}
use Rattle.spec_bay.specs.Ledgers.{ledger_length}
use Rattle.spec_bay.specs.Stretch.{length_bytes, sequence_at, read_back_at, ceiling_at, service_at, state_at, bay_length, stretch_length, length_in, read_back_in, ceiling_in, service_only_in, state_in, ledger_in, vacated, Terms, filled}
use Rattle.numbers.proofs.Zeros.{length-zeros, slot-zeros, zeros_number}
use Rattle.numbers.proofs.Putting.{slot-front, length-put, slot-put, put-before, put-behind}

pub ledger_sized : (s : List ℕ) → length s ≡ stretch_length → length (ledger_in s) ≡ ledger_length
ledger_sized s z = length-take-le ledger_length (drop bay_length s) (omega (arith, length-drop bay_length s))

pub state_sized : (s : List ℕ) → length s ≡ stretch_length → length (state_in s) ≡ state_length
state_sized s z = length-take-le state_length (drop state_at s) (omega (arith, length-drop state_at s))

-- ---- zeros
zeros_state : zeros state_length ≡ cleared
unfolding zeros le_bytes
zeros_state = refl

-- ---- a bay taken out
pub length-vacated : (s : List ℕ) → length s ≡ stretch_length → length (vacated s) ≡ stretch_length
unfolding vacated
length-vacated s h = length-put 0 bay_length (zeros bay_length) s (omega arith) (length-zeros bay_length) ∙ h

pub slot-vacated : (i m : ℕ) (s : List ℕ) → i + m ≤ bay_length → slot i m (vacated s) ≡ zeros m
unfolding vacated put
slot-vacated i m s h =
    slot-front i m (zeros bay_length) (drop bay_length s) (omega (arith, length-zeros bay_length)) ∙ slot-zeros i m bay_length h

pub vacated_empty : (s : List ℕ) → length_in (vacated s) ≡ 0
vacated_empty s = ap le_number (slot-vacated 0 2 s (omega arith)) ∙ zeros_number 2

-- what outlives a release
pub vacated_behind : (i m : ℕ) (s : List ℕ) → length s ≡ stretch_length → bay_length ≤ i → slot i m (vacated s) ≡ slot i m s
unfolding vacated
vacated_behind i m s h l = put-behind 0 bay_length (zeros bay_length) s (omega arith) (length-zeros bay_length) i m l

-- ---- a bay that holds what an admission fixed
pub record Holds (t : Terms) (ceiling : ℕ) (s : List ℕ) : Type 0 where
  pub sized : length s ≡ stretch_length
  pub long : length_in s ≡ length t.sequence
  pub bytes : slot sequence_at (length t.sequence) s ≡ t.sequence
  pub set : read_back_in s ≡ t.read_back
  pub part : ceiling_in s ≡ ceiling
  pub service : service_only_in s ≡ t.service_only

-- it holds the same after anything is written at the state or behind it
module _ (t : Terms) (ceiling : ℕ) (fits : length t.sequence ≤ max_bytes) (s : List ℕ) (h : Holds t ceiling s) where
  pub behind-holds : (at n : ℕ) (bytes : List ℕ) → state_at ≤ at → at + n ≤ stretch_length → length bytes ≡ n
      → Holds t ceiling (put at n bytes s)
  behind-holds at n bytes low high sized =
      let z = h.sized in
      let before = put-before at n bytes s (omega arith) sized in
      record {
        sized = length-put at n bytes s (omega arith) sized ∙ z;
        long = ap le_number (before 0 length_bytes (omega arith)) ∙ h.long;
        bytes = before sequence_at (length t.sequence) (omega arith) ∙ h.bytes;
        set = ap le_number (before read_back_at signal_bytes (omega arith)) ∙ h.set;
        part = ap le_number (before ceiling_at reactions_bytes (omega arith)) ∙ h.part;
        service = ap le_number (before service_at signal_bytes (omega arith)) ∙ h.service;
      }

  -- the state is written
  module _ (state : List ℕ) (sized : length state ≡ state_length) where
    pub moved_holds : Holds t ceiling (put state_at state_length state s)
    moved_holds = behind-holds state_at state_length state (omega arith) (omega arith) sized

    pub moved-state : state_in (put state_at state_length state s) ≡ state
    moved-state = let z = h.sized in slot-put state_at state_length state s (omega arith) sized

-- ---- a bay admitted, store by store
module _ (t : Terms) (ceiling : ℕ) (s : List ℕ) (z : length s ≡ stretch_length) (fits : length t.sequence ≤ max_bytes) where
  abbrev pub s0 : List ℕ
  s0 = vacated s

  abbrev pub s1 : List ℕ
  s1 = put 0 length_bytes (le_bytes length_bytes (length t.sequence)) s0

  abbrev pub s2 : List ℕ
  s2 = put sequence_at (length t.sequence) t.sequence s1

  abbrev pub s3 : List ℕ
  s3 = put read_back_at signal_bytes (le_bytes signal_bytes t.read_back) s2

  pub l0 : length s0 ≡ stretch_length
  l0 = length-vacated s z

  pub l1 : length s1 ≡ stretch_length
  l1 = length-put 0 length_bytes (le_bytes length_bytes (length t.sequence)) s0 (omega (arith, l0)) (length_le_bytes length_bytes (length t.sequence)) ∙ l0

  pub l2 : length s2 ≡ stretch_length
  l2 = length-put sequence_at (length t.sequence) t.sequence s1 (omega (arith, l1)) refl ∙ l1

  pub l3 : length s3 ≡ stretch_length
  l3 = length-put read_back_at signal_bytes (le_bytes signal_bytes t.read_back) s2 (omega (arith, l2)) (length_le_bytes signal_bytes t.read_back) ∙ l2

  abbrev pub s4 : List ℕ
  s4 = put ceiling_at reactions_bytes (le_bytes reactions_bytes ceiling) s3

  pub l4 : length s4 ≡ stretch_length
  l4 = length-put ceiling_at reactions_bytes (le_bytes reactions_bytes ceiling) s3 (omega (arith, l3)) (length_le_bytes reactions_bytes ceiling) ∙ l3

  pub length-filled : length (filled t ceiling s) ≡ stretch_length
  unfolding filled
  length-filled =
      length-put service_at signal_bytes (le_bytes signal_bytes t.service_only) s4 (omega (arith, l4)) (length_le_bytes signal_bytes t.service_only) ∙ l4

  before1 : (i m : ℕ) → length_bytes ≤ i → slot i m s1 ≡ slot i m s0
  before1 = put-behind 0 length_bytes (le_bytes length_bytes (length t.sequence)) s0 (omega (arith, l0)) (length_le_bytes length_bytes (length t.sequence))

  module _ (small : t.read_back < 256 ^ signal_bytes) (hidden : t.service_only < 256 ^ signal_bytes) (low : ceiling < 256 ^ reactions_bytes) where
    pub filled-holds : Holds t ceiling (filled t ceiling s)
    unfolding filled
    filled-holds =
        let before2 = put-before sequence_at (length t.sequence) t.sequence s1 (omega (arith, l1)) refl in
        let before3 = put-before read_back_at signal_bytes (le_bytes signal_bytes t.read_back) s2 (omega (arith, l2)) (length_le_bytes signal_bytes t.read_back) in
        let before4 = put-before ceiling_at reactions_bytes (le_bytes reactions_bytes ceiling) s3 (omega (arith, l3)) (length_le_bytes reactions_bytes ceiling) in
        let before5 = put-before service_at signal_bytes (le_bytes signal_bytes t.service_only) s4 (omega (arith, l4)) (length_le_bytes signal_bytes t.service_only) in
        let few : length t.sequence < 256 ^ length_bytes = omega arith in
        record {
          sized = length-filled;
          long = ap le_number (before5 0 length_bytes (omega arith) ∙ before4 0 length_bytes (omega arith) ∙ before3 0 length_bytes (omega arith) ∙ before2 0 length_bytes (omega arith)
              ∙ slot-put 0 length_bytes (le_bytes length_bytes (length t.sequence)) s0 (omega (arith, l0)) (length_le_bytes length_bytes (length t.sequence)))
              ∙ le_round_trip length_bytes (length t.sequence) few;
          bytes = before5 sequence_at (length t.sequence) (omega arith) ∙ before4 sequence_at (length t.sequence) (omega arith) ∙ before3 sequence_at (length t.sequence) (omega arith)
              ∙ slot-put sequence_at (length t.sequence) t.sequence s1 (omega (arith, l1)) refl;
          set = ap le_number (before5 read_back_at signal_bytes (omega arith) ∙ before4 read_back_at signal_bytes (omega arith)
              ∙ slot-put read_back_at signal_bytes (le_bytes signal_bytes t.read_back) s2 (omega (arith, l2)) (length_le_bytes signal_bytes t.read_back))
              ∙ le_round_trip signal_bytes t.read_back small;
          part = ap le_number (before5 ceiling_at reactions_bytes (omega arith)
              ∙ slot-put ceiling_at reactions_bytes (le_bytes reactions_bytes ceiling) s3 (omega (arith, l3)) (length_le_bytes reactions_bytes ceiling))
              ∙ le_round_trip reactions_bytes ceiling low;
          service = ap le_number
              (slot-put service_at signal_bytes (le_bytes signal_bytes t.service_only) s4 (omega (arith, l4)) (length_le_bytes signal_bytes t.service_only))
              ∙ le_round_trip signal_bytes t.service_only hidden;
        }

  -- what stands behind the service-only set is cleared, and behind that left
  behind-fixed : (i m : ℕ) → state_at ≤ i → slot i m (filled t ceiling s) ≡ slot i m (vacated s)
  unfolding filled
  behind-fixed i m low =
      put-behind service_at signal_bytes (le_bytes signal_bytes t.service_only) s4 (omega (arith, l4)) (length_le_bytes signal_bytes t.service_only) i m (omega arith)
      ∙ put-behind ceiling_at reactions_bytes (le_bytes reactions_bytes ceiling) s3 (omega (arith, l3)) (length_le_bytes reactions_bytes ceiling) i m (omega arith)
      ∙ put-behind read_back_at signal_bytes (le_bytes signal_bytes t.read_back) s2 (omega (arith, l2)) (length_le_bytes signal_bytes t.read_back) i m (omega arith)
      ∙ put-behind sequence_at (length t.sequence) t.sequence s1 (omega (arith, l1)) refl i m (omega arith)
      ∙ before1 i m (omega arith)

  pub filled-zeros : (i m : ℕ) → state_at ≤ i → i + m ≤ bay_length → slot i m (filled t ceiling s) ≡ zeros m
  filled-zeros i m low high = behind-fixed i m low ∙ slot-vacated i m s high

  pub filled-behind : (i m : ℕ) → bay_length ≤ i → slot i m (filled t ceiling s) ≡ slot i m s
  filled-behind i m low = behind-fixed i m (omega arith) ∙ vacated_behind i m s z low

  pub filled-fresh : state_in (filled t ceiling s) ≡ cleared
  filled-fresh = filled-zeros state_at state_length (omega arith) (omega arith) ∙ zeros_state
