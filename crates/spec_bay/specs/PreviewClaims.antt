-- What 02, item 11, says of a preview, each sentence a predicate of any function in the place of `previewOf`.
use Rattle.std.specs.Prelude.{ℕ, ◌≤◌, ◌<◌, ◌≡◌, ◌≢◌, ◌↔◌, Bool, true, false, cond, List, length}
use Rattle.spec_base.specs.Limits.{signal_count, max_unknown, length_row, unknown_row}
use Rattle.spec_base.specs.Sets.{member, insert, remove, Subset, members_from}
use Rattle.spec_tick.specs.StateRecord.{state_length}
use Rattle.spec_tick.specs.AnswerRecord.{answer_length, code_in, emitted_in}
use Rattle.spec_tick.specs.Tick.{tick_of}
use Rattle.spec_tick.specs.Demands as demands
use Rattle.spec_tick.specs.Demands.{answer_afterwards}
use Rattle.spec_bay.specs.Preview.{filled, openCode, preview_length, every_in, never_in, wrong_in, shared_in, Previewed, previewed, number, buffer_after}

-- sequence, state, input, unknown inputs, read-back set, buffer
abbrev pub Previewing : Type 0
Previewing = List ℕ → List ℕ → ℕ → ℕ → ℕ → List ℕ → Previewed

-- something of the answer to each filling
abbrev pub EachFilling : (answers : ℕ → List ℕ) (input unknown : ℕ) → (List ℕ → Type 0) → Type 0
EachFilling answers input unknown P = (f : ℕ) → Subset f unknown → P (answers (filled input unknown f))

-- ---- THE TEN BYTES, by the answers to inputs
pub record PreviewIs (answers : ℕ → List ℕ) (input unknown : ℕ) (shown : List ℕ) : Type 0 where
  -- 'It writes 10 lent bytes'
  pub ten : length shown ≡ preview_length
  -- 'which signals are emitted for every filling'
  pub every_group : (i : ℕ) → (member i (every_in shown) ≡ true) ↔ ((i < signal_count) × EachFilling answers input unknown (λ x. member i (emitted_in x) ≡ true))
  -- 'which for none'
  pub never_group : (i : ℕ) → (member i (never_in shown) ≡ true) ↔ ((i < signal_count) × EachFilling answers input unknown (λ x. member i (emitted_in x) ≡ false))
  -- 'whether some filling is wrong (1 or 0)'
  pub some_wrong : (wrong_in shown ≡ 1) ↔ ((f : ℕ) × Subset f unknown × (code_in (answers (filled input unknown f)) ≡ 255))
  pub none_wrong : (wrong_in shown ≡ 0) ↔ EachFilling answers input unknown (λ x. code_in x ≢ 255)
  -- 'the code if all fillings share it, else 254 for "open"': no answer has the code 254
  pub shared_code : (k : ℕ) → k ≢ openCode → (shared_in shown ≡ k) ↔ EachFilling answers input unknown (λ x. code_in x ≡ k)
  pub none_shared : (shared_in shown ≡ openCode) ↔ (¬ ((k : ℕ) × EachFilling answers input unknown (λ x. code_in x ≡ k)))
  pub never_open : EachFilling answers input unknown (λ x. code_in x ≢ openCode)

-- with the answers of the tick from the same state
abbrev pub PreviewsAre : Previewing → Type 0
PreviewsAre preview =
    (sequence state : List ℕ) (read_back : ℕ) (answer : List ℕ) → length state ≡ state_length → length answer ≡ answer_length
    → (input unknown : ℕ) (buffer : List ℕ) → number (preview sequence state input unknown read_back buffer) ≡ 0
    → PreviewIs (λ e. answer_afterwards (tick_of sequence state e read_back answer)) input unknown
    (buffer_after (preview sequence state input unknown read_back buffer))

-- 'which outweighs the status given for them'
abbrev pub GivenOutweighed : Previewing → Type 0
GivenOutweighed preview =
    (sequence state : List ℕ) (read_back input input' unknown : ℕ) (buffer : List ℕ)
    → ((i : ℕ) → member i unknown ≡ false → member i input ≡ member i input')
    → preview sequence state input unknown read_back buffer ≡ preview sequence state input' unknown read_back buffer

-- ---- 'Learning one more status keeps every signal in the first two groups where it was, and a shared code too'
pub record StaysShown (earlier later : List ℕ) : Type 0 where
  pub every_stays : Subset (every_in earlier) (every_in later)
  pub never_stays : Subset (never_in earlier) (never_in later)
  pub code_stays : shared_in earlier ≢ openCode → shared_in later ≡ shared_in earlier

-- the inputs when the status of u is learned
abbrev pub knowing : (u : ℕ) (present : Bool) (input : ℕ) → ℕ
knowing u present input = cond present (insert u input) (remove u input)

abbrev pub LearningKeeps : Previewing → Type 0
LearningKeeps preview =
    (sequence state : List ℕ) (read_back input unknown u : ℕ) (present : Bool) (buffer buffer' : List ℕ) → member u unknown ≡ true
    → number (preview sequence state input unknown read_back buffer) ≡ 0 → length buffer' ≡ preview_length
    → (number (preview sequence state (knowing u present input) (remove u unknown) read_back buffer') ≡ 0)
    × StaysShown (buffer_after (preview sequence state input unknown read_back buffer))
    (buffer_after (preview sequence state (knowing u present input) (remove u unknown) read_back buffer'))

-- ---- 'Errors: number 1 for another length than 10; 17 for a seventh unknown, after 12', and no byte is written
pub record PreviewErrors (preview : Previewing) : Type 0 where
  pub other_length : (sequence state : List ℕ) (read_back input unknown : ℕ) (buffer : List ℕ) → length buffer ≢ preview_length
      → preview sequence state input unknown read_back buffer ≡ previewed length_row buffer
  -- the number of a tick that is turned down from the same state, on any input
  pub ticks_number : (sequence state : List ℕ) (read_back : ℕ) (answer : List ℕ) → length state ≡ state_length → length answer ≡ answer_length
      → (e input unknown : ℕ) (buffer : List ℕ) → length buffer ≡ preview_length → demands.number (tick_of sequence state e read_back answer) ≢ 0
      → preview sequence state input unknown read_back buffer ≡ previewed (demands.number (tick_of sequence state e read_back answer)) buffer
  pub seventh_unknown : (sequence state : List ℕ) (read_back : ℕ) (answer : List ℕ) → length state ≡ state_length → length answer ≡ answer_length
      → (e input unknown : ℕ) (buffer : List ℕ) → length buffer ≡ preview_length → demands.number (tick_of sequence state e read_back answer) ≡ 0
      → (max_unknown < length (members_from signal_count 0 unknown) → preview sequence state input unknown read_back buffer ≡ previewed unknown_row buffer)
      × (length (members_from signal_count 0 unknown) ≤ max_unknown → number (preview sequence state input unknown read_back buffer) ≡ 0)

-- no instant has the code 254
abbrev pub NoInstantOpen : Type 0
NoInstantOpen =
    (sequence state : List ℕ) (e read_back : ℕ) (answer : List ℕ) → demands.number (tick_of sequence state e read_back answer) ≡ 0
    → code_in (answer_afterwards (tick_of sequence state e read_back answer)) ≢ openCode

-- ITEM 11
pub record FillingDemands (preview : Previewing) : Type 0 where
  pub previews_are : PreviewsAre preview
  pub given_outweighed : GivenOutweighed preview
  pub learning_keeps : LearningKeeps preview
  pub preview_errors : PreviewErrors preview
  pub no_instant_open : NoInstantOpen
