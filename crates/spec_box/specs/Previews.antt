-- What 02, item 11, says of a preview of a bay, each sentence a predicate of any function in the place of `call_of`.
use Rattle.std.specs.Prelude.{ℕ, ◌<◌, ◌≡◌, ◌≢◌, ◌⊎◌, Bool, true, false, List, [], ◌∷◌, length}
use Rattle.spec_base.specs.Limits.{bay_count, ledger_row}
use Rattle.spec_base.specs.Sets.{member, remove, Subset, Disjoint}
use Rattle.spec_tick.specs.AnswerRecord.{answer_length, code_in, emitted_in}
use Rattle.spec_tick.specs.Tick.{tick_of}
use Rattle.spec_tick.specs.Demands.{answer_afterwards}
use Rattle.spec_tick.specs.Record.{recordLength}
use Rattle.spec_bay.specs.Preview as fillings
use Rattle.spec_bay.specs.Preview.{filled, openCode, preview_length, every_in, never_in, wrong_in, shared_in, Previewed, buffer_after, preview_of}
use Rattle.spec_bay.specs.PreviewClaims.{PreviewIs, StaysShown, knowing}
use Rattle.spec_bay.specs.Called.{called, number, memory_after, lent_after, first}
use Rattle.spec_bay.specs.Stretch.{length_in, sequence_in, read_back_in, state_in}
use Rattle.spec_box.specs.Box.{box_length, stretch_of, tick, preview}
use Rattle.spec_box.specs.Lists.{Calling}

-- the preview of the sequence, state and read-back set that the bay holds
abbrev pub preview_in : (s : List ℕ) (e unknown : ℕ) (buffer : List ℕ) → Previewed
preview_in s e unknown buffer = preview_of (sequence_in s) (state_in s) e unknown (read_back_in s) buffer

-- 'It writes 10 lent bytes .. The machine stays', and the box with it
abbrev pub PreviewShows : Calling → Type 0
PreviewShows call =
    (box : List ℕ) (bay e unknown : ℕ) (buffer : List ℕ) → number (call box bay (preview e unknown buffer)) ≡ 0
    → call box bay (preview e unknown buffer) ≡ called 0 box (buffer_after (preview_in (stretch_of bay box) e unknown buffer) ∷ [])

-- 'The machine stays', and the box with it, whatever the number
abbrev pub MachineStays : Calling → Type 0
MachineStays call = (box : List ℕ) (bay e unknown : ℕ) (buffer : List ℕ) → memory_after (call box bay (preview e unknown buffer)) ≡ box

-- the ten bytes, each sentence of them both ways (spec_bay, specs/PreviewClaims), by the answers of the tick on what the bay holds
abbrev pub TenBytes : Calling → Type 0
TenBytes call =
    (box : List ℕ) (bay e unknown : ℕ) (buffer : List ℕ) → number (call box bay (preview e unknown buffer)) ≡ 0
    → (answer : List ℕ) → length answer ≡ answer_length
    → PreviewIs
    (λ input.
    answer_afterwards (tick_of (sequence_in (stretch_of bay box)) (state_in (stretch_of bay box)) input (read_back_in (stretch_of bay box)) answer))
    e unknown (first (lent_after (call box bay (preview e unknown buffer))))

-- 'which outweighs the status given for them'
abbrev pub StatusOutweighed : Calling → Type 0
StatusOutweighed call =
    (box : List ℕ) (bay e e' unknown : ℕ) (buffer : List ℕ) → ((i : ℕ) → member i unknown ≡ false → member i e ≡ member i e')
    → call box bay (preview e unknown buffer) ≡ call box bay (preview e' unknown buffer)

-- 'Learning one more status keeps every signal in the first two groups where it was, and a shared code too': u is unknown, and then present
-- or absent
abbrev pub LearningStays : Calling → Type 0
LearningStays call =
    (box : List ℕ) (bay e unknown u : ℕ) (present : Bool) (buffer buffer' : List ℕ) → member u unknown ≡ true
    → number (call box bay (preview e unknown buffer)) ≡ 0 → length buffer' ≡ preview_length
    → (number (call box bay (preview (knowing u present e) (remove u unknown) buffer')) ≡ 0)
    × StaysShown (first (lent_after (call box bay (preview e unknown buffer))))
    (first (lent_after (call box bay (preview (knowing u present e) (remove u unknown) buffer'))))

-- of a filled bay, the number is that of preview_of, whose order is PreviewErrors: 1, then 2 to 12 and 18 of the tick, then 17
abbrev pub PreviewNumbers : Calling → Type 0
PreviewNumbers call =
    (box : List ℕ) → length box ≡ box_length → (bay : ℕ) → bay < bay_count → length_in (stretch_of bay box) ≢ 0
    → (e unknown : ℕ) (buffer : List ℕ)
    → number (call box bay (preview e unknown buffer)) ≡ fillings.number (preview_in (stretch_of bay box) e unknown buffer)

-- ---- a bay's preview against that bay's ticks, in every box, whatever its bytes
-- an answer as a preview foresees it: it emits what is emitted for every filling and nothing of what is emitted for none, has
-- the shared code, if there is one, and is not wrong where no filling is
pub record Foreseen (shown answer : List ℕ) : Type 0 where
  pub emits_every : Subset (every_in shown) (emitted_in answer)
  pub emits_never : Disjoint (never_in shown) (emitted_in answer)
  pub shared_code : shared_in shown ≢ openCode → code_in answer ≡ shared_in shown
  pub not_wrong : wrong_in shown ≡ 0 → code_in answer ≢ 255

-- a preview and a tick of the bay in the same box, both answered 0, the tick on inputs that have the status given for every input but
-- the unknown ones
abbrev pub PreviewForesees : Calling → Type 0
PreviewForesees call =
    (box : List ℕ) (bay e unknown : ℕ) (buffer : List ℕ) → number (call box bay (preview e unknown buffer)) ≡ 0
    → (input : ℕ) (answer trace : List ℕ) → number (call box bay (tick input answer trace)) ≡ 0
    → ((i : ℕ) → member i unknown ≡ false → member i e ≡ member i input)
    → Foreseen (first (lent_after (call box bay (preview e unknown buffer)))) (first (lent_after (call box bay (tick input answer trace))))

-- both ways: where the ticks of all fillings are answered 0, the ten bytes are those of their answers
abbrev pub PreviewsTicks : Calling → Type 0
PreviewsTicks call =
    (box : List ℕ) (bay e unknown : ℕ) (buffer : List ℕ) → number (call box bay (preview e unknown buffer)) ≡ 0
    → (answer trace : List ℕ) → length answer ≡ answer_length
    → ((f : ℕ) → Subset f unknown → number (call box bay (tick (filled e unknown f) answer trace)) ≡ 0)
    → PreviewIs (λ input. first (lent_after (call box bay (tick input answer trace)))) e unknown
    (first (lent_after (call box bay (preview e unknown buffer))))

-- where a preview is given, a tick with buffers of their lengths is an instant on every input, unless the ledger turns it down
abbrev pub PreviewedTicks : Calling → Type 0
PreviewedTicks call =
    (box : List ℕ) (bay e unknown : ℕ) (buffer : List ℕ) → number (call box bay (preview e unknown buffer)) ≡ 0
    → (input : ℕ) (answer trace : List ℕ) → length answer ≡ answer_length → length trace ≡ recordLength
    → (number (call box bay (tick input answer trace)) ≡ 0) ⊎ (number (call box bay (tick input answer trace)) ≡ ledger_row)

-- no tick of a bay answered 0 has the code 254, which a preview has for "open"
abbrev pub NeverOpen : Calling → Type 0
NeverOpen call =
    (box : List ℕ) (bay input : ℕ) (answer trace : List ℕ) → number (call box bay (tick input answer trace)) ≡ 0
    → code_in (first (lent_after (call box bay (tick input answer trace)))) ≢ openCode

-- ITEM 11, of the calls
pub record PreviewDemands (call : Calling) : Type 0 where
  pub preview_shows : PreviewShows call
  pub machine_stays : MachineStays call
  pub ten_bytes : TenBytes call
  pub status_outweighed : StatusOutweighed call
  pub learning_stays : LearningStays call
  pub preview_numbers : PreviewNumbers call
  pub foresees : PreviewForesees call
  pub previews_ticks : PreviewsTicks call
  pub previewed_ticks : PreviewedTicks call
  pub never_open : NeverOpen call
