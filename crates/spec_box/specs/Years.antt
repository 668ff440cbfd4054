-- The year's ledgers over a list of calls (02, item 12): what the instants of a bay number deliver to a farm since the last new year,
-- and what 02 says of the totals, each sentence a predicate of any function in the place of `call_of`, which theory_box has of `call_of`.
use Rattle.std.specs.Prelude.{ℕ, ◌+◌, ◌≤◌, ◌<◌, ◌≡◌, ◌≢◌, ◌↔◌, true, List, [], ◌∷◌, length}
use Rattle.spec_base.specs.Limits.{litres_limit, bay_count, farm_count}
use Rattle.spec_base.specs.WholeLitres.{whole, Near}
use Rattle.spec_bay.specs.Ledgers as Ledgers
use Rattle.spec_bay.specs.Ledgers.{reading_length, field_in, total_in, exact_total, reading_of, total_read}
use Rattle.spec_tick.specs.Tick.{tick_of}
use Rattle.spec_tick.specs.Demands as demands
use Rattle.spec_bay.specs.Called.{called, number, memory_after}
use Rattle.spec_bay.specs.Stretch.{length_in, sequence_in, read_back_in, state_in, ledger_in, with_ledger}
use Rattle.spec_bay.specs.BayCalls.{delivering}
use Rattle.spec_box.specs.Box.{box_length, empty_box, stretch_of, Call, tick, preview, ledger, new_year, on_tick, on_new_year}
use Rattle.spec_box.specs.Lists.{Calling, Request, after_call, box_after, calls_to, in_turn, if_answered}
use Rattle.spec_box.specs.BayRuns.{paper_buffer, TicksInBay}
use Rattle.spec_box.specs.Positions.{TicksFromPosition}

-- ---- the deliveries of a bay number
-- what a call answered 0 makes of the litres delivered to a farm so far: an instant adds its own, from the sequence, the read-back set
-- and the state that the bay holds; a new year begins anew; an admission, a coming back and a taking out leave them like all others
abbrev pub delivered_after : (farm : ℕ) → Call → (s : List ℕ) (sum : ℕ) → ℕ
delivered_after f c s sum = on_tick (on_new_year sum 0 c) (λ e answer trace. sum + delivering s e f) c

-- over a list of calls
unfoldable pub delivered_since : Calling → (bay farm : ℕ) → List ℕ → (sum : ℕ) → List Request → ℕ
delivered_since call bay f box sum xs =
    in_turn (if_answered call bay (λ c. delivered_after f c.call (stretch_of bay c.box))) sum (calls_to (after_call call) bay box xs)

-- a list of calls without a new year of the bay number
pub data SameYear (bay : ℕ) : List Request → Type 0 where
  done : SameYear bay []
  more : {x : Request} {xs : List Request} → (x.bay ≡ bay → x.call ≢ new_year) → SameYear bay xs → SameYear bay (x ∷ xs)

unfoldable pub sum_of : List ℕ → ℕ
sum_of [] = 0
sum_of (n ∷ ns) = n + sum_of ns

-- ---- 'Farm totals stay exact whole numbers equal to the sum of that farm's deliveries since the last clearing'
pub record TotalIs (farm : ℕ) (held : List ℕ) (sum : ℕ) : Type 0 where
  pub a_whole_number : whole (field_in farm held) ≡ true
  pub at_most : total_in farm held ≤ litres_limit
  pub is_sum : total_in farm held ≡ sum

-- over every list of calls from the empty box, across admissions, comings back and takings out
abbrev pub TotalsExact : Calling → Type 0
TotalsExact call =
    (xs : List Request) (bay : ℕ) → bay < bay_count → (farm : ℕ) → farm < farm_count
    → TotalIs farm (ledger_in (stretch_of bay (box_after call empty_box xs))) (delivered_since call bay farm empty_box 0 xs)

-- ---- every box, whatever its bytes
-- 'Reading it writes the 32 totals, then the ledger's total', and leaves the box; each total read is the farm's, and the ledger's lies
-- 'within 496 litres of the exact sum' of the 32 that are read
pub record ReadingIs (held reading : List ℕ) : Type 0 where
  pub bytes : reading ≡ reading_of held
  pub each : (farm : ℕ) → farm < farm_count → total_in farm reading ≡ total_in farm held
  pub near : Near 496 (total_read reading) (exact_total farm_count reading)

abbrev pub LedgerShows : Calling → Type 0
LedgerShows call =
    (box : List ℕ) (bay : ℕ) (totals : List ℕ) → number (call box bay (ledger totals)) ≡ 0
    → (reading : List ℕ) × (call box bay (ledger totals) ≡ called 0 box (reading ∷ [])) × ReadingIs (ledger_in (stretch_of bay box)) reading

-- a new year clears the bay number's ledger and nothing else of its slot; that it is 'cleared only by a call for the new year' is
-- TotalsExact
abbrev pub YearBegins : Calling → Type 0
YearBegins call =
    (box : List ℕ) (bay : ℕ) → number (call box bay new_year) ≡ 0
    → stretch_of bay (memory_after (call box bay new_year)) ≡ with_ledger Ledgers.cleared (stretch_of bay box)

-- ---- 'Errors'
-- 'The ledger's calls take an empty bay too'; 'number 1 for a ledger reading not of 132 bytes'
abbrev pub LedgerNumbers : Calling → Type 0
LedgerNumbers call =
    (box : List ℕ) → length box ≡ box_length → (bay : ℕ) → bay < bay_count
    → (number (call box bay new_year) ≡ 0)
    × ((totals : List ℕ) → ((number (call box bay (ledger totals)) ≡ 0) ↔ (length totals ≡ reading_length))
    × (number (call box bay (ledger totals)) ≢ 0 → number (call box bay (ledger totals)) ≡ 1))

-- the tick on its own, which knows no ledger, with what the bay holds
abbrev pub own_number : (s : List ℕ) (e : ℕ) (answer trace : List ℕ) → ℕ
own_number s e answer trace = demands.number (tick_of (sequence_in s) (state_in s) e (read_back_in s) (paper_buffer trace answer))

-- 'the exact sum of a farm's total and its litres would pass 16,777,216'
abbrev pub WouldPass : (s : List ℕ) (e : ℕ) → Type 0
WouldPass s e = (farm : ℕ) × (farm < farm_count) × (litres_limit < total_in farm (ledger_in s) + delivering s e farm)

-- '19, last of all': exactly where no other number is given and a farm's would; where it is not, the number of the tick on its own.
-- That it writes nothing is RefusalsLeave
abbrev pub Nineteen : Calling → Type 0
Nineteen call =
    (box : List ℕ) → length box ≡ box_length → (bay : ℕ) → bay < bay_count → length_in (stretch_of bay box) ≢ 0
    → (e : ℕ) (answer trace : List ℕ)
    → ((number (call box bay (tick e answer trace)) ≡ 19) ↔ ((own_number (stretch_of bay box) e answer trace ≡ 0) × WouldPass (stretch_of bay box) e))
    × (number (call box bay (tick e answer trace)) ≢ 19
    → number (call box bay (tick e answer trace)) ≡ own_number (stretch_of bay box) e answer trace)

-- 'Previews add nothing and never give 19': that they leave the box is MachineStays (Previews)
abbrev pub PreviewsNeverNineteen : Calling → Type 0
PreviewsNeverNineteen call =
    (box : List ℕ) (bay e unknown : ℕ) (buffer : List ℕ) → number (call box bay (preview e unknown buffer)) ≢ 19

-- that a call answered 19 is no instant, and that 2, 3, item 9's agreement and the litres stand over the ticks that are, is TicksInBay and
-- TicksFromPosition
pub record LedgerDemands (call : Calling) : Type 0 where
  pub totals_exact : TotalsExact call
  pub ticks_in_bay : TicksInBay call
  pub ticks_from_position : TicksFromPosition call
  pub ledger_shows : LedgerShows call
  pub year_begins : YearBegins call
  pub ledger_numbers : LedgerNumbers call
  pub nineteen : Nineteen call
  pub previews_never_nineteen : PreviewsNeverNineteen call
