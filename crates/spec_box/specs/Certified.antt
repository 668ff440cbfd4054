-- THE CERTIFICATE: tank and ledger agree within limits (02, item 12). Whatever calls a box was given since it was empty, a reading of the
-- ledger of a bay number says what the machines on paper delivered to each farm since that bay number's last new year.
use Rattle.std.specs.Prelude.{ℕ, zero, suc, ◌+◌, ◌≤◌, ◌<◌, ◌≡◌, List, [], ◌∷◌, length}
use Rattle.std.proofs.Math.Option.{Option, some, none}
use Rattle.spec_base.specs.Limits.{litres_limit, bay_count, farm_count}
use Rattle.spec_base.specs.WholeLitres.{IsNumber, Near}
use Rattle.spec_language.specs.States.{NoSetpause}
use Rattle.spec_bay.specs.Ledgers.{reading_length, field_in, reading_for, total_read}
use Rattle.spec_bay.specs.Called.{number, lent_after, first}
use Rattle.spec_box.specs.Box.{empty_box, Call, ledger, on_tick, on_new_year}
use Rattle.spec_box.specs.Lists.{Calling, Request, box_after, calls_to, in_turn}
use Rattle.spec_box.specs.Shares.{AllSendable}
use Rattle.spec_box.specs.Years.{sum_of}
use Rattle.spec_box.specs.PaperBox.{BayMachine, by_terms, by_label_sets, PaperBay, PaperPlace, PaperBox, empty_paper, Reported, ticked, replies, adds_on, paper_call}
use Rattle.spec_box.specs.Reports.{Admitting, OnPaper, ByLabelSets}

-- ---- what was delivered, on paper
module _ {S T R : Type 0} (m : BayMachine S T R) where
  -- what the instant on an input brings a farm
  abbrev pub delivery : Option (PaperBay S T) → (e farm : ℕ) → ℕ
  delivery none e f = 0
  delivery (some b) e f = adds_on m b e f

  -- a tick's delivery goes before those so far if it is an instant; one that is turned down (1, 12, 13, 19) delivers nothing
  abbrev pub with_delivery : Reported R → (litres : ℕ) → List ℕ → List ℕ
  with_delivery (ticked r) n ds = n ∷ ds
  with_delivery (replies number lent) n ds = ds

  -- the deliveries of a bay number to a farm after a call to it: a new year begins anew; an admission, a coming back and a taking out leave
  -- them like every other call
  abbrev pub deliveries_after : (farm : ℕ) → Call → Reported R → Option (PaperBay S T) → List ℕ → List ℕ
  deliveries_after f c o b ds = on_tick (on_new_year ds [] c) (λ e answer trace. with_delivery o (delivery b e f) ds) c

  -- over a list of calls, the latest first
  unfoldable pub deliveries_over : (bay farm : ℕ) → PaperBox S T → List ℕ → List Request → List ℕ
  deliveries_over bay f box ds xs =
      in_turn (λ c. deliveries_after f c.call (paper_call m c.box bay c.call).0 (c.box bay).bay) ds
      (calls_to (λ box x. (paper_call m box x.bay x.call).1) bay box xs)

  -- the litres that a bay number delivered to a farm since its last new year, after a list of calls from the empty box
  abbrev pub delivered_on : (bay : ℕ) → List Request → (farm : ℕ) → ℕ
  delivered_on bay xs farm = sum_of (deliveries_over bay farm empty_paper [] xs)

-- ---- what is read
-- the exact sum over the first n farms
unfoldable pub over_farms : (n : ℕ) → (litres : (farm : ℕ) → ℕ) → ℕ
over_farms zero litres = 0
over_farms (suc n) litres = over_farms n litres + litres n

-- A READING IS CERTIFIED for what was delivered to each farm:
pub record Certified (delivered : (farm : ℕ) → ℕ) (reading : List ℕ) : Type 0 where
  -- each farm's total is a whole number, and exactly what was delivered to the farm
  pub farm_exact : (farm : ℕ) → farm < farm_count → IsNumber (field_in farm reading) (delivered farm)
  -- it is at most 16,777,216 litres
  pub farm_at_most : (farm : ℕ) → farm < farm_count → delivered farm ≤ litres_limit
  -- the ledger's total is a whole number too, and 'lies within 496 litres of the exact sum' of what was delivered to the 32 farms: at most 496
  -- above it and at most 496 below it
  pub total_near : Near 496 (total_read reading) (over_farms farm_count delivered)
  -- and nothing else is in the reading: its 132 bytes go by what was delivered
  pub bytes : reading ≡ reading_for delivered

-- AFTER EVERY LIST OF CALLS from the empty box, to whichever bays and turned down or not, with comings back, takings out, admissions, calls
-- answered 19 and new years among them, every reading that is answered 0 is certified for what the paper delivered that rewrites; the
-- list's sequences that pass the check are without setpause, sets and saved names are of 32 bits
abbrev pub ReadingsCertified : Calling → Type 0
ReadingsCertified call =
    (xs : List Request) → AllSendable xs → Admitting NoSetpause xs → (bay : ℕ) (buffer : List ℕ)
    → number (call (box_after call empty_box xs) bay (ledger buffer)) ≡ 0
    → Certified (delivered_on by_terms bay xs) (first (lent_after (call (box_after call empty_box xs) bay (ledger buffer))))

-- and, with setpause too, for what the paper delivered that keeps label sets
abbrev pub ReadingsCertifiedByLabels : Calling → Type 0
ReadingsCertifiedByLabels call =
    (xs : List Request) → AllSendable xs → (bay : ℕ) (buffer : List ℕ)
    → number (call (box_after call empty_box xs) bay (ledger buffer)) ≡ 0
    → Certified (delivered_on by_label_sets bay xs) (first (lent_after (call (box_after call empty_box xs) bay (ledger buffer))))

-- ---- THE CERTIFICATE
-- the ledger of every bay number can be read at any time, filled or empty
abbrev pub LedgersReadable : Calling → Type 0
LedgersReadable call =
    (xs : List Request) (bay : ℕ) → bay < bay_count → (buffer : List ℕ) → length buffer ≡ reading_length
    → number (call (box_after call empty_box xs) bay (ledger buffer)) ≡ 0

-- the plant is told what the paper tells, a ledger can always be read, and every reading has what the paper delivered
pub record Certificate (call : Calling) : Type 0 where
  pub on_paper : OnPaper call
  pub readable : LedgersReadable call
  pub certified : ReadingsCertified call

-- with setpause too
pub record CertificateByLabels (call : Calling) : Type 0 where
  pub by_labels : ByLabelSets call
  pub readable : LedgersReadable call
  pub certified : ReadingsCertifiedByLabels call
