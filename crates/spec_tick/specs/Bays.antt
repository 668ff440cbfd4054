-- 01's starred bays (01, 'Bays to run'): bytes, and what the tick of a fresh machine shows with empty input, once or in each
-- instant, whatever the answer buffer of the right length held before. No signal is read back.
use Rattle.std.specs.Prelude.{ℕ, ◌≡◌, List, [], ◌∷◌, map, replicate}
use Rattle.spec_base.specs.Sets.{none}
use Rattle.spec_tick.specs.StateRecord.{labels_in}
use Rattle.spec_tick.specs.AnswerRecord.{code_in, kind_in, place_in, emitted_in}
use Rattle.spec_tick.specs.Tick.{Outcome}
use Rattle.spec_tick.specs.Demands.{Tick, number, state_afterwards, answer_afterwards, outcomes, cleared}

pub record Shown : Type 0 where
  pub number : ℕ
  pub code : ℕ
  pub kind : ℕ
  pub place : ℕ
  pub emitted : ℕ
  pub labels : ℕ

pub data When : Type 0 where
  once : When
  in_each_instant : When

pub record Bay : Type 0 where
  pub bytes : List ℕ
  pub when : When
  pub shows : Shown

-- number 0 and an empty emitted set, as in every starred bay
abbrev pub quiet : (code kind place labels : ℕ) → Shown
quiet code kind place labels =
    record { number = 0; code = code; kind = kind; place = place; emitted = 0; labels = labels }

unfoldable pub table : List Bay
table =
    record { bytes = 0x00 ∷ []; when = once; shows = quiet 0 0 0 0 }
    ∷ record { bytes = 0x03 ∷ 0x01 ∷ []; when = once; shows = quiet 2 0 0 0 }
    ∷ record { bytes = 0x09 ∷ 0x03 ∷ 0x01 ∷ []; when = once; shows = quiet 0 0 0 0 }
    ∷ record { bytes = 0x05 ∷ 0x03 ∷ 0x03 ∷ 0x03 ∷ 0x05 ∷ []; when = once; shows = quiet 6 0 0 0 }
    ∷ record { bytes = 0x06 ∷ 0x00 ∷ []; when = once; shows = quiet 255 1 0 0 }
    ∷ record { bytes = 0x06 ∷ 0x01 ∷ 0x00 ∷ []; when = in_each_instant; shows = quiet 1 0 0 1 }
    ∷ record { bytes = 0x08 ∷ 0x00 ∷ 0x02 ∷ 0x00 ∷ []; when = once; shows = quiet 0 0 0 0 }
    ∷ record { bytes = 0x08 ∷ 0x00 ∷ 0x07 ∷ 0x00 ∷ 0x00 ∷ 0x02 ∷ 0x00 ∷ []; when = once; shows = quiet 255 2 0 0 }
    ∷ record { bytes = 0x08 ∷ 0x00 ∷ 0x07 ∷ 0x00 ∷ 0x02 ∷ 0x00 ∷ 0x00 ∷ []; when = once; shows = quiet 255 3 0 0 }
    ∷ record { bytes = 0x09 ∷ 0x05 ∷ 0x01 ∷ 0x00 ∷ 0x03 ∷ 0x01 ∷ []; when = once; shows = quiet 0 0 0 0 }
    ∷ record {
      bytes = 0x06 ∷ 0x08 ∷ 0x00 ∷ 0x04 ∷ 0x07 ∷ 0x00 ∷ 0x02 ∷ 0x01 ∷ 0x00 ∷ 0x04 ∷ 0x01 ∷ 0x00 ∷ 0x02 ∷ 0x00 ∷ [];
      when = in_each_instant;
      shows = quiet 1 0 0 1;
    }
    ∷ []

-- what an outcome shows
abbrev pub shown_by : Outcome → Shown
shown_by o =
    record {
      number = number o;
      code = code_in (answer_afterwards o);
      kind = kind_in (answer_afterwards o);
      place = place_in (answer_afterwards o);
      emitted = emitted_in (answer_afterwards o);
      labels = labels_in (state_afterwards o);
    }

-- what a tick shows in n instants from a cleared record
abbrev pub instants : Tick → (bytes buffer : List ℕ) → ℕ → List Shown
instants tick bytes buffer n = map shown_by (outcomes tick bytes none cleared (replicate n (record { input = 0; buffer = buffer })))

-- the tick shows what the row says, as often as the row says
abbrev pub ShowsWhen : When → Tick → (bytes buffer : List ℕ) → Shown → Type 0
ShowsWhen once tick bytes buffer shown = instants tick bytes buffer 1 ≡ shown ∷ []
ShowsWhen in_each_instant tick bytes buffer shown = (n : ℕ) → instants tick bytes buffer n ≡ replicate n shown

abbrev pub ShowsBay : Tick → Bay → (buffer : List ℕ) → Type 0
ShowsBay tick b buffer = ShowsWhen b.when tick b.bytes buffer b.shows
