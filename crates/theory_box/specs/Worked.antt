-- Bays and boxes worked by hand (02, item 8): calls, and of each its number and its answer's code. What concerns one bay is worked on
-- its slot alone, an eighth of a box, so that it is computed in a moment and a slip is found as fast.
use Rattle.std.specs.Prelude.{ℕ, zero, suc, ◌+◌, ◌-◌, Bool, ◌&&◌, cond, List, [], ◌∷◌, ◌++◌, replicate, eqb}
use Rattle.spec_tick.specs.AnswerRecord.{answer_length, code_in}
use Rattle.spec_tick.specs.Record.{recordLength}
use Rattle.spec_base.specs.Parts.{zeros}
use Rattle.spec_bay.specs.Called.{Called, called, number, lent_after, first}
use Rattle.spec_bay.specs.Stretch.{stretch_length}
use Rattle.spec_box.specs.Box.{admit, release, tick, buffers, bay_call, is_for}
use Rattle.spec_box.specs.Lists.{Calling, Request, after_call}

-- ---- sequences
-- pause 0, then nothing: ceiling 3
abbrev pub waits_once : List ℕ
waits_once = 0x04 ∷ 0x01 ∷ 0x00 ∷ 0x00 ∷ []

-- ends at once: ceiling 1
abbrev pub ends : List ℕ
ends = 0x00 ∷ []

-- loops and six signals around n commands that end and n - 1 that put them in a row
abbrev dear : (loops n : ℕ) → List ℕ
dear loops n =
    replicate loops 0x06
    ++ (0x08 ∷ 0x00 ∷ 0x08 ∷ 0x01 ∷ 0x08 ∷ 0x02 ∷ 0x08 ∷ 0x03 ∷ 0x08 ∷ 0x04 ∷ 0x08 ∷ 0x05 ∷ [])
    ++ replicate (n - 1) 0x04
    ++ replicate n 0x00

-- ceiling (15 + 6 + 11) * (1 + 15) * 2 ^ 6 = 32,768
abbrev pub half : List ℕ
half = dear 15 6

-- ceiling (16 + 6 + 11) * (1 + 16) * 2 ^ 6 = 35,904
abbrev over_half : List ℕ
over_half = dear 16 6

-- ceiling (30 + 6 + 1) * (1 + 30) * 2 ^ 6 = 73,408
abbrev too_dear : List ℕ
too_dear = dear 30 1

-- signal 0 emitted 2 ^ n times, two and two in a row: 3 * 2 ^ n - 1 bytes, ceiling 2 * 2 ^ n - 1
abbrev twos : (n : ℕ) → List ℕ
twos zero = 0x02 ∷ 0x00 ∷ []
twos (suc n) = 0x04 ∷ twos n ++ twos n

-- emits signal 0, and beside it pauses where signal 0 is present: with signal 0 read back it waits, without it ends
abbrev pub waits_if_read : List ℕ
waits_if_read = 0x05 ∷ 0x02 ∷ 0x00 ∷ 0x07 ∷ 0x00 ∷ 0x01 ∷ 0x00 ∷ 0x00 ∷ []

-- ---- calls
abbrev admitted_with : (bay : ℕ) (sequence : List ℕ) (read_back : ℕ) → Request
admitted_with bay sequence read_back = record { bay = bay; call = admit (record { sequence = sequence; read_back = read_back; service_only = 0 }) }

abbrev pub admitted : (bay : ℕ) (sequence : List ℕ) → Request
admitted bay sequence = admitted_with bay sequence 0

abbrev pub released : (bay : ℕ) → Request
released bay = record { bay = bay; call = release }

-- with an answer buffer of another byte everywhere
abbrev pub ticked : (bay : ℕ) → Request
ticked bay = record { bay = bay; call = tick 0 (replicate answer_length 77) (replicate recordLength 77) }

-- with one of another length
abbrev ticked_short : (bay : ℕ) → Request
ticked_short bay = record { bay = bay; call = tick 0 [] (replicate recordLength 77) }

-- ---- what each call gives
-- a call, its number and its answer's code; a call with no answer buffer has code 0, and one that is turned down leaves the buffer
pub record Line : Type 0 where
  pub request : Request
  pub number : ℕ
  pub code : ℕ

abbrev pub line : Request → (number code : ℕ) → Line
line x n k = record { request = x; number = n; code = k }

abbrev pub is_given : Line → Called → Bool
is_given x o = eqb (number o) x.number && eqb (code_in (first (lent_after o))) x.code

-- how many of the lines are otherwise, the calls made one after the other
unfoldable pub otherwise : Calling → List ℕ → List Line → ℕ
otherwise call box [] = 0
otherwise call box (x ∷ xs) =
    cond (is_given x (call box x.request.bay x.request.call)) 0 1 + otherwise call (after_call call box x.request) xs

-- ---- a bay by itself: the call on its slot, 13 where it is not there for the call; those present in the other bays have this
-- much of the shared ceiling
abbrev pub alone : (present : ℕ) → Calling
alone present s bay c = cond (is_for c s) (bay_call present c s) (called 13 s (buffers c))

unfoldable pub empty_stretch : List ℕ
empty_stretch = zeros stretch_length

abbrev pub bay : List Line
bay =
    -- no tick of an empty bay, whatever its buffer; a bad sequence is turned down by its row
    line (ticked 0) 13 77
    ∷ line (ticked_short 0) 13 0
    ∷ line (admitted 0 []) 2 0
    -- a bay that waits, then is over; a filled one is not admitted again, whatever the sequence
    ∷ line (admitted 0 waits_once) 0 0
    ∷ line (ticked_short 0) 1 0
    ∷ line (ticked 0) 0 1
    ∷ line (admitted 0 []) 13 0
    ∷ line (ticked 0) 0 0
    ∷ line (ticked 0) 12 77
    -- taken out and admitted again it is fresh
    ∷ line (released 0) 0 0
    ∷ line (released 0) 13 0
    ∷ line (admitted 0 waits_once) 0 0
    ∷ line (ticked 0) 0 1
    ∷ []

abbrev pub admissions : List Line
admissions =
    -- 383 bytes
    line (admitted 0 (twos 7)) 0 0
    ∷ line (ticked 0) 0 0
    ∷ line (released 0) 0 0
    -- the same sequence with its signal read back and without
    ∷ line (admitted_with 0 waits_if_read 1) 0 0
    ∷ line (ticked 0) 0 1
    ∷ line (released 0) 0 0
    ∷ line (admitted 0 waits_if_read) 0 0
    ∷ line (ticked 0) 0 0
    ∷ []

-- ---- the shared ceiling: 32,768 where the others have 32,768, and where they have one more
abbrev pub reached : List Line
reached = line (admitted 0 half) 0 0 ∷ []

abbrev pub passed : List Line
passed = line (admitted 0 half) 14 0 ∷ []

-- where the others have all of it a ceiling of 1 is too much, and a bad sequence is still turned down by its row
abbrev pub full : List Line
full = line (admitted 0 ends) 14 0 ∷ line (admitted 0 []) 2 0 ∷ []

-- more than there is
abbrev pub overmuch : List Line
overmuch = line (admitted 0 too_dear) 14 0 ∷ []

-- ---- a box: no bay above 7; with the 32,768 of bay 7 another 35,904 are too many, and bay 7 is the one to take out
abbrev pub bays : List Line
bays = line (admitted 8 ends) 13 0 ∷ line (admitted 7 half) 0 0 ∷ line (admitted 0 over_half) 14 0 ∷ line (released 7) 0 0 ∷ []

-- bytes of another length than a box: no bay above 7 before their length, and their length before the bay
abbrev pub elsewhere : List Line
elsewhere = line (admitted 8 waits_once) 13 0 ∷ line (admitted 0 waits_once) 1 0 ∷ line (ticked 0) 1 77 ∷ []
