-- What a tick delivers (02, item 12): the litres of each farm in its instant, none where it is turned down or wrong.
use Rattle.std.specs.Prelude.{ℕ, ◌&&◌, cond, List, [], ◌∷◌, length, eqb}
use Rattle.spec_language.specs.Statement.{Statement}
use Rattle.spec_language.specs.Machines.{adds_by_labels, Rewriting, adds_by_rewriting}
use Rattle.spec_sequence.specs.Program.{program}
use Rattle.spec_sequence.specs.Check.{Checked, sound, bad, checked}
use Rattle.spec_tick.specs.StateRecord.{state_length, Decoded, holds, malformed, decode_state}
use Rattle.spec_tick.specs.AnswerRecord.{answer_length}
use Rattle.spec_tick.specs.Paper.{Call, paper_tick}
use Rattle.spec_tick.specs.Tick.{tick_of}
use Rattle.spec_tick.specs.Demands.{state_afterwards}

-- by what the state record holds, for the whole program p
abbrev pub delivered_by : Statement → Decoded → (e farm : ℕ) → ℕ
delivered_by p malformed e f = 0
delivered_by p (holds s) e f = adds_by_labels f p s e

abbrev pub delivered_if : (read_back : ℕ) → Checked → List ℕ → (e farm : ℕ) → ℕ
delivered_if read_back (bad number) state e f = 0
delivered_if read_back (sound p) state e f = delivered_by (program read_back p) (decode_state p state) e f

-- to a farm, from a sequence and its read-back set, a state and an input
abbrev pub deliveries : (sequence : List ℕ) (read_back : ℕ) (state : List ℕ) (e farm : ℕ) → ℕ
deliveries sequence read_back state e = delivered_if read_back (checked sequence read_back) state e

-- ---- over a list of ticks, each on the state that the last one left; number 1 delivers nothing
abbrev pub call_delivers : (sequence : List ℕ) (read_back : ℕ) (state : List ℕ) → Call → (farm : ℕ) → ℕ
call_delivers sequence read_back state c f =
    cond (eqb (length state) state_length && eqb (length c.buffer) answer_length) (deliveries sequence read_back state c.input f) 0

unfoldable pub delivered : (sequence : List ℕ) (read_back farm : ℕ) (state : List ℕ) → List Call → List ℕ
delivered sequence read_back f state [] = []
delivered sequence read_back f state (c ∷ cs) =
    call_delivers sequence read_back state c f
    ∷ delivered sequence read_back f (state_afterwards (tick_of sequence state c.input read_back c.buffer)) cs

-- the same of the paper machine, which rewrites
unfoldable pub paper_delivered : (farm : ℕ) → Rewriting → List Call → List ℕ
paper_delivered f w [] = []
paper_delivered f w (c ∷ cs) =
    cond (eqb (length c.buffer) answer_length) (adds_by_rewriting f w c.input) 0
    ∷ paper_delivered f (paper_tick w c.input (length c.buffer)).1 cs
