-- Boxes with one slip each in their ledgers (02, item 12), which break a claim of Years.
use Rattle.std.specs.Prelude.{ℕ, zero, suc, ◌+◌, ◌*◌, ◌-◌, min, Bool, false, not, ◌||◌, ◌&&◌, cond, List, [], ◌∷◌, eqb, ltb, pos}
use Rattle.std.specs.Float.{binary32}
use Rattle.std.specs.Float.Ieee.{of_int, add}
use Rattle.spec_base.specs.Limits.{litres_limit, farm_count}
use Rattle.spec_base.specs.Sets.{insert, remove}
use Rattle.spec_language.specs.Statement.{Statement, nothing, pause, emit, exit, seq, par, loop, present, signal, try, setpause, suspend, held}
use Rattle.spec_language.specs.Litres.{delivered}
use Rattle.spec_sequence.specs.Program.{program}
use Rattle.spec_sequence.specs.Check.{Checked, sound, bad, checked}
use Rattle.spec_base.specs.Parts.{put}
use Rattle.spec_base.specs.WholeLitres.{litres}
use Rattle.spec_bay.specs.Ledgers as Ledgers
use Rattle.spec_bay.specs.Ledgers.{total_in, total_float, added}
use Rattle.spec_bay.specs.Called.{Called, called, number, memory_after, lent_after}
use Rattle.spec_bay.specs.Stretch.{stretch_length, sequence_in, read_back_in, state_in, ledger_in, with_ledger}
use Rattle.spec_tick.specs.Tick.{tick_of}
use Rattle.spec_bay.specs.BayCalls.{delivering, by_outcome}
use Rattle.spec_box.specs.Box.{stretch_of, Call, on_tick, in_box, call_of}
use Rattle.spec_box.specs.Lists.{Calling}
use Rattle.theory_box.specs.WrongBoxes.{instead, altered}

-- a restore that takes the ledger back to the new year
abbrev pub rewinds : Calling
rewinds box bay c =
    altered (λ o. o) (λ name o. o)
    (instead 0 (in_box bay box (called 0 (with_ledger Ledgers.cleared (stretch_of bay (memory_after (call_of box bay c)))) [])))
    c (call_of box bay c)

-- ---- ticks that are told otherwise
abbrev retold : (told : (e : ℕ) (answer trace : List ℕ) → Called → Called) → Call → Called → Called
retold told c o = on_tick o (λ e answer trace. told e answer trace o) c

-- an instant that enters other litres
abbrev entering : (litresOf : (s : List ℕ) (e farm : ℕ) → ℕ) → Calling
entering litresOf box bay c =
    retold
    (λ e answer trace o.
    cond (eqb (number o) 0)
    (called 0
    (put (bay * stretch_length) stretch_length
    (with_ledger (added (litresOf (stretch_of bay box) e) (ledger_in (stretch_of bay box))) (stretch_of bay (memory_after o))) (memory_after o))
    (lent_after o))
    o)
    c (call_of box bay c)

-- of a fresh machine, by what its whole program delivers
abbrev of_program : (Statement → (e : ℕ) → ℕ) → Checked → (read_back e : ℕ) → ℕ
of_program brings (bad number) read_back e = 0
of_program brings (sound p) read_back e = brings (program read_back p) e

-- those of a wrong instant too
abbrev pub enters_wrong : Calling
enters_wrong =
    entering (λ s e farm. of_program (delivered farm) (checked (sequence_in s) (read_back_in s)) (read_back_in s) e)

-- those of both runs of a signal's declaration
abbrev both_runs : (farm : ℕ) → Statement → ℕ → ℕ
both_runs f nothing e = 0
both_runs f (pause l) e = 0
both_runs f (emit s v) e = delivered f (emit s v) e
both_runs f (exit n) e = 0
both_runs f (seq p q) e = delivered f (seq p q) e
both_runs f (par p q) e = delivered f (par p q) e
both_runs f (loop a p) e = delivered f (loop a p) e
both_runs f (present s p q) e = delivered f (present s p q) e
both_runs f (signal sc a s p) e = delivered f p (remove s e) + delivered f p (insert s e)
both_runs f (try p) e = delivered f (try p) e
both_runs f (setpause l) e = 0
both_runs f (suspend s p) e = delivered f (suspend s p) e
both_runs f (held s K p) e = delivered f (held s K p) e

abbrev pub enters_both : Calling
enters_both =
    entering (λ s e farm. of_program (both_runs farm) (checked (sequence_in s) (read_back_in s)) (read_back_in s) e)

-- 19 tested by a sum in single precision, in which 16,777,216 and 1 are 16,777,216; the total then stays as that sum does
unfoldable pub passes_in_singles : (n : ℕ) → List ℕ → (x : ℕ → ℕ) → Bool
passes_in_singles zero bs x = false
passes_in_singles (suc n) bs x =
    passes_in_singles n bs x || ltb litres_limit (litres (add binary32 (total_float n bs) (of_int binary32 (pos (x n)))))

abbrev pub tests_in_singles : Calling
tests_in_singles box bay c =
    retold
    (λ e answer trace o.
    cond (eqb (number o) 19 && not (passes_in_singles farm_count (ledger_in (stretch_of bay box)) (delivering (stretch_of bay box) e)))
    (in_box bay box
    (by_outcome (stretch_of bay box) e answer trace (λ farm. 0)
    (tick_of (sequence_in (stretch_of bay box)) (state_in (stretch_of bay box)) e (read_back_in (stretch_of bay box)) answer)))
    o)
    c (call_of box bay c)

-- a tick answered 19 that enters of its litres what the totals still take
abbrev pub enters_turned_down : Calling
enters_turned_down box bay c =
    retold
    (λ e answer trace.
    instead 19
    (in_box bay box
    (called 19
    (with_ledger
    (added (λ farm. min (delivering (stretch_of bay box) e farm) (litres_limit - total_in farm (ledger_in (stretch_of bay box)))) (ledger_in (stretch_of bay box)))
    (stretch_of bay box))
    (answer ∷ trace ∷ []))))
    c (call_of box bay c)
