-- Boxes with one slip each in their previews (02, item 11), which break a claim of Previews.
use Rattle.std.specs.Prelude.{ℕ, ◌-◌, List, [], ◌∷◌}
use Rattle.spec_base.specs.Sets.{none, difference}
use Rattle.spec_tick.specs.AnswerRecord.{answer_length}
use Rattle.spec_tick.specs.Record.{recordLength}
use Rattle.spec_base.specs.Parts.{put, zeros}
use Rattle.spec_bay.specs.Preview.{openCode, preview_length}
use Rattle.spec_bay.specs.Called.{Called, called, number, memory_after, lent_after, first}
use Rattle.spec_box.specs.Box.{Call, tick, preview, on_preview, call_of}
use Rattle.spec_box.specs.Lists.{Calling}
use Rattle.theory_box.specs.WrongBoxes.{instead}

-- a preview that is told otherwise
abbrev foretold : (told : (e unknown : ℕ) (buffer : List ℕ) → Called) → Call → Called → Called
foretold told c o = on_preview o told c

-- the status given for known inputs is ignored: they are taken as absent
abbrev pub forgets_status : Calling
forgets_status box bay c = foretold (λ e unknown buffer. call_of box bay (preview none unknown buffer)) c (call_of box bay c)

-- unknown inputs are taken as absent only
abbrev pub takes_absent : Calling
takes_absent box bay c =
    foretold (λ e unknown buffer. call_of box bay (preview (difference e unknown) none buffer)) c (call_of box bay c)

-- unknown inputs keep the status given for them
abbrev pub keeps_status : Calling
keeps_status box bay c = foretold (λ e unknown buffer. call_of box bay (preview e none buffer)) c (call_of box bay c)

-- the machine goes on by the status given
abbrev pub moves_machine : Calling
moves_machine box bay c =
    foretold
    (λ e unknown buffer.
    called (number (call_of box bay c)) (memory_after (call_of box bay (tick e (zeros answer_length) (zeros recordLength)))) (lent_after (call_of box bay c)))
    c (call_of box bay c)

-- 254 where all fillings share a code too
abbrev pub says_open : Calling
says_open box bay c =
    foretold
    (λ e unknown buffer.
    instead 0 (called 0 box (put (preview_length - 1) 1 (openCode ∷ []) (first (lent_after (call_of box bay c))) ∷ [])) (call_of box bay c))
    c (call_of box bay c)
