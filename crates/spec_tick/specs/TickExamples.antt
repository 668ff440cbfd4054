-- Ticks and the paper by computation, for bays of a few bytes.
use Rattle.std.specs.Prelude.{ℕ, ◌≡◌, refl, List, [], ◌∷◌, replicate}
use Rattle.spec_base.specs.Sets.{member, none, only, join, insert, remove, subset, disjoint, members_from}
use Rattle.spec_language.specs.Statement.{nothing, pause, loop}
use Rattle.spec_language.specs.Reaction.{react_by}
use Rattle.spec_language.specs.Errors.{errors_by}
use Rattle.spec_language.specs.Reactions.{reactions_by}
use Rattle.spec_language.specs.LabelTests.{labels_of, active_labels, every_label, distinct, before, well_formed, valid}
use Rattle.spec_language.specs.States.{active}
use Rattle.spec_language.specs.Expansion.{expand}
use Rattle.spec_language.specs.ReadBack.{declared_by}
use Rattle.spec_language.specs.Sizes.{signal_nesting}
use Rattle.spec_language.specs.Machines.{Rewriting}
use Rattle.spec_sequence.specs.Commands.{command_of}
use Rattle.spec_sequence.specs.Reader.{front, read}
use Rattle.spec_sequence.specs.Check.{checked}
use Rattle.spec_base.specs.Bytes.{le_bytes, le_number}
use Rattle.spec_tick.specs.StateRecord.{encode_state, decode_state}
use Rattle.spec_tick.specs.AnswerRecord.{encode_answer}
use Rattle.spec_tick.specs.Tick.{outcome, tick_by, tick_of}
use Rattle.spec_tick.specs.Paper.{Call, turned_down, reacted, paper}

-- pause 0; emit 3: its bytes, and the state in which it waits
abbrev bytes : List ℕ
bytes = 4 ∷ 1 ∷ 0 ∷ 2 ∷ 3 ∷ []

abbrev waiting : List ℕ
waiting = 1 ∷ 1 ∷ replicate 15 0

abbrev ended : List ℕ
ended = 2 ∷ replicate 16 0

-- fresh it waits at label 0; from there it emits 3 and ends; over, it is turned down and nothing is written
ticks : (tick_of bytes (replicate 17 0) 0 0 (replicate 12 9) ≡ outcome 0 waiting (1 ∷ 0 ∷ 0 ∷ 0 ∷ 0 ∷ 0 ∷ 0 ∷ 0 ∷ 2 ∷ 0 ∷ 0 ∷ 0 ∷ []))
    × (tick_of bytes waiting 0 0 (replicate 12 9) ≡ outcome 0 ended (0 ∷ 0 ∷ 0 ∷ 0 ∷ 8 ∷ 0 ∷ 0 ∷ 0 ∷ 3 ∷ 0 ∷ 0 ∷ 0 ∷ []))
    × (tick_of bytes ended 0 0 (replicate 12 9) ≡ outcome 12 ended (replicate 12 9))
unfolding tick_by checked read front command_of signal_nesting declared_by members_from distinct well_formed every_label before labels_of active_labels valid subset disjoint active expand decode_state encode_state encode_answer le_number le_bytes react_by errors_by reactions_by member none only join insert remove
ticks = (refl, refl, refl)

-- present 0 then emit 1 else nothing: without a set by its input, with 0 read back not
read_back : (tick_of (7 ∷ 0 ∷ 2 ∷ 1 ∷ 0 ∷ []) (replicate 17 0) 1 0 (replicate 12 9) ≡ outcome 0 ended (0 ∷ 0 ∷ 0 ∷ 0 ∷ 2 ∷ 0 ∷ 0 ∷ 0 ∷ 2 ∷ 0 ∷ 0 ∷ 0 ∷ []))
    × (tick_of (7 ∷ 0 ∷ 2 ∷ 1 ∷ 0 ∷ []) (replicate 17 0) 1 1 (replicate 12 9) ≡ outcome 0 ended (0 ∷ 0 ∷ 0 ∷ 0 ∷ 0 ∷ 0 ∷ 0 ∷ 0 ∷ 5 ∷ 0 ∷ 0 ∷ 0 ∷ []))
unfolding tick_by checked read front command_of signal_nesting declared_by members_from distinct well_formed every_label before labels_of active_labels valid subset disjoint active expand decode_state encode_state encode_answer le_number le_bytes react_by errors_by reactions_by member none only join insert remove
read_back = (refl, refl)

-- ---- the paper: a pause, with a tick turned down for its buffer between two instants; a loop that ends at once, with kind and place
abbrev with_buffer : ℕ → Call
with_buffer n = record { input = 0; buffer = replicate n 0 }

papers : (paper (Rewriting.fresh (pause 3)) (with_buffer 12 ∷ with_buffer 11 ∷ with_buffer 12 ∷ with_buffer 12 ∷ [])
    ≡ reacted 1 0 0 0 1 1 ∷ turned_down 1 1 ∷ reacted 0 0 0 0 1 2 ∷ turned_down 12 2 ∷ [])
    × (paper (Rewriting.fresh (loop 5 nothing)) (with_buffer 12 ∷ []) ≡ reacted 255 1 5 0 2 2 ∷ [])
unfolding paper react_by errors_by reactions_by member none only join insert remove
papers = (refl, refl)
