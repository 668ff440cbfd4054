-- Loops written out by hand, by computation (02, item 13).
use Rattle.std.specs.Prelude.{ℕ, zero, suc, ◌≡◌, refl, cond, List, [], ◌∷◌, length, replicate, eqb}
use Rattle.std.proofs.Common.{arith, ap}
use Rattle.std.specs.Float.Ieee.{to_bits, of_int}
use Rattle.spec_base.specs.Sets.{member, none, only, join, insert, remove, subset, disjoint, members_from}
use Rattle.spec_language.specs.Statement.{local, pure, litres, Statement, nothing, pause, emit, exit, seq, par, loop, present, signal, try, setpause, suspend}
use Rattle.spec_language.specs.Places.{first, second}
use Rattle.spec_language.specs.Reaction.{waiting, wrong, code, react_by, react}
use Rattle.spec_language.specs.Errors.{errors_by}
use Rattle.spec_language.specs.Reactions.{reactions_by}
use Rattle.spec_language.specs.States.{active}
use Rattle.spec_language.specs.LabelTests.{labels_of, active_labels, every_label, distinct, before, well_formed}
use Rattle.spec_language.specs.Sizes.{signal_nesting, depth_of}
use Rattle.spec_language.specs.ReadBack.{declared_by}
use Rattle.spec_language.specs.Expansion.{expand}
use Rattle.spec_language.specs.Machines.{State}
use Rattle.spec_base.specs.Bytes.{le_bytes, le_number}
use Rattle.spec_sequence.specs.Commands.{command_of}
use Rattle.spec_sequence.specs.Reader.{front, read}
use Rattle.spec_sequence.specs.Writer.{bytes_of}
use Rattle.spec_sequence.specs.Check.{checked}
use Rattle.spec_tick.specs.StateRecord.{decode_state, encode_state}
use Rattle.spec_tick.specs.AnswerRecord.{answer_length, encode_answer}
use Rattle.spec_tick.specs.Tick.{tick_by, tick_of}
use Rattle.spec_tick.specs.Demands.{cleared}
use Rattle.spec_unroll.specs.Unrolled.{copied, unrolled, placed, result_of}
use Rattle.spec_unroll.specs.Call.{Unrolling, unrolling, number, of_statement, unroll_of}
use Rattle.spec_unroll.specs.Claims.{Unroll, DecidesUnroll}
use Rattle.spec_unroll.specs.Runs.{before_wrong, until_wrong}
use Rattle.spec_unroll.specs.Entries.{at, chosen_run, both_runs, OneRun, reacting, carried, resuming, reacts_at, enters_at}

-- ---- what is written
-- 06 01 00 becomes 06 04 0A 00 01 00
pause_in_loop : bytes_of (unrolled (loop 0 (pause 0))) ≡ 0x06 ∷ 0x04 ∷ 0x0A ∷ 0x00 ∷ 0x01 ∷ 0x00 ∷ []
unfolding copied unrolled bytes_of
pause_in_loop = refl

-- a loop in a try in a loop, and the places of the result's loops
loop_in_loop : result_of (loop 0 (try (loop 2 (pause 0)))) ≡ loop 0 (seq (try (setpause 0)) (try (loop 6 (seq (setpause 0) (pause 0)))))
unfolding copied unrolled placed bytes_of
loop_in_loop = refl

-- everything else is copied and worked through part by part; signals keep their number and get the places of the result
part_by_part : result_of (loop 0 (signal local 1 0 (suspend 2 (par (seq (emit 0 pure) (pause 0)) (present 1 (exit 1) nothing)))))
    ≡ loop 0
    (seq (signal local 2 0 (suspend 2 (par (seq (emit 0 pure) (setpause 0)) (present 1 (exit 1) nothing))))
    (signal local 17 0 (suspend 2 (par (seq (emit 0 pure) (pause 0)) (present 1 (exit 1) nothing)))))
unfolding copied unrolled placed bytes_of
part_by_part = refl

-- 0C stays 0C: five litres for farm 2 are 0C 02 00 00 A0 40
litres_copied : bytes_of (unrolled (loop 0 (seq (pause 0) (emit 2 (litres 5)))))
    ≡ 0x06 ∷ 0x04 ∷ 0x04 ∷ 0x0A ∷ 0x00 ∷ 0x0C ∷ 0x02 ∷ 0x00 ∷ 0x00 ∷ 0xA0 ∷ 0x40
    ∷ 0x04 ∷ 0x01 ∷ 0x00 ∷ 0x0C ∷ 0x02 ∷ 0x00 ∷ 0x00 ∷ 0xA0 ∷ 0x40 ∷ []
unfolding copied unrolled bytes_of le_bytes to_bits of_int
litres_copied = refl

-- ---- the call
-- p inside n loops
abbrev in_loops : ℕ → Statement → Statement
in_loops zero p = p
in_loops (suc n) p = loop 0 (in_loops n p)

-- 1,024 bytes lent
abbrev lent : List ℕ
lent = replicate 1024 0xAA

-- the result at the front, the bytes after it as they were; 1 for a buffer of 1,023 bytes, before the check; the check's number
whole_call : (unroll_of (0x06 ∷ 0x01 ∷ 0x00 ∷ []) 0 lent ≡ unrolling 0 6 (0x06 ∷ 0x04 ∷ 0x0A ∷ 0x00 ∷ 0x01 ∷ 0x00 ∷ replicate 1018 0xAA))
    × (unroll_of (0x06 ∷ []) 0 (replicate 1023 0xAA) ≡ unrolling 1 0 (replicate 1023 0xAA))
    × (unroll_of (0x06 ∷ []) 0 lent ≡ unrolling 4 0 lent)
unfolding unroll_of checked read front command_of signal_nesting declared_by members_from distinct well_formed every_label before labels_of subset disjoint member none only join copied unrolled bytes_of depth_of
whole_call = (refl, refl, refl)

-- a call that empties the buffer after an error is not one that its claims decide: a buffer of one byte is turned down
abbrev empties_after_error : Unroll
empties_after_error sequence read_back buffer =
    unrolling (number (unroll_of sequence read_back buffer)) 0 (cond (eqb (number (unroll_of sequence read_back buffer)) 0) buffer [])

emptied_refused : ¬ DecidesUnroll empties_after_error
unfolding unroll_of
emptied_refused d =
    let e = d.refusal_writes_nothing [] 0 (0xAA ∷ []) (λ z. let y : ◌≡◌ {A = ℕ} 1 0 = z in omega arith) in
    let n : ◌≡◌ {A = ℕ} 0 1 = ap (λ (u : Unrolling). length (buffer u)) e in
    omega arith
  where
    buffer : Unrolling → List ℕ
    buffer (unrolling n count out) = out

-- with any buffer: 31 loops around a pause give a result of depth 63, 32 one of depth 65
depth_counted : (b : List ℕ) → (depth_of (unrolled (in_loops 31 (pause 0))) ≡ 63) × (of_statement (in_loops 32 (pause 0)) b ≡ unrolling 21 0 b)
unfolding copied unrolled bytes_of depth_of labels_of none join
depth_counted b = (refl, refl)

-- 25 loops around 47 bytes of depth 5 give 1,272 bytes of depth 55
abbrev twice : Statement → Statement
twice p = par p p

bytes_counted : (b : List ℕ) → of_statement (in_loops 25 (twice (twice (twice (twice (emit 0 pure)))))) b ≡ unrolling 21 0 b
unfolding copied unrolled bytes_of depth_of labels_of none join
bytes_counted b = refl

-- an original with a setpause whose result would be too deep: 20 before 21
setpause_first : (b : List ℕ) → of_statement (seq (in_loops 32 (pause 0)) (setpause 0)) b ≡ unrolling 20 0 b
unfolding copied unrolled bytes_of depth_of labels_of none only join
setpause_first b = refl

-- ---- up to the last instant before a wrong one
-- why only up to it: an error of an inner loop is not in the copy
abbrev masked : Statement
masked = loop 0 (seq (loop 2 nothing) (pause 0))

masked-is : (code (react masked 0) ≡ wrong) × (code (react (unrolled masked) 0) ≡ waiting)
unfolding copied unrolled react_by none only join
masked-is = (refl, refl)

-- the first is wrong at once, the second where it goes on with 0 present
stops_before : (until_wrong masked State.fresh (0 ∷ 0 ∷ []) ≡ [])
    × (until_wrong (seq (pause 0) (present 0 (loop 5 nothing) (pause 1))) State.fresh (0 ∷ 1 ∷ 0 ∷ []) ≡ 0 ∷ [])
unfolding until_wrong react_by errors_by reactions_by expand active labels_of active_labels member none only join
stops_before = (refl, refl)

-- the same through the tick: no tick of the first, whose bytes these are, comes before a wrong instant
no_tick_before : before_wrong tick_of (0x06 ∷ 0x04 ∷ 0x06 ∷ 0x00 ∷ 0x01 ∷ 0x00 ∷ []) 0 cleared
    (record { input = 0; buffer = replicate answer_length 0 } ∷ []) ≡ []
unfolding before_wrong tick_by checked read front command_of signal_nesting declared_by members_from distinct well_formed every_label before labels_of subset disjoint decode_state encode_state encode_answer le_number le_bytes react_by errors_by reactions_by member none only join insert remove
no_tick_before = refl

-- ---- how often a command reacts and is entered
-- The chosen run has the signal where its body emits it, and only there.
chosen_is : (reacts_at chosen_run (signal local 0 0 (seq (emit 0 pure) (present 0 (emit 1 pure) nothing))) State.fresh 0 (first ∷ second ∷ first ∷ []) ≡ 1)
    × (reacts_at chosen_run (signal local 0 0 (present 0 (emit 1 pure) nothing)) State.fresh 1 (first ∷ first ∷ []) ≡ 0)
    × (reacts_at chosen_run (signal local 0 0 (present 0 (emit 1 pure) nothing)) State.fresh 1 (first ∷ second ∷ []) ≡ 1)
unfolding at reacting react_by member none only join insert remove
chosen_is = (refl, refl, refl)

-- What follows a wait does not react, and both runs of a signal added up are not one.
not_counted : (reacts_at chosen_run (seq (pause 0) (emit 1 pure)) State.fresh 0 (second ∷ []) ≡ 0) × ¬ OneRun both_runs
unfolding at reacting react_by none only
not_counted = (refl, λ h. omega (arith, h 0 nothing 0 1 1))

-- 01's bay (002, figure 6)
abbrev bay : Statement
bay = loop 0 (signal local 1 0 (seq (present 0 (emit 1 pure) nothing) (seq (pause 0) (emit 0 pure))))

bay-is : bytes_of bay
    ≡ 0x06 ∷ 0x08 ∷ 0x00 ∷ 0x04 ∷ 0x07 ∷ 0x00 ∷ 0x02 ∷ 0x01 ∷ 0x00 ∷ 0x04 ∷ 0x01 ∷ 0x00 ∷ 0x02 ∷ 0x00 ∷ []
unfolding bytes_of
bay-is = refl

-- Resumed, its signal and its pause react twice and are entered twice: left, and begun again.
bay-twice : (reacts_at chosen_run bay (State.waits 1) 0 (first ∷ []) ≡ 2)
    × (reacts_at chosen_run bay (State.waits 1) 0 (first ∷ first ∷ second ∷ first ∷ []) ≡ 2)
    × (enters_at chosen_run bay (State.waits 1) 0 (first ∷ first ∷ second ∷ first ∷ []) ≡ 2)
    × (reacts_at chosen_run bay (State.waits 1) 0 [] ≡ 1)
unfolding at reacting carried resuming expand active labels_of active_labels react_by member none only join insert remove
bay-twice = (refl, refl, refl, refl)

-- Written out, the signal of the copy begins, and that of the body worked through is left: once each, and so their pauses (002, figure 7).
bay-once : (reacts_at chosen_run (result_of bay) (State.waits 1) 0 (first ∷ first ∷ []) ≡ 1)
    × (reacts_at chosen_run (result_of bay) (State.waits 1) 0 (first ∷ second ∷ []) ≡ 1)
    × (enters_at chosen_run (result_of bay) (State.waits 1) 0 (first ∷ first ∷ first ∷ second ∷ first ∷ []) ≡ 1)
    × (enters_at chosen_run (result_of bay) (State.waits 1) 0 (first ∷ second ∷ first ∷ second ∷ first ∷ []) ≡ 1)
unfolding copied unrolled placed at reacting carried resuming expand active labels_of active_labels react_by member none only join insert remove
bay-once = (refl, refl, refl, refl)

-- A test that is resumed in one branch and begun again with the other reacts once, but is entered twice; written out, once.
abbrev other : Statement
other = loop 0 (try (present 0 (pause 0) (pause 1)))

other_branch : (reacts_at chosen_run other (State.waits 1) 0 (first ∷ first ∷ []) ≡ 1)
    × (enters_at chosen_run other (State.waits 1) 0 (first ∷ first ∷ []) ≡ 2)
    × (enters_at chosen_run (result_of other) (State.waits 1) 0 [] ≡ 1)
    × (enters_at chosen_run (result_of other) (State.waits 1) 0 (first ∷ []) ≡ 1)
    × (enters_at chosen_run (result_of other) (State.waits 1) 0 (first ∷ first ∷ first ∷ []) ≡ 1)
    × (enters_at chosen_run (result_of other) (State.waits 1) 0 (first ∷ second ∷ first ∷ []) ≡ 1)
unfolding copied unrolled placed at reacting carried resuming expand active labels_of active_labels react_by member none only join insert remove
other_branch = (refl, refl, refl, refl, refl, refl)

-- Why only instants that are not wrong: resumed with 0 present, body and copy end, and the body is entered again.
abbrev endless : Statement
endless = loop 0 (seq (present 0 nothing (pause 0)) (emit 1 pure))

wrong_twice : reacts_at chosen_run (result_of endless) (State.waits 1) 1 (first ∷ second ∷ second ∷ []) ≡ 2
unfolding copied unrolled placed at reacting carried expand active labels_of active_labels react_by member none only join insert remove
wrong_twice = refl
