-- By the printed order of the signal rules the runs differ (02, item 4 before item 13): a run without the signal that is wrong, and
-- emits it, is hidden by the run with it; written out, that run is wrong without emitting it.
use Prim.Native.Nat.{ℕ}
use native.Mathlib.Omega.{arith}
use mathlib.Core.Path.{◌≡◌, refl, ap, subst}
use mathlib.Core.List.{List, [], ◌∷◌}
use lib.ListN.{replicate}
use Rattle.spec_base.specs.Sets.{member, none, only, join, insert, remove, subset, disjoint, members_from}
use Rattle.spec_language.specs.Statement.{local, pure, Statement, nothing, emit, exit, seq, loop, present, signal, try}
use Rattle.spec_language.specs.Reaction.{printed, react_by}
use Rattle.spec_language.specs.Errors.{errors_by}
use Rattle.spec_language.specs.Reactions.{reactions_by}
use Rattle.spec_language.specs.States.{NoSetpause}
use Rattle.spec_language.specs.LabelTests.{labels_of, every_label, distinct, before, well_formed}
use Rattle.spec_language.specs.Sizes.{signal_nesting, depth_of}
use Rattle.spec_language.specs.ReadBack.{declared_by}
use Rattle.spec_sequence.specs.Commands.{command_of}
use Rattle.spec_sequence.specs.Reader.{front, read}
use Rattle.spec_sequence.specs.Writer.{bytes_of}
use Rattle.spec_sequence.specs.Check.{sound, checked, number_of, check_of}
use Rattle.spec_sequence.specs.Rows.{Spells}
use Rattle.theory_sequence.proofs.Rows.{Decides, decided}
use Rattle.spec_base.specs.Bytes.{le_bytes, le_number}
use Rattle.spec_tick.specs.StateRecord.{decode_state, encode_state}
use Rattle.spec_tick.specs.AnswerRecord.{answer_length, code_in, encode_answer}
use Rattle.spec_tick.specs.Tick.{Outcome, tick_by}
use Rattle.spec_tick.specs.Paper.{Call}
use Rattle.spec_tick.specs.Demands.{answer_afterwards, outcomes}
use Rattle.spec_unroll.specs.Unrolled.{copied, unrolled}
use Rattle.spec_unroll.specs.Rows.{Fits}
use Rattle.spec_unroll.specs.Runs.{before_wrong, SameUntilWrong}
use Rattle.theory_unroll.proofs.Rows.{plain_test, fits_test}

-- signal 0 in present 0 then emit 0 else a loop around emit 0 and then a try, in which a loop errs before an exit
abbrev hiding : Statement
hiding = signal local 0 0 (present 0 (emit 0 pure) (loop 6 (seq (emit 0 pure) (try (loop 11 (seq (loop 13 nothing) (exit 1)))))))

abbrev hiding_bytes : List ℕ
hiding_bytes =
    0x08 ∷ 0x00 ∷ 0x07 ∷ 0x00 ∷ 0x02 ∷ 0x00 ∷ 0x06 ∷ 0x04 ∷ 0x02 ∷ 0x00 ∷ 0x09 ∷ 0x06 ∷ 0x04 ∷ 0x06 ∷ 0x00 ∷ 0x03 ∷ 0x01 ∷ []

is_checked : checked hiding_bytes 0 ≡ sound hiding
unfolding checked read front command_of signal_nesting declared_by members_from distinct well_formed every_label before labels_of subset disjoint member none only join
is_checked = refl

is_accepted : check_of hiding_bytes 0 ≡ 0
unfolding check_of
is_accepted = ap number_of is_checked

is_spelled : Spells hiding_bytes hiding
is_spelled = (subst (Decides hiding_bytes 0) is_checked (decided hiding_bytes 0)).1

is_plain : NoSetpause hiding
unfolding labels_of none join
is_plain = plain_test hiding refl

is_small : Fits hiding
unfolding copied unrolled bytes_of depth_of
is_small = fits_test hiding refl

-- one tick
abbrev once : Call
once = record { input = 0; buffer = replicate answer_length 0 }

-- the code of the first tick
abbrev first_code : List Outcome → ℕ
first_code [] = 0
first_code (o ∷ os) = code_in (answer_afterwards o)

-- 255 for the result, and 0 for the original
runs_differ : ¬ SameUntilWrong (tick_by printed) hiding_bytes (bytes_of (unrolled hiding)) 0
unfolding tick_by outcomes before_wrong copied unrolled bytes_of checked read front command_of signal_nesting declared_by members_from distinct well_formed every_label before labels_of subset disjoint decode_state encode_state encode_answer le_number le_bytes react_by errors_by reactions_by member none only join insert remove
runs_differ same = let e : ◌≡◌ {A = ℕ} 255 0 = ap first_code (same (once ∷ [])) in omega arith

pub counterexample : (sequence : List ℕ) × (p : Statement) × (check_of sequence 0 ≡ 0) × Spells sequence p × NoSetpause p × Fits p
    × ¬ SameUntilWrong (tick_by printed) sequence (bytes_of (unrolled p)) 0
counterexample = (hiding_bytes, hiding, is_accepted, is_spelled, is_plain, is_small, runs_differ)
