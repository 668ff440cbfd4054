-- A replay that accepts a record after the machine is over breaks the claim about it: by computation on `nothing`, which is over with its
-- first record.
use Prim.Native.Nat.{ℕ, zero, suc, ◌≤◌}
use native.Mathlib.Omega.{arith}
use mathlib.Core.Path.{◌≡◌, refl, sym, ap, ◌∙◌}
use mathlib.Core.List.{List, [], ◌∷◌, ◌++◌}
use Rattle.spec_base.specs.Sets.{member, none, only, join, subset, disjoint, members_from}
use Rattle.spec_language.specs.Reaction.{react_by}
use Rattle.spec_language.specs.Errors.{errors_by}
use Rattle.spec_language.specs.Reactions.{reactions_by}
use Rattle.spec_language.specs.LabelTests.{labels_of, every_label, distinct, before, well_formed}
use Rattle.spec_language.specs.Sizes.{signal_nesting}
use Rattle.spec_language.specs.ReadBack.{declared_by}
use Rattle.spec_sequence.specs.Commands.{command_of}
use Rattle.spec_sequence.specs.Reader.{front, read}
use Rattle.spec_sequence.specs.Check.{checked, check_of}
use Rattle.spec_base.specs.Bytes.{le_bytes, le_number}
use Rattle.spec_tick.specs.StateRecord.{state_record, encode_state, decode_state}
use Rattle.spec_tick.specs.AnswerRecord.{answer_record, encode_answer}
use Rattle.spec_tick.specs.Tick.{tick_by}
use Rattle.spec_tick.specs.Record.{record_of}
use Rattle.spec_tick.specs.Recording.{following, records_from, recording_of}
use Rattle.spec_replay.specs.Replay.{first_records, same, records_in, inputs_in, replayed, place}
use Rattle.spec_replay.specs.ReplayClaims.{SameAt, NothingAfterTheEnd}
use Rattle.theory_replay.specs.Replacements.{first_up_to_the_end, accepts_after_the_end}

abbrev ends : (number : ℕ) → List ℕ
ends number = record_of number 0 (answer_record 0 0 0 none 1) (state_record 2 none)

-- a record after the end
abbrev longer : List ℕ
longer = ends 1 ++ ends 2

accepted : accepts_after_the_end (0 ∷ []) 0 longer ≡ replayed 0 0
unfolding first_up_to_the_end same first_records records_from following tick_by check_of checked read front command_of signal_nesting declared_by members_from distinct well_formed every_label before labels_of subset disjoint encode_state decode_state encode_answer le_number le_bytes react_by errors_by reactions_by member none only join
accepted = refl

first_right : SameAt 0 (records_in longer) (recording_of (0 ∷ []) 0 (inputs_in longer))
unfolding first_records records_from following tick_by checked read front command_of signal_nesting declared_by members_from distinct well_formed every_label before labels_of subset disjoint encode_state decode_state encode_answer le_number le_bytes react_by errors_by reactions_by member none only join
first_right = refl

pub not-accepts_after_the_end : ¬ NothingAfterTheEnd accepts_after_the_end
unfolding first_records check_of checked read front command_of signal_nesting declared_by members_from distinct well_formed every_label before labels_of subset disjoint encode_state encode_answer le_bytes le_number member none only join
not-accepts_after_the_end claim =
    let e = claim (0 ∷ []) 0 longer refl refl 0 right (ends 1) refl refl (omega arith) in
    omega (arith, ap place (sym accepted ∙ e))
  where
    right : (j : ℕ) → j ≤ 0 → SameAt j (records_in longer) (recording_of (0 ∷ []) 0 (inputs_in longer))
    right zero h = first_right
    right (suc j) h = absurd (omega arith)
