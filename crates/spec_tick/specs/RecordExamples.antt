-- Records, panels and numbers worked by hand.
use Rattle.std.specs.Prelude.{◌≡◌, refl, [], ◌∷◌, map}
use Rattle.spec_base.specs.Sets.{member, none, only, join, difference, insert, remove, subset, disjoint, members_from}
use Rattle.spec_language.specs.Reaction.{react_by}
use Rattle.spec_language.specs.Errors.{errors_by}
use Rattle.spec_language.specs.Reactions.{reactions_by}
use Rattle.spec_language.specs.LabelTests.{labels_of, every_label, distinct, before, well_formed}
use Rattle.spec_language.specs.ReadBack.{declared_by}
use Rattle.spec_language.specs.Sizes.{signal_nesting}
use Rattle.spec_sequence.specs.Commands.{command_of}
use Rattle.spec_sequence.specs.Reader.{front, read}
use Rattle.spec_sequence.specs.Check.{checked}
use Rattle.spec_base.specs.Bytes.{le_bytes, le_number}
use Rattle.spec_tick.specs.StateRecord.{state_record, encode_state, decode_state}
use Rattle.spec_tick.specs.AnswerRecord.{answer_record, encode_answer}
use Rattle.spec_tick.specs.Tick.{tick_by}
use Rattle.spec_tick.specs.Record.{record_of, number_in, panel_of}
use Rattle.spec_tick.specs.Recording.{following, records_from, recording_of}

-- instant 258 on inputs 0 and 2, which waits at label 1 and emits 1 and 3; signals 2 and 3 are service-only
shown : panel_of 0x0C (record_of 258 0x05 (answer_record 1 0 0 0x0A 4) (state_record 1 2))
    ≡ 2 ∷ 1 ∷ 0 ∷ 0 ∷ 1 ∷ 1 ∷ 0 ∷ 0 ∷ 0 ∷ 2 ∷ 0 ∷ 0 ∷ 0 ∷ []
unfolding panel_of difference le_bytes le_number
shown = refl

counts_on : following 4294967294 ≡ 4294967295
unfolding following
counts_on = refl

stays : following 4294967295 ≡ 4294967295
unfolding following
stays = refl

-- the recording of a machine that ends at once
begins : map number_in (recording_of (0x00 ∷ []) 0 (0 ∷ [])) ≡ 1 ∷ []
unfolding records_from following tick_by checked read front command_of distinct well_formed before every_label labels_of subset disjoint members_from declared_by signal_nesting encode_state decode_state encode_answer react_by errors_by reactions_by none only member join insert remove le_bytes le_number
begins = refl
