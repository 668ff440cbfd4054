-- The recordings worked by hand, by computation.
use mathlib.Core.Path.{◌≡◌, refl}
use mathlib.Core.List.{map}
use Rattle.spec_base.specs.Sets.{member, none, only, join, insert, remove, subset, disjoint, members_from}
use Rattle.spec_language.specs.Reaction.{react_by}
use Rattle.spec_language.specs.Errors.{errors_by}
use Rattle.spec_language.specs.Reactions.{reactions_by}
use Rattle.spec_language.specs.LabelTests.{labels_of, every_label, distinct, before, well_formed, valid}
use Rattle.spec_language.specs.Expansion.{expand}
use Rattle.spec_language.specs.Sizes.{signal_nesting}
use Rattle.spec_language.specs.ReadBack.{declared_by}
use Rattle.spec_sequence.specs.Commands.{command_of}
use Rattle.spec_sequence.specs.Reader.{front, read}
use Rattle.spec_sequence.specs.Check.{checked, check_of}
use Rattle.spec_base.specs.Bytes.{le_bytes, le_number}
use Rattle.spec_tick.specs.StateRecord.{encode_state, decode_state}
use Rattle.spec_tick.specs.AnswerRecord.{encode_answer}
use Rattle.spec_tick.specs.Tick.{tick_by}
use Rattle.spec_tick.specs.Recording.{following, records_from}
use Rattle.spec_replay.specs.Replay.{first_records, same, first_difference, place_of, replay_of}
use Rattle.spec_replay.specs.ReplayExamples.{Case, cases}

-- WORKED: each row of the table
pub worked : map (λ (c : Case). replay_of c.sequence c.read_back c.recording) cases ≡ map (λ (c : Case). c.shows) cases
unfolding cases replay_of place_of first_difference same first_records records_from following tick_by check_of checked read front command_of signal_nesting declared_by members_from distinct well_formed valid expand every_label before labels_of subset disjoint encode_state decode_state encode_answer le_number le_bytes react_by errors_by reactions_by member none only join insert remove
worked = refl
