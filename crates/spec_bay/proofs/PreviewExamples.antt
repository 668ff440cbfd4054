-- The previews worked by hand, by computation.
use mathlib.Core.Path.{◌≡◌, refl}
use mathlib.Core.List.{map}
use Rattle.spec_base.specs.Sets.{member, none, only, join, common, difference, insert, remove, subset, disjoint, members_from}
use Rattle.spec_base.specs.Widths.{all_below}
use Rattle.spec_base.specs.Subsets.{subsets_below}
use Rattle.spec_language.specs.Reaction.{react_by}
use Rattle.spec_language.specs.Errors.{errors_by}
use Rattle.spec_language.specs.Reactions.{reactions_by}
use Rattle.spec_language.specs.LabelTests.{labels_of, every_label, distinct, before, well_formed}
use Rattle.spec_language.specs.Sizes.{signal_nesting}
use Rattle.spec_language.specs.ReadBack.{declared_by}
use Rattle.spec_sequence.specs.Commands.{command_of}
use Rattle.spec_sequence.specs.Reader.{front, read}
use Rattle.spec_sequence.specs.Check.{checked}
use Rattle.spec_base.specs.Bytes.{le_bytes, le_number}
use Rattle.spec_tick.specs.StateRecord.{decode_state}
use Rattle.spec_tick.specs.AnswerRecord.{encode_answer}
use Rattle.spec_bay.specs.Preview.{both, gathered, findings, preview_of}
use Rattle.spec_bay.specs.PreviewExamples.{Case, cases}

-- WORKED: each row of the table
pub worked : map (λ (c : Case). preview_of c.sequence c.state c.input c.unknown 0 c.lent) cases ≡ map (λ (c : Case). c.shows) cases
unfolding cases preview_of findings gathered both subsets_below common difference all_below checked read front command_of signal_nesting declared_by members_from distinct well_formed every_label before labels_of subset disjoint decode_state encode_answer le_number le_bytes react_by errors_by reactions_by member none only join insert remove
worked = refl
