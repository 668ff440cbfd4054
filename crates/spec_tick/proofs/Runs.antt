-- The bays worked by hand, by computation: with suspend, whose first error is not their only one, and with a read-back set.
use mathlib.Core.Path.{refl}
use Rattle.spec_base.specs.Sets.{member, none, only, join, insert, remove, subset, disjoint, members_from}
use Rattle.spec_language.specs.Reaction.{react_by}
use Rattle.spec_language.specs.Errors.{errors_by}
use Rattle.spec_language.specs.LabelTests.{labels_of, active_labels, every_label, distinct, before, well_formed, valid}
use Rattle.spec_language.specs.States.{active}
use Rattle.spec_language.specs.Expansion.{expand}
use Rattle.spec_sequence.specs.Commands.{command_of}
use Rattle.spec_language.specs.ReadBack.{declared_by}
use Rattle.spec_sequence.specs.Reader.{front, read}
use Rattle.spec_language.specs.Sizes.{signal_nesting}
use Rattle.spec_sequence.specs.Check.{checked}
use Rattle.spec_base.specs.Bytes.{le_bytes, le_number}
use Rattle.spec_tick.specs.StateRecord.{encode_state, decode_state}
use Rattle.spec_tick.specs.AnswerRecord.{encode_answer}
use Rattle.spec_tick.specs.Tick.{tick_by, tick_of}
use Rattle.spec_tick.specs.Demands.{outcomes}
use Rattle.spec_tick.specs.Worked.{ShowsRuns}
use Rattle.spec_tick.specs.Suspended.{suspend_runs}
use Rattle.spec_tick.specs.FirstErrors.{first_error_runs}
use Rattle.spec_tick.specs.ReadBackBays.{read_back_runs}

-- EACH ROW OF THE THREE TABLES
pub worked : ShowsRuns suspend_runs tick_of × ShowsRuns first_error_runs tick_of × ShowsRuns read_back_runs tick_of
unfolding suspend_runs first_error_runs read_back_runs outcomes tick_by checked read front command_of signal_nesting declared_by members_from distinct well_formed every_label before labels_of active_labels valid subset disjoint active expand decode_state encode_state encode_answer le_number le_bytes react_by errors_by member none only join insert remove
worked = (refl, refl, refl)
