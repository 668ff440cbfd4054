-- 01's example of a run, one with a read-back set, one that is refused, and a wrong instant on paper, by computation.
use mathlib.Core.Path.{◌≡◌, refl}
use mathlib.Core.List.{[], ◌∷◌}
use Rattle.spec_base.specs.Sets.{member, none, only, join, insert, remove, subset, disjoint, members_from}
use Rattle.spec_language.specs.Statement.{nothing, loop}
use Rattle.spec_language.specs.Reaction.{react_by}
use Rattle.spec_language.specs.Errors.{errors_by}
use Rattle.spec_language.specs.LabelTests.{labels_of, every_label, distinct, before, well_formed, valid}
use Rattle.spec_language.specs.States.{active}
use Rattle.spec_language.specs.Expansion.{expand}
use Rattle.spec_language.specs.Reactions.{reactions_by}
use Rattle.spec_language.specs.Machines.{run}
use Rattle.spec_language.specs.ReadBack.{declared_by}
use Rattle.spec_sequence.specs.Commands.{command_of}
use Rattle.spec_sequence.specs.Reader.{front, read}
use Rattle.spec_language.specs.Sizes.{signal_nesting}
use Rattle.spec_sequence.specs.Check.{checked, check_of}
use Rattle.spec_base.specs.Bytes.{le_bytes, le_number}
use Rattle.spec_tick.specs.StateRecord.{encode_state, decode_state}
use Rattle.spec_tick.specs.AnswerRecord.{encode_answer}
use Rattle.spec_tick.specs.Tick.{tick_by}
use Rattle.spec_programs.specs.Text.{numeral_in, numeral, refusal}
use Rattle.spec_programs.specs.File.{sequence_in, read_back_in, words, inputs_in, file_of}
use Rattle.spec_programs.specs.Listing.{line_of, entries, lines, listing_of}
use Rattle.spec_programs.specs.ListingPaper.{instants, paper_columns}
use Rattle.spec_programs.specs.RunExamples.{example_file, example_listing, read_back_file, read_back_listing, deep_file}

pub example : listing_of example_file ≡ example_listing
unfolding listing_of file_of sequence_in read_back_in words inputs_in entries lines line_of numeral numeral_in tick_by check_of checked read front command_of signal_nesting declared_by members_from distinct well_formed every_label before labels_of subset disjoint valid active expand decode_state encode_state encode_answer le_number le_bytes react_by errors_by member none only join insert remove
example = refl

pub read_back : listing_of read_back_file ≡ read_back_listing
unfolding listing_of file_of sequence_in read_back_in words inputs_in entries lines line_of numeral numeral_in tick_by check_of checked read front command_of signal_nesting declared_by members_from distinct well_formed every_label before labels_of subset disjoint valid active expand decode_state encode_state encode_answer le_number le_bytes react_by errors_by member none only join insert remove
read_back = refl

-- the check is with the file's read-back set, and a refusal has no heading
deep : listing_of deep_file ≡ refusal 6
unfolding listing_of file_of sequence_in read_back_in words inputs_in numeral numeral_in check_of checked read front command_of signal_nesting declared_by members_from distinct well_formed every_label before labels_of subset disjoint le_number le_bytes member none only join insert remove
deep = refl

-- a loop at offset 5 that ends at once: kind 1, place 5
on_paper : paper_columns (loop 5 nothing) (0 ∷ []) ≡ record { instant = 1; code = 255; kind = 1; place = 5; emitted = 0 } ∷ []
unfolding instants run react_by errors_by reactions_by member none only join insert remove
on_paper = refl
