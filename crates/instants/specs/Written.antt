-- What an instant writes, from the value by which the code answers, and which instants fit the answer record.
use Rattle.std.specs.Prelude.{ℕ, ◌+◌, ◌<◌}
use Rattle.spec_base.specs.Sets.{none}
use Rattle.labels.specs.Labels.{label_set}
use Rattle.reaction.specs.declared.Completion.{Completion}
use Rattle.reaction.specs.declared.Completion.TheVariants.{Ended, Waiting, Leaving, Wrong}
use Rattle.reaction.specs.declared.Reaction.{Reaction}
use Rattle.spec_tick.specs.StateRecord.{state_record}
use Rattle.spec_tick.specs.AnswerRecord.{answer_record}
use Rattle.spec_tick.specs.Tick.{Outcome, outcome}

-- the code of the instant fits a byte
abbrev pub WritableCode : Completion → Type 0
WritableCode Ended = Unit {0}
WritableCode Waiting = Unit {0}
WritableCode (Leaving n) = n < 254
WritableCode (Wrong kind place) = Unit {0}

abbrev pub Writable : Reaction → Type 0
Writable r = WritableCode r.completion

-- what an instant writes, by its completion: phase and labels, then code, kind, place, emitted set and number of reactions
abbrev pub written_by : Completion → (emitted labels reactions : ℕ) → Outcome
written_by Ended o L m = outcome 0 (state_record 2 none) (answer_record 0 0 0 o m)
written_by Waiting o L m = outcome 0 (state_record 1 L) (answer_record 1 0 0 o m)
written_by (Leaving n) o L m = outcome 0 (state_record 2 none) (answer_record (n + 1) 0 0 o m)
written_by (Wrong kind place) o L m = outcome 0 (state_record 2 none) (answer_record 255 kind place 0 m)

abbrev pub writtenFrom : Reaction → Outcome
writtenFrom r = written_by r.completion r.emitted (label_set r.labels) r.reactions
