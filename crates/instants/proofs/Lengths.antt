-- What an instant writes has the number 0, and both records have their lengths.
use Prim.Native.Nat.{ℕ, ◌+◌}
use mathlib.Core.Path.{◌≡◌, refl}
use mathlib.Core.List.{List}
use lib.ListN.{length}
use Rattle.spec_base.specs.Sets.{none}
use Rattle.labels.specs.Labels.{label_set}
use Rattle.reaction.specs.declared.Completion.{Completion}
use Rattle.reaction.specs.declared.Completion.TheVariants.{Ended, Waiting, Leaving, Wrong}
use Rattle.reaction.specs.declared.Reaction.{Reaction}
use Rattle.spec_tick.specs.StateRecord.{state_length, state_record}
use Rattle.records.proofs.StateLaws.{state_sized}
use Rattle.spec_tick.specs.AnswerRecord.{answer_length, answer_record}
use Rattle.records.proofs.AnswerLaws.{answer_sized}
use Rattle.spec_tick.specs.Tick.{Outcome, outcome}
use Rattle.instants.specs.Written.{written_by, writtenFrom}

pub record Writes (o : Outcome) : Type 0 where
  pub state : List ℕ
  pub answer : List ℕ
  pub is : o ≡ outcome 0 state answer
  pub state_sized : length state ≡ state_length
  pub answer_sized : length answer ≡ answer_length

made : (phase labels code kind place o m : ℕ) → Writes (outcome 0 (state_record phase labels) (answer_record code kind place o m))
made phase labels code kind place o m =
    record {
      state = state_record phase labels;
      answer = answer_record code kind place o m;
      is = refl;
      state_sized = state_sized phase labels;
      answer_sized = answer_sized code kind place o m;
    }

by_completion : (k : Completion) (o L m : ℕ) → Writes (written_by k o L m)
by_completion Ended o L m = made 2 none 0 0 0 o m
by_completion Waiting o L m = made 1 L 1 0 0 o m
by_completion (Leaving n) o L m = made 2 none (n + 1) 0 0 o m
by_completion (Wrong kind place) o L m = made 2 none 255 kind place 0 m

pub writes : (r : Reaction) → Writes (writtenFrom r)
writes r = by_completion r.completion r.emitted (label_set r.labels) r.reactions
