-- The record that an instant leaves, and one law for each return of the code that says where the machine stands.
use Prim.Native.Nat.{ℕ}
use mathlib.Core.Path.{◌≡◌, refl, sym, ap, ◌∙◌, subst}
use mathlib.Core.List.{List}
use lib.ListN.{length}
use Rattle.labels.specs.Labels.{label_set}
use Rattle.labels.specs.declared.Labels.{Labels}
use Rattle.reaction.specs.declared.Reaction.{Reaction}
use Rattle.reaction.specs.declared.Completion.{Completion}
use Rattle.reaction.specs.declared.Completion.TheVariants.{Ended, Waiting, Leaving, Wrong}
use Rattle.validity.specs.Activity.{Ranked, Masked}
use Rattle.instants.specs.Written.{writtenFrom}
use Rattle.instants.proofs.Lengths.{writes}
use Rattle.spec_base.specs.Bytes.{replaced}
use Rattle.numbers.proofs.Writing.{replaced-by}
use Rattle.records.proofs.StateLaws.{state_sized}
use Rattle.records.proofs.AnswerLaws.{answer_sized}
use Rattle.spec_tick.specs.Tick.{outcome}
use Rattle.std.specs.Prelude.{Ok, Err}
use Rattle.limits.specs.declared.rows.Refusal.TheVariants.{Over}
use Rattle.program.specs.declared.Start.TheVariants as starts
use Rattle.spec_tick.specs.Record.{recordLength, record_of}
use Rattle.spec_tick.specs.Recording.{record_from}
use Rattle.records.proofs.Records.{record_sized}
use Rattle.theory_replay.proofs.Recordings.{Sized}
use Rattle.replay_call.specs.Comparing.{RankedAfter, StandsAfter}

-- ---- the record that an instant leaves
pub record_made : (n e : ℕ) (i : Reaction) (k : ℕ) (state answer : List ℕ) → outcome k state answer ≡ writtenFrom i
    → (room made : List ℕ) → length room ≡ recordLength → made ≡ replaced room (record_of n e answer state) → made ≡ record_from n e (writtenFrom i)
record_made n e i k state answer w room made l m =
    let x = writes i in
    let z : Sized (outcome k state answer) = subst Sized (sym (w ∙ x.is)) (x.state_sized, x.answer_sized) in
    m ∙ replaced-by recordLength room (record_of n e answer state) (record_sized n e answer state z.1 z.0) l
    ∙ ap (record_from n e) w

-- ---- where the machine stands
module _ (notes : List ℕ) {k : Completion} (L : ℕ) where
  pub has-ranks : k ≡ Waiting → RankedAfter notes k L → Ranked notes L
  has-ranks e h = subst (λ (x : Completion). RankedAfter notes x L) e h

  pub after-waiting : k ≡ Waiting → (m : Labels) → Masked notes L (label_set m) → StandsAfter notes k L (Ok (starts.Waiting m))
  after-waiting e m h = subst (λ (x : Completion). StandsAfter notes x L (Ok (starts.Waiting m))) (sym e) (m, refl, h)
