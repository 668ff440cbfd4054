-- One law for each return of the code of a bay's step, over plain lists.
use Prim.Native.Nat.{ℕ}
use mathlib.Core.Path.{◌≡◌, sym, ap, ◌∙◌}
use mathlib.Core.Logic.{◌≢◌}
use mathlib.Core.List.{List, [], ◌∷◌}
use lib.ListN.{length}
use borrow.Author.Tests.{eq-eqb}
use Rattle.spec_tick.specs.StateRecord.{state_length}
use Rattle.spec_tick.specs.AnswerRecord.{answer_length}
use Rattle.spec_tick.specs.Tick.{Outcome, outcome, tick_by, tick_of, reply_of}
use Rattle.theory_tick.proofs.Sequence.{tick_short}
use Rattle.reaction.specs.declared.Reaction.{Reaction}
use Rattle.instants.specs.Written.{writtenFrom}
use Rattle.std.specs.Prelude.{Result, Ok, Err}
use Rattle.limits.specs.declared.rows.Refusal.{Refusal}
use Rattle.limits.specs.Rows.{row_number}
use Rattle.instants.specs.Replies.{replied_from, Replies}
use Rattle.instants.proofs.Replying.{replied_from_lem}
use Rattle.numbers.proofs.Putting.{put-slot}
use Rattle.spec_bay.specs.Called.{called}
use Rattle.spec_bay.specs.Stretch.{state_at, stretch_length, sequence_in, read_back_in, state_in}
use Rattle.box_bays.specs.Layers.{state_kept, bay_step_of}
use Rattle.theory_bay.proofs.Fields.{state_sized}

module _ (s : List ℕ) (e : ℕ) (answer : List ℕ) where
  -- a refusal leaves the slot
  unmoved : (n : ℕ) → called n s (answer ∷ []) ≡ state_kept s (outcome n (state_in s) answer)
  unmoved n = ap (λ (r : List ℕ). called n r (answer ∷ [])) (sym (put-slot state_at state_length s))

  abbrev inner : Outcome
  inner = tick_of (sequence_in s) (state_in s) e (read_back_in s) answer

  kept : (o : Outcome) → o ≡ inner → state_kept s o ≡ bay_step_of s e answer
  unfolding bay_step_of
  kept o h = ap (state_kept s) h

  pub short-step : length answer ≢ answer_length → called 1 s (answer ∷ []) ≡ bay_step_of s e answer
  short-step n = unmoved 1 ∙ kept (outcome 1 (state_in s) answer) (sym (tick_short (sequence_in s) (state_in s) e (read_back_in s) answer n))

  module _ (z : length s ≡ stretch_length) (j : length answer ≡ answer_length) where
    replied-step : (r : Result Reaction Refusal) → Replies (sequence_in s) (state_in s) e (read_back_in s) r → replied_from r (state_in s) answer ≡ inner
    unfolding tick_by
    replied-step r h =
        rw (eq-eqb (length (state_in s)) state_length (state_sized s z), eq-eqb (length answer) answer_length j)
        (replied_from_lem r (reply_of (sequence_in s) (state_in s) e (read_back_in s)) h.is (state_in s) answer)

    pub refused-step : (row : Refusal) → Replies (sequence_in s) (state_in s) e (read_back_in s) (Err row)
        → called (row_number row) s (answer ∷ []) ≡ bay_step_of s e answer
    refused-step row h = unmoved (row_number row) ∙ kept (outcome (row_number row) (state_in s) answer) (replied-step (Err row) h)

    pub kept-written : (r : Reaction) → Replies (sequence_in s) (state_in s) e (read_back_in s) (Ok r)
        → state_kept s (writtenFrom r) ≡ bay_step_of s e answer
    kept-written r h = kept (writtenFrom r) (replied-step (Ok r) h)
