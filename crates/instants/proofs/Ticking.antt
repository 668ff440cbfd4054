-- One law for each return of the tick's code, over plain lists.
use Prim.Native.Nat.{ℕ}
use mathlib.Core.Path.{◌≡◌}
use mathlib.Core.Bool.{true, false, ◌&&◌, and-eq-true_iff}
use mathlib.Core.List.{List}
use lib.Dec.{eqb}
use lib.ListN.{length}
use borrow.Author.Tests.{eqb-true}
use Rattle.spec_tick.specs.StateRecord.{state_length}
use Rattle.spec_tick.specs.AnswerRecord.{answer_length}
use Rattle.spec_tick.specs.Tick.{outcome, reply_of, tick_by, tick_of}
use Rattle.std.specs.Prelude.{Result}
use Rattle.limits.specs.declared.rows.Refusal.{Refusal}
use Rattle.reaction.specs.declared.Reaction.{Reaction}
use Rattle.instants.specs.Replies.{replied_from, Replies}
use Rattle.instants.proofs.Replying.{replied_from_lem}

pub lengths : (m n : ℕ) → (eqb m state_length && eqb n answer_length) ≡ true → (m ≡ state_length) × (n ≡ answer_length)
lengths m n h =
    let k = (and-eq-true_iff (eqb m state_length) (eqb n answer_length)).0 h in (eqb-true m state_length k.0, eqb-true n answer_length k.1)

module _ (sequence state : List ℕ) (e read_back : ℕ) (answer : List ℕ) where
  pub unfit : (eqb (length state) state_length && eqb (length answer) answer_length) ≡ false → outcome 1 state answer ≡ tick_of sequence state e read_back answer
  unfolding tick_by
  unfit n = rw n

  pub as-replied : (eqb (length state) state_length && eqb (length answer) answer_length) ≡ true → (r : Result Reaction Refusal) → Replies sequence state e read_back r
      → replied_from r state answer ≡ tick_of sequence state e read_back answer
  unfolding tick_by
  as-replied i r h = rw i (replied_from_lem r (reply_of sequence state e read_back) h.is state answer)
