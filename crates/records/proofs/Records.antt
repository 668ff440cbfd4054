-- The fields of a record.
use Prim.Native.Nat.{ℕ, ◌^◌, ◌<◌}
use native.Mathlib.Omega.{arith}
use mathlib.Core.Path.{◌≡◌, refl, sym, ap, ◌∙◌}
use mathlib.Core.List.{List, ◌++◌}
use lib.ListN.{length, take, length-append}
use lib.Seq.{take_at, drop_at, take-length}
use Rattle.spec_base.specs.Limits.{signal_bytes, number_bytes}
use Rattle.spec_base.specs.Bytes.{le_bytes}
use Rattle.numbers.proofs.Bytes.{le_round_trip}
use Rattle.spec_tick.specs.StateRecord.{state_length}
use Rattle.spec_tick.specs.AnswerRecord.{answer_length}
use Rattle.spec_tick.specs.Record.{answer_at, state_at, recordLength, record_of, number_in, input_in, answer_in, state_in}

module _ (n e : ℕ) (answer state : List ℕ) (a : length answer ≡ answer_length) (s : length state ≡ state_length) where
  abbrev head : List ℕ
  head = le_bytes number_bytes n ++ le_bytes signal_bytes e

  head-sized : length head ≡ answer_at
  unfolding le_bytes
  head-sized = refl

  pub record_sized : length (record_of n e answer state) ≡ recordLength
  record_sized = omega (arith, length-append (head ++ answer) state, length-append head answer, head-sized)

  pub answer-field : answer_in (record_of n e answer state) ≡ answer
  unfolding le_bytes
  answer-field = take_at answer state answer_length a

  pub state-field : state_in (record_of n e answer state) ≡ state
  state-field =
      let h : length (head ++ answer) ≡ state_at = omega (arith, length-append head answer, head-sized) in
      ap (take state_length) (drop_at (head ++ answer) state state_at h)
      ∙ ap (λ (k : ℕ). take k state) (sym s) ∙ take-length state

module _ (n e : ℕ) (answer state : List ℕ) where
  pub number-field : n < 256 ^ number_bytes → number_in (record_of n e answer state) ≡ n
  unfolding le_bytes
  number-field h = le_round_trip number_bytes n h

  pub input-field : e < 256 ^ signal_bytes → input_in (record_of n e answer state) ≡ e
  unfolding le_bytes
  input-field h = le_round_trip signal_bytes e h
