-- What the unroll program writes is the file of a run again: the result is its sequence, and all else is as it was.
use Prim.Native.Nat.{ℕ, ◌+◌, ◌≤◌}
use native.Mathlib.Omega.{arith}
use mathlib.Core.Path.{◌≡◌, sym, ap, ◌∙◌}
use mathlib.Core.List.{List, ◌++◌, append_assoc}
use lib.ListN.{length, take, drop, length-append}
use lib.Seq.{take_at, drop_at, drop-drop, length-take-le}
use Rattle.spec_base.specs.Limits.{max_bytes, signal_bytes}
use Rattle.spec_base.specs.Bytes.{le_bytes, le_number}
use Rattle.numbers.proofs.Bytes.{length_le_bytes, le_round_trip}
use Rattle.spec_programs.specs.File.{length_bytes, sequence_length, read_back_at, sequence_in, read_back_in, words, inputs_in}
use Rattle.spec_programs.specs.Output.{with_sequence}

module _ (file buffer : List ℕ) (n : ℕ) (fits : n ≤ length buffer) (short : n ≤ max_bytes) where
  abbrev head : List ℕ
  head = le_bytes length_bytes n

  abbrev behind : List ℕ
  behind = drop (read_back_at file) file

  abbrev out : List ℕ
  out = with_sequence file n buffer

  head-length : length head ≡ 2
  head-length = length_le_bytes length_bytes n

  result-length : length (take n buffer) ≡ n
  result-length = length-take-le n buffer fits

  sequence-length : sequence_length out ≡ n
  sequence-length = ap le_number (take_at head (take n buffer ++ behind) 2 head-length) ∙ le_round_trip length_bytes n (omega arith)

  pub same-sequence : sequence_in out ≡ take n buffer
  unfolding sequence_in
  same-sequence =
      rw (sequence-length, drop_at head (take n buffer ++ behind) 2 head-length) (take_at (take n buffer) behind n result-length)

  behind-is : drop (read_back_at out) out ≡ behind
  behind-is =
      let e : length (head ++ take n buffer) ≡ 2 + n = length-append head (take n buffer) ∙ omega (arith, head-length, result-length) in
      rw (sequence-length, sym (append_assoc head (take n buffer) behind)) (drop_at (head ++ take n buffer) behind (2 + n) e)

  pub same-read-back : read_back_in out ≡ read_back_in file
  unfolding read_back_in
  same-read-back = ap (λ (l : List ℕ). le_number (take signal_bytes l)) behind-is

  pub same_inputs : inputs_in out ≡ inputs_in file
  unfolding inputs_in
  same_inputs =
      ap words (sym (drop-drop signal_bytes (read_back_at out) out) ∙ ap (drop signal_bytes) behind-is ∙ drop-drop signal_bytes (read_back_at file) file)
