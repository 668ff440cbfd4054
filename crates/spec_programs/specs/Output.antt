-- What the unroll program writes (02, item 13): the file of a run with the result in the place of its sequence, or why there is none.
-- The head of such a file, which has no inputs, gives the head of the result's.
use Rattle.std.specs.Prelude.{ℕ, zero, suc, ◌≡◌, refl, cond, List, [], ◌∷◌, ◌++◌, take, drop, replicate}
use Rattle.spec_base.specs.Sets.{member, none, only, join, subset, disjoint, members_from}
use Rattle.spec_language.specs.LabelTests.{labels_of, every_label, distinct, before, well_formed}
use Rattle.spec_language.specs.Sizes.{signal_nesting, depth_of}
use Rattle.spec_language.specs.ReadBack.{declared_by}
use Rattle.spec_sequence.specs.Commands.{command_of}
use Rattle.spec_sequence.specs.Reader.{front, read}
use Rattle.spec_sequence.specs.Writer.{bytes_of}
use Rattle.spec_sequence.specs.Check.{checked}
use Rattle.spec_base.specs.Bytes.{le_bytes, le_number}
use Rattle.spec_programs.specs.File.{length_bytes, read_back_at, sequence_in, read_back_in, whole}
use Rattle.spec_programs.specs.Text.{input_cut, refusal, numeral_in, numeral}
use Rattle.spec_unroll.specs.Unrolled.{copied, unrolled}
use Rattle.spec_unroll.specs.Call.{Unrolling, unrolling, unroll_of}

-- the file with n bytes of a buffer in the place of its sequence
abbrev pub with_sequence : (file : List ℕ) (n : ℕ) (buffer : List ℕ) → List ℕ
with_sequence file n buffer = le_bytes length_bytes n ++ (take n buffer ++ drop (read_back_at file) file)

abbrev pub output : (file : List ℕ) → Unrolling → List ℕ
output file (unrolling zero n buffer) = with_sequence file n buffer
output file (unrolling (suc number) n buffer) = refusal (suc number)

-- with a buffer for the result
unfoldable pub output_of : (file buffer : List ℕ) → List ℕ
output_of file buffer = cond (whole file) (output file (unroll_of (sequence_in file) (read_back_in file) buffer)) input_cut

-- ---- by computation
-- 06 01 00, nothing read back and one input; a setpause; no bytes
written : (output_of (0x03 ∷ 0x00 ∷ 0x06 ∷ 0x01 ∷ 0x00 ∷ 0x00 ∷ 0x00 ∷ 0x00 ∷ 0x00 ∷ 0x05 ∷ 0x00 ∷ 0x00 ∷ 0x00 ∷ []) (replicate 1024 0)
    ≡ 0x06 ∷ 0x00 ∷ 0x06 ∷ 0x04 ∷ 0x0A ∷ 0x00 ∷ 0x01 ∷ 0x00 ∷ 0x00 ∷ 0x00 ∷ 0x00 ∷ 0x00 ∷ 0x05 ∷ 0x00 ∷ 0x00 ∷ 0x00 ∷ [])
    × (output_of (0x05 ∷ 0x00 ∷ 0x04 ∷ 0x01 ∷ 0x00 ∷ 0x0A ∷ 0x00 ∷ 0x00 ∷ 0x00 ∷ 0x00 ∷ 0x00 ∷ []) (replicate 1024 0) ≡ refusal 20)
    × (output_of [] (replicate 1024 0) ≡ input_cut)
unfolding output_of unroll_of checked read front command_of signal_nesting declared_by members_from distinct well_formed every_label before labels_of subset disjoint member none only join copied unrolled bytes_of depth_of le_bytes le_number sequence_in read_back_in numeral numeral_in
written = (refl, refl, refl)
