-- Laws of a run's file: its parts, what it is, and its inputs.
use Prim.Native.Nat.{ℕ, zero, suc, ◌+◌, ◌*◌, ◌≤◌, ◌<◌}
use native.Mathlib.Omega.{arith}
use mathlib.Core.Bool.{true, false}
use mathlib.Core.Logic.{◌≢◌}
use mathlib.Core.Option.{none, some}
use mathlib.Core.Path.{◌≡◌, refl, sym, ap, ◌∙◌}
use mathlib.Core.List.{List, [], ◌∷◌}
use lib.ListN.{length, take, drop, length-drop, drop_of_length-le}
use lib.Seq.{drop-nil, drop-drop}
use Rattle.spec_sequence.specs.Check.{check_of}
use Rattle.limits.specs.Rows.{row_number}
use Rattle.limits.specs.declared.rows.Refusal.{Refusal}
use Rattle.spec_base.specs.Bytes.{le_number}
use Rattle.spec_programs.specs.File.{File, cut, refused, runs, by_number, file_of, sequence_length, inputs_at, sequence_in, read_back_in, words, inputs_in, first, whole}

-- ---- the length that a file names
pub sequence_part : (file s : List ℕ) (n : ℕ) → n ≡ sequence_length file → s ≡ take n (drop 2 file) → s ≡ sequence_in file
unfolding sequence_in
sequence_part file s n e h = h ∙ ap (λ (k : ℕ). take k (drop 2 file)) e

pub read-back_part : (file : List ℕ) (x n : ℕ) → n ≡ sequence_length file → x ≡ le_number (take 4 (drop (2 + n) file)) → x ≡ read_back_in file
unfolding read_back_in
read-back_part file x n e h = h ∙ ap (λ (k : ℕ). le_number (take 4 (drop (2 + k) file))) e

-- ---- what the file is
pub file_cut : (file : List ℕ) → whole file ≡ false → cut ≡ file_of file
unfolding file_of
file_cut file h = rw h refl

-- the file whose check gives the number n
abbrev numbered : (n : ℕ) (file : List ℕ) → File
numbered n file = by_number n (sequence_in file) (read_back_in file) (inputs_in file)

file_numbered : (file : List ℕ) (n : ℕ) → whole file ≡ true → n ≡ check_of (sequence_in file) (read_back_in file) → file_of file ≡ numbered n file
unfolding file_of
file_numbered file n h e = rw (h, ← e) refl

pub file_runs : (file : List ℕ) (n : ℕ) → whole file ≡ true → n ≡ check_of (sequence_in file) (read_back_in file) → n ≡ 0
    → runs (sequence_in file) (read_back_in file) (inputs_in file) ≡ file_of file
file_runs file n h e z = sym (file_numbered file n h e ∙ ap (λ (k : ℕ). numbered k file) z)

by_number_refused : (n : ℕ) (s : List ℕ) (b : ℕ) (es : List ℕ) → n ≢ 0 → by_number n s b es ≡ refused n
by_number_refused zero s b es h = absurd (h refl)
by_number_refused (suc n) s b es h = refl

pub file_refused : (file : List ℕ) (n : ℕ) → whole file ≡ true → n ≡ check_of (sequence_in file) (read_back_in file) → n ≢ 0
    → refused n ≡ file_of file
file_refused file n h e z =
    sym (file_numbered file n h e ∙ by_number_refused n (sequence_in file) (read_back_in file) (inputs_in file) z)

-- ---- inputs
pub words-drop : (i : ℕ) (bs : List ℕ) → drop i (words bs) ≡ words (drop (4 * i) bs)
unfolding words
words-drop zero bs = refl
words-drop (suc i) [] = sym (ap words (drop-nil (4 * suc i)))
words-drop (suc i) (a ∷ []) = sym (ap words (drop_of_length-le (a ∷ []) {i = 4 * suc i} (omega arith)))
words-drop (suc i) (a ∷ b ∷ []) = sym (ap words (drop_of_length-le (a ∷ b ∷ []) {i = 4 * suc i} (omega arith)))
words-drop (suc i) (a ∷ b ∷ c ∷ []) = sym (ap words (drop_of_length-le (a ∷ b ∷ c ∷ []) {i = 4 * suc i} (omega arith)))
words-drop (suc i) (a ∷ b ∷ c ∷ d ∷ bs) =
    let e : suc (suc (suc (suc (4 * i)))) ≡ 4 * suc i = omega arith in
    words-drop i bs ∙ ap (λ (n : ℕ). words (drop n (a ∷ b ∷ c ∷ d ∷ bs))) e

words-none : (bs : List ℕ) → length bs < 4 → first (words bs) ≡ none
unfolding words
words-none [] h = refl
words-none (a ∷ []) h = refl
words-none (a ∷ b ∷ []) h = refl
words-none (a ∷ b ∷ c ∷ []) h = refl
words-none (a ∷ b ∷ c ∷ d ∷ bs) h = absurd (let z : 4 < 4 = omega arith in omega arith)

words-first : (bs : List ℕ) → 4 ≤ length bs → first (words bs) ≡ some (le_number (take 4 bs))
unfolding words
words-first [] h = absurd (let z : 4 ≤ 0 = h in omega arith)
words-first (a ∷ []) h = absurd (let z : 4 ≤ 1 = h in omega arith)
words-first (a ∷ b ∷ []) h = absurd (let z : 4 ≤ 2 = h in omega arith)
words-first (a ∷ b ∷ c ∷ []) h = absurd (let z : 4 ≤ 3 = h in omega arith)
words-first (a ∷ b ∷ c ∷ d ∷ bs) h = refl

inputs_from : (file : List ℕ) (i : ℕ) → drop i (inputs_in file) ≡ words (drop (inputs_at file + 4 * i) file)
unfolding inputs_in
inputs_from file i = words-drop i (drop (inputs_at file) file) ∙ ap words (drop-drop (4 * i) (inputs_at file) file)

pub no_input : (file : List ℕ) (i at : ℕ) → at ≡ inputs_at file → length file < at + 4 * i + 4 → none ≡ first (drop i (inputs_in file))
no_input file i at k h =
    sym
    (ap first (inputs_from file i)
    ∙ words-none (drop (inputs_at file + 4 * i) file) (omega (arith, length-drop (inputs_at file + 4 * i) file)))

pub an_input : (file : List ℕ) (i at e : ℕ) → at ≡ inputs_at file → e ≡ le_number (take 4 (drop (at + 4 * i) file))
    → at + 4 * i + 4 ≤ length file
    → some e ≡ first (drop i (inputs_in file))
an_input file i at e k v h =
    let v' : e ≡ le_number (take 4 (drop (inputs_at file + 4 * i) file)) = v ∙ ap (λ (m : ℕ). le_number (take 4 (drop (m + 4 * i) file))) k in
    ap some v'
    ∙ sym (ap first (inputs_from file i) ∙ words-first (drop (inputs_at file + 4 * i) file) (omega (arith, length-drop (inputs_at file + 4 * i) file)))

-- ---- the input that i others precede
pub input_next : (i e : ℕ) (ws : List ℕ) → first (drop i ws) ≡ some e → drop i ws ≡ e ∷ drop (suc i) ws
input_next zero e [] h = absurd (let z : ◌≡◌ {A = ℕ} 0 1 = cc in omega arith)
input_next zero e (w ∷ ws) h = let z : w ≡ e = cc in ap (λ (x : ℕ). x ∷ ws) z
input_next (suc i) e [] h = absurd (let z : ◌≡◌ {A = ℕ} 0 1 = cc in omega arith)
input_next (suc i) e (w ∷ ws) h = input_next i e ws h

within : (i e : ℕ) (ws : List ℕ) → first (drop i ws) ≡ some e → i < length ws
within zero e [] h = absurd (let z : ◌≡◌ {A = ℕ} 0 1 = cc in omega arith)
within zero e (w ∷ ws) h = omega arith
within (suc i) e [] h = absurd (let z : ◌≡◌ {A = ℕ} 0 1 = cc in omega arith)
within (suc i) e (w ∷ ws) h = omega (arith, within i e ws h)

words-length : (bs : List ℕ) → length (words bs) ≤ length bs
unfolding words
words-length [] = omega arith
words-length (a ∷ []) = omega arith
words-length (a ∷ b ∷ []) = omega arith
words-length (a ∷ b ∷ c ∷ []) = omega arith
words-length (a ∷ b ∷ c ∷ d ∷ bs) = omega (arith, words-length bs)

pub inputs_length : (file : List ℕ) → length (inputs_in file) ≤ length file
unfolding inputs_in
inputs_length file = omega (arith, words-length (drop (inputs_at file) file), length-drop (inputs_at file) file)

pub input_within : (file : List ℕ) (i e : ℕ) → first (drop i (inputs_in file)) ≡ some e → i < length file
input_within file i e h = omega (arith, within i e (inputs_in file) h, inputs_length file)
