-- A preview of an instant with inputs of unknown status (02, item 11): the number and the lent bytes after the call, for all
-- arguments. The machine stays.
use Rattle.std.specs.Prelude.{ℕ, ◌+◌, ◌≡◌, Bool, false, ◌||◌, cond, List, [], ◌∷◌, ◌++◌, length, get_or, take, drop, eqb, leb}
use Rattle.spec_base.specs.Limits.{signal_count, signal_bytes, max_unknown, length_row, unknown_row}
use Rattle.spec_base.specs.Sets.{member, join, common, difference, Subset, members_from}
use Rattle.spec_base.specs.Widths.{complement}
use Rattle.spec_base.specs.Subsets.{subsets_below}
use Rattle.spec_base.specs.Bytes.{le_bytes, le_number}
use Rattle.spec_tick.specs.AnswerRecord.{code_in, emitted_in, encode_answer}
use Rattle.spec_tick.specs.Tick.{Reply, refused, reacts, reply_of}
use Rattle.spec_bay.specs.declared.Findings.{Findings}

-- ---- a filling is a subset of the unknown inputs: those of them that are present
-- 'which outweighs the status given for them'
abbrev pub filled : (input unknown f : ℕ) → ℕ
filled input unknown f = join (difference input unknown) f

-- ---- what fillings come to
-- 'else 254 for "open"'
abbrev pub openCode : ℕ
openCode = 254

-- one filling: the reported set and the code; a wrong instant reports none
abbrev pub alone : (emitted code : ℕ) → Findings
alone o k = record { every = o; some = o; wrong = eqb k 255; code = k }

abbrev pub found_in : (answer : List ℕ) → Findings
found_in answer = alone (emitted_in answer) (code_in answer)

abbrev pub shared_by : (k l : ℕ) → ℕ
shared_by k l = cond (eqb k l) k openCode

unfoldable pub both : (x y : Findings) → Findings
both x y =
    record {
      every = common x.every y.every;
      some = join x.some y.some;
      wrong = x.wrong || y.wrong;
      code = shared_by x.code y.code;
    }

-- more fillings, by the answers to inputs
unfoldable pub gathered : (answers : ℕ → List ℕ) (input unknown : ℕ) → Findings → List ℕ → Findings
gathered answers input unknown x [] = x
gathered answers input unknown x (f ∷ fs) = gathered answers input unknown (both x (found_in (answers (filled input unknown f)))) fs

-- every filling: the first of subsets_of, which has all unknown inputs, and then the others
unfoldable pub findings : (answers : ℕ → List ℕ) (input unknown : ℕ) → Findings
findings answers input unknown =
    gathered answers input unknown (found_in (answers (filled input unknown unknown))) (subsets_below unknown unknown unknown)

-- ---- as ten bytes: 'which signals are emitted for every filling (4, lowest first), which for none (4), whether some filling is wrong
-- (1 or 0), and the code if all fillings share it'
abbrev pub never_at : ℕ
never_at = signal_bytes

abbrev pub wrong_at : ℕ
wrong_at = never_at + signal_bytes

abbrev pub preview_length : ℕ
preview_length = wrong_at + 2

abbrev pub bit : Bool → ℕ
bit b = cond b 1 0

abbrev pub preview_bytes : Findings → List ℕ
preview_bytes x =
    (le_bytes signal_bytes x.every ++ le_bytes signal_bytes (complement signal_count x.some)) ++ (bit x.wrong ∷ x.code ∷ [])

abbrev pub every_in : List ℕ → ℕ
every_in preview = le_number (take signal_bytes preview)

abbrev pub never_in : List ℕ → ℕ
never_in preview = le_number (take signal_bytes (drop never_at preview))

abbrev pub wrong_in : List ℕ → ℕ
wrong_in preview = get_or preview wrong_at 0

abbrev pub shared_in : List ℕ → ℕ
shared_in preview = get_or preview (wrong_at + 1) 0

-- ---- the call: its number and the lent bytes after it
pub data Previewed : Type 0 where
  previewed : (number : ℕ) (buffer : List ℕ) → Previewed

abbrev pub number : Previewed → ℕ
number (previewed n buffer) = n

abbrev pub buffer_after : Previewed → List ℕ
buffer_after (previewed n buffer) = buffer

-- '17 for a seventh unknown'
abbrev pub shown_by : (answers : ℕ → List ℕ) (input unknown : ℕ) (buffer : List ℕ) → Previewed
shown_by answers input unknown buffer =
    cond (leb (length (members_from signal_count 0 unknown)) max_unknown)
    (previewed 0 (preview_bytes (findings answers input unknown)))
    (previewed unknown_row buffer)

-- 'after 12': the rows of the reply come before
abbrev pub by_reply : Reply → (shown : Previewed) (buffer : List ℕ) → Previewed
by_reply (refused n) shown buffer = previewed n buffer
by_reply (reacts i) shown buffer = shown

-- the answer of an instant
abbrev pub answer_in : Reply → List ℕ
answer_in (refused n) = []
answer_in (reacts i) = encode_answer i

abbrev pub answers_of : (sequence state : List ℕ) (read_back e : ℕ) → List ℕ
answers_of sequence state read_back e = answer_in (reply_of sequence state e read_back)

-- 'number 1 for another length than 10'; the reply's number depends on no input
unfoldable pub preview_of : (sequence state : List ℕ) (input unknown read_back : ℕ) (buffer : List ℕ) → Previewed
preview_of sequence state input unknown read_back buffer =
    cond (eqb (length buffer) preview_length)
    (by_reply (reply_of sequence state (difference input unknown) read_back) (shown_by (answers_of sequence state read_back) input unknown buffer) buffer)
    (previewed length_row buffer)

-- ---- more is known: fewer inputs unknown, and the status of every other one kept
pub record Learned (input unknown input' unknown' : ℕ) : Type 0 where
  pub fewer : Subset unknown' unknown
  pub kept : (i : ℕ) → member i unknown ≡ false → member i input ≡ member i input'
