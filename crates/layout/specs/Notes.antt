-- What reading notes of a statement, in one list of words: the labels of the pauses and those of the setpauses, in two words each,
-- whether the label of a pause came twice, the number of pauses, the most signal commands around a command, the farms named (farms,
-- specs/Farms), and for each label the rank of its pause (theory_language, specs/Ranks).
use Rattle.std.specs.Prelude.{ℕ, suc, ◌+◌, ◌/◌, ◌%◌, max, ◌≡◌, true, List, get_or, set, replicate}
use Rattle.std.specs.Int.Bits.{bit_and}
use Rattle.spec_base.specs.Limits.{label_count, word_labels}
use Rattle.spec_base.specs.Sets.{member, empty, only, join}
use Rattle.spec_base.specs.Widths.{set_at}
use Rattle.spec_language.specs.Statement.{Value, pure, litres, Statement, nothing, pause, emit, exit, seq, par, loop, present, signal, try, setpause, suspend, held}
use Rattle.spec_language.specs.LabelTests.{pauses, setpauses, distinct}
use Rattle.theory_language.specs.Ranks.{rank}
use Rattle.spec_language.specs.Sizes.{signal_nesting}
use Rattle.theory_language.specs.Farms.{farms_of}

-- ---- the fields
abbrev pub pausesIn : List ℕ → ℕ
pausesIn notes = set_at 0 notes

abbrev pub setpausesIn : List ℕ → ℕ
setpausesIn notes = set_at 2 notes

-- empty if no label of a pause came twice
abbrev pub twice_in : List ℕ → ℕ
twice_in notes = get_or notes 4 0

abbrev pub pauses_counted : List ℕ → ℕ
pauses_counted notes = get_or notes 5 0

-- the most signal commands around a command
abbrev pub most_in : List ℕ → ℕ
most_in notes = get_or notes 6 0

abbrev pub farms_in : List ℕ → ℕ
farms_in notes = get_or notes 7 0

abbrev pub rank_in : List ℕ → ℕ → ℕ
rank_in notes l = get_or notes (8 + l) 0

abbrev pub note_count : ℕ
note_count = 8 + label_count

-- nothing is noted yet
abbrev pub no_notes : List ℕ
no_notes = replicate note_count 0

-- ---- what a command adds
-- the word that has label l, of the set at `at`, and l in that word
abbrev pub word_at : (at l : ℕ) → List ℕ → ℕ
word_at at l notes = get_or notes (at + l / word_labels) 0

abbrev pub in_word : ℕ → ℕ
in_word l = only (l % word_labels)

unfoldable pub notePause : (l : ℕ) → List ℕ → List ℕ
notePause l notes =
    set (set (set (set notes 4 (join (twice_in notes) (bit_and (word_at 0 l notes) (in_word l))))
    (0 + l / word_labels) (join (word_at 0 l notes) (in_word l))) (8 + l) (pauses_counted notes)) 5 (pauses_counted notes + 1)

unfoldable pub noteSetpause : (l : ℕ) → List ℕ → List ℕ
noteSetpause l notes = set notes (2 + l / word_labels) (join (word_at 2 l notes) (in_word l))

unfoldable pub noteFarm : (s : ℕ) → List ℕ → List ℕ
noteFarm s notes = set notes 7 (join (farms_in notes) (only s))

-- an emission names a farm if it carries litres
abbrev pub note_emission : (s : ℕ) → Value → List ℕ → List ℕ
note_emission s pure notes = notes
note_emission s (litres n) notes = noteFarm s notes

-- so many signal commands stand around a part
unfoldable pub note_signals : (around : ℕ) → List ℕ → List ℕ
note_signals around notes = set notes 6 (max (most_in notes) around)

-- what reading a statement with so many signal commands around it makes of the notes, from the left
unfoldable pub note_within : (around : ℕ) → Statement → List ℕ → List ℕ
note_within around nothing notes = notes
note_within around (pause l) notes = notePause l notes
note_within around (emit s v) notes = note_emission s v notes
note_within around (exit n) notes = notes
note_within around (seq p q) notes = note_within around q (note_within around p notes)
note_within around (par p q) notes = note_within around q (note_within around p notes)
note_within around (loop a p) notes = note_within around p notes
note_within around (present s p q) notes = note_within around q (note_within around p notes)
note_within around (signal sc a s p) notes = note_within (suc around) p (note_signals (suc around) notes)
note_within around (try p) notes = note_within around p notes
note_within around (setpause l) notes = noteSetpause l notes
note_within around (suspend s p) notes = note_within around p notes
note_within around (held s K p) notes = notes

abbrev pub note : Statement → List ℕ → List ℕ
note p notes = note_within 0 p notes

-- the notes are those of p
pub record Noted (p : Statement) (notes : List ℕ) : Type 0 where
  pub paused : pausesIn notes ≡ pauses p
  pub targeting : setpausesIn notes ≡ setpauses p
  pub once : empty (twice_in notes) ≡ distinct p
  pub ranked : distinct p ≡ true → (l : ℕ) → member l (pauses p) ≡ true → rank_in notes l ≡ rank 0 p l
  pub most : most_in notes ≡ signal_nesting p
  pub named : farms_in notes ≡ farms_of p
