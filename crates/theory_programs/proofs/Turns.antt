-- The texts of the turns, one after the other, are the listing.
use Prim.Native.Nat.{ℕ, zero, suc, ◌+◌, ◌≤◌}
use native.Mathlib.Nat.{not-suc-le-zero}
use native.Mathlib.Omega.{arith}
use mathlib.Core.Bool.{Bool, true, false, cond}
use mathlib.Core.Path.{◌≡◌, refl, sym, ap, ◌∙◌}
use mathlib.Core.List.{List, [], ◌∷◌, ◌++◌, append-nil, append_assoc}
use lib.ListN.{length}
use Rattle.spec_tick.specs.Demands.{state_afterwards}
use Rattle.spec_programs.specs.Text.{ending}
use Rattle.spec_sequence.specs.Check.{check_of}
use Rattle.spec_programs.specs.File.{File, cut, refused, runs, by_number, file_of, whole, sequence_in, read_back_in, inputs_in}
use Rattle.spec_programs.specs.Listing.{entry_from, line_of, ticked, is_over, entries, lines, listed, listing_of}
use Rattle.spec_programs.specs.Stages.{Stage, opening, running, closing, finished, opened, turn_of, turns}
use Rattle.files.proofs.Files.{inputs_length}

-- the text still to come
abbrev rest : Stage → List ℕ
rest (opening file) = listed (file_of file)
rest (running s b state i es) = lines (entries s b state i es) ++ ending
rest closing = ending
rest finished = []

-- the turns still to come
abbrev left_in : File → ℕ
left_in cut = 0
left_in (refused number) = 0
left_in (runs s b es) = suc (length es)

abbrev left : Stage → ℕ
left (opening file) = suc (left_in (file_of file))
left (running s b state i es) = suc (length es)
left closing = 1
left finished = 0

-- ---- one turn
opened_text : (f : File) → listed f ≡ (opened f).text ++ rest (opened f).next
opened_text cut = sym (append-nil _)
opened_text (refused number) = sym (append-nil _)
opened_text (runs s b es) = refl

opened-left : (f : File) (n : ℕ) → left_in f ≤ n → left (opened f).next ≤ n
opened-left cut n h = h
opened-left (refused number) n h = h
opened-left (runs s b es) n h = h

over_or_on : (over : Bool) (s : List ℕ) (b : ℕ) (state : List ℕ) (i : ℕ) (es : List ℕ)
    → lines (cond over [] (entries s b state i es)) ++ ending ≡ rest (cond over closing (running s b state i es))
unfolding lines
over_or_on true s b state i es = refl
over_or_on false s b state i es = refl

over_or_left : (over : Bool) (s : List ℕ) (b : ℕ) (state : List ℕ) (i : ℕ) (es : List ℕ) (n : ℕ) → suc (length es) ≤ n
    → left (cond over closing (running s b state i es)) ≤ n
over_or_left true s b state i es n h = omega arith
over_or_left false s b state i es n h = h

turn_text : (g : Stage) → rest g ≡ (turn_of g).text ++ rest (turn_of g).next
unfolding turn_of entries lines
turn_text (opening file) = opened_text (file_of file)
turn_text (running s b state i []) = sym (append-nil ending)
turn_text (running s b state i (e ∷ es)) =
    let o = ticked s b state e in
    append_assoc (line_of (entry_from i o)) (lines (cond (is_over (state_afterwards o)) [] (entries s b (state_afterwards o) (suc i) es))) ending
    ∙ ap (λ (t : List ℕ). line_of (entry_from i o) ++ t) (over_or_on (is_over (state_afterwards o)) s b (state_afterwards o) (suc i) es)
turn_text closing = sym (append-nil ending)
turn_text finished = refl

turn-left : (g : Stage) (n : ℕ) → left g ≤ suc n → left (turn_of g).next ≤ n
unfolding turn_of
turn-left (opening file) n h = opened-left (file_of file) n (omega arith)
turn-left (running s b state i []) n h = omega arith
turn-left (running s b state i (e ∷ es)) n h =
    let o = ticked s b state e in over_or_left (is_over (state_afterwards o)) s b (state_afterwards o) (suc i) es n (omega arith)
turn-left closing n h = omega arith
turn-left finished n h = omega arith

-- ---- all turns
all-turns : (n : ℕ) (g : Stage) → left g ≤ n → turns n g ≡ rest g
unfolding turns
all-turns zero (opening file) h = absurd (not-suc-le-zero h)
all-turns zero (running s b state i es) h = absurd (not-suc-le-zero h)
all-turns zero closing h = absurd (not-suc-le-zero h)
all-turns zero finished h = refl
all-turns (suc n) g h =
    ap (λ (t : List ℕ). (turn_of g).text ++ t) (all-turns n (turn_of g).next (turn-left g n h)) ∙ sym (turn_text g)

by_check_lem : (n : ℕ) (file : List ℕ) → left_in (by_number n (sequence_in file) (read_back_in file) (inputs_in file)) ≤ suc (length file)
by_check_lem zero file = omega (arith, inputs_length file)
by_check_lem (suc n) file = omega arith

by_file : (b : Bool) (n : ℕ) (file : List ℕ)
    → left_in (cond b (by_number n (sequence_in file) (read_back_in file) (inputs_in file)) cut) ≤ suc (length file)
by_file true n file = by_check_lem n file
by_file false n file = omega arith

left_at_first : (file : List ℕ) → left_in (file_of file) ≤ suc (length file)
unfolding file_of
left_at_first file = by_file (whole file) (check_of (sequence_in file) (read_back_in file)) file

-- as many turns as the file has bytes, and two, give the whole listing
pub turns_list : (file : List ℕ) (n : ℕ) → length file + 2 ≤ n → turns n (opening file) ≡ listing_of file
unfolding listing_of
turns_list file n h = all-turns n (opening file) (omega (arith, left_at_first file))
