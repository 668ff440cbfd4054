-- The starred bays, by computation; those that show the same in each instant also by induction over the instants.
use Prim.Native.Nat.{ℕ, zero, suc}
use mathlib.Core.Path.{◌≡◌, refl, sym, ap, ◌∙◌, subst}
use mathlib.Core.Logic.{⊎_elim}
use mathlib.Core.List.Memᴰ
use mathlib.Core.List.{List, [], ◌∷◌, map, Memᴰ}
use lib.ListN.{length, replicate}
use Rattle.spec_base.specs.Sets.{member, none, only, join, insert, remove, subset, disjoint, members_from}
use Rattle.spec_language.specs.Reaction.{react_by}
use Rattle.spec_language.specs.Errors.{errors_by}
use Rattle.spec_language.specs.Reactions.{reactions_by}
use Rattle.spec_language.specs.LabelTests.{labels_of, every_label, distinct, before, well_formed, valid}
use Rattle.spec_language.specs.States.{active}
use Rattle.spec_language.specs.Expansion.{expand}
use Rattle.spec_language.specs.ReadBack.{declared_by}
use Rattle.spec_language.specs.Sizes.{signal_nesting}
use Rattle.spec_sequence.specs.Commands.{command_of}
use Rattle.spec_sequence.specs.Reader.{front, read}
use Rattle.spec_sequence.specs.Check.{checked}
use Rattle.spec_base.specs.Bytes.{le_bytes, le_number}
use Rattle.spec_tick.specs.StateRecord.{encode_state, decode_state}
use Rattle.spec_tick.specs.AnswerRecord.{answer_length, encode_answer}
use Rattle.spec_tick.specs.Tick.{Outcome, outcome, tick_by, tick_of}
use Rattle.spec_tick.specs.Paper.{Call}
use Rattle.spec_tick.specs.Demands.{state_afterwards, outcomes, cleared}
use Rattle.spec_tick.specs.Bays.{Bay, Shown, table, shown_by, instants, ShowsBay}

-- ---- in each instant
-- after code 1 with label 0, in n reactions
abbrev waits_in : ℕ → Outcome
waits_in n = outcome 0 (1 ∷ 1 ∷ replicate 15 0) (1 ∷ 0 ∷ 0 ∷ 0 ∷ 0 ∷ 0 ∷ 0 ∷ 0 ∷ n ∷ 0 ∷ 0 ∷ 0 ∷ [])

-- a tick that waits so from a cleared record, in n reactions, and from its own result, in m, shows that in each instant
module _ (bytes buffer : List ℕ) (n m : ℕ) (first : tick_of bytes cleared 0 none buffer ≡ waits_in n)
    (again : tick_of bytes (state_afterwards (waits_in n)) 0 none buffer ≡ waits_in m) where
  abbrev c : Call
  c = record { input = 0; buffer = buffer }

  then-on : (k i : ℕ) (state : List ℕ) → tick_of bytes state 0 none buffer ≡ waits_in i
      → map shown_by (outcomes tick_of bytes none state (replicate k c)) ≡ replicate k (shown_by (waits_in n))
  unfolding outcomes
  then-on zero i state e = refl
  then-on (suc k) i state e = rw e (ap (λ (is : List Shown). shown_by (waits_in n) ∷ is) (then-on k m (state_afterwards (waits_in n)) again))

  for-ever : (k : ℕ) → instants tick_of bytes buffer k ≡ replicate k (shown_by (waits_in n))
  for-ever k = then-on k n cleared first

-- ---- all rows of a table
abbrev EachShows : List Bay → (buffer : List ℕ) → Type 0
EachShows [] buffer = Unit {0}
EachShows (b ∷ bs) buffer = ShowsBay tick_of b buffer × EachShows bs buffer

row_of : (bs : List Bay) (buffer : List ℕ) → EachShows bs buffer → (b : Bay) → Memᴰ b bs → ShowsBay tick_of b buffer
row_of [] buffer h b m = absurd (Memᴰ.not-nil m)
row_of (a ∷ bs) buffer h b m =
    ⊎_elim (λ e. subst (λ (x : Bay). ShowsBay tick_of x buffer) (sym e) h.0) (λ t. row_of bs buffer h.1 b t)
    (Memᴰ.cases_cons m)

-- what its tick shows
once_shows : (bytes buffer : List ℕ) (shown : Shown) → shown_by (tick_of bytes cleared 0 none buffer) ≡ shown
    → instants tick_of bytes buffer 1 ≡ shown ∷ []
unfolding outcomes
once_shows bytes buffer shown h = ap (λ (i : Shown). i ∷ []) h

module _ (buffer : List ℕ) (sized : length buffer ≡ answer_length) where
  all-rows : EachShows table buffer
  unfolding table tick_by checked signal_nesting declared_by members_from read front command_of distinct well_formed every_label before labels_of valid subset disjoint active expand decode_state encode_state encode_answer le_number le_bytes react_by errors_by reactions_by member none only join insert remove
  all-rows = (once_shows _ buffer _ (rw sized), (once_shows _ buffer _ (rw sized), (once_shows _ buffer _ (rw sized), (once_shows _ buffer _ (rw sized), (once_shows _ buffer _ (rw sized), (for-ever _ buffer 2 4 (rw sized) (rw sized), (once_shows _ buffer _ (rw sized), (once_shows _ buffer _ (rw sized), (once_shows _ buffer _ (rw sized), (once_shows _ buffer _ (rw sized), (for-ever _ buffer 12 20 (rw sized) (rw sized), tt)))))))))))

-- THE STARRED BAYS: each row of the table, for any answer buffer of the right length
pub starred : (b : Bay) → Memᴰ b table → (buffer : List ℕ) → length buffer ≡ answer_length → ShowsBay tick_of b buffer
starred b m buffer sized = row_of table buffer (all-rows buffer sized) b m
