-- What an accepted sequence is: a statement within the limits that passes the label rules, and how a tick of it goes.
use Prim.Native.Nat.{ℕ, ◌+◌, ◌-◌, ◌^◌, ◌≤◌, ◌<◌}
use native.Mathlib.Omega.{arith}
use native.Mathlib.Decide.{dec_lt}
use mathlib.Core.Path.{◌≡◌, refl, sym, ap, ◌∙◌}
use mathlib.Core.Logic.{◌≢◌, ◌↔◌, inr}
use mathlib.Core.Bool.{Bool, true, false, ◌&&◌, cond}
use mathlib.Core.List.{List}
use lib.ListN.{length}
use lib.Dec.{eqb}
use borrow.Author.Tests.{eq-eqb, ne_eqb}
use Rattle.spec_language.specs.Statement.{Statement}
use Rattle.spec_language.specs.Reaction.{Reaction, gives, ended, waiting, leaving, wrong, react, Order}
use Rattle.spec_language.specs.States.{Valid, Distinct, Targeted, Source, WellFormed}
use Rattle.spec_language.specs.Expansion.{expand}
use Rattle.spec_language.specs.Errors.{Error}
use Rattle.spec_language.specs.Reactions.{reactions}
use Rattle.spec_language.specs.Sizes.{commands, loop_nesting}
use Rattle.spec_language.specs.Ceiling.{ceiling}
use Rattle.spec_language.specs.Machines.{State, state_after, ReactionOf, of_statement, of_expansion, FromValid}
use Rattle.theory_language.proofs.Theorems.{stable}
use Rattle.spec_base.specs.Limits.{max_bytes, max_depth, max_signals, place_bytes, reactions_bytes, read_back_place}
use Rattle.theory_language.proofs.ReadBack.{source_declared, distinct-declared, targeted-declared, wellFormed-declared, valid-declared}
use Rattle.theory_language.proofs.Ceiling.{fresh_below, resumed_below, ceiling_within, commands_declared, loops-declared, nesting_declared}
use Rattle.theory_language.proofs.LabelTests.{distinct_is, targeted_is, wellFormed-is, valid-is}
use Rattle.spec_sequence.specs.Reader as Reader
use Rattle.spec_sequence.specs.Writer.{Ranged}
use Rattle.spec_sequence.specs.Program.{read_back_signals, program}
use Rattle.spec_sequence.specs.Check.{Checked, sound, bad, checked, number_of, check_of}
use Rattle.spec_sequence.specs.Rows.{Spells, Row, row_2}
use Rattle.theory_sequence.proofs.Extents.{extent, few_signals}
use Rattle.theory_sequence.proofs.Writer.{reads_what_is-written}
use Rattle.theory_sequence.proofs.Source.{spells_source}
use Rattle.theory_sequence.proofs.Rows.{Decides, decided, row-range}
use Rattle.spec_tick.specs.StateRecord.{state_length, Decoded, decode_state, Recorded}
use Rattle.spec_tick.specs.AnswerRecord.{answer_length}
use Rattle.spec_tick.specs.Tick.{outcome, byState, reply_of, replied, tick_by, tick_of}
use Rattle.spec_tick.specs.PlaceNamed.{PlaceNamed, of_loop, of_signal, of_declaration}
use Rattle.theory_tick.proofs.Bounds.{Bounded, ranged_bounded, bounded_expand, bounded_declared, valid-below}
use Rattle.theory_tick.proofs.ErrorPlaces.{PlacesBelow, errors-expand}
use Rattle.theory_tick.proofs.Offsets.{program-errors}

-- bytes spell at most one statement
pub same_statement : (sequence : List ℕ) (p q : Statement) → Spells sequence p → Spells sequence q → p ≡ q
same_statement sequence p q s t =
    let e : Reader.accepted p (length sequence) ≡ Reader.accepted q (length sequence) =
    sym ((reads_what_is-written sequence p).1 s) ∙ (reads_what_is-written sequence q).1 t in
    cc

-- the statement of an accepted sequence, with all that the check says of it
pub record Accepted (sequence : List ℕ) (read_back : ℕ) : Type 0 where
  pub statement : Statement
  pub is_checked : checked sequence read_back ≡ sound statement
  pub no_row : (m : ℕ) → ¬ Row sequence read_back m
  pub spelled : Spells sequence statement
  pub distinct : Distinct statement
  pub targeted : Targeted statement
  pub formed : WellFormed statement

pub accepted : (sequence : List ℕ) (read_back : ℕ) → check_of sequence read_back ≡ 0 → Accepted sequence read_back
unfolding check_of
accepted sequence read_back h = go (checked sequence read_back) refl (decided sequence read_back) h
  where
    go : (c : Checked) → checked sequence read_back ≡ c → Decides sequence read_back c → number_of c ≡ 0 → Accepted sequence read_back
    go (bad k) e d z = absurd (let r = row-range sequence read_back k d.0 in omega arith)
    go (sound p) e d z =
        record { statement = p; is_checked = e; no_row = d.0; spelled = d.1; distinct = d.2; targeted = d.3; formed = d.4 }

-- an accepted sequence spells one statement
pub spells_one : (sequence : List ℕ) (read_back : ℕ) → check_of sequence read_back ≡ 0
    → (p : Statement) × Spells sequence p × ((q : Statement) → Spells sequence q → q ≡ p)
spells_one sequence read_back h =
    let a = accepted sequence read_back h in
    (a.statement, a.spelled, λ q s. same_statement sequence q a.statement s a.spelled)

-- a tick by the state that the record holds
pub tick_at : (ord : Order) (sequence state : List ℕ) (e read_back : ℕ) (answer : List ℕ) (p : Statement) (d : Decoded)
    → checked sequence read_back ≡ sound p
    → length state ≡ state_length → length answer ≡ answer_length → decode_state p state ≡ d
    → tick_by ord sequence state e read_back answer ≡ replied (byState ord (program read_back p) d e) state answer
unfolding tick_by
tick_at ord sequence state e read_back answer p d c i j h = rw (eq-eqb (length state) state_length i, eq-eqb (length answer) answer_length j, c, h)

-- a tick with an answer buffer of another length
pub tick_short : (sequence state : List ℕ) (e read_back : ℕ) (answer : List ℕ) → length answer ≢ answer_length
    → tick_of sequence state e read_back answer ≡ outcome 1 state answer
unfolding tick_by
tick_short sequence state e read_back answer h = rw (ne_eqb (length answer) answer_length h) (go (eqb (length state) state_length))
  where
    go : (b : Bool) → cond (b && false) (replied (reply_of sequence state e read_back) state answer) (outcome 1 state answer) ≡ outcome 1 state answer
    go true = refl
    go false = refl

-- labels that are valid fit the record
pub valid_recorded : (p : Statement) → Ranged p → (L : ℕ) → Valid p L → Recorded p (State.waits L)
valid_recorded p r L v = (v, valid-below p r L v)

-- ---- reactions of an accepted program keep to valid states and to the widths
module _ (sequence : List ℕ) (read_back : ℕ) (a : Accepted sequence read_back) where
  abbrev p : Statement
  p = a.statement

  -- the term of the program, and what is said of it because it is said of p
  abbrev term : Statement
  term = program read_back p

  pub term-source : Source term
  term-source = source_declared read_back_place (read_back_signals read_back) p (spells_source sequence p a.spelled)

  pub term-distinct : Distinct term
  term-distinct = (distinct_is term).0 (distinct-declared read_back_place (read_back_signals read_back) p ∙ (distinct_is p).1 a.distinct)

  term-targeted : Targeted term
  term-targeted = (targeted_is term).0 (targeted-declared read_back_place (read_back_signals read_back) p ∙ (targeted_is p).1 a.targeted)

  term-formed : WellFormed term
  term-formed =
      (wellFormed-is term term-distinct).0
      (wellFormed-declared read_back_place (read_back_signals read_back) p ∙ (wellFormed-is p a.distinct).1 a.formed)

  -- a set is valid for the program exactly if it is for the sequence
  term-valid : (L : ℕ) → Valid p L ↔ Valid term L
  term-valid L =
      let e = valid-declared read_back_place (read_back_signals read_back) p L in
      (λ v. (valid-is term L).0 (e ∙ (valid-is p L).1 v), λ v. (valid-is p L).0 (sym e ∙ (valid-is term L).1 v))

  recorded-after : (e : ℕ) (r : Reaction) (x : ReactionOf term e r) → FromValid term e x → Recorded p (state_after r)
  recorded-after e (gives o ended L t) x v = tt
  recorded-after e (gives o waiting L t) x v =
      valid_recorded p a.spelled.1.ranged L ((term-valid L).1 (stable term term-source term-distinct term-targeted term-formed e o L t x v))
  recorded-after e (gives o (leaving n) L t) x v = tt
  recorded-after e (gives o wrong L t) x v = tt

  pub recorded-fresh : (e : ℕ) → Recorded p (state_after (react term e))
  recorded-fresh e = recorded-after e (react term e) of_statement tt

  pub recorded-resumed : (L e : ℕ) → Valid p L → Recorded p (state_after (react (expand term L) e))
  recorded-resumed L e v = recorded-after e (react (expand term L) e) (of_expansion L) ((term-valid L).0 v)

  pub bounded-fresh : Bounded term
  bounded-fresh = bounded_declared read_back_place (read_back_signals read_back) p (ranged_bounded p a.spelled.1.ranged)

  pub bounded-resumed : (L : ℕ) → Bounded (expand term L)
  bounded-resumed L = bounded_expand term L bounded-fresh

  not-long : length sequence ≤ max_bytes
  not-long =
      elim (dec_lt max_bytes (length sequence)) [
        | yes i ↦ absurd (a.no_row 2 (row_2 (inr i)))
        | no i ↦ omega arith
      ]

  -- an offset of the sequence, or the place of the declarations
  place-below : (kind place : ℕ) → PlaceNamed sequence read_back kind place → place < 256 ^ place_bytes
  place-below kind place (of_loop k s u m y) = omega (arith, m, not-long)
  place-below kind place (of_signal k s u m y) = omega (arith, m, not-long)
  place-below kind place (of_declaration k n i) = omega (arith, i)

  pub places-fresh : PlacesBelow (256 ^ place_bytes) term
  places-fresh =
      program-errors (λ (x : Error). x.place < 256 ^ place_bytes) sequence read_back p a.spelled (λ x. place-below x.kind x.place)

  pub places-resumed : (L : ℕ) → PlacesBelow (256 ^ place_bytes) (expand term L)
  places-resumed L = errors-expand (λ (x : Error). x.place < 256 ^ place_bytes) term L places-fresh

  -- 1,024 commands and six declarations, 63 loops around one and six signals: 1,030 × 64 × 64
  pub term-ceiling : ceiling term ≤ 4218880
  term-ceiling =
      let ss = read_back_signals read_back in
      let g = few_signals sequence read_back p a.is_checked in
      let x = extent p a.spelled.1.ranged in
      let n : commands term ≤ max_signals + max_bytes =
      omega (arith, commands_declared read_back_place ss p, nesting_declared read_back_place ss p, g, x.0, not-long, ap length a.spelled.0) in
      let m : loop_nesting term ≤ max_depth - 1 = omega (arith, loops-declared read_back_place ss p, x.1, a.spelled.1.deep) in
      omega (arith, ceiling_within term (max_signals + max_bytes) (max_depth - 1) max_signals n m g)

  pub counted-fresh : (e : ℕ) → reactions term e < 256 ^ reactions_bytes
  counted-fresh e = omega (arith, fresh_below term e, term-ceiling)

  pub counted-resumed : (L e : ℕ) → reactions (expand term L) e < 256 ^ reactions_bytes
  counted-resumed L e = omega (arith, resumed_below term L e, term-ceiling)
