-- The ticks by the two orders of the signal rules (02, item 4), compared record by record.
use Prim.Native.Nat.{ℕ}
use native.Mathlib.Decide.{ℕ_discrete}
use mathlib.Core.Path.{◌≡◌, refl, sym, ap, ◌∙◌}
use mathlib.Core.Logic.{◌≢◌}
use mathlib.Core.Bool.{Bool, true, false, ◌&&◌, cond}
use mathlib.Core.Option.{Option}
use mathlib.Core.List.{List, [], ◌∷◌, Memᴰ}
use lib.ListN.{length}
use lib.Dec.{eqb}
use Rattle.sets.proofs.Booleans.{Tested, tested}
use Rattle.spec_language.specs.Statement.{Statement}
use Rattle.spec_language.specs.Reaction.{wrong, is_wrong, Reaction, gives, code, Order, printed, inheritanceFirst, react_by, react}
use Rattle.spec_language.specs.Errors.{Error, first_error_by, first_error}
use Rattle.spec_language.specs.Reactions.{reactions_by, reactions}
use Rattle.spec_language.specs.SignalOrders.{overlap}
use Rattle.spec_language.specs.Instants.{instant, start_by, start}
use Rattle.spec_language.specs.Machines.{State}
use Rattle.theory_language.proofs.Rules.{wrong_is}
use Rattle.theory_language.proofs.SignalOrders as orders
use Rattle.theory_language.proofs.Reactions.{reactions_unchanged, reactions_kept}
use Rattle.spec_base.specs.Bytes.{le_bytes}
use Rattle.spec_sequence.specs.Program.{program}
use Rattle.spec_sequence.specs.Check.{Checked, sound, bad, checked, check_of}
use Rattle.spec_tick.specs.StateRecord.{state_length, Decoded, holds, malformed, decode_state, encode_state}
use Rattle.spec_tick.specs.AnswerRecord.{answer_length, encode_answer, code_in, code_byte}
use Rattle.spec_tick.specs.Tick.{Outcome, outcome, written, Reply, byState, by_check, reply_by, reply_of, replied, tick_by, tick_of}
use Rattle.spec_tick.specs.Paper.{Call}
use Rattle.spec_tick.specs.Demands.{number, state_afterwards, answer_afterwards, outcomes, StandsAt, uncounted}
use Rattle.theory_tick.proofs.Bounds.{code_exits}
use Rattle.theory_tick.proofs.Sequence.{accepted}
use Rattle.theory_tick.proofs.Demand2.{called_wrong, Fitting, stands-written, passed-check, state_sized, answer_sized, stands}

-- ---- the code in the records
-- the code byte that an outcome shows
abbrev code_shown : Outcome → ℕ
code_shown o = code_in (answer_afterwards o)

code_shown_lem : (r : Reaction) (x : Option Error) (n : ℕ) → code_shown (written (instant r x n)) ≡ code_byte (code r)
unfolding encode_answer
code_shown_lem (gives o k l t) x n = refl

-- of a statement within the widths, 255 means wrong by either order
wrong_shown : (ord : Order) (t : Statement) (e : ℕ) → Fitting t → code_shown (written (start_by ord t e)) ≡ 255
    → code (react_by ord t e) ≡ wrong
wrong_shown ord t e f =
    (called_wrong (code (react_by ord t e)) _ (code_exits ord t e f.0) (code_shown_lem (react_by ord t e) (first_error_by ord t e) (reactions_by ord t e))).0

shown_wrong : (t : Statement) (e : ℕ) → code (react t e) ≡ wrong → code_shown (written (start t e)) ≡ 255
shown_wrong t e h = code_shown_lem (react t e) (first_error t e) (reactions t e) ∙ ap code_byte h

-- what a wrong instant writes depends, the number of reactions aside, on its first error alone
wrong_written : (r r' : Reaction) (x : Option Error) (n n' : ℕ) → code r ≡ wrong → code r' ≡ wrong
    → uncounted (written (instant r x n)) ≡ uncounted (written (instant r' x n'))
unfolding encode_state encode_answer le_bytes
wrong_written (gives o k l t) (gives o' k' l' t') x n n' h h' = rw (h, h')

-- ---- one instant by both orders
module _ (t : Statement) (e : ℕ) where
  alike : react_by printed t e ≡ react t e → reactions_by printed t e ≡ reactions t e → written (start_by printed t e) ≡ written (start t e)
  alike h n = rw (h, n, orders.same_first t e)

  kept-written : is_wrong (code (react t e)) ≡ false → written (start_by printed t e) ≡ written (start t e)
  kept-written h = alike (orders.kept t e h).0 (reactions_kept t e h)

  stays-written : code (react_by printed t e) ≡ wrong → uncounted (written (start_by printed t e)) ≡ uncounted (written (start t e))
  stays-written h =
      wrong_written (react_by printed t e) (react t e) (first_error_by printed t e) (reactions_by printed t e) (reactions t e) h (orders.wrong_stays t e h)
      ∙ ap (λ (x : Option Error). uncounted (written (instant (react t e) x (reactions t e)))) (orders.same_first t e)

  -- where they differ, two of the printed rules fit at some signal
  differs : written (start_by printed t e) ≢ written (start t e) → overlap t e ≡ true
  differs n = go (tested (overlap t e))
    where
      go : Tested (overlap t e) → overlap t e ≡ true
      go (Tested.yes x) = x
      go (Tested.no x) = absurd (n (alike (orders.unchanged t e x) (reactions_unchanged t e x)))

-- ---- one tick by both orders: a refusal is the same
module _ (state : List ℕ) (e read_back : ℕ) (answer : List ℕ) where
  state-refused : (p : Statement) (d : Decoded) → number (replied (byState inheritanceFirst p d e) state answer) ≢ 0
      → byState printed p d e ≡ byState inheritanceFirst p d e
  state-refused p malformed n = refl
  state-refused p (holds State.fresh) n = absurd (n refl)
  state-refused p (holds (State.waits L)) n = absurd (n refl)
  state-refused p (holds State.over) n = refl

  check-refused : (c : Checked) → number (replied (by_check inheritanceFirst read_back c state e) state answer) ≢ 0
      → by_check printed read_back c state e ≡ by_check inheritanceFirst read_back c state e
  check-refused (bad k) n = refl
  check-refused (sound p) n = state-refused (program read_back p) (decode_state p state) n

  refused : (sequence : List ℕ) → number (tick_of sequence state e read_back answer) ≢ 0
      → tick_by printed sequence state e read_back answer ≡ tick_of sequence state e read_back answer
  unfolding tick_by
  refused sequence = go (eqb (length state) state_length && eqb (length answer) answer_length)
    where
      go : (b : Bool) → number (cond b (replied (reply_of sequence state e read_back) state answer) (outcome 1 state answer)) ≢ 0
          → cond b (replied (reply_by printed sequence state e read_back) state answer) (outcome 1 state answer)
          ≡ cond b (replied (reply_of sequence state e read_back) state answer) (outcome 1 state answer)
      go true n = ap (λ (r : Reply). replied r state answer) (check-refused (checked sequence read_back) n)
      go false n = refl

-- an instant: the term at which the machine stands, and what both orders write
pub record Compared (sequence state : List ℕ) (e read_back : ℕ) (answer : List ℕ) : Type 0 where
  pub term : Statement
  pub at : StandsAt sequence read_back state term
  pub old : tick_by printed sequence state e read_back answer ≡ written (start_by printed term e)
  pub new : tick_of sequence state e read_back answer ≡ written (start term e)
  pub fits : Fitting term

module _ (sequence state : List ℕ) (e read_back : ℕ) (answer : List ℕ) where
  compared : number (tick_of sequence state e read_back answer) ≡ 0 → Compared sequence state e read_back answer
  compared z =
      let t = stands sequence state e read_back answer z in
      let a = accepted sequence read_back (passed-check sequence state e read_back answer z) in
      let i = state_sized sequence state e read_back answer z in
      let j = answer_sized sequence state e read_back answer z in
      let w = stands-written sequence read_back a inheritanceFirst state e answer i j t.1 in
      record {
        term = t.0;
        at = t.1;
        old = (stands-written sequence read_back a printed state e answer i j t.1).0;
        new = w.0;
        fits = w.1;
      }

  -- of a refusal, or of an instant
  by_number : {A : Type 0} → (number (tick_of sequence state e read_back answer) ≢ 0 → A) → (Compared sequence state e read_back answer → A) → A
  by_number f g =
      elim (ℕ_discrete (number (tick_of sequence state e read_back answer)) 0) [
        | yes z ↦ g (compared z)
        | no z ↦ f z
      ]

  abbrev Same : Type 0
  Same = tick_by printed sequence state e read_back answer ≡ tick_of sequence state e read_back answer

  same-written : (c : Compared sequence state e read_back answer) → written (start_by printed c.term e) ≡ written (start c.term e) → Same
  same-written c h = c.old ∙ h ∙ sym c.new

  -- (a) no instant that is wrong by the new order
  pub tick-kept : (number (tick_of sequence state e read_back answer) ≡ 0 → code_shown (tick_of sequence state e read_back answer) ≢ 255) → Same
  tick-kept n = by_number (refused state e read_back answer sequence) go
    where
      go : Compared sequence state e read_back answer → Same
      go c = same-written c (by (tested (is_wrong (code (react c.term e)))))
        where
          by : Tested (is_wrong (code (react c.term e))) → written (start_by printed c.term e) ≡ written (start c.term e)
          by (Tested.yes w) = absurd (n (ap number c.new) (ap code_shown c.new ∙ shown_wrong c.term e (wrong_is (code (react c.term e)) w)))
          by (Tested.no w) = kept-written c.term e w

  -- (b) changed
  pub tick-changed : tick_by printed sequence state e read_back answer ≢ tick_of sequence state e read_back answer
      → (number (tick_of sequence state e read_back answer) ≡ 0) × (code_shown (tick_of sequence state e read_back answer) ≡ 255)
      × ((t : Statement) × StandsAt sequence read_back state t × (overlap t e ≡ true))
  tick-changed n = by_number (λ z. absurd (n (refused state e read_back answer sequence z))) go
    where
      go : Compared sequence state e read_back answer
          → (number (tick_of sequence state e read_back answer) ≡ 0) × (code_shown (tick_of sequence state e read_back answer) ≡ 255)
          × ((t : Statement) × StandsAt sequence read_back state t × (overlap t e ≡ true))
      go c =
          let o = differs c.term e (λ h. n (same-written c h)) in (
            ap number c.new,
            ap code_shown c.new ∙ shown_wrong c.term e (orders.overlap_wrong c.term e o),
            (c.term, c.at, o),
          )

  -- an instant that uses such a signal
  pub overlap-called-wrong : check_of sequence read_back ≡ 0 → length state ≡ state_length → length answer ≡ answer_length
      → (t : Statement) → StandsAt sequence read_back state t → overlap t e ≡ true
      → (number (tick_of sequence state e read_back answer) ≡ 0) × (code_shown (tick_of sequence state e read_back answer) ≡ 255)
  overlap-called-wrong h i j t s o =
      let w = (stands-written sequence read_back (accepted sequence read_back h) inheritanceFirst state e answer i j s).0 in
      (ap number w, ap code_shown w ∙ shown_wrong t e (orders.overlap_wrong t e o))

  -- (c) wrong by the printed order: the same records, kind and place included, but for the number of reactions
  pub tick_stays : code_shown (tick_by printed sequence state e read_back answer) ≡ 255
      → uncounted (tick_by printed sequence state e read_back answer) ≡ uncounted (tick_of sequence state e read_back answer)
  tick_stays h = by_number (λ z. ap uncounted (refused state e read_back answer sequence z))
      (λ c. ap uncounted c.old ∙ stays-written c.term e (wrong_shown printed c.term e c.fits (ap code_shown (sym c.old) ∙ h))
      ∙ sym (ap uncounted c.new))

-- ---- lists of ticks, up to the first that is wrong by the new order
pub outcomes_kept : (sequence : List ℕ) (read_back : ℕ) (state : List ℕ) (calls : List Call)
    → ((o : Outcome) → Memᴰ o (outcomes tick_of sequence read_back state calls) → number o ≡ 0 → code_shown o ≢ 255)
    → outcomes (tick_by printed) sequence read_back state calls ≡ outcomes tick_of sequence read_back state calls
unfolding outcomes
outcomes_kept sequence read_back state [] n = refl
outcomes_kept sequence read_back state (c ∷ cs) n =
    let h = tick-kept sequence state c.input read_back c.buffer (n (tick_of sequence state c.input read_back c.buffer) (Memᴰ.head refl)) in
    rw h (ap (λ (os : List Outcome). tick_of sequence state c.input read_back c.buffer ∷ os)
    (outcomes_kept sequence read_back (state_afterwards (tick_of sequence state c.input read_back c.buffer)) cs (λ o m. n o (Memᴰ.tail m))))
