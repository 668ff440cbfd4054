-- The reply's number depends on no input, what a preview comes to by it, and that one turned down leaves the lent bytes.
use Prim.Native.Nat.{ℕ, zero, suc, ◌≤◌}
use native.Mathlib.Decide.{ℕ_discrete}
use native.Mathlib.Omega.{arith}
use mathlib.Core.Path.{◌≡◌, refl, sym, ap, ◌∙◌}
use mathlib.Core.Logic.{◌≢◌, ◌⊎◌, inl, inr}
use mathlib.Core.Bool.{Bool, true, false, cond, true≢false}
use mathlib.Core.List.{List}
use lib.ListN.{length}
use lib.Dec.{eqb, leb}
use borrow.Author.Tests.{eq-eqb, ne_eqb, leb-true}
use Rattle.spec_base.specs.Limits.{signal_count, max_unknown}
use Rattle.spec_base.specs.Sets.{member, difference, Subset, keep_if, members_from}
use Rattle.spec_language.specs.Statement.{Statement}
use Rattle.spec_language.specs.Reaction.{inheritanceFirst}
use Rattle.spec_language.specs.Expansion.{expand}
use Rattle.spec_language.specs.Instants.{Instant, instant, start}
use Rattle.spec_language.specs.Machines.{State}
use Rattle.spec_sequence.specs.Program.{program}
use Rattle.spec_sequence.specs.Check.{Checked, sound, bad, checked}
use Rattle.spec_sequence.specs.Rows.{rank}
use Rattle.theory_sequence.proofs.Rows.{Decides, decided, row-range, row-rank}
use Rattle.spec_tick.specs.StateRecord.{state_length, Decoded, holds, malformed, decode_state}
use Rattle.spec_tick.specs.AnswerRecord.{answer_length, encode_answer}
use Rattle.spec_tick.specs.Tick.{Reply, refused, reacts, written, byState, by_check, reply_of, replied, tick_by, tick_of}
use Rattle.spec_tick.specs.Demands as demands
use Rattle.spec_tick.specs.Demands.{answer_afterwards}
use Rattle.spec_bay.specs.Preview.{Previewed, previewed, number, buffer_after, findings, preview_bytes, preview_length, shown_by, by_reply, answer_in, answers_of, preview_of}

-- ---- fewer inputs are not more
pub members_fewer : (n i s t : ℕ) → Subset s t → length (members_from n i s) ≤ length (members_from n i t)
unfolding members_from
members_fewer zero i s t h = omega arith
members_fewer (suc n) i s t h = go (member i s) (member i t) (h i) (members_fewer n (suc i) s t h)
  where
    go : (a b : Bool) → (a ≡ true → b ≡ true) → length (members_from n (suc i) s) ≤ length (members_from n (suc i) t)
        → length (keep_if a i (members_from n (suc i) s)) ≤ length (keep_if b i (members_from n (suc i) t))
    go true true k l = omega arith
    go true false k l = absurd (true≢false (sym (k refl)))
    go false true k l = omega arith
    go false false k l = l

module _ (sequence state : List ℕ) (read_back : ℕ) where
  -- ---- one number for every input, or an instant for each
  pub data Replying : Type 0 where
    turns_down : (n : ℕ) → (2 ≤ n) × (rank n ≤ rank 12) → ((e : ℕ) → reply_of sequence state e read_back ≡ refused n) → Replying
    runs : (i : ℕ → Instant) → ((e : ℕ) → reply_of sequence state e read_back ≡ reacts (i e)) → Replying

  by-decoded : (p : Statement) → checked sequence read_back ≡ sound p → (d : Decoded) → decode_state p state ≡ d → Replying
  by-decoded p c d q = go d (λ e. ap (λ (k : Checked). by_check inheritanceFirst read_back k state e) c ∙ ap (λ (k : Decoded). byState inheritanceFirst (program read_back p) k e) q)
    where
      go : (d : Decoded) → ((e : ℕ) → reply_of sequence state e read_back ≡ byState inheritanceFirst (program read_back p) d e) → Replying
      go malformed h = turns_down 11 (omega arith, omega arith) h
      go (holds State.fresh) h = runs (λ e. start (program read_back p) e) h
      go (holds (State.waits L)) h = runs (λ e. start (expand (program read_back p) L) e) h
      go (holds State.over) h = turns_down 12 (omega arith, omega arith) h

  pub replying : Replying
  replying = go (checked sequence read_back) refl (decided sequence read_back)
    where
      go : (c : Checked) → checked sequence read_back ≡ c → Decides sequence read_back c → Replying
      go (bad k) c d =
          turns_down k ((row-range sequence read_back k d.0).0, let r = row-rank sequence read_back k d.0 in omega arith)
          (λ e. ap (λ (x : Checked). by_check inheritanceFirst read_back x state e) c)
      go (sound p) c d = by-decoded p c (decode_state p state) refl

  abbrev turned : Reply → ℕ
  turned (refused m) = m
  turned (reacts i) = 0

  abbrev is-refused : Reply → ℕ
  is-refused (refused m) = 1
  is-refused (reacts i) = 0

  never_both : {n : ℕ} {i : Instant} → refused n ≡ reacts i → ⊥
  never_both h = let z : ◌≡◌ {A = ℕ} 1 0 = ap is-refused h in omega arith

  -- the number depends on no input
  pub one_number : (e e' n : ℕ) → reply_of sequence state e read_back ≡ refused n → reply_of sequence state e' read_back ≡ refused n
  one_number e e' n h = go replying
    where
      go : Replying → reply_of sequence state e' read_back ≡ refused n
      go (turns_down m z k) = k e' ∙ ap refused (ap turned (sym (k e) ∙ h))
      go (runs i k) = absurd (never_both (sym h ∙ k e))

  pub reacting : (e e' : ℕ) (i : Instant) → reply_of sequence state e read_back ≡ reacts i → (j : Instant) × (reply_of sequence state e' read_back ≡ reacts j)
  reacting e e' i h = go replying
    where
      go : Replying → (j : Instant) × (reply_of sequence state e' read_back ≡ reacts j)
      go (turns_down m z k) = absurd (never_both (sym (k e) ∙ h))
      go (runs j k) = (j e', k e')

  -- ---- a preview, by that
  module _ (input unknown : ℕ) (buffer : List ℕ) where
    abbrev o : Previewed
    o = preview_of sequence state input unknown read_back buffer

    pub other-buffer : length buffer ≢ preview_length → o ≡ previewed 1 buffer
    unfolding preview_of
    other-buffer h = rw (ne_eqb (length buffer) preview_length h)

    module _ (sized : length buffer ≡ preview_length) where
      by-reply : o ≡ by_reply (reply_of sequence state (difference input unknown) read_back) (shown_by (answers_of sequence state read_back) input unknown buffer) buffer
      unfolding preview_of
      by-reply = rw (eq-eqb (length buffer) preview_length sized)

      pub refused-preview : (n : ℕ) → reply_of sequence state (difference input unknown) read_back ≡ refused n → o ≡ previewed n buffer
      refused-preview n h =
          by-reply ∙ ap (λ (r : Reply). by_reply r (shown_by (answers_of sequence state read_back) input unknown buffer) buffer) h

      pub shown-preview : (i : Instant) → reply_of sequence state (difference input unknown) read_back ≡ reacts i
          → o ≡ shown_by (answers_of sequence state read_back) input unknown buffer
      shown-preview i h =
          by-reply ∙ ap (λ (r : Reply). by_reply r (shown_by (answers_of sequence state read_back) input unknown buffer) buffer) h

    -- turned down, it leaves the lent bytes
    pub lent-left : number o ≢ 0 → o ≡ previewed (number o) buffer
    unfolding preview_of
    lent-left =
        go (eqb (length buffer) preview_length) (reply_of sequence state (difference input unknown) read_back)
        (leb (length (members_from signal_count 0 unknown)) max_unknown) (preview_bytes (findings (answers_of sequence state read_back) input unknown))
      where
        go : (a : Bool) (r : Reply) (c : Bool) (bs : List ℕ)
            → number (cond a (by_reply r (cond c (previewed 0 bs) (previewed 17 buffer)) buffer) (previewed 1 buffer)) ≢ 0
            → cond a (by_reply r (cond c (previewed 0 bs) (previewed 17 buffer)) buffer) (previewed 1 buffer)
            ≡ previewed (number (cond a (by_reply r (cond c (previewed 0 bs) (previewed 17 buffer)) buffer) (previewed 1 buffer))) buffer
        go true (refused n) c bs h = refl
        go true (reacts i) true bs h = absurd (h refl)
        go true (reacts i) false bs h = refl
        go false r c bs h = refl

    -- its numbers are 0, 1, the reply's, which come up to 12 in the order of the rows, and 17
    pub preview-range : (rank (number o) ≤ rank 12) ⊎ (number o ≡ 17)
    unfolding preview_of
    preview-range = go (eqb (length buffer) preview_length) replying (leb (length (members_from signal_count 0 unknown)) max_unknown)
      where
        bs : List ℕ
        bs = preview_bytes (findings (answers_of sequence state read_back) input unknown)

        shown : (c : Bool) → (rank (number (cond c (previewed 0 bs) (previewed 17 buffer))) ≤ rank 12) ⊎ (number (cond c (previewed 0 bs) (previewed 17 buffer)) ≡ 17)
        shown true = inl (omega arith)
        shown false = inr refl

        go : (a : Bool) → Replying → (c : Bool)
            → (rank (number (cond a (by_reply (reply_of sequence state (difference input unknown) read_back) (cond c (previewed 0 bs) (previewed 17 buffer)) buffer) (previewed 1 buffer))) ≤ rank 12)
            ⊎ (number (cond a (by_reply (reply_of sequence state (difference input unknown) read_back) (cond c (previewed 0 bs) (previewed 17 buffer)) buffer) (previewed 1 buffer)) ≡ 17)
        go true (turns_down n k h) c = rw (h (difference input unknown)) (inl k.1)
        go true (runs i h) c = rw (h (difference input unknown)) (shown c)
        go false k c = inl (omega arith)

    -- a preview that was given
    pub record Given : Type 0 where
      pub sized : length buffer ≡ preview_length
      pub instants : ℕ → Instant
      pub are : (e : ℕ) → reply_of sequence state e read_back ≡ reacts (instants e)
      pub few : length (members_from signal_count 0 unknown) ≤ max_unknown
      pub bytes : buffer_after o ≡ preview_bytes (findings (answers_of sequence state read_back) input unknown)

    pub given : number o ≡ 0 → Given
    given z =
        elim (ℕ_discrete (length buffer) preview_length) [
          | yes s ↦ by_kind s replying
          | no n ↦ absurd (omega (arith, z, ap number (other-buffer n)))
        ]
      where
        by_size : (s : length buffer ≡ preview_length) (i : ℕ → Instant) → ((e : ℕ) → reply_of sequence state e read_back ≡ reacts (i e))
            → (b : Bool) → leb (length (members_from signal_count 0 unknown)) max_unknown ≡ b → Given
        by_size s i h true q =
            let l = leb-true (length (members_from signal_count 0 unknown)) max_unknown q in
            record {
              sized = s;
              instants = i;
              are = h;
              few = l;
              bytes = ap buffer_after (shown-preview s (i (difference input unknown)) (h (difference input unknown))) ∙ (rw q);
            }
        by_size s i h false q =
            let w : number o ≡ 17 = ap number (shown-preview s (i (difference input unknown)) (h (difference input unknown))) ∙ (rw q) in
            absurd (omega arith)

        by_kind : length buffer ≡ preview_length → Replying → Given
        by_kind s (turns_down n k h) = absurd (omega (arith, k.0, z, ap number (refused-preview s n (h (difference input unknown)))))
        by_kind s (runs i h) = by_size s i h (leb (length (members_from signal_count 0 unknown)) max_unknown) refl

-- ---- the tick
written_number : (i : Instant) → demands.number (written i) ≡ 0
written_number (instant r x n) = refl

pub written-answer : (i : Instant) → answer_afterwards (written i) ≡ encode_answer i
written-answer (instant r x n) = refl

module _ (sequence state : List ℕ) (read_back : ℕ) (answer : List ℕ) (long : length state ≡ state_length) (a : length answer ≡ answer_length) where
  pub tick-replied : (e : ℕ) → tick_of sequence state e read_back answer ≡ replied (reply_of sequence state e read_back) state answer
  unfolding tick_by
  tick-replied e = rw (eq-eqb (length state) state_length long, eq-eqb (length answer) answer_length a)

  module _ (e : ℕ) (i : Instant) (h : reply_of sequence state e read_back ≡ reacts i) where
    tick-written : tick_of sequence state e read_back answer ≡ written i
    tick-written = tick-replied e ∙ ap (λ (r : Reply). replied r state answer) h

    pub tick-number : demands.number (tick_of sequence state e read_back answer) ≡ 0
    tick-number = ap demands.number tick-written ∙ written_number i

    pub tick-answer : answer_afterwards (tick_of sequence state e read_back answer) ≡ answers_of sequence state read_back e
    tick-answer = ap answer_afterwards tick-written ∙ written-answer i ∙ sym (ap answer_in h)

  pub tick-turned-down : (e : ℕ) → demands.number (tick_of sequence state e read_back answer) ≢ 0
      → reply_of sequence state e read_back ≡ refused (demands.number (tick_of sequence state e read_back answer))
  tick-turned-down e z = go (reply_of sequence state e read_back) refl
    where
      go : (r : Reply) → reply_of sequence state e read_back ≡ r → reply_of sequence state e read_back ≡ refused (demands.number (tick_of sequence state e read_back answer))
      go (refused n) h = h ∙ ap refused (sym (ap demands.number (tick-replied e ∙ ap (λ (r : Reply). replied r state answer) h)))
      go (reacts i) h = absurd (z (tick-number e i h))

  pub tick-instant : (e : ℕ) → demands.number (tick_of sequence state e read_back answer) ≡ 0 → (i : Instant) × (reply_of sequence state e read_back ≡ reacts i)
  tick-instant e z = go (replying sequence state read_back)
    where
      go : Replying sequence state read_back → (i : Instant) × (reply_of sequence state e read_back ≡ reacts i)
      go (turns_down n y k) =
          let q : demands.number (tick_of sequence state e read_back answer) ≡ n =
          ap demands.number (tick-replied e ∙ ap (λ (r : Reply). replied r state answer) (k e)) in
          absurd (omega (arith, y.0, z, q))
      go (runs i k) = (i e, k e)
