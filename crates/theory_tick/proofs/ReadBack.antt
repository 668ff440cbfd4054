-- What a read-back set changes (02, item 5): an empty one nothing, and the host's status of its signals is never read.
use Prim.Native.Nat.{ℕ}
use mathlib.Core.Path.{◌≡◌, refl, ap, ◌∙◌}
use mathlib.Core.Bool.{◌&&◌, cond}
use mathlib.Core.List.{List}
use lib.ListN.{length}
use lib.Dec.{eqb, leb}
use borrow.Author.Tests.{le-ltb}
use Rattle.spec_base.specs.Limits.{max_bytes, max_depth, max_signals, signal_count, read_back_place}
use Rattle.spec_base.specs.Sets.{none}
use Rattle.sets.proofs.Lists.{members_none}
use Rattle.spec_language.specs.Statement.{Statement}
use Rattle.spec_language.specs.Reaction.{inheritanceFirst}
use Rattle.spec_language.specs.Expansion.{expand}
use Rattle.spec_language.specs.Instants.{start}
use Rattle.spec_language.specs.Machines.{State}
use Rattle.spec_language.specs.ReadBack.{declared_by, declared}
use Rattle.theory_language.proofs.ReadBack.{expand-declared, declared_unread}
use Rattle.spec_sequence.specs.Reader.{Read, accepted, refused, read}
use Rattle.spec_language.specs.Sizes.{signal_nesting}
use Rattle.spec_sequence.specs.Program.{read_back_signals, program}
use Rattle.spec_sequence.specs.Check.{Checked, sound, bad, after_read, checked, check_of, number_of}
use Rattle.theory_sequence.proofs.Sound as reader
use Rattle.spec_tick.specs.StateRecord.{state_length, Decoded, holds, malformed, decode_state}
use Rattle.spec_tick.specs.AnswerRecord.{answer_length}
use Rattle.spec_tick.specs.Tick.{outcome, Reply, reacts, byState, by_check, reply_of, replied, tick_by, tick_of}
use Rattle.spec_tick.specs.Plain.{plain_after_read, plain_checked, plain_by_check, plain_tick, SameOutside}

-- ---- an empty set
pub none-declared : (p : Statement) → program none p ≡ p
unfolding declared_by
none-declared p = ap (λ (ss : List ℕ). declared read_back_place ss p) (members_none signal_count 0)

plain-read : (bs : List ℕ) (r : Read) → read max_depth max_signals 0 bs ≡ r → after_read none (length bs) r ≡ plain_after_read (length bs) r
plain-read bs (refused k) e = refl
plain-read bs (accepted p n) e =
    rw (none-declared p, le-ltb max_signals (signal_nesting p) (reader.sound max_depth max_signals 0 bs p n e).within.nested)

plain-checked : (bs : List ℕ) → checked bs none ≡ plain_checked bs
unfolding checked plain_checked
plain-checked bs =
    ap (λ (c : Checked). cond (leb 1 (length bs) && leb (length bs) max_bytes) c (bad 2)) (plain-read bs (read max_depth max_signals 0 bs) refl)

pub plain_check : (bs : List ℕ) → check_of bs none ≡ number_of (plain_checked bs)
unfolding check_of
plain_check bs = ap number_of (plain-checked bs)

pub plain_tick_lem : (sequence state : List ℕ) (e : ℕ) (answer : List ℕ) → tick_of sequence state e none answer ≡ plain_tick sequence state e answer
unfolding tick_by plain_tick
plain_tick_lem sequence state e answer =
    ap (λ (r : Reply). cond (eqb (length state) state_length && eqb (length answer) answer_length) (replied r state answer) (outcome 1 state answer))
    (ap (λ (c : Checked). by_check inheritanceFirst none c state e) (plain-checked sequence) ∙ go (plain_checked sequence))
  where
    go : (c : Checked) → by_check inheritanceFirst none c state e ≡ plain_by_check c state e
    go (bad k) = refl
    go (sound p) = rw (none-declared p)

-- ---- the host's status of a read-back signal
start_unread : (read_back : ℕ) (p : Statement) (e e' : ℕ) → SameOutside read_back e e'
    → start (program read_back p) e ≡ start (program read_back p) e'
start_unread read_back p = declared_unread read_back_place (read_back_signals read_back) p

resumed_unread : (read_back : ℕ) (p : Statement) (L e e' : ℕ) → SameOutside read_back e e'
    → start (expand (program read_back p) L) e ≡ start (expand (program read_back p) L) e'
resumed_unread read_back p L e e' h =
    rw (expand-declared read_back_place (read_back_signals read_back) p L) (start_unread read_back (expand p L) e e' h)

module _ (read_back : ℕ) (state : List ℕ) (e e' : ℕ) (h : SameOutside read_back e e') where
  state-unread : (p : Statement) (d : Decoded)
      → byState inheritanceFirst (program read_back p) d e ≡ byState inheritanceFirst (program read_back p) d e'
  state-unread p malformed = refl
  state-unread p (holds State.fresh) = ap reacts (start_unread read_back p e e' h)
  state-unread p (holds (State.waits L)) = ap reacts (resumed_unread read_back p L e e' h)
  state-unread p (holds State.over) = refl

  check-unread : (c : Checked) → by_check inheritanceFirst read_back c state e ≡ by_check inheritanceFirst read_back c state e'
  check-unread (bad k) = refl
  check-unread (sound p) = state-unread p (decode_state p state)

  pub reply-unread : (sequence : List ℕ) → reply_of sequence state e read_back ≡ reply_of sequence state e' read_back
  reply-unread sequence = check-unread (checked sequence read_back)

pub tick_unread : (read_back : ℕ) (state : List ℕ) (e e' : ℕ) (answer : List ℕ) → SameOutside read_back e e'
    → (sequence : List ℕ) → tick_of sequence state e read_back answer ≡ tick_of sequence state e' read_back answer
unfolding tick_by
tick_unread read_back state e e' answer h sequence =
    ap (λ (r : Reply). cond (eqb (length state) state_length && eqb (length answer) answer_length) (replied r state answer) (outcome 1 state answer))
    (reply-unread read_back state e e' h sequence)
