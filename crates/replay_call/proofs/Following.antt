-- One law for each return of the code that takes one record.
use Prim.Native.Nat.{ℕ}
use native.Mathlib.Omega.{arith}
use mathlib.Core.Path.{◌≡◌, refl, sym, ap, ◌∙◌, subst}
use mathlib.Core.Logic.{◌≢◌}
use mathlib.Core.Bool.{Bool, false, ◌&&◌}
use mathlib.Core.List.{List}
use lib.Dec.{eqb}
use borrow.Author.Tests.{ne_eqb}
use Rattle.spec_language.specs.Instants as Instants
use Rattle.spec_language.specs.Instants.{Instant}
use Rattle.theory_language.specs.Traced.{instant_of, start_traced}
use Rattle.spec_language.specs.Machines.{State}
use Rattle.labels.specs.Labels.{label_set}
use Rattle.program.specs.declared.Start.{Start}
use Rattle.program.specs.Program.{term_at}
use Rattle.spec_sequence.specs.Program.{program}
use Rattle.checks.specs.Verdict.{Passed}
use Rattle.reaction.specs.declared.Reaction.{Reaction}
use Rattle.reaction.specs.Reactions.{reaction_of}
use Rattle.reaction.specs.declared.Completion.{Completion}
use Rattle.reaction.specs.declared.Completion.TheVariants.{Ended, Waiting, Leaving, Wrong}
use Rattle.instants.specs.Written.{Writable, written_by, writtenFrom}
use Rattle.spec_tick.specs.StateRecord.{encode_state, decode_state}
use Rattle.records.proofs.StateLaws.{length_state}
use Rattle.spec_tick.specs.Tick as tick
use Rattle.spec_tick.specs.Tick.{Outcome, outcome, written, reply_of, replied, tick_by}
use Rattle.spec_tick.specs.Demands.{number, state_afterwards}
use Rattle.std.specs.Prelude.{Option, None, Some, Result, Ok, Err}
use Rattle.std.specs.Result.{result_ok}
use Rattle.limits.specs.declared.rows.Refusal.{Refusal}
use Rattle.limits.specs.Rows.{row_number}
use Rattle.instants.specs.Replies.{Decodes, replied_from, Replies}
use Rattle.instants.proofs.Replying.{replied_from_lem, decoded, refused-reply, started-reply, turned_not_0}
use Rattle.spec_tick.specs.Record.{input_in}
use Rattle.spec_tick.specs.Recording.{blank, tick_on, record_from}
use Rattle.spec_replay.specs.Replay.{same}
use Rattle.replay_call.specs.Comparing.{RankedAfter, Compared}
use Rattle.replay_call.specs.Following.{Holds, is_record, FollowsFrom}
use Rattle.replay_call.proofs.Standing.{state_of, recorded_then, ranked-after, decodes-after}

written_number : (c : Completion) (o L m : ℕ) → number (written_by c o L m) ≡ 0
written_number Ended o L m = refl
written_number Waiting o L m = refl
written_number (Leaving n) o L m = refl
written_number (Wrong kind place) o L m = refl

written_state : (i : Instant) → state_afterwards (written i) ≡ encode_state (state_of i)
written_state (Instants.instant r x n) = refl

is-ok : (x : Result Start Refusal) {start : Start} → result_ok x ≡ Some start → x ≡ Ok start
is-ok (Ok y) {start} e = let z : y ≡ start = cc in ap (λ (s : Start). Ok s) z
is-ok (Err m) e = absurd cc

-- ---- one record, from a state on
module _ (sequence : List ℕ) (read_back : ℕ) {second notes : List ℕ} (h : Passed sequence read_back second notes) (s : State)
    (standing : Result Start Refusal) (k : Holds h.p s standing) where
  abbrev state : List ℕ
  state = encode_state s

  stood : Decodes h.p state standing
  stood = k.decodes

  pub start-replies : (start : Start) → result_ok standing ≡ Some start → (e : ℕ) (i : Reaction)
      → i ≡ reaction_of (start_traced 0 (program read_back (term_at start h.p)) e) → Replies sequence state e read_back (Ok i)
  start-replies start q e i w =
      started-reply sequence state e read_back h.p h.is h.ranged 0 i start (subst (Decodes h.p state) (is-ok standing q) stood) w

  -- what the comparison asks of an instant
  pub comparable : (e : ℕ) (i : Reaction) → Replies sequence state e read_back (Ok i)
      → Writable i × RankedAfter notes i.completion (label_set i.labels)
  comparable e i q =
      let j = q.is.0 in (
        q.writable,
        ranked-after h.p h.ranged h.known j i q.is.1
            (recorded_then sequence read_back h s k.recorded e (instant_of j) q.is.2),
      )

  module _ (n : ℕ) (r : List ℕ) where
    abbrev o : Outcome
    o = tick_on sequence read_back state (input_in r)

    replied-tick : o ≡ replied (reply_of sequence state (input_in r) read_back) state blank
    unfolding tick_by
    replied-tick = rw (length_state s)

    -- what is written from the core's reply is the tick's
    as-tick : (x : Result Reaction Refusal) → Replies sequence state (input_in r) read_back x → replied_from x state blank ≡ o
    as-tick x q = replied_from_lem x (reply_of sequence state (input_in r) read_back) q.is state blank ∙ sym replied-tick

    not-a-record : (m : Refusal) → row_number m ≢ 0 → Replies sequence state (input_in r) read_back (Err m) → is_record n r o ≡ false
    not-a-record m z q =
        ap (is_record n r) (sym (as-tick (Err m) q))
        ∙ ap (λ (b : Bool). b && same r (record_from n (input_in r) (outcome (row_number m) state blank))) (ne_eqb (row_number m) 0 z)

    -- a machine that is over
    pub refused-differs : result_ok standing ≡ None → FollowsFrom h.p sequence read_back n r s None
    refused-differs q = go standing q stood
      where
        go : (x : Result Start Refusal) → result_ok x ≡ None → Decodes h.p state x → is_record n r o ≡ false
        go (Ok start) e d = absurd cc
        go (Err m) e d =
            not-a-record m (turned_not_0 h.p (decode_state h.p state) 0 (row_number m) (d h.p 0))
            (refused-reply sequence state (input_in r) read_back m
            (decoded sequence state read_back h (Err m) d (input_in r)))

    -- an instant's record is the tick's
    is-record : (i : Reaction) → Replies sequence state (input_in r) read_back (Ok i)
        → is_record n r o ≡ same r (record_from n (input_in r) (writtenFrom i))
    is-record i q =
        ap (is_record n r) (sym (as-tick (Ok i) q))
        ∙ ap (λ (m : ℕ). eqb m 0 && same r (record_from n (input_in r) (writtenFrom i)))
        (written_number i.completion i.emitted (label_set i.labels) i.reactions)

    by-comparison : (i : Reaction) → Replies sequence state (input_in r) read_back (Ok i) → (x : Option (Result Start Refusal))
        → Compared notes n (input_in r) r i x → FollowsFrom h.p sequence read_back n r s x
    by-comparison i q None c = is-record i q ∙ c
    by-comparison i q (Some there) c =
        let j = q.is.0 in
        let next = recorded_then sequence read_back h s k.recorded (input_in r) (instant_of j) q.is.2 in (
          is-record i q ∙ c.0,
          (
            state_of (instant_of j),
            ap state_afterwards (replied-tick ∙ ap (λ (x : tick.Reply). replied x state blank) q.is.2) ∙ written_state (instant_of j),
            record { recorded = next; decodes = decodes-after h.p h.ranged h.known j i q.is.1 next there c.1 },
          ),
        )

    pub compared-follows : (e : ℕ) → e ≡ input_in r → (i : Reaction) → Replies sequence state e read_back (Ok i) → (x : Option (Result Start Refusal))
        → Compared notes n e r i x → FollowsFrom h.p sequence read_back n r s x
    compared-follows e w i q x c =
        by-comparison i (subst (λ (y : ℕ). Replies sequence state y read_back (Ok i)) w q) x (subst (λ (y : ℕ). Compared notes n y r i x) w c)
