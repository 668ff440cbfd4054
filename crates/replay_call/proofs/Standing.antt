-- A machine goes on from its own states: where it stands after an instant is one of them, and its labels have ranks.
use Prim.Native.Nat.{ℕ, ◌^◌, ◌<◌, ◌≤◌}
use native.Mathlib.Omega.{arith}
use mathlib.Core.Path.{◌≡◌, sym, ap, ◌∙◌, subst}
use mathlib.Core.Bool.{true}
use mathlib.Core.List.{List}
use Rattle.spec_base.specs.Limits.{label_count, label_bytes}
use Rattle.spec_base.specs.Sets.{member}
use Rattle.sets.proofs.Members.{member_lt}
use Rattle.sets.proofs.Widths.{members_lt}
use Rattle.spec_language.specs.Statement.{Statement}
use Rattle.spec_language.specs.Reaction.{gives, ended, waiting, leaving, wrong, inheritanceFirst}
use Rattle.spec_language.specs.States.{Valid}
use Rattle.spec_language.specs.LabelTests.{pauses, valid}
use Rattle.theory_language.specs.Ranks.{mask, pause_count}
use Rattle.spec_language.specs.Instants as Instants
use Rattle.spec_language.specs.Instants.{Instant, start}
use Rattle.theory_language.specs.Traced.{Traced, traced, instant_of}
use Rattle.spec_language.specs.Machines.{State, state_after}
use Rattle.spec_language.specs.Expansion.{expand}
use Rattle.theory_language.proofs.LabelTests.{valid-is, distinct_is, pauses-is}
use Rattle.theory_language.proofs.Ranks.{rank_lt}
use Rattle.theory_language.proofs.Counts.{few_pauses}
use Rattle.theory_sequence.proofs.Source.{ranged_at}
use Rattle.spec_sequence.specs.Writer.{Ranged}
use Rattle.spec_sequence.specs.Program.{program}
use Rattle.spec_sequence.specs.Check.{Checked, sound, check_of}
use Rattle.labels.specs.Labels.{label_set}
use Rattle.labels.specs.declared.Labels.{Labels}
use Rattle.labels.proofs.LabelValues.{label_set_of}
use Rattle.layout.specs.Known.{Known}
use Rattle.checks.specs.Verdict.{Passed}
use Rattle.validity.specs.Activity.{Ranked, Masked}
use Rattle.reaction.specs.declared.Completion.TheVariants.{Waiting}
use Rattle.reaction.specs.declared.Reaction.{Reaction}
use Rattle.reaction.specs.Reactions.{reaction_of}
use Rattle.spec_base.specs.Bytes.{le_bytes}
use Rattle.numbers.proofs.Bytes.{le_round_trip}
use Rattle.spec_tick.specs.StateRecord.{labels_in, encode_state, Decoded, holds, Recorded}
use Rattle.records.proofs.StateLaws.{decode_encode}
use Rattle.spec_tick.specs.Tick.{reacts, byState, by_check, reply_of}
use Rattle.theory_tick.proofs.Bounds.{valid-below}
use Rattle.theory_tick.proofs.Sequence.{Accepted, accepted, recorded-fresh, recorded-resumed}
use Rattle.std.specs.Prelude.{Result, Ok, Err}
use Rattle.program.specs.declared.Start.{Start}
use Rattle.limits.specs.declared.rows.Refusal.{Refusal}
use Rattle.limits.specs.declared.rows.Refusal.TheVariants.{Over}
use Rattle.program.specs.declared.Start.TheVariants as starts
use Rattle.instants.specs.Replies.{Decodes}
use Rattle.replay_call.specs.Comparing.{RankedAfter, StandsAfter}

-- the labels that a state has in its record
labels_recorded : (p : Statement) (L : ℕ) → Recorded p (State.waits L) → labels_in (encode_state (State.waits L)) ≡ L
unfolding encode_state le_bytes
labels_recorded p L r = le_round_trip label_bytes L r.1

-- ---- a valid set has ranks
module _ (p : Statement) (r : Ranged p) where
  paused-below : pauses p < 2 ^ label_count
  paused-below = members_lt label_count (pauses p) (λ l m. ranged_at ((pauses-is p l).0 m).1 r)

  pub valid-ranked : (t notes bs : List ℕ) → Known t notes bs p → (L : ℕ) → Valid p L → Ranked notes L
  valid-ranked t notes bs k L v l m =
      let w : member l (pauses p) ≡ true = (pauses-is p l).1 (v.paused l m) in
      let f : pause_count p ≤ label_count = few_pauses label_count p ((distinct_is p).0 k.once) paused-below in
      (member_lt {w = label_count} l (valid-below p r L v) m, omega (arith, k.noted.ranked k.once l w, rank_lt 0 p l w, f))

-- ---- the state after an instant
abbrev pub state_of : Instant → State
state_of (Instants.instant r x n) = state_after r

module _ (sequence : List ℕ) (read_back : ℕ) (a : Accepted sequence read_back) where
  abbrev p : Statement
  p = a.statement

  by_state : (s : State) → Recorded p s → (e : ℕ) → reply_of sequence (encode_state s) e read_back ≡ byState inheritanceFirst (program read_back p) (holds s) e
  by_state s r e =
      ap (λ (c : Checked). by_check inheritanceFirst read_back c (encode_state s) e) a.is_checked
      ∙ ap (λ d. byState inheritanceFirst (program read_back p) d e) (decode_encode p s r)

  recorded-next : (s : State) → Recorded p s → (e : ℕ) (i : Instant) → reply_of sequence (encode_state s) e read_back ≡ reacts i → Recorded p (state_of i)
  recorded-next s r e i h = go s r (sym h ∙ by_state s r e)
    where
      go : (s : State) → Recorded p s → reacts i ≡ byState inheritanceFirst (program read_back p) (holds s) e → Recorded p (state_of i)
      go State.fresh r q =
          let j : i ≡ start (program read_back p) e = cc in
          subst (λ (x : Instant). Recorded p (state_of x)) (sym j) (recorded-fresh sequence read_back a e)
      go (State.waits L) r q =
          let j : i ≡ start (expand (program read_back p) L) e = cc in
          subst (λ (x : Instant). Recorded p (state_of x)) (sym j) (recorded-resumed sequence read_back a L e r.0)
      go State.over r q = absurd (let z : ◌≡◌ {A = ℕ} 0 1 = cc in omega arith)

-- the same of the statement that passed
pub recorded_then : (sequence : List ℕ) (read_back : ℕ) {second notes : List ℕ} (h : Passed sequence read_back second notes) (s : State) → Recorded h.p s
    → (e : ℕ) (i : Instant) → reply_of sequence (encode_state s) e read_back ≡ reacts i → Recorded h.p (state_of i)
unfolding check_of
recorded_then sequence read_back h s r e i q =
    let z : check_of sequence read_back ≡ 0 = rw h.is in
    let a = accepted sequence read_back z in
    let w : sound h.p ≡ sound a.statement = sym h.is ∙ a.is_checked in
    let same : h.p ≡ a.statement = cc in
    subst (λ (x : Statement). Recorded x (state_of i)) (sym same)
    (recorded-next sequence read_back a s (subst (λ (x : Statement). Recorded x s) same r) e i q)

-- ---- the code's value of an instant
module _ (p : Statement) (ranged : Ranged p) {t notes bs : List ℕ} (k : Known t notes bs p) where
  pub ranked-after : (j : Traced) (i : Reaction) → i ≡ reaction_of j → Recorded p (state_of (instant_of j))
      → RankedAfter notes i.completion (label_set i.labels)
  ranked-after j i q r = subst (λ (x : Reaction). RankedAfter notes x.completion (label_set x.labels)) (sym q) (go j r)
    where
      go : (j : Traced) → Recorded p (state_of (instant_of j)) → RankedAfter notes (reaction_of j).completion (label_set (reaction_of j).labels)
      go (traced (Instants.instant (gives o ended l u) x n) a y) r = tt
      go (traced (Instants.instant (gives o waiting l u) x n) a y) r =
          subst (Ranked notes) (sym (label_set_of l)) (valid-ranked p ranged t notes bs k l r.0)
      go (traced (Instants.instant (gives o (leaving m) l u) x n) a y) r = tt
      go (traced (Instants.instant (gives o wrong l u) x n) a y) r = tt

  pub decodes-after : (j : Traced) (i : Reaction) → i ≡ reaction_of j → Recorded p (state_of (instant_of j))
      → (s : Result Start Refusal) → StandsAfter notes i.completion (label_set i.labels) s → Decodes p (encode_state (state_of (instant_of j))) s
  decodes-after j i q r s h =
      go j r (subst (λ (x : Reaction). StandsAfter notes x.completion (label_set x.labels) s) q h)
    where
      over : (s : Result Start Refusal) → s ≡ Err Over → Decodes p (encode_state State.over) s
      over s e =
          subst (Decodes p (encode_state State.over)) (sym e)
          (λ q e. ap (λ (d : Decoded). byState inheritanceFirst q d e) (decode_encode p State.over tt))

      waits : (l : ℕ) → Recorded p (State.waits l) → (m : Labels) → Masked notes l (label_set m) → Decodes p (encode_state (State.waits l)) (Ok (starts.Waiting m))
      waits l r m w =
          let e = labels_recorded p l r in (
            decode_encode p (State.waits l) r ∙ ap (λ (x : ℕ). holds (State.waits x)) (sym e),
            ap (valid p) e ∙ (valid-is p l).1 r.0,
            w p k.noted k.once (λ x y. (pauses-is p x).1 (r.0.paused x y)) ∙ ap (mask 0 p) (sym e),
          )

      go : (j : Traced) → Recorded p (state_of (instant_of j)) → StandsAfter notes (reaction_of j).completion (label_set (reaction_of j).labels) s
          → Decodes p (encode_state (state_of (instant_of j))) s
      go (traced (Instants.instant (gives o ended l u) x n) a y) r h = over s h
      go (traced (Instants.instant (gives o waiting l u) x n) a y) r (m, e, w) =
          subst (Decodes p (encode_state (State.waits l))) (sym e) (waits l r m (subst (λ (y : ℕ). Masked notes y (label_set m)) (label_set_of l) w))
      go (traced (Instants.instant (gives o (leaving m) l u) x n) a y) r h = over s h
      go (traced (Instants.instant (gives o wrong l u) x n) a y) r h = over s h
