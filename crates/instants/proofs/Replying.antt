-- One law for each return of the core, over plain lists.
use Prim.Native.Nat.{ℕ}
use native.Mathlib.Omega.{arith}
use mathlib.Core.Path.{◌≡◌, sym, ap, ◌∙◌, subst}
use mathlib.Core.Logic.{◌≢◌}
use mathlib.Core.Option.{Option}
use mathlib.Core.List.{List}
use Rattle.spec_base.specs.Limits.{read_back_place, reactions_bytes}
use Rattle.spec_base.specs.Sets.{none}
use Rattle.spec_language.specs.Statement.{Statement}
use Rattle.spec_language.specs.Reaction.{Code, ended, waiting, leaving, wrong, gives, code, react, inheritanceFirst}
use Rattle.spec_language.specs.Errors.{Error, first_error}
use Rattle.theory_language.specs.Ranks.{mask}
use Rattle.spec_language.specs.Expansion.{expand}
use Rattle.spec_language.specs.Instants as Instants
use Rattle.theory_language.specs.Traced as Traces
use Rattle.theory_language.specs.Traced.{traced, instant_of, start_traced}
use Rattle.spec_language.specs.Instants.{start}
use Rattle.theory_language.specs.RankedExpansion.{expand_by}
use Rattle.spec_language.specs.Machines.{State}
use Rattle.theory_language.proofs.LabelTests.{valid-is}
use Rattle.theory_language.proofs.Figure5.{valid-active}
use Rattle.theory_language.proofs.Resume.{expand_by_lem}
use Rattle.spec_language.specs.States.{Valid}
use Rattle.theory_language.proofs.ReadBack.{expand-declared}
use Rattle.spec_sequence.specs.Program.{read_back_signals, program}
use Rattle.labels.specs.Labels.{label_set}
use Rattle.labels.proofs.LabelValues.{label_set_of}
use Rattle.checks.specs.Verdict.{Passed}
use Rattle.program.specs.declared.Start.{Start}
use Rattle.program.specs.declared.Start.TheVariants.{Fresh, Waiting}
use Rattle.program.specs.Program.{term_at}
use Rattle.spec_sequence.specs.Writer.{Ranged}
use Rattle.spec_sequence.specs.Check.{Checked, sound, bad, checked, number_of, check_of}
use Rattle.reaction.specs.Completions.{completion_of}
use Rattle.reaction.specs.Reactions.{reaction_of}
use Rattle.reaction.specs.declared.Reaction.{Reaction}
use Rattle.numbers.proofs.Bytes.{le_low}
use Rattle.spec_tick.specs.StateRecord.{labels_in, encode_state, Decoded, holds, malformed, decode_state}
use Rattle.spec_tick.specs.AnswerRecord.{encode_answer}
use Rattle.spec_tick.specs.Tick as tick
use Rattle.spec_tick.specs.Tick.{written, reacts, byState, by_check, reply_of, replied}
use Rattle.std.specs.Prelude.{Result, Ok, Err}
use Rattle.limits.specs.declared.rows.Refusal.{Refusal}
use Rattle.limits.specs.Rows.{row_number}
use Rattle.instants.specs.Written.{WritableCode, Writable, writtenFrom}
use Rattle.instants.specs.Replies.{StartsAt, Decodes, CallStands, StandsFor, replied_from, Replies}
use Rattle.theory_tick.proofs.Bounds.{Bounded, Exits, ranged_bounded, bounded_expand, bounded_declared, code_exits}
use Rattle.limits.proofs.Refusals.{row_not_0}

-- WRITTEN: the code's tree writes what the language's instant does; the signals asked for and the litres are not told
pub written_from : (j : Traces.Traced) → writtenFrom (reaction_of j) ≡ written (instant_of j)
unfolding encode_state encode_answer none
written_from (traced (Instants.instant (gives o ended l t) x n) a y) = rw (le_low reactions_bytes n)
written_from (traced (Instants.instant (gives o waiting l t) x n) a y) = rw (label_set_of, le_low reactions_bytes n)
written_from (traced (Instants.instant (gives o (leaving m) l t) x n) a y) = rw (le_low reactions_bytes n)
written_from (traced (Instants.instant (gives o wrong l t) x n) a y) = rw (le_low reactions_bytes n)

-- so what is written from a reply is what its value writes
pub replied_from_lem : (r : Result Reaction Refusal) (d : tick.Reply) → StandsFor r d → (state answer : List ℕ) → replied_from r state answer ≡ replied d state answer
replied_from_lem (Err n) d h state answer = ap (λ (x : tick.Reply). replied x state answer) (sym h)
replied_from_lem (Ok i) d (t, h, k) state answer =
    ap writtenFrom h ∙ written_from t ∙ ap (λ (x : tick.Reply). replied x state answer) (sym k)

-- ---- instants fit the answer record
writable_code : (k : Code) (x : Option Error) → Exits k → WritableCode (completion_of k x)
writable_code ended x f = tt
writable_code waiting x f = tt
writable_code (leaving n) x f = omega arith
writable_code wrong x f = tt

writable : (f : ℕ) (t : Statement) (e : ℕ) → Bounded t → (i : Reaction) → i ≡ reaction_of (start_traced f t e) → Writable i
writable f t e r i w = subst Writable (sym w) (writable_code (code (react t e)) (first_error t e) (code_exits inheritanceFirst t e r))

-- ---- before the reaction
module _ (sequence state : List ℕ) (read_back : ℕ) where
  pub unchecked : (r : Refusal) → row_number r ≡ check_of sequence read_back → (e : ℕ) → reply_of sequence state e read_back ≡ tick.refused (row_number r)
  unfolding check_of
  unchecked r h e = go (checked sequence read_back) h
    where
      go : (c : Checked) → row_number r ≡ number_of c → by_check inheritanceFirst read_back c state e ≡ tick.refused (row_number r)
      go (bad k) x = ap tick.refused (sym x)
      go (sound p) x = absurd (row_not_0 r x)

  pub decoded : {t notes : List ℕ} (h : Passed sequence read_back t notes) (r : Result Start Refusal) → Decodes h.p state r → CallStands sequence state read_back t notes r
  decoded h (Err n) d =
      λ e. ap (λ (c : Checked). by_check inheritanceFirst read_back c state e) h.is ∙ d (program read_back h.p) e
  decoded h (Ok origin) d = (h, d)

-- ---- the reply
module _ (sequence state : List ℕ) (e read_back : ℕ) where
  pub refused-reply : (n : Refusal) → reply_of sequence state e read_back ≡ tick.refused (row_number n) → Replies sequence state e read_back (Err n)
  refused-reply n h = record { writable = tt; is = h }

  module _ (p : Statement) (s : checked sequence read_back ≡ sound p) (ranged : Ranged p) where
    -- the term of the program
    abbrev q : Statement
    q = program read_back p

    bounded : Bounded q
    bounded = bounded_declared read_back_place (read_back_signals read_back) p (ranged_bounded p ranged)

    -- the record holds d
    by-record : (d : Decoded) → decode_state p state ≡ d → reply_of sequence state e read_back ≡ byState inheritanceFirst q d e
    by-record d w =
        ap (λ (c : Checked). by_check inheritanceFirst read_back c state e) s
        ∙ ap (λ (x : Decoded). byState inheritanceFirst q x e) w

    reacted : (f : ℕ) (t : Statement) (i : Reaction) → Bounded t → i ≡ reaction_of (start_traced f t e)
        → reply_of sequence state e read_back ≡ reacts (start t e) → Replies sequence state e read_back (Ok i)
    reacted f t i r h k = record { writable = writable f t e r i h; is = (start_traced f t e, h, k) }

    -- the expansion by ranks, under the declarations, is the expansion of the program
    pub expanded : (m L : ℕ) → Valid p L → m ≡ mask 0 p L → program read_back (expand_by 0 p m) ≡ expand q L
    expanded m L v h =
        ap (program read_back) (ap (expand_by 0 p) h ∙ expand_by_lem 0 p L (valid-active p L v))
        ∙ sym (expand-declared read_back_place (read_back_signals read_back) p L)

    pub started-reply : (f : ℕ) (i : Reaction) (origin : Start) → StartsAt p state origin
        → i ≡ reaction_of (start_traced f (program read_back (term_at origin p)) e) → Replies sequence state e read_back (Ok i)
    started-reply f i Fresh d h = reacted f q i bounded h (by-record (holds State.fresh) d)
    started-reply f i (Waiting m) d h =
        let L = labels_in state in
        reacted f (expand q L) i (bounded_expand q L bounded)
        (h ∙ ap (λ (t : Statement). reaction_of (start_traced f t e)) (expanded (label_set m) L ((valid-is p L).0 d.1) d.2))
        (by-record (holds (State.waits L)) d.0)

-- a record that is turned down has no number 0
pub turned_not_0 : (q : Statement) (d : Decoded) (e n : ℕ) → byState inheritanceFirst q d e ≡ tick.refused n → n ≢ 0
turned_not_0 q malformed e n k z = let m : 11 ≡ n = cc in omega arith
turned_not_0 q (holds State.fresh) e n k z = let m : ◌≡◌ {A = ℕ} 0 1 = cc in omega arith
turned_not_0 q (holds (State.waits L)) e n k z = let m : ◌≡◌ {A = ℕ} 0 1 = cc in omega arith
turned_not_0 q (holds State.over) e n k z = let m : 12 ≡ n = cc in omega arith
