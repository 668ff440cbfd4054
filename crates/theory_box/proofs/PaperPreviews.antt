-- A preview of a bay that is present: the same on paper, filling by filling.
use Prim.Native.Nat.{ℕ}
use native.Mathlib.Decide.{ℕ_discrete}
use mathlib.Core.Path.{◌≡◌, refl, sym, ap, ap₂, ◌∙◌, subst, fun_ext}
use mathlib.Core.Option.{Option, some}
use mathlib.Core.List.{List, [], ◌∷◌}
use lib.ListN.{length}
use lib.Dec.{eqb}
use borrow.Author.Tests.{eq-eqb, ne_eqb}
use Rattle.spec_base.specs.Sets.{difference}
use Rattle.spec_language.specs.Statement.{Statement}
use Rattle.spec_language.specs.Reaction.{Reaction, gives, react, inheritanceFirst}
use Rattle.spec_language.specs.Expansion.{expand}
use Rattle.spec_language.specs.Instants.{Instant, start}
use Rattle.spec_language.specs.Machines.{Seen, seen, State, by_labels}
use Rattle.spec_language.specs.Errors.{Error, first_error}
use Rattle.spec_language.specs.Reactions.{reactions}
use Rattle.spec_sequence.specs.Program.{program}
use Rattle.spec_sequence.specs.Check.{Checked}
use Rattle.spec_tick.specs.StateRecord.{Decoded, holds, encode_state}
use Rattle.records.proofs.StateLaws.{decode_encode}
use Rattle.spec_tick.specs.Tick.{Reply, reacts, byState, by_check, reply_of}
use Rattle.spec_bay.specs.Preview.{Previewed, previewed, preview_of, shown_by, preview_length, answer_in, answers_of}
use Rattle.theory_bay.proofs.Numbers.{other-buffer, refused-preview, shown-preview}
use Rattle.spec_bay.specs.Called.{Called}
use Rattle.spec_bay.specs.Stretch.{state_in}
use Rattle.spec_bay.specs.BayCalls.{stretch_kept, bay_preview_of}
use Rattle.spec_box.specs.Box.{preview}
use Rattle.theory_box.proofs.Standing.{sequence-held}
use Rattle.spec_box.specs.PaperBox.{answer_seen, PaperBay, PaperPlace, previewed_on, preview_on, sized}
use Rattle.theory_box.proofs.PaperMachines.{Follows, answer-is}
use Rattle.theory_box.proofs.PaperAlike.{Present, standing, bay_of, SameTotals, present, Same}

module _ {S T R : Type 0} (m : Follows S T R) (s : List ℕ) (z : PaperPlace S T) (h : Present m s) (bay : z.bay ≡ some (bay_of m h))
    (t : SameTotals s z.totals) (e u : ℕ) (buffer : List ℕ) where
  abbrev q : Statement
  q = program h.terms.read_back h.accepted.statement

  abbrev sequence : List ℕ
  sequence = h.terms.sequence

  abbrev set : ℕ
  set = h.terms.read_back

  abbrev b : PaperBay S T
  b = bay_of m h

  -- ---- the reply, by the state
  reply-at : (i : ℕ) → reply_of h.terms.sequence (encode_state h.state) i h.terms.read_back
      ≡ byState inheritanceFirst (program h.terms.read_back h.accepted.statement) (holds h.state) i
  reply-at i =
      ap (λ (c : Checked). by_check inheritanceFirst set c (encode_state h.state) i) h.accepted.is_checked
      ∙ ap (λ (d : Decoded). byState inheritanceFirst q d i) (decode_encode h.accepted.statement h.state h.recorded)

  answers-are : answers_of h.terms.sequence (encode_state h.state) h.terms.read_back
      ≡ (λ i. answer_seen (m.kind.react (program h.terms.read_back h.accepted.statement) h.machine i).0)
  answers-are =
      fun_ext (λ i. ap answer_in (reply-at i)
      ∙ answer-is m sequence set h.accepted h.fine h.state h.machine h.at h.recorded i)

  -- ---- what the preview comes to
  held-is : bay_preview_of s e u buffer ≡ stretch_kept s (preview_of h.terms.sequence (encode_state h.state) e u h.terms.read_back buffer)
  unfolding bay_preview_of
  held-is =
      ap₂ (λ (x : List ℕ) (r : ℕ). stretch_kept s (preview_of x (state_in s) e u r buffer)) (sequence-held h.terms s (standing m h)) h.holds.set
      ∙ ap (λ (st : List ℕ). stretch_kept s (preview_of sequence st e u set buffer)) h.bytes

  previewed-same : (x : Previewed) → preview_of h.terms.sequence (encode_state h.state) e u h.terms.read_back buffer ≡ x
      → Same m (preview e u buffer) (bay_preview_of s e u buffer) (previewed_on m.kind z x)
  previewed-same (previewed n bytes) w =
      subst (λ (o : Called). Same m (preview e u buffer) o (previewed_on m.kind z (previewed n bytes))) (sym (held-is ∙ ap (stretch_kept s) w))
      (record { report = refl; alike = present h bay t })

  -- what the machine sees of the given input says whether it is over
  follows : (i : ℕ) → (by_labels (program h.terms.read_back h.accepted.statement) h.state i).0
      ≡ (m.kind.react (program h.terms.read_back h.accepted.statement) h.machine i).0
  follows i = (m.steps sequence set h.accepted h.fine h.state h.machine h.at i).0

  module _ (right : length buffer ≡ preview_length) where
    running : (x : Instant) → byState inheritanceFirst (program h.terms.read_back h.accepted.statement) (holds h.state) (difference e u) ≡ reacts x
        → (r : Reaction) (y : Option Error) (n : ℕ)
        → Same m (preview e u buffer) (bay_preview_of s e u buffer) (preview_on m.kind z (bay_of m h) e u buffer (seen r y n))
    running x i (gives o k l t) y n =
        previewed-same (shown_by (λ i. answer_seen (m.kind.react (program h.terms.read_back h.accepted.statement) h.machine i).0) e u buffer)
        (shown-preview sequence (encode_state h.state) set e u buffer right x (reply-at (difference e u) ∙ i)
        ∙ ap (λ (answers : ℕ → List ℕ). shown_by answers e u buffer) answers-are)

    by_state : (st : State) → h.state ≡ st → Same m (preview e u buffer) (bay_preview_of s e u buffer)
        (preview_on m.kind z (bay_of m h) e u buffer (by_labels (program h.terms.read_back h.accepted.statement) st e).0)
    by_state State.fresh i =
        running (start q (difference e u)) (ap (λ (st : State). byState inheritanceFirst q (holds st) (difference e u)) i) (react q e) (first_error q e) (reactions q e)
    by_state (State.waits L) i =
        running (start (expand q L) (difference e u)) (ap (λ (st : State). byState inheritanceFirst q (holds st) (difference e u)) i)
        (react (expand q L) e) (first_error (expand q L) e) (reactions (expand q L) e)
    by_state State.over i =
        previewed-same (previewed 12 buffer)
        (refused-preview sequence (encode_state h.state) set e u buffer right 12
        (reply-at (difference e u) ∙ ap (λ (st : State). byState inheritanceFirst q (holds st) (difference e u)) i))

    sized_same : Same m (preview e u buffer) (bay_preview_of s e u buffer)
        (preview_on m.kind z (bay_of m h) e u buffer (m.kind.react (program h.terms.read_back h.accepted.statement) h.machine e).0)
    sized_same =
        subst (λ (x : Seen). Same m (preview e u buffer) (bay_preview_of s e u buffer) (preview_on m.kind z b e u buffer x)) (follows e) (by_state h.state refl)

  pub preview-same : Same m (preview e u buffer) (bay_preview_of s e u buffer)
      (sized m.kind (eqb (length buffer) preview_length) (buffer ∷ []) z
      (preview_on m.kind z (bay_of m h) e u buffer (m.kind.react (program h.terms.read_back h.accepted.statement) h.machine e).0))
  preview-same =
      elim (ℕ_discrete (length buffer) preview_length) [
        | yes i ↦ rw (eq-eqb (length buffer) preview_length i) (sized_same i)
        | no i ↦ rw (ne_eqb (length buffer) preview_length i)
            (previewed-same (previewed 1 buffer) (other-buffer sequence (encode_state h.state) set e u buffer i))
      ]
