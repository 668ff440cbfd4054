-- ITEM 11, of the calls: a bay's preview against that bay's ticks, in every box, whatever its bytes.
use Prim.Native.Nat.{ℕ}
use native.Mathlib.Decide.{ℕ_discrete}
use mathlib.Core.Path.{◌≡◌, sym, ap, ◌∙◌, subst}
use mathlib.Core.Logic.{◌≢◌, inl, inr}
use mathlib.Core.Bool.{not, cond}
use mathlib.Core.List.{List, [], ◌∷◌}
use lib.ListN.{length}
use lib.Dec.{eqb, ltb}
use Rattle.spec_base.specs.Limits.{bay_count}
use Rattle.spec_base.specs.Sets.{remove}
use Rattle.spec_tick.specs.AnswerRecord.{answer_length, code_in}
use Rattle.spec_tick.specs.Record.{recordLength}
use Rattle.spec_tick.specs.Tick.{Outcome, tick_of}
use Rattle.spec_tick.specs.Demands as demands
use Rattle.spec_tick.specs.Demands.{answer_afterwards}
use Rattle.theory_tick.proofs.Demand2 as demand
use Rattle.spec_bay.specs.Preview as fillings
use Rattle.spec_bay.specs.Preview.{filled, Previewed, preview_of}
use Rattle.spec_bay.specs.PreviewClaims.{PreviewIs, StaysShown, knowing}
use Rattle.theory_bay.proofs.Codes as codes
use Rattle.theory_bay.proofs.Theorems as previews
use Rattle.spec_bay.specs.Called.{Called, called, number, memory_after, lent_after, first}
use Rattle.spec_bay.specs.Stretch.{stretch_length, is_empty, sequence_in, read_back_in, state_in}
use Rattle.spec_bay.specs.BayCalls.{stretch_kept, bay_preview_of}
use Rattle.spec_box.specs.Box.{box_length, stretch_of, tick, preview, in_box, call_of}
use Rattle.spec_box.specs.Previews.{MachineStays, TenBytes, StatusOutweighed, LearningStays, Foreseen, PreviewForesees, PreviewsTicks, PreviewedTicks, NeverOpen, PreviewDemands}
use Rattle.theory_bay.proofs.Fields.{state_sized}
use Rattle.theory_box.proofs.Ticks.{tick-number, like-buffer}
use Rattle.theory_box.proofs.Previews.{preview-number}
use Rattle.theory_box.proofs.Stretches.{refused-leaves, answered-inside, stretch_sized, number-there}
use Rattle.theory_box.proofs.Named.{answered-there, bay-answered}
use Rattle.theory_box.proofs.Instants.{instant-of}
use Rattle.theory_box.proofs.Instants.{preview_shows, preview_numbers}

-- ---- a tick answered 0: the tick on its own, on what the bay holds
module _ (box : List ℕ) (bay e : ℕ) (answer trace : List ℕ) (n : number (call_of box bay (tick e answer trace)) ≡ 0) where
  abbrev own-tick : Outcome
  own-tick = tick_of (sequence_in (stretch_of bay box)) (state_in (stretch_of bay box)) e (read_back_in (stretch_of bay box)) answer

  own-zero : demands.number own-tick ≡ 0
  own-zero = ap demands.number (instant-of box bay e answer trace n).told

  own-answer : first (lent_after (call_of box bay (tick e answer trace))) ≡ answer_afterwards own-tick
  own-answer = let i = instant-of box bay e answer trace n in ap first i.lent ∙ sym (ap answer_afterwards i.told)

-- ---- a preview that was given
module _ (box : List ℕ) (bay e unknown : ℕ) (buffer : List ℕ) (n : number (call_of box bay (preview e unknown buffer)) ≡ 0) where
  abbrev s : List ℕ
  s = stretch_of bay box

  sized : length (stretch_of bay box) ≡ stretch_length
  sized = let i = answered-inside box bay (preview e unknown buffer) n in stretch_sized box bay (preview e unknown buffer) i.0 i.1

  own-given : fillings.number (preview_of (sequence_in (stretch_of bay box)) (state_in (stretch_of bay box)) e unknown (read_back_in (stretch_of bay box)) buffer) ≡ 0
  own-given = sym (preview-number s e unknown buffer) ∙ bay-answered box bay (preview e unknown buffer) n

  ticks-there : (input : ℕ) (answer trace : List ℕ) → length answer ≡ answer_length → length trace ≡ recordLength
      → number (call_of box bay (tick input answer trace)) ≢ 19 → number (call_of box bay (tick input answer trace)) ≡ 0
  ticks-there input answer trace a j d =
      let i = answered-inside box bay (preview e unknown buffer) n in
      let k = number-there box bay (tick input answer trace) i.0 i.1 (answered-there box bay (preview e unknown buffer) n).0 in
      k ∙ tick-number s sized input answer trace (λ y. d (k ∙ y))
      ∙ ap (λ (b : List ℕ). demands.number (tick_of (sequence_in s) (state_in s) input (read_back_in s) b)) (like-buffer s sized input answer trace j answer)
      ∙ previews.an_instant (sequence_in s) (state_in s) (read_back_in s) answer (state_sized s sized) a e unknown buffer own-given input

pub foresees : PreviewForesees call_of
foresees box bay e unknown buffer n input answer trace m h =
    let s = stretch_of bay box in
    let z = own-zero box bay input answer trace m in
    let st = state_sized s (sized box bay e unknown buffer n) in
    let a = demand.answer_sized (sequence_in s) (state_in s) input (read_back_in s) answer z in
    let g = own-given box bay e unknown buffer n in
    let w = ap (λ (o : Called). first (lent_after o)) (preview_shows box bay e unknown buffer n) in
    let x = own-answer box bay input answer trace m in
    subst (λ (shown : List ℕ). Foreseen shown (first (lent_after (call_of box bay (tick input answer trace))))) (sym w)
    (subst (Foreseen (fillings.buffer_after (preview_of (sequence_in s) (state_in s) e unknown (read_back_in s) buffer))) (sym x)
    (record {
      emits_every = previews.emits_every (sequence_in s) (state_in s) (read_back_in s) answer st a e unknown buffer g input h;
      emits_never = previews.emits_never (sequence_in s) (state_in s) (read_back_in s) answer st a e unknown buffer g input h;
      shared_code = previews.has_code (sequence_in s) (state_in s) (read_back_in s) answer st a e unknown buffer g input h;
      not_wrong = previews.is_right (sequence_in s) (state_in s) (read_back_in s) answer st a e unknown buffer g input h;
    }))

-- ---- 'The machine stays'
pub machine_stays : MachineStays call_of
machine_stays box bay e unknown buffer =
    elim (ℕ_discrete (number (call_of box bay (preview e unknown buffer))) 0) [
      | yes n ↦ ap memory_after (preview_shows box bay e unknown buffer n)
      | no n ↦ ap memory_after (refused-leaves box bay (preview e unknown buffer) n)
    ]

-- ---- the ten bytes
pub ten_bytes : TenBytes call_of
ten_bytes box bay e unknown buffer n answer a =
    let s = stretch_of bay box in
    let w = ap (λ (o : Called). first (lent_after o)) (preview_shows box bay e unknown buffer n) in
    subst (PreviewIs (λ input. answer_afterwards (tick_of (sequence_in s) (state_in s) input (read_back_in s) answer)) e unknown) (sym w)
    (previews.previews_are (sequence_in s) (state_in s) (read_back_in s) answer (state_sized s (sized box bay e unknown buffer n)) a e unknown buffer
    (own-given box bay e unknown buffer n))

-- and by the bay's own ticks
pub previews_ticks : PreviewsTicks call_of
previews_ticks box bay e unknown buffer n answer trace a all =
    let s = stretch_of bay box in
    previews.shown-alike (λ input. answer_afterwards (tick_of (sequence_in s) (state_in s) input (read_back_in s) answer))
    (λ input. first (lent_after (call_of box bay (tick input answer trace)))) e unknown
    (λ f m. sym (own-answer box bay (filled e unknown f) answer trace (all f m)))
    (ten_bytes box bay e unknown buffer n answer a)

-- ---- 'which outweighs the status given for them'
pub status_outweighed : StatusOutweighed call_of
unfolding call_of bay_preview_of
status_outweighed box bay e e' unknown buffer h =
    let s = stretch_of bay box in
    let k = previews.given_outweighed (sequence_in s) (state_in s) (read_back_in s) e e' unknown buffer h in
    ap (λ (p : Previewed).
    cond (ltb bay bay_count)
    (cond (eqb (length box) box_length) (cond (not (is_empty s)) (in_box bay box (stretch_kept s p)) (called 13 box (buffer ∷ []))) (called 1 box (buffer ∷ [])))
    (called 13 box (buffer ∷ [])))
    k

-- ---- learning one more status
pub learning_stays : LearningStays call_of
learning_stays box bay e unknown u present buffer buffer' m n z =
    let s = stretch_of bay box in
    let e' = knowing u present e in
    let left = remove u unknown in
    let l = previews.learning_keeps (sequence_in s) (state_in s) (read_back_in s) e unknown u present buffer buffer' m (own-given box bay e unknown buffer n) z in
    let i = answered-inside box bay (preview e unknown buffer) n in
    let n' : number (call_of box bay (preview e' left buffer')) ≡ 0 =
    number-there box bay (preview e' left buffer') i.0 i.1 (answered-there box bay (preview e unknown buffer) n).0
    ∙ preview-number s e' left buffer' ∙ l.0 in
    let w = ap (λ (o : Called). first (lent_after o)) (preview_shows box bay e unknown buffer n) in
    let w' = ap (λ (o : Called). first (lent_after o)) (preview_shows box bay e' left buffer' n') in (
      n',
      subst (λ (x : List ℕ). StaysShown x (first (lent_after (call_of box bay (preview e' left buffer'))))) (sym w)
          (subst (StaysShown (fillings.buffer_after (preview_of (sequence_in s) (state_in s) e unknown (read_back_in s) buffer))) (sym w') l.1),
    )

pub previewed_ticks : PreviewedTicks call_of
previewed_ticks box bay e unknown buffer n input answer trace a j =
    elim (ℕ_discrete (number (call_of box bay (tick input answer trace))) 19) [
      | yes q ↦ inr q
      | no q ↦ inl (ticks-there box bay e unknown buffer n input answer trace a j q)
    ]

pub never_open : NeverOpen call_of
never_open box bay input answer trace m h =
    let s = stretch_of bay box in
    codes.never_open (sequence_in s) (state_in s) input (read_back_in s) answer (own-zero box bay input answer trace m)
    (sym (ap code_in (own-answer box bay input answer trace m)) ∙ h)

-- ITEM 11, of the calls
pub preview_demands : PreviewDemands call_of
preview_demands =
    record {
      preview_shows = preview_shows;
      machine_stays = machine_stays;
      ten_bytes = ten_bytes;
      status_outweighed = status_outweighed;
      learning_stays = learning_stays;
      preview_numbers = preview_numbers;
      foresees = foresees;
      previews_ticks = previews_ticks;
      previewed_ticks = previewed_ticks;
      never_open = never_open;
    }
