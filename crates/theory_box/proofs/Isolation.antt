-- The bytes of a buffer that a call only writes change neither its number nor the slot, nor what an answer with number 0 shows: so what
-- a bay answers, and its slot, go by what it was asked, with the lengths of such buffers, and by the numbers of its admissions; a call of
-- it by the slot and, for an admission, the sum.
use Prim.Native.Nat.{ℕ, zero, suc, ◌<◌}
use native.Mathlib.Omega.{arith}
use native.Mathlib.Decide.{ℕ_discrete}
use mathlib.Core.Path.{◌≡◌, refl, sym, ap, ap₂, ◌∙◌, subst}
use mathlib.Core.Bool.{Bool, true, false, ◌&&◌, cond}
use mathlib.Core.List.{List, [], ◌∷◌}
use lib.ListN.{length}
use lib.Dec.{eqb, leb}
use borrow.Author.Tests.{eq-eqb, ne_eqb}
use Rattle.spec_base.specs.Limits.{signal_count, number_bytes, bay_count, max_unknown}
use Rattle.spec_base.specs.Bytes.{le_bytes}
use Rattle.spec_base.specs.Sets.{difference, members_from}
use Rattle.spec_tick.specs.StateRecord.{state_length}
use Rattle.spec_tick.specs.AnswerRecord.{answer_length}
use Rattle.spec_tick.specs.Record.{recordLength, record_of, panel_length, panel_of}
use Rattle.spec_tick.specs.Recording.{following}
use Rattle.spec_base.specs.Parts.{put, zeros}
use Rattle.numbers.proofs.Zeros.{length-zeros}
use Rattle.spec_tick.specs.Tick.{Outcome, outcome, Reply, refused, reacts, reply_of, replied, tick_by, tick_of}
use Rattle.spec_tick.specs.Demands as demands
use Rattle.spec_tick.specs.Demands.{state_afterwards}
use Rattle.spec_bay.specs.Preview as fillings
use Rattle.spec_bay.specs.Preview.{Previewed, previewed, by_reply, answers_of, preview_length, preview_bytes, findings, preview_of}
use Rattle.theory_bay.proofs.Numbers as numbers
use Rattle.spec_bay.specs.Ledgers.{reading_length, passes, added, reading_of}
use Rattle.spec_bay.specs.Called.{Called, called, number, memory_after, lent_after}
use Rattle.spec_bay.specs.Stretch.{state_at, count_at, sequence_in, read_back_in, service_only_in, state_in, last_number_in, ledger_in, with_ledger}
use Rattle.spec_bay.specs.BayCalls.{delivering, by_outcome, bay_tick_of, bay_service_of, bay_panel_of, stretch_kept, bay_preview_of, bay_ledger_of}
use Rattle.spec_box.specs.Box.{box_length, stretch_of, present, Call, admit, release, tick, save, restore, forget, service, panel, preview, ledger, new_year, is_for, call_of}
use Rattle.spec_box.specs.Lists.{Request, after_call, box_after, blanked, Asked, admission, other, asked_by, asked, Answer, answered, answer_of, answers, calls_to}
use Rattle.spec_box.specs.Claims.{SumAlike}
use Rattle.theory_box.proofs.Bays.{on_stretch, admitted_as, admission_by_number}
use Rattle.theory_box.proofs.BayRuns.{blank_alike}
use Rattle.theory_box.proofs.Stretches.{result, own, own_stretch, same_length, others_stay}

-- the same number and memory and, with number 0, the same buffers
pub record Alike (o o' : Called) : Type 0 where
  pub numbers : number o ≡ number o'
  pub memories : memory_after o ≡ memory_after o'
  pub lent : number o ≡ 0 → lent_after o ≡ lent_after o'

same : {o : Called} → Alike o o
same = record { numbers = refl; memories = refl; lent = λ n. refl }

-- turned down
turned : (n : ℕ) (s : List ℕ) (b b' : List (List ℕ)) → Alike (called (suc n) s b) (called (suc n) s b')
turned n s b b' = record { numbers = refl; memories = refl; lent = λ z. absurd (omega arith) }

-- ---- the tick on its own, by the length of the answer buffer
record TicksAlike (o o' : Outcome) : Type 0 where
  pub number_alike : demands.number o ≡ demands.number o'
  pub state_alike : state_afterwards o ≡ state_afterwards o'

module _ (sequence state : List ℕ) (e read_back : ℕ) (b b' : List ℕ) (l : length b ≡ length b') where
  ticks-alike : TicksAlike (tick_of sequence state e read_back b) (tick_of sequence state e read_back b')
  unfolding tick_by
  ticks-alike = rw l (go (eqb (length state) state_length && eqb (length b') answer_length) (reply_of sequence state e read_back))
    where
      go : (c : Bool) (r : Reply) → TicksAlike (cond c (replied r state b) (outcome 1 state b)) (cond c (replied r state b') (outcome 1 state b'))
      go true (refused n) = record { number_alike = refl; state_alike = refl }
      go true (reacts i) = record { number_alike = refl; state_alike = refl }
      go false r = record { number_alike = refl; state_alike = refl }

  instants-alike : demands.number (tick_of sequence state e read_back b) ≡ 0 → tick_of sequence state e read_back b ≡ tick_of sequence state e read_back b'
  instants-alike n =
      sym (blank_alike sequence state e read_back b n) ∙ blank_alike sequence state e read_back b' (sym ticks-alike.number_alike ∙ n)

-- ---- a tick of a bay
module _ (s : List ℕ) (e : ℕ) (answer answer' trace trace' : List ℕ) where
  abbrev x : ℕ → ℕ
  x = delivering s e

  by-outcome : (o o' : Outcome) → TicksAlike o o' → (demands.number o ≡ 0 → o ≡ o')
      → Alike (by_outcome s e answer trace (delivering s e) o) (by_outcome s e answer' trace' (delivering s e) o')
  by-outcome (outcome zero state left) o' t h =
      subst (λ (o : Outcome). Alike (by_outcome s e answer trace x (outcome zero state left)) (by_outcome s e answer' trace' x o)) (h refl)
      (go (passes (ledger_in s) x))
    where
      after : List ℕ
      after =
          put count_at number_bytes (le_bytes number_bytes (following (last_number_in s)))
          (with_ledger (added (delivering s e) (ledger_in s)) (put state_at state_length state s))

      lent : List (List ℕ)
      lent = left ∷ record_of (following (last_number_in s)) e left state ∷ []

      go : (c : Bool) → Alike (cond c (called 19 s (answer ∷ trace ∷ [])) (called 0 after lent)) (cond c (called 19 s (answer' ∷ trace' ∷ [])) (called 0 after lent))
      go true = turned 18 s (answer ∷ trace ∷ []) (answer' ∷ trace' ∷ [])
      go false = same
  by-outcome (outcome (suc n) state left) (outcome zero state' left') t h = absurd (omega (arith, t.number_alike))
  by-outcome (outcome (suc n) state left) (outcome (suc m) state' left') t h =
      record { numbers = t.number_alike; memories = refl; lent = λ z. absurd (omega arith) }

  tick-alike : length answer ≡ length answer' → length trace ≡ length trace' → Alike (bay_tick_of s e answer trace) (bay_tick_of s e answer' trace')
  unfolding bay_tick_of
  tick-alike l j = rw j (go (eqb (length trace') recordLength))
    where
      own : List ℕ → Outcome
      own b = tick_of (sequence_in s) (state_in s) e (read_back_in s) b

      go : (c : Bool)
          → Alike (cond c (by_outcome s e answer trace (delivering s e) (own answer)) (called 1 s (answer ∷ trace ∷ [])))
          (cond c (by_outcome s e answer' trace' (delivering s e) (own answer')) (called 1 s (answer' ∷ trace' ∷ [])))
      go true =
          by-outcome (own answer) (own answer') (ticks-alike (sequence_in s) (state_in s) e (read_back_in s) answer answer' l)
          (instants-alike (sequence_in s) (state_in s) e (read_back_in s) answer answer' l)
      go false = turned 0 s (answer ∷ trace ∷ []) (answer' ∷ trace' ∷ [])

-- ---- the readers, by the length of the view
module _ (s : List ℕ) (b b' : List ℕ) (l : length b ≡ length b') where
  shown-alike : (shown : List ℕ) (c : Bool) → Alike (cond c (called 0 s (shown ∷ [])) (called 1 s (b ∷ []))) (cond c (called 0 s (shown ∷ [])) (called 1 s (b' ∷ [])))
  shown-alike shown true = same
  shown-alike shown false = turned 0 s (b ∷ []) (b' ∷ [])

  service-alike : (trace : List ℕ) → Alike (bay_service_of s trace b) (bay_service_of s trace b')
  unfolding bay_service_of
  service-alike trace = rw l (shown-alike trace (eqb (length trace) recordLength && eqb (length b') recordLength))

  panel_alike : (trace : List ℕ) → Alike (bay_panel_of s trace b) (bay_panel_of s trace b')
  unfolding bay_panel_of
  panel_alike trace = rw l (shown-alike (panel_of (service_only_in s) trace) (eqb (length trace) recordLength && eqb (length b') panel_length))

  ledger-alike : Alike (bay_ledger_of s b) (bay_ledger_of s b')
  unfolding bay_ledger_of
  ledger-alike = rw l (shown-alike (reading_of (ledger_in s)) (eqb (length b') reading_length))

  -- a preview
  module _ (e u : ℕ) where
    abbrev o : List ℕ → Previewed
    o b = preview_of (sequence_in s) (state_in s) e u (read_back_in s) b

    number_alike : fillings.number (o b) ≡ fillings.number (o b')
    unfolding preview_of
    number_alike = rw l (go (eqb (length b') preview_length) (reply_of (sequence_in s) (state_in s) (difference e u) (read_back_in s)) (leb (length (members_from signal_count 0 u)) max_unknown))
      where
        shown : List ℕ
        shown = preview_bytes (findings (answers_of (sequence_in s) (state_in s) (read_back_in s)) e u)

        go : (c : Bool) (r : Reply) (d : Bool)
            → fillings.number (cond c (by_reply r (cond d (previewed 0 shown) (previewed 17 b)) b) (previewed 1 b))
            ≡ fillings.number (cond c (by_reply r (cond d (previewed 0 shown) (previewed 17 b')) b') (previewed 1 b'))
        go true (refused n) d = refl
        go true (reacts i) true = refl
        go true (reacts i) false = refl
        go false r d = refl

    preview-alike : Alike (bay_preview_of s e u b) (bay_preview_of s e u b')
    unfolding bay_preview_of
    preview-alike = go (o b) (o b') number_alike (λ n n'.
        (numbers.given (sequence_in s) (state_in s) (read_back_in s) e u b n).bytes
        ∙ sym (numbers.given (sequence_in s) (state_in s) (read_back_in s) e u b' n').bytes)
      where
        go : (p p' : Previewed) → fillings.number p ≡ fillings.number p'
            → (fillings.number p ≡ 0 → fillings.number p' ≡ 0 → fillings.buffer_after p ≡ fillings.buffer_after p') → Alike (stretch_kept s p) (stretch_kept s p')
        go (previewed n x) (previewed m y) q h =
            record { numbers = q; memories = refl; lent = λ z. ap (λ (w : List ℕ). w ∷ []) (h z (sym q ∙ z)) }

-- ---- every call
zeroed : (b : List ℕ) → length b ≡ length (zeros (length b))
zeroed b = sym (length-zeros (length b))

-- by whether the bay is there for it
there_alike : (c : Bool) (s : List ℕ) (b b' : List (List ℕ)) {o o' : Called} → Alike o o' → Alike (cond c o (called 13 s b)) (cond c o' (called 13 s b'))
there_alike true s b b' a = a
there_alike false s b b' a = turned 12 s b b'

call_alike : (k : ℕ) (s : List ℕ) (c : Call) → Alike (on_stretch k c s) (on_stretch k (blanked c) s)
call_alike k s (admit t) = same
call_alike k s release = same
call_alike k s (tick e answer trace) =
    there_alike (is_for release s) s (answer ∷ trace ∷ []) (zeros (length answer) ∷ zeros (length trace) ∷ [])
    (tick-alike s e answer (zeros (length answer)) trace (zeros (length trace)) (zeroed answer) (zeroed trace))
call_alike k s (save name) = same
call_alike k s (restore name) = same
call_alike k s (forget name) = same
call_alike k s (service trace view) =
    there_alike (is_for release s) s (view ∷ []) (zeros (length view) ∷ []) (service-alike s view (zeros (length view)) (zeroed view) trace)
call_alike k s (panel trace view) =
    there_alike (is_for release s) s (view ∷ []) (zeros (length view) ∷ []) (panel_alike s view (zeros (length view)) (zeroed view) trace)
call_alike k s (preview e u buffer) =
    there_alike (is_for release s) s (buffer ∷ []) (zeros (length buffer) ∷ []) (preview-alike s buffer (zeros (length buffer)) (zeroed buffer) e u)
call_alike k s (ledger totals) = ledger-alike s totals (zeros (length totals)) (zeroed totals)
call_alike k s new_year = same

answer_alike : (o o' : Called) → Alike o o' → answer_of o ≡ answer_of o'
answer_alike (called zero s b) (called m s' b') a =
    ap (answered 0) (a.lent refl) ∙ ap (λ (n : ℕ). answered n (cond (eqb n 0) b' [])) a.numbers
answer_alike (called (suc n) s b) (called m s' b') a =
    let e : eqb (suc n) 0 ≡ false = ne_eqb (suc n) 0 (λ z. omega arith) in
    ap (λ (c : Bool). answered (suc n) (cond c b [])) e
    ∙ sym (ap (λ (c : Bool). answered (suc n) (cond c b' [])) e)
    ∙ ap (λ (n : ℕ). answered n (cond (eqb n 0) b' [])) a.numbers

-- ---- the bay alone, asked with blank buffers
abbrev alone : (s : List ℕ) → Asked → Called
alone s (admission t n) = admitted_as s t n
alone s (other c) = on_stretch 0 c s

unfoldable answers_alone : (s : List ℕ) → List Asked → List Answer
answers_alone s [] = []
answers_alone s (a ∷ xs) = answer_of (alone s a) ∷ answers_alone (memory_after (alone s a)) xs

unfoldable stretch_alone : (s : List ℕ) → List Asked → List ℕ
stretch_alone s [] = s
stretch_alone s (a ∷ xs) = stretch_alone (memory_after (alone s a)) xs

by_itself : (k : ℕ) (s : List ℕ) (c : Call) (o : Called) → number o ≡ number (on_stretch k (blanked c) s) → on_stretch k (blanked c) s ≡ alone s (asked_by c o)
by_itself k s (admit t) o h = admission_by_number k s t ∙ ap (admitted_as s t) (sym h)
by_itself k s release o h = refl
by_itself k s (tick e answer trace) o h = refl
by_itself k s (save name) o h = refl
by_itself k s (restore name) o h = refl
by_itself k s (forget name) o h = refl
by_itself k s (service trace view) o h = refl
by_itself k s (panel trace view) o h = refl
by_itself k s (preview e u buffer) o h = refl
by_itself k s (ledger totals) o h = refl
by_itself k s new_year o h = refl

module _ (bay : ℕ) (b : bay < bay_count) where
  record View (box : List ℕ) (xs : List Request) : Type 0 where
    pub answered : answers call_of bay box xs ≡ answers_alone (stretch_of bay box) (asked call_of bay box xs)
    pub left : stretch_of bay (box_after call_of box xs) ≡ stretch_alone (stretch_of bay box) (asked call_of bay box xs)

  turn : (box : List ℕ) → length box ≡ box_length → (c : Call) → Alike (result box bay c) (alone (stretch_of bay box) (asked_by c (call_of box bay c)))
  turn box z c =
      let k = present bay_count box in
      let s = stretch_of bay box in
      let a = call_alike k s c in
      subst (Alike (result box bay c)) (by_itself k s c (call_of box bay c) (ap number (own box bay c b z) ∙ a.numbers)) a

  -- a call to the bay
  own_view : (box : List ℕ) → length box ≡ box_length → (x : Request) (xs : List Request) → x.bay ≡ bay
      → View (after_call call_of box x) xs → View box (x ∷ xs)
  unfolding calls_to box_after answers_alone stretch_alone
  own_view box z x xs q r =
      let c : Call = x.call in
      let e : eqb x.bay bay ≡ true = eq-eqb x.bay bay q in
      let after : List ℕ = after_call call_of box x in
      let m : stretch_of bay after ≡ memory_after (alone (stretch_of bay box) (asked_by c (call_of box bay c))) =
      ap (λ (n : ℕ). stretch_of bay (memory_after (call_of box n c))) q ∙ own_stretch box bay c b z ∙ (turn box z c).memories in
      record {
        answered = rw e (ap₂ (λ (y : Answer) (ys : List Answer). y ∷ ys) (ap answer_of (own box bay c b z)
            ∙ answer_alike (result box bay c) (alone (stretch_of bay box) (asked_by c (call_of box bay c))) (turn box z c))
            (r.answered ∙ ap (λ (s : List ℕ). answers_alone s (asked call_of bay after xs)) m));
        left = rw e (r.left ∙ ap (λ (s : List ℕ). stretch_alone s (asked call_of bay after xs)) m);
      }

  -- a call to another
  other-view : (box : List ℕ) (x : Request) (xs : List Request) → (x.bay ≡ bay → ⊥) → View (after_call call_of box x) xs → View box (x ∷ xs)
  unfolding calls_to box_after
  other-view box x xs q r =
      let e : eqb x.bay bay ≡ false = ne_eqb x.bay bay q in
      let after : List ℕ = after_call call_of box x in
      let m : stretch_of bay after ≡ stretch_of bay box = others_stay box x.bay x.call bay (λ y. q (sym y)) b in
      record {
        answered = rw e (r.answered ∙ ap (λ (s : List ℕ). answers_alone s (asked call_of bay after xs)) m);
        left = rw e (r.left ∙ ap (λ (s : List ℕ). stretch_alone s (asked call_of bay after xs)) m);
      }

  view : (box : List ℕ) → length box ≡ box_length → (xs : List Request) → View box xs
  unfolding calls_to box_after answers_alone stretch_alone
  view box z [] = record { answered = refl; left = refl }
  view box z (x ∷ xs) =
      let r = view (after_call call_of box x) (same_length box x.bay x.call ∙ z) xs in
      elim (ℕ_discrete x.bay bay) [ yes q ↦ own_view box z x xs q r | no q ↦ other-view box x xs q r ]

  module _ (box box' : List ℕ) (z : length box ≡ box_length) (z' : length box' ≡ box_length)
      (e : stretch_of bay box ≡ stretch_of bay box') where
    pub alike : (xs ys : List Request) → asked call_of bay box xs ≡ asked call_of bay box' ys
        → (answers call_of bay box xs ≡ answers call_of bay box' ys)
        × (stretch_of bay (box_after call_of box xs) ≡ stretch_of bay (box_after call_of box' ys))
    alike xs ys h =
        let v = view box z xs in
        let w = view box' z' ys in (
          v.answered ∙ ap₂ answers_alone e h ∙ sym w.answered,
          v.left ∙ ap₂ stretch_alone e h ∙ sym w.left,
        )

    same-result : (c : Call) → SumAlike c box box' → result box bay c ≡ result box' bay c
    same-result (admit t) h = ap₂ (λ (k : ℕ) (s : List ℕ). on_stretch k (admit t) s) (h t refl) e
    same-result release h = ap (on_stretch 0 release) e
    same-result (tick i answer trace) h = ap (on_stretch 0 (tick i answer trace)) e
    same-result (save name) h = ap (on_stretch 0 (save name)) e
    same-result (restore name) h = ap (on_stretch 0 (restore name)) e
    same-result (forget name) h = ap (on_stretch 0 (forget name)) e
    same-result (service trace view) h = ap (on_stretch 0 (service trace view)) e
    same-result (panel trace view) h = ap (on_stretch 0 (panel trace view)) e
    same-result (preview i u buffer) h = ap (on_stretch 0 (preview i u buffer)) e
    same-result (ledger totals) h = ap (on_stretch 0 (ledger totals)) e
    same-result new_year h = ap (on_stretch 0 new_year) e

    pub by_sum : (c : Call) → SumAlike c box box'
        → (number (call_of box bay c) ≡ number (call_of box' bay c)) × (lent_after (call_of box bay c) ≡ lent_after (call_of box' bay c))
        × (stretch_of bay (memory_after (call_of box bay c)) ≡ stretch_of bay (memory_after (call_of box' bay c)))
    by_sum c h = (
      ap number (own box bay c b z) ∙ ap number (same-result c h) ∙ sym (ap number (own box' bay c b z')),
      ap lent_after (own box bay c b z) ∙ ap lent_after (same-result c h) ∙ sym (ap lent_after (own box' bay c b z')),
      own_stretch box bay c b z ∙ ap memory_after (same-result c h) ∙ sym (own_stretch box' bay c b z'),
    )
