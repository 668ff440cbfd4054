-- A tick of a bay that is present: the same on paper, its record and its litres with it.
use Prim.Native.Nat.{ℕ, zero, suc, ◌+◌, ◌^◌, ◌≤◌, ◌<◌}
use native.Mathlib.Omega.{arith}
use mathlib.Core.Path.{◌≡◌, refl, sym, ap, ap₂, ◌∙◌, subst}
use mathlib.Core.Logic.{◌≢◌}
use mathlib.Core.Bool.{Bool, true, false, ◌&&◌, ◌||◌, cond}
use mathlib.Core.Option.{some}
use mathlib.Core.List.{List, [], ◌∷◌}
use lib.ListN.{length}
use lib.Dec.{eqb, ltb}
use borrow.Author.Tests.{eq-eqb, ne_eqb}
use Rattle.spec_base.specs.Limits.{number_bytes, litres_limit, farm_count}
use native.Mathlib.Decide.{ℕ_discrete}
use Rattle.spec_language.specs.Reaction.{Code}
use Rattle.spec_language.specs.Errors.{Error}
use Rattle.spec_language.specs.Machines.{Phase, Seen, instant, refused}
use Rattle.spec_sequence.specs.Program.{program}
use Rattle.spec_base.specs.Bytes.{le_bytes, le_number}
use Rattle.numbers.proofs.Bytes.{length_le_bytes, le_round_trip}
use Rattle.spec_tick.specs.StateRecord.{state_length, encode_state}
use Rattle.spec_tick.specs.AnswerRecord.{answer_length}
use Rattle.spec_tick.specs.Record.{recordLength, record_of}
use Rattle.spec_tick.specs.Recording.{following}
use Rattle.records.proofs.Theorems.{following-is}
use Rattle.numbers.proofs.Putting.{slot-put}
use Rattle.box_positions.specs.Places.{Agrees}
use Rattle.spec_bay.specs.Ledgers.{would_pass, passes}
use Rattle.spec_tick.specs.Tick.{Outcome, outcome, tick_of}
use Rattle.spec_tick.specs.Demands as demands
use Rattle.spec_tick.specs.Demands.{state_afterwards, answer_afterwards}
use Rattle.spec_tick.specs.Deliveries.{deliveries}
use Rattle.theory_tick.proofs.Sequence.{tick_short}
use Rattle.spec_bay.specs.Called.{Called, called, number, memory_after, lent_after}
use Rattle.spec_bay.specs.Stretch.{count_at, stretch_length, last_number_in, state_in, ledger_in}
use Rattle.spec_bay.specs.BayCalls.{delivering, bay_tick_of}
use Rattle.spec_box.specs.Box.{Call, tick}
use Rattle.spec_box.specs.BayRuns.{paper_buffer}
use Rattle.theory_box.proofs.Ticks as ticks
use Rattle.theory_box.proofs.Ticks.{Ticked, ticked, entered, length-entered}
use Rattle.theory_box.proofs.Standing.{inner-is, sequence-held, tick-stands}
use Rattle.theory_box.proofs.Positions.{table-after, positioned-after}
use Rattle.spec_box.specs.PaperBox as paper
use Rattle.spec_box.specs.PaperBox.{PaperPlace, PaperReply, down, with_machine, adds_on, tick_on, sized}
use Rattle.theory_box.proofs.PaperMachines.{Follows, Goes, stops, moves, goes, litres-are}
use Rattle.theory_box.proofs.PaperAlike.{Present, standing, bay_of, SameTotals, present, Same, same-down, same-answered, totals_after}

-- the same totals and the same litres pass the limit alike
same_pass : (t x t' x' : ℕ → ℕ) → ((f : ℕ) → f < farm_count → t f ≡ t' f) → ((f : ℕ) → x f ≡ x' f)
    → (n : ℕ) → n ≤ farm_count → would_pass n t x ≡ would_pass n t' x'
unfolding would_pass
same_pass t x t' x' i j zero l = refl
same_pass t x t' x' i j (suc n) l =
    ap₂ (λ (b : Bool) (m : ℕ). b || ltb litres_limit m) (same_pass t x t' x' i j n (omega arith)) (ap₂ ◌+◌ (i n (omega arith)) (j n))

eta : (o : Called) → o ≡ called (number o) (memory_after o) (lent_after o)
eta (called n s lent) = refl

-- both buffers have their lengths where the one has that the paper sees
both_lengths : (trace answer : List ℕ)
    → (eqb (length trace) recordLength && eqb (length answer) answer_length) ≡ eqb (length (paper_buffer trace answer)) answer_length
both_lengths trace answer = go (eqb (length trace) recordLength)
  where
    go : (b : Bool) → (b && eqb (length answer) answer_length) ≡ eqb (length (cond b answer [])) answer_length
    go true = refl
    go false = refl

module _ {S T R : Type 0} (m : Follows S T R) (k : ℕ) (s : List ℕ) (z : PaperPlace S T) (h : Present m s) (bay : z.bay ≡ some (bay_of m h))
    (t : SameTotals s z.totals) (e : ℕ) (answer trace : List ℕ) where
  abbrev long : length s ≡ stretch_length
  long = h.holds.sized

  -- the buffers that are lent
  abbrev lent : List (List ℕ)
  lent = answer ∷ trace ∷ []

  abbrev c : Call
  c = tick e answer trace

  abbrev buffer : List ℕ
  buffer = paper_buffer trace answer

  abbrev b : paper.PaperBay S T
  b = bay_of m h

  -- the tick on the sequence that was admitted
  abbrev own : Outcome
  own = tick_of h.terms.sequence (encode_state h.state) e h.terms.read_back (paper_buffer trace answer)

  own_is : ticks.inner s long e answer trace ≡ own
  own_is =
      inner-is h.terms s (standing m h) e answer trace
      ∙ ap (λ (st : List ℕ). tick_of h.terms.sequence st e h.terms.read_back buffer) h.bytes

  -- what the machine on paper sees, and its state after that
  abbrev sees : Seen
  sees = (m.kind.react (program h.terms.read_back h.accepted.statement) h.machine e).0

  abbrev after : S
  after = (m.kind.react (program h.terms.read_back h.accepted.statement) h.machine e).1

  abbrev Going : Outcome → Type 0
  Going = Goes m h.terms.sequence h.terms.read_back h.accepted h.fine h.state h.machine h.at h.recorded e buffer

  litres : (f : ℕ) → delivering s e f ≡ adds_on m.kind (bay_of m h) e f
  litres f =
      ap₂ (λ (q : List ℕ) (r : ℕ). deliveries q r (state_in s) e f) (sequence-held h.terms s (standing m h)) h.holds.set
      ∙ ap (λ (st : List ℕ). deliveries h.terms.sequence h.terms.read_back st e f) h.bytes
      ∙ litres-are m h.terms.sequence h.terms.read_back h.accepted h.fine h.state h.machine h.at h.recorded e f

  pass-is : passes (ledger_in s) (delivering s e) ≡ would_pass farm_count z.totals (adds_on m.kind (bay_of m h) e)
  pass-is = same_pass _ (delivering s e) z.totals (adds_on m.kind b e) t litres farm_count (omega arith)

  -- ---- on paper
  abbrev told : PaperReply S T R
  told = sized m.kind (eqb (length trace) recordLength && eqb (length answer) answer_length) lent z (tick_on m.kind z (bay_of m h) e lent sees after)

  told-by : (x : Bool) → eqb (length buffer) answer_length ≡ x → told ≡ cond x (tick_on m.kind z (bay_of m h) e lent sees after) (down 1 lent z)
  told-by x i = ap (λ (y : Bool). cond y (tick_on m.kind z b e lent sees after) (down 1 lent z)) (both_lengths trace answer ∙ i)

  told-seen : length buffer ≡ answer_length → (x : Seen) → sees ≡ x → told ≡ tick_on m.kind z (bay_of m h) e lent x after
  told-seen l x i = told-by true (eq-eqb (length buffer) answer_length l) ∙ ap (λ (y : Seen). tick_on m.kind z b e lent y after) i

  told-short : length buffer ≢ answer_length → told ≡ down 1 lent z
  told-short l = told-by false (ne_eqb (length buffer) answer_length l)

  abbrev entering : R → PaperReply S T R
  entering r = (
    paper.ticked r,
    record { bay = some (with_machine (bay_of m h) after (following h.last)); totals = λ f. z.totals f + adds_on m.kind (bay_of m h) e f },
  )

  told-instant : length buffer ≡ answer_length → (x : Bool) → passes (ledger_in s) (delivering s e) ≡ x
      → (k : Code) (y : Error) (o n : ℕ) (ph : Phase) → sees ≡ instant k y o n ph
      → told ≡ cond x (down 19 lent z) (entering (m.kind.tells (instant k y o n ph) after (following h.last) e))
  told-instant l x p k y o n ph i =
      told-seen l (instant k y o n ph) i
      ∙ ap (λ (x : Bool). cond x (down 19 lent z) (entering (m.kind.tells (instant k y o n ph) after (following h.last) e))) (sym pass-is ∙ p)

  -- ---- the number that an instant leaves
  count-after : (state : List ℕ) → length state ≡ state_length → passes (ledger_in s) (delivering s e) ≡ false
      → last_number_in (ticks.written s long e answer trace state) ≡ following h.last
  count-after state l p =
      let m = length-entered s long e answer trace p state l in
      let n : ℕ = following (last_number_in s) in
      let up = following-is h.last h.fits in
      let same : n ≡ following h.last = ap following h.count in
      ap le_number (slot-put count_at number_bytes (le_bytes number_bytes n) (entered s long e answer trace state) (omega (arith, m)) (length_le_bytes number_bytes n))
      ∙ le_round_trip number_bytes n (omega (arith, same, up, h.fits)) ∙ same

  -- ---- an instant
  module _ (state left : List ℕ) (l : length state ≡ state_length) (p : passes (ledger_in s) (delivering s e) ≡ false)
      (q : ticks.inner s h.holds.sized e answer trace ≡ outcome 0 state left)
      (w : bay_tick_of s e answer trace
      ≡ called 0 (ticks.written s h.holds.sized e answer trace state) (left ∷ record_of (following (last_number_in s)) e left state ∷ []))
      (full : length (paper_buffer trace answer) ≡ answer_length) where
    own-told : own ≡ outcome 0 state left
    own-told = sym own_is ∙ q

    instant-same : Going own → Same m (tick e answer trace) (bay_tick_of s e answer trace) told
    instant-same (stops i j) = absurd (omega (arith, ap demands.number (sym own-told ∙ i)))
    instant-same (moves st left' i at rec filled x y o n ph j v) =
        let called-0 : number (bay_tick_of s e answer trace) ≡ 0 = ap number w in
        let out : List ℕ = memory_after (bay_tick_of s e answer trace) in
        let stands = tick-stands h.terms s (standing m h) e answer trace in
        let up = following-is h.last h.fits in
        let table = table-after k s long c called-0 in
        let same-state : state ≡ encode_state st = ap state_afterwards (sym own-told ∙ i) in
        let same_left : left ≡ left' = ap answer_afterwards (sym own-told ∙ i) in
        let then : Present m out = record {
          terms = h.terms;
          accepted = h.accepted;
          holds = stands.0.holds;
          fine = h.fine;
          state = st;
          bytes = stands.1 (λ y. omega arith)
              ∙ ap (λ (st : List ℕ). state_afterwards (tick_of h.terms.sequence st e h.terms.read_back buffer)) h.bytes ∙ ap state_afterwards i;
          recorded = rec;
          machine = after;
          at = at;
          last = following h.last;
          count = ap (λ (x : Called). last_number_in (memory_after x)) w ∙ count-after state l p;
          fits = omega (arith, up);
          positioned = positioned-after h.terms s (standing m h) h.positioned k c tt;
          names = h.names;
          agrees = subst (λ (x : List ℕ). Agrees x h.names) (sym table) h.agrees;
          positions = h.positions;
          saved = h.saved;
        } in
        let r : R = m.kind.tells (instant x y o n ph) after (following h.last) e in
        let read : m.kind.reads left (record_of (following (last_number_in s)) e left state) ≡ r =
        ap (λ (i : ℕ). m.kind.reads left (record_of (following i) e left state)) h.count
        ∙ ap₂ (λ (a b : List ℕ). m.kind.reads b (record_of (following h.last) e b a)) same-state same_left
        ∙ v (following h.last) (omega (arith, up)) in
        same-answered m c out
        (record { bay = some (with_machine b after (following h.last)); totals = λ f. z.totals f + adds_on m.kind b e f })
        (left ∷ record_of (following (last_number_in s)) e left state ∷ [])
        (paper.ticked r)
        (ap paper.ticked read)
        (present then refl
        (λ f i. totals_after k s long z.totals t c called-0 f i ∙ ap (λ (a : ℕ). z.totals f + a) (litres f)))
        (eta (bay_tick_of s e answer trace) ∙ ap₂ (λ (i : ℕ) (ls : List (List ℕ)). called i out ls) called-0 (ap lent_after w))
        (told-instant full false p x y o n ph j)

  -- ---- by the lengths of the buffers
  by-goes : length (paper_buffer trace answer) ≡ answer_length → Going own → Ticked s h.holds.sized e answer trace (bay_tick_of s e answer trace)
      → Same m (tick e answer trace) (bay_tick_of s e answer trace) told
  by-goes l (stops i j) (ticks.down n y d q w) =
      let n-is : n ≡ 12 = ap demands.number (sym q ∙ own_is ∙ i) in
      same-down m c s z (present h bay t) n y (answer ∷ trace ∷ []) w (told-seen l refused j ∙ ap (λ (a : ℕ). down a lent z) (sym n-is))
  by-goes l (moves st left i at rec filled x y' o n' ph j v) (ticks.down n y d q w) = absurd (y (ap demands.number (sym q ∙ own_is ∙ i)))
  by-goes l (stops i j) (ticks.full q p w) = absurd (omega (arith, q, ap demands.number (own_is ∙ i)))
  by-goes l (moves st left i at rec filled x y o n ph j v) (ticks.full q p w) =
      same-down m c s z (present h bay t) 19 (λ y. omega arith) (answer ∷ trace ∷ []) w (told-instant l true p x y o n ph j)
  by-goes l g (ticks.instant state left a j p q w) = instant-same state left a p q w l g

  short : length (paper_buffer trace answer) ≢ answer_length → own ≡ outcome 1 (encode_state h.state) (paper_buffer trace answer)
  short l = tick_short h.terms.sequence (encode_state h.state) e h.terms.read_back buffer l

  by-short : length (paper_buffer trace answer) ≢ answer_length → Ticked s h.holds.sized e answer trace (bay_tick_of s e answer trace)
      → Same m (tick e answer trace) (bay_tick_of s e answer trace) told
  by-short l (ticks.down n y d q w) =
      let n-is : n ≡ 1 = ap demands.number (sym q ∙ own_is ∙ short l) in
      same-down m c s z (present h bay t) n y (answer ∷ trace ∷ []) w (told-short l ∙ ap (λ (a : ℕ). down a lent z) (sym n-is))
  by-short l (ticks.full q p w) = absurd (omega (arith, q, ap demands.number (own_is ∙ short l)))
  by-short l (ticks.instant state left a j p q w) = absurd (omega (arith, ap demands.number (sym q ∙ own_is ∙ short l)))

  pub tick_same : Same m (tick e answer trace) (bay_tick_of s e answer trace)
      (sized m.kind (eqb (length trace) recordLength && eqb (length answer) answer_length) (answer ∷ trace ∷ []) z
      (tick_on m.kind z (bay_of m h) e (answer ∷ trace ∷ []) (m.kind.react (program h.terms.read_back h.accepted.statement) h.machine e).0
      (m.kind.react (program h.terms.read_back h.accepted.statement) h.machine e).1))
  tick_same =
      elim (ℕ_discrete (length buffer) answer_length) [
        | yes l ↦ by-goes l (goes m h.terms.sequence h.terms.read_back h.accepted h.fine h.state h.machine h.at h.recorded e buffer l)
            (ticked s long e answer trace)
        | no l ↦ by-short l (ticked s long e answer trace)
      ]
