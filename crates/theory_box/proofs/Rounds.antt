-- One tick of each bay, in any order, takes at most what the bays have of the shared ceiling.
use Prim.Native.Nat.{ℕ, ◌+◌, ◌≤◌, ◌<◌}
use native.Mathlib.Omega.{arith}
use native.Mathlib.Decide.{dec_lt}
use mathlib.Core.Path.{◌≡◌, refl, ap}
use mathlib.Core.Logic.{◌≢◌}
use mathlib.Core.Bool.{Bool, true, false, cond}
use mathlib.Core.List.{List, [], ◌∷◌}
use lib.ListN.{length}
use lib.Dec.{eqb}
use borrow.Author.Tests.{eq-eqb, ne_eqb, eqb-true}
use Rattle.spec_base.specs.Limits.{shared_ceiling, bay_count}
use Rattle.spec_sequence.specs.Check.{checked}
use Rattle.spec_sequence.specs.Ceilings.{ceiling_of}
use Rattle.spec_tick.specs.AnswerRecord.{reactions_in}
use Rattle.spec_tick.specs.Tick.{Outcome, tick_of}
use Rattle.spec_tick.specs.Demands as demands
use Rattle.spec_tick.specs.Demands.{answer_afterwards}
use Rattle.theory_tick.proofs.Ceiling.{never_above}
use Rattle.spec_bay.specs.Called.{called, memory_after}
use Rattle.spec_bay.specs.Stretch.{stretch_length, state_in, part_of}
use Rattle.spec_bay.specs.BayCalls.{bay_tick_of}
use Rattle.spec_box.specs.BayRuns.{paper_buffer}
use Rattle.spec_box.specs.Box.{stretch_of, present, tick, bay_call, is_for, call_of}
use Rattle.spec_box.specs.Lists.{Request}
use Rattle.spec_box.specs.Shares.{reactions_of, sum_of_reactions, without, Round, done, more, OneTickEach}
use Rattle.theory_box.proofs.Sums.{sum_of, same_sum, one_changed}
use Rattle.theory_box.proofs.Bays.{on_stretch}
use Rattle.theory_box.proofs.Standing.{inner-is}
use Rattle.theory_box.proofs.Ticks as ticks
use Rattle.theory_box.proofs.Stretches.{no-bay, own, others_stay}
use Rattle.theory_box.proofs.Reached.{Sound, filled-bay, part_held, part_in, present_sum, Kept, kept_call}

-- ---- one tick
-- the reactions of a tick on a sequence
abbrev counted_by : Outcome → ℕ
counted_by o = cond (eqb (demands.number o) 0) (reactions_in (answer_afterwards o)) 0

tick_reactions : (s : List ℕ) (z : length s ≡ stretch_length) (e : ℕ) (answer trace : List ℕ)
    → reactions_of (bay_tick_of s e answer trace) ≤ counted_by (ticks.inner s z e answer trace)
tick_reactions s z e answer trace = go (ticks.ticked s z e answer trace)
  where
    go : ticks.Ticked s z e answer trace (bay_tick_of s e answer trace)
        → reactions_of (bay_tick_of s e answer trace) ≤ counted_by (ticks.inner s z e answer trace)
    go (ticks.down n y d q w) =
        let none : (x : ℕ) → cond (eqb n 0) x 0 ≡ 0 = λ x. rw (ne_eqb n 0 y) in omega (arith, ap reactions_of w, none (reactions_in answer))
    go (ticks.full q p w) = omega (arith, ap reactions_of w)
    go (ticks.instant state left l j p q w) = omega (arith, ap reactions_of w, ap counted_by q)

reactions-below : (sequence state : List ℕ) (e read_back : ℕ) (answer : List ℕ)
    → counted_by (tick_of sequence state e read_back answer) ≤ ceiling_of read_back (checked sequence read_back)
reactions-below sequence state e read_back answer = go (eqb (demands.number o) 0) refl
  where
    o : Outcome
    o = tick_of sequence state e read_back answer

    go : (b : Bool) → eqb (demands.number o) 0 ≡ b
        → cond b (reactions_in (answer_afterwards o)) 0 ≤ ceiling_of read_back (checked sequence read_back)
    go true h = never_above sequence state e read_back answer (eqb-true (demands.number o) 0 h)
    go false h = omega arith

bay-below : (k : ℕ) (s : List ℕ) → Sound s → (e : ℕ) (answer trace : List ℕ) → reactions_of (on_stretch k (tick e answer trace) s) ≤ part_of s
bay-below k s v e answer trace = go (is_for (tick e answer trace) s) refl
  where
    go : (f : Bool) → is_for (tick e answer trace) s ≡ f
        → reactions_of (cond f (bay_call k (tick e answer trace) s) (called 13 s (answer ∷ trace ∷ []))) ≤ part_of s
    go false i = omega arith
    go true i =
        let f = filled-bay s v i in
        let t = f.0 in
        omega (
          arith,
          tick_reactions s f.1.holds.sized e answer trace,
          ap counted_by (inner-is t s f.1 e answer trace),
          reactions-below t.sequence (state_in s) e t.read_back (paper_buffer trace answer),
          part_held t s f.1,
        )

box_below : (box : List ℕ) → Kept box → (bay : ℕ) → bay < bay_count → (e : ℕ) (answer trace : List ℕ)
    → reactions_of (call_of box bay (tick e answer trace)) ≤ part_in box bay
box_below box h bay b e answer trace =
    let o = on_stretch (present bay_count box) (tick e answer trace) (stretch_of bay box) in
    let x : reactions_of (call_of box bay (tick e answer trace)) ≡ reactions_of o = ap reactions_of (own box bay (tick e answer trace) b h.sized_box) in
    omega (arith, x, bay-below (present bay_count box) (stretch_of bay box) (h.sound bay b) e answer trace)

-- ---- a round
-- what a bay that is left has
abbrev part_left : (left : ℕ → Bool) → List ℕ → ℕ → ℕ
part_left left box bay = cond (left bay) (part_in box bay) 0

module _ (left : ℕ → Bool) (box : List ℕ) (h : Kept box) (bay e : ℕ) (answer trace : List ℕ) (l : left bay ≡ true) where
  abbrev after : List ℕ
  after = memory_after (call_of box bay (tick e answer trace))

  others-left : (j : ℕ) → j ≢ bay → j < bay_count → part_left left box j ≡ part_left (without bay left) after j
  others-left j d m = rw (ne_eqb j bay d, others_stay box bay (tick e answer trace) j d m)

  one-tick : reactions_of (call_of box bay (tick e answer trace)) + sum_of (part_left (without bay left) after) bay_count
      ≤ sum_of (part_left left box) bay_count
  one-tick =
      elim (dec_lt bay bay_count) [
        | yes b ↦
            let before : part_left left box bay ≡ part_in box bay = rw l in
            let behind : part_left (without bay left) after bay ≡ 0 = rw (eq-eqb bay bay refl) in
            omega (
              arith,
              before,
              behind,
              box_below box h bay b e answer trace,
              one_changed (part_left left box) (part_left (without bay left) after) bay bay_count b others-left,
            )
        | no b ↦ omega (
          arith,
          ap reactions_of (no-bay box bay (tick e answer trace) (omega arith)),
          same_sum (part_left left box) (part_left (without bay left) after) bay_count (λ j m. others-left j (λ q. omega arith) m),
        )
      ]

round-below : {left : ℕ → Bool} {xs : List Request} → Round left xs → (box : List ℕ) → Kept box
    → sum_of_reactions call_of box xs ≤ sum_of (part_left left box) bay_count
unfolding sum_of_reactions
round-below done box h = omega arith
round-below (more {left} {bay} {e} {answer} {trace} {xs} l r) box h =
    omega (
      arith,
      one-tick left box h bay e answer trace l,
      round-below r (memory_after (call_of box bay (tick e answer trace))) (kept_call box h bay (tick e answer trace) tt),
    )

pub rounds_within : (box : List ℕ) → Kept box → (ticks : List Request) → OneTickEach ticks → sum_of_reactions call_of box ticks ≤ shared_ceiling
rounds_within box h ticks r =
    let x : present bay_count box ≡ sum_of (part_left (λ bay. true) box) bay_count = present_sum box bay_count in
    omega (arith, round-below r box h, x, h.under)
