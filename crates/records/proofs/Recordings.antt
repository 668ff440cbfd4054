-- A recording is that of a list of ticks from a cleared record, and its numbers count on and stay at the greatest.
use Prim.Native.Nat.{ℕ, zero, suc, ◌+◌, ◌≤◌, min}
use native.Mathlib.Omega.{arith}
use mathlib.Core.Path.{◌≡◌, refl, sym, ap, ◌∙◌}
use mathlib.Core.Bool.{Bool, true, false, cond}
use mathlib.Core.Option.{some, none-ne-some}
use mathlib.Core.List.{List, [], ◌∷◌, map}
use lib.ListN.{get_elem?}
use lib.Dec.{eqb, ltb}
use borrow.Author.Tests.{ltb-true, ltb-false}
use Rattle.spec_base.specs.Limits.{last_number}
use Rattle.spec_tick.specs.Tick.{Outcome, tick_of}
use Rattle.spec_tick.specs.Demands.{number, state_afterwards, answer_afterwards, outcomes, cleared}
use Rattle.spec_tick.specs.Record.{number_in}
use Rattle.spec_tick.specs.Recording.{following, tick_on, record_from, records_from, recording_of, call_on, records_of}
use Rattle.records.proofs.Records.{number-field}

pub following-is : (n : ℕ) → n ≤ last_number → following n ≡ min (n + 1) last_number
unfolding following
following-is n h = go (ltb n last_number) refl
  where
    go : (b : Bool) → ltb n last_number ≡ b → cond b (n + 1) n ≡ min (n + 1) last_number
    go true e = let l = ltb-true n last_number e in omega arith
    go false e = let l = ltb-false n last_number e in omega arith

counts_on : (n i : ℕ) → n ≤ last_number → (following n ≤ last_number) × (min (following n + i) last_number ≡ min (n + suc i) last_number)
counts_on n i h = let e = following-is n h in (omega (arith, e, h), omega (arith, e, h))

module _ (sequence : List ℕ) (read_back : ℕ) where
  pub numbered : (es : List ℕ) (n : ℕ) (state : List ℕ) (i : ℕ) (r : List ℕ) → n ≤ last_number
      → get_elem? (records_from sequence read_back n state es) i ≡ some r → number_in r ≡ min (n + i) last_number
  unfolding records_from
  numbered [] n state i r h e = absurd (none-ne-some r e)
  numbered (d ∷ es) n state i r h e =
      go (eqb (number o) 0) i e (λ j q. numbered es (following n) (state_afterwards o) j r (counts_on n j h).0 q)
    where
      o : Outcome
      o = tick_on sequence read_back state d

      go : (b : Bool) (i : ℕ)
          → get_elem? (cond b (record_from n d o ∷ records_from sequence read_back (following n) (state_afterwards o) es) []) i ≡ some r
          → ((j : ℕ) → get_elem? (records_from sequence read_back (following n) (state_afterwards o) es) j ≡ some r
          → number_in r ≡ min (following n + j) last_number)
          → number_in r ≡ min (n + i) last_number
      go false i e ih = absurd (none-ne-some r e)
      go true zero e ih =
          let q : record_from n d o ≡ r = cc in
          let m : n ≡ min (n + 0) last_number = omega arith in
          ap number_in (sym q) ∙ number-field n d (answer_afterwards o) (state_afterwards o) (omega arith) ∙ m
      go true (suc i) e ih = ih i e ∙ (counts_on n i h).1

pub number_at : (sequence : List ℕ) (read_back : ℕ) (es : List ℕ) (i : ℕ) (r : List ℕ)
    → get_elem? (recording_of sequence read_back es) i ≡ some r → number_in r ≡ min (i + 1) last_number
number_at sequence read_back es i r h =
    let e : min (1 + i) last_number ≡ min (i + 1) last_number = omega arith in
    numbered sequence read_back es 1 cleared i r (omega arith) h ∙ e

-- the records of a list of ticks
module _ (sequence : List ℕ) (read_back : ℕ) where
  of-ticks : (es : List ℕ) (n : ℕ) (state : List ℕ)
      → records_from sequence read_back n state es ≡ records_of n es (outcomes tick_of sequence read_back state (map call_on es))
  unfolding records_from records_of outcomes
  of-ticks [] n state = refl
  of-ticks (e ∷ es) n state =
      let o : Outcome = tick_on sequence read_back state e in
      ap (λ (l : List (List ℕ)). cond (eqb (number o) 0) (record_from n e o ∷ l) []) (of-ticks es (following n) (state_afterwards o))

pub recording_is : (sequence : List ℕ) (read_back : ℕ) (es : List ℕ)
    → recording_of sequence read_back es ≡ records_of 1 es (outcomes tick_of sequence read_back cleared (map call_on es))
recording_is sequence read_back es = of-ticks sequence read_back es 1 cleared
