-- The numbers of a replay, and what its place says.
use Prim.Native.Nat.{ℕ, zero, suc, ◌%◌}
use native.Mathlib.Omega.{arith}
use native.Mathlib.Decide.{ℕ_discrete}
use mathlib.Core.Path.{◌≡◌, refl, sym, ap, ◌∙◌}
use mathlib.Core.Logic.{◌≢◌, ◌↔◌}
use mathlib.Core.List.{List}
use lib.ListN.{length}
use borrow.Author.Tests.{eq-eqb, ne_eqb}
use Rattle.spec_sequence.specs.Check.{Checked, sound, bad, checked, number_of, check_of}
use Rattle.theory_sequence.proofs.Rows.{Decides, decided, row-range}
use Rattle.spec_tick.specs.Record.{recordLength}
use Rattle.spec_replay.specs.Replay.{place_of, Replayed, replayed, number, place, replay_of}

-- the check never gives 22
check_range : (sequence : List ℕ) (read_back : ℕ) → check_of sequence read_back ≢ 22
unfolding check_of
check_range sequence read_back = go (checked sequence read_back) (decided sequence read_back)
  where
    go : (c : Checked) → Decides sequence read_back c → number_of c ≢ 22
    go (bad k) d z = omega (arith, row-range sequence read_back k d.0)
    go (sound p) d z = omega arith

module _ (sequence : List ℕ) (read_back : ℕ) (recording : List ℕ) where
  abbrev o : Replayed
  o = replay_of sequence read_back recording

  pub refused-replay : (n : ℕ) → n ≡ check_of sequence read_back → n ≢ 0 → o ≡ replayed n 0
  unfolding replay_of
  refused-replay zero h z = absurd (z refl)
  refused-replay (suc n) h z = rw (sym h)

  module _ (h : check_of sequence read_back ≡ 0) where
    pub cut-replay : length recording % recordLength ≢ 0 → o ≡ replayed 22 0
    unfolding replay_of
    cut-replay z = rw (h, ne_eqb (length recording % recordLength) 0 z)

    pub placed-replay : length recording % recordLength ≡ 0 → o ≡ replayed 0 (place_of sequence read_back recording)
    unfolding replay_of
    placed-replay m = rw (h, eq-eqb (length recording % recordLength) 0 m)

  -- which of the three it is
  pub data Verdict : Type 0 where
    refused : check_of sequence read_back ≢ 0 → o ≡ replayed (check_of sequence read_back) 0 → Verdict
    cut : check_of sequence read_back ≡ 0 → length recording % recordLength ≢ 0 → o ≡ replayed 22 0 → Verdict
    compared : check_of sequence read_back ≡ 0 → length recording % recordLength ≡ 0
        → o ≡ replayed 0 (place_of sequence read_back recording) → Verdict

  pub verdict : Verdict
  verdict =
      elim (ℕ_discrete (check_of sequence read_back) 0) [
        | no z ↦ refused z (refused-replay (check_of sequence read_back) refl z)
        | yes h ↦ elim (ℕ_discrete (length recording % recordLength) 0) [
          | no z ↦ cut h z (cut-replay h z)
          | yes m ↦ compared h m (placed-replay h m)
        ]
      ]

  pub twenty_two : (number o ≡ 22) ↔ ((check_of sequence read_back ≡ 0) × (length recording % recordLength ≢ 0))
  twenty_two = (there verdict, λ p. ap number (cut-replay p.0 p.1))
    where
      there : Verdict → number o ≡ 22 → (check_of sequence read_back ≡ 0) × (length recording % recordLength ≢ 0)
      there (refused z e) h = absurd (check_range sequence read_back (sym (ap number e) ∙ h))
      there (cut c z e) h = (c, z)
      there (compared c m e) h = absurd (omega (arith, h, ap number e))

  pub no_place : number o ≢ 0 → place o ≡ 0
  no_place = go verdict
    where
      go : Verdict → number o ≢ 0 → place o ≡ 0
      go (refused z e) h = ap place e
      go (cut c z e) h = ap place e
      go (compared c m e) h = absurd (h (ap number e))

  -- the place k, after number 0
  pub at_place : (k : ℕ) → (o ≡ replayed 0 k)
      ↔ ((check_of sequence read_back ≡ 0) × (length recording % recordLength ≡ 0) × (place_of sequence read_back recording ≡ k))
  at_place k = (there verdict, λ p. placed-replay p.0 p.1 ∙ ap (replayed 0) p.2)
    where
      there : Verdict → o ≡ replayed 0 k
          → (check_of sequence read_back ≡ 0) × (length recording % recordLength ≡ 0) × (place_of sequence read_back recording ≡ k)
      there (refused z e) h = absurd (z (sym (ap number e) ∙ ap number h))
      there (cut c z e) h = absurd (omega (arith, ap number e, ap number h))
      there (compared c m e) h = (c, m, sym (ap place e) ∙ ap place h)
