-- One law for each return of the program's code, over plain lists.
use Prim.Native.Nat.{ℕ, zero, suc, ◌-◌, ◌/◌, ◌≤◌, ◌<◌}
use native.Mathlib.Omega.{arith}
use mathlib.Core.Path.{◌≡◌, refl, sym, ap, ◌∙◌, subst}
use mathlib.Core.Logic.{◌≢◌, ◌⊎◌, inl, inr}
use mathlib.Core.List.{List}
use lib.ListN.{length, take, drop, length-drop}
use lib.Seq.{take_all}
use borrow.Author.Tests.{le-leb, lt-leb}
use Rattle.limits.proofs.Refusals.{row_not_0}
use Rattle.limits.specs.Rows.{row_number}
use Rattle.limits.specs.declared.rows.Refusal.{Refusal}
use Rattle.spec_tick.specs.Record.{recordLength}
use Rattle.spec_replay.specs.Replay.{replayed, replay_of}
use Rattle.spec_programs.specs.Text.{input_cut, refusal}
use Rattle.spec_programs.specs.File.{inputs_at, sequence_in, read_back_in}
use Rattle.spec_programs.specs.Verdict.{max_file, recording_in, acceptance, difference, said, verdict_of}

module _ (file : List ℕ) (at : ℕ) (e : at ≡ inputs_at file) where
  -- too long, or ended within its head
  pub cut_file : (max_file < length file) ⊎ ((length file ≤ max_file) × (length file < at)) → input_cut ≡ verdict_of file
  unfolding verdict_of
  cut_file (inl long) = rw (lt-leb (length file) max_file long)
  cut_file (inr h) =
      let k : length file < inputs_at file = subst (λ (m : ℕ). length file < m) e h.1 in
      rw (le-leb (length file) max_file h.0, lt-leb (inputs_at file) (length file) k)

  module _ (short : length file ≤ max_file) (long : at ≤ length file) (recording sequence : List ℕ) (read_back : ℕ)
      (r : recording ≡ take (length file - at) (drop at file))
      (q : sequence ≡ sequence_in file) (b : read_back ≡ read_back_in file) where
    behind : recording ≡ recording_in file
    behind =
        r ∙ take_all (length file - at) (drop at file) (omega (arith, length-drop at file)) ∙ ap (λ (i : ℕ). drop i file) e

    by-replay : {n k : ℕ} → replayed n k ≡ replay_of sequence read_back recording → verdict_of file ≡ said (length recording / recordLength) (replayed n k)
    unfolding verdict_of
    by-replay {n} {k} h =
        let l : inputs_at file ≤ length file = subst (λ (m : ℕ). m ≤ length file) e long in
        let v : replay_of (sequence_in file) (read_back_in file) (recording_in file) ≡ replayed n k =
        ap (λ (x : List ℕ). replay_of x (read_back_in file) (recording_in file)) (sym q)
        ∙ ap (λ (x : ℕ). replay_of sequence x (recording_in file)) (sym b) ∙ ap (replay_of sequence read_back) (sym behind) ∙ sym h in
        rw (le-leb (length file) max_file short, le-leb (inputs_at file) (length file) l, v) (ap (λ (l : List ℕ). said (length l / recordLength) (replayed n k)) (sym behind))

    pub refused : (row : Refusal) {k : ℕ} → replayed (row_number row) k ≡ replay_of sequence read_back recording → refusal (row_number row) ≡ verdict_of file
    refused row {k} h = go (row_number row) (row_not_0 row) ∙ sym (by-replay h)
      where
        go : (n : ℕ) → n ≢ 0 → refusal n ≡ said (length recording / recordLength) (replayed n k)
        go zero z = absurd (z refl)
        go (suc n) z = refl

    pub accepted : {k : ℕ} → k ≡ 0 → replayed 0 k ≡ replay_of sequence read_back recording → acceptance (length recording / recordLength) ≡ verdict_of file
    accepted y h = sym (by-replay h ∙ ap (λ (i : ℕ). said (length recording / recordLength) (replayed 0 i)) y)

    pub differs : {k : ℕ} → k ≢ 0 → replayed 0 k ≡ replay_of sequence read_back recording → difference k ≡ verdict_of file
    differs {k} y h = go k y ∙ sym (by-replay h)
      where
        go : (k : ℕ) → k ≢ 0 → difference k ≡ said (length recording / recordLength) (replayed 0 k)
        go zero y = absurd (y refl)
        go (suc k) y = refl
