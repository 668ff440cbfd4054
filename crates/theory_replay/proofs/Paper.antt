-- A recording of a record for each input is what the paper reports on these inputs (demand 3).
use Prim.Native.Nat.{ℕ, zero, suc}
use native.Mathlib.Omega.{arith}
use mathlib.Core.Path.{◌≡◌, refl, sym, ap, ap₂, ◌∙◌}
use mathlib.Core.Bool.{Bool, true, false, cond}
use mathlib.Core.List.{List, [], ◌∷◌, map}
use lib.ListN.{length, length-map}
use lib.Dec.{eqb}
use borrow.Author.Tests.{eqb-true}
use Rattle.spec_language.specs.Statement.{Statement}
use Rattle.spec_language.specs.States.{NoSetpause}
use Rattle.spec_language.specs.Machines.{Rewriting}
use Rattle.spec_sequence.specs.Program.{program}
use Rattle.spec_sequence.specs.Check.{check_of}
use Rattle.spec_sequence.specs.Rows.{Spells}
use Rattle.spec_tick.specs.StateRecord.{state_length}
use Rattle.spec_tick.specs.Tick.{Outcome, outcome, tick_of}
use Rattle.spec_tick.specs.Demands.{number, state_afterwards, outcomes, cleared, report}
use Rattle.spec_tick.specs.Paper.{Report, paper}
use Rattle.theory_tick.proofs.Theorems.{demand_3}
use Rattle.spec_tick.specs.Record.{input_in}
use Rattle.spec_tick.specs.Recording.{following, tick_on, record_from, records_from, recording_of, call_on}
use Rattle.records.proofs.Records.{answer-field, state-field}
use Rattle.spec_replay.specs.Replay.{records_in, inputs_in}
use Rattle.spec_replay.specs.ReplayClaims.{report_in}
use Rattle.theory_replay.proofs.Recordings.{Sized, tick_sized}

-- a record shows what its instant reports
shown : (n e : ℕ) (o : Outcome) → Sized o → number o ≡ 0 → report_in (record_from n e o) ≡ report o
shown n e (outcome zero state answer) s z =
    rw (answer-field n e answer state s.1 s.0, state-field n e answer state s.1 s.0)
shown n e (outcome (suc m) state answer) s z = absurd (omega arith)

module _ (sequence : List ℕ) (read_back : ℕ) where
  reported : (es : List ℕ) (n : ℕ) (state : List ℕ) → length state ≡ state_length
      → length (records_from sequence read_back n state es) ≡ length es
      → map report_in (records_from sequence read_back n state es) ≡ map report (outcomes tick_of sequence read_back state (map call_on es))
  unfolding records_from outcomes
  reported [] n state s l = refl
  reported (e ∷ es) n state s l =
      go (eqb (number o) 0) refl l (reported es (following n) (state_afterwards o) (tick_sized sequence read_back state e s).0)
    where
      o : Outcome
      o = tick_on sequence read_back state e

      later : List (List ℕ)
      later = records_from sequence read_back (following n) (state_afterwards o) es

      go : (b : Bool) → eqb (number o) 0 ≡ b → length (cond b (record_from n e o ∷ later) []) ≡ suc (length es)
          → (length later ≡ length es → map report_in later ≡ map report (outcomes tick_of sequence read_back (state_afterwards o) (map call_on es)))
          → map report_in (cond b (record_from n e o ∷ later) [])
          ≡ report o ∷ map report (outcomes tick_of sequence read_back (state_afterwards o) (map call_on es))
      go true q l f =
          ap₂ (λ (x : Report) (xs : List Report). x ∷ xs)
          (shown n e o (tick_sized sequence read_back state e s) (eqb-true (number o) 0 q)) (f (omega arith))
      go false q l f = absurd (omega arith)

  pub by_paper : check_of sequence read_back ≡ 0 → (recording : List ℕ) → records_in recording ≡ recording_of sequence read_back (inputs_in recording)
      → (p : Statement) → Spells sequence p → NoSetpause p
      → map report_in (records_in recording) ≡ paper (Rewriting.fresh (program read_back p)) (map call_on (inputs_in recording))
  by_paper h recording e p s plain =
      ap (map report_in) e
      ∙ reported (inputs_in recording) 1 cleared refl (sym (ap length e) ∙ sym (length-map (records_in recording) input_in))
      ∙ demand_3 sequence read_back h p s plain (map call_on (inputs_in recording))
