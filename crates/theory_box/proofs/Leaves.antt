-- What an admission and a release leave of a bay.
use Prim.Native.Nat.{ℕ}
use native.Mathlib.Omega.{arith}
use mathlib.Core.Path.{◌≡◌, refl, sym, ap, ◌∙◌, subst}
use mathlib.Core.List.{List}
use lib.ListN.{length}
use Rattle.spec_base.specs.Limits.{number_bytes, bay_count}
use Rattle.spec_base.specs.Bytes.{le_number}
use Rattle.theory_tick.proofs.Sequence.{accepted}
use Rattle.numbers.proofs.Zeros.{zeros_number}
use Rattle.spec_bay.specs.Called.{Called, number, memory_after}
use Rattle.spec_bay.specs.Stretch.{count_at, bay_length, stretch_length, sequence_in, read_back_in, ceiling_in, service_only_in, state_in, last_number_in, positions_in, ledger_in, filled}
use Rattle.spec_bay.specs.Table.{lookup}
use Rattle.spec_bay.specs.Ledgers.{ledger_length}
use Rattle.spec_bay.specs.BayCalls.{bay_release_of, bay_admit_of}
use Rattle.spec_box.specs.Box.{stretch_of, present, admit, release, call_of}
use Rattle.spec_box.specs.Leaves.{FreshlyFilled, AdmissionLeaves, TakenOut, ReleaseLeaves}
use Rattle.theory_bay.proofs.Fields.{vacated_empty, slot-vacated, vacated_behind, filled-zeros, filled-behind}
use Rattle.theory_box.proofs.Bays.{ceiling_for, bounds, Admission, turned_down, admits, admission}
use Rattle.theory_box.proofs.Standing.{fresh-state, filled-stands, sequence-held}
use Rattle.theory_box.proofs.Stretches.{answered-inside, stretch_sized}
use Rattle.theory_box.proofs.Named.{bay-answered, stretch-after, none_known}

pub admission_leaves : AdmissionLeaves call_of
admission_leaves box bay t small n =
    subst (FreshlyFilled t s) (sym (stretch-after box bay (admit t) n)) (go (admission k s t) (bay-answered box bay (admit t) n))
  where
    k : ℕ
    k = present bay_count box

    s : List ℕ
    s = stretch_of bay box

    z : length s ≡ stretch_length
    z = let i = answered-inside box bay (admit t) n in stretch_sized box bay (admit t) i.0 i.1

    go : Admission k s t (bay_admit_of k s t) → number (bay_admit_of k s t) ≡ 0 → FreshlyFilled t s (memory_after (bay_admit_of k s t))
    go (turned_down m y e) h = absurd (y (sym (ap number e) ∙ h))
    go (admits c room e) h =
        let a = accepted t.sequence t.read_back c in
        let st = filled-stands t a s z small in
        let few = (bounds t a).1 in
        record {
          accepted = c;
          sequence = ap (λ (o : Called). sequence_in (memory_after o)) e ∙ sequence-held t (filled t (ceiling_for t) s) st;
          read_back = ap (λ (o : Called). read_back_in (memory_after o)) e ∙ st.holds.set;
          service_only = ap (λ (o : Called). service_only_in (memory_after o)) e ∙ st.holds.service;
          state = ap (λ (o : Called). state_in (memory_after o)) e ∙ fresh-state t a s z;
          no_instant = ap (λ (o : Called). last_number_in (memory_after o)) e
              ∙ ap le_number (filled-zeros t (ceiling_for t) s z few count_at number_bytes (omega arith) (omega arith)) ∙ zeros_number number_bytes;
          no_positions = λ name. sym (ap (λ (x : List ℕ). lookup name (positions_in x)) (stretch-after box bay (admit t) n)) ∙ none_known box bay (admit t) refl n name;
          ceiling = ap (λ (o : Called). ceiling_in (memory_after o)) e ∙ st.holds.part;
          ledger = ap (λ (o : Called). ledger_in (memory_after o)) e ∙ filled-behind t (ceiling_for t) s z few bay_length ledger_length (omega arith);
        }

pub release_leaves : ReleaseLeaves call_of
unfolding bay_release_of
release_leaves box bay n =
    let s = stretch_of bay box in
    let i = answered-inside box bay release n in
    let z = stretch_sized box bay release i.0 i.1 in
    subst (TakenOut s) (sym (stretch-after box bay release n))
    (record {
      empty = vacated_empty s;
      nothing_left = slot-vacated 0 bay_length s (omega arith);
      ledger = vacated_behind bay_length ledger_length s z (omega arith);
    })
