-- The calls that an empty bay takes: the admission, and of every bay the calls of its ledger.
use Prim.Native.Nat.{ℕ, zero, suc, ◌+◌, ◌≤◌, ◌<◌}
use native.Mathlib.Omega.{arith}
use mathlib.Core.Path.{◌≡◌, refl, sym, ap, ap₂, ◌∙◌, subst}
use mathlib.Core.Bool.{Bool, true, false, cond}
use mathlib.Core.Option.{some, none}
use mathlib.Core.List.{List, [], ◌∷◌, ◌++◌}
use lib.ListN.{length}
use lib.Dec.{eqb, leb}
use lib.IntN.{pos}
use lib.Ieee.{Float, binary32, add, to_bits, of_int}
use Rattle.spec_base.specs.Limits.{number_bytes, farm_count, shared_ceiling}
use Rattle.spec_language.specs.Statement.{Statement}
use Rattle.spec_language.specs.Ceiling.{ceiling}
use Rattle.spec_language.specs.Machines.{State}
use Rattle.spec_sequence.specs.Program.{program}
use Rattle.spec_sequence.specs.Check.{Checked, sound, bad, checked, check_of}
use Rattle.spec_sequence.specs.Ceilings.{ceiling_of}
use Rattle.spec_sequence.specs.Rows.{Spells}
use Rattle.theory_sequence.proofs.Rows.{Decides, decided, row-range}
use Rattle.spec_base.specs.Bytes.{le_bytes, le_number}
use Rattle.spec_base.specs.WholeLitres.{ordered}
use Rattle.spec_sequence.specs.Amounts.{amount_size, amount_bytes}
use Rattle.theory_tick.proofs.Sequence.{Accepted, accepted}
use Rattle.numbers.proofs.Putting.{length-put, put-before}
use Rattle.numbers.proofs.Zeros.{zeros_number}
use Rattle.spec_bay.specs.Table.{table_length}
use Rattle.box_positions.specs.Places.{Agrees}
use Rattle.box_positions.proofs.Theorems.{cleared-agrees}
use Rattle.spec_bay.specs.Ledgers as Ledgers
use Rattle.spec_bay.specs.Ledgers.{ledger_length, reading_length, total_in, totals_bytes, reading_for, reading_of}
use Rattle.box_ledgers.proofs.Theorems.{cleared_sized}
use Rattle.spec_bay.specs.Called.{Called, called, number, memory_after}
use Rattle.spec_bay.specs.Stretch.{length_bytes, count_at, positions_at, bay_length, stretch_length, length_in, ledger_in, Terms, filled}
use Rattle.spec_bay.specs.BayCalls.{bay_admit_of, bay_ledger_of, bay_new_year_of}
use Rattle.spec_box.specs.Box.{admit, ledger, new_year}
use Rattle.spec_box.specs.Shares.{Sendable}
use Rattle.theory_bay.proofs.Fields.{filled-zeros}
use Rattle.theory_box.proofs.Bays.{ceiling_for, bounds, passed, admit-by-sum}
use Rattle.theory_box.proofs.Standing.{cleared_fresh, fresh-state, filled-stands}
use Rattle.theory_box.proofs.Positions.{Positioned, positioned_zeros}
use Rattle.spec_box.specs.PaperBox.{PaperPlace, replies, down, holds, shows, fresh_bay, admit_on, sized}
use Rattle.theory_box.proofs.PaperMachines.{Follows}
use Rattle.theory_box.proofs.PaperNames.{nil-kept}
use Rattle.theory_box.proofs.PaperAlike.{Present, SameTotals, Alike, vacant, present, Same, same-down, same-answered, totals_after}

-- ---- the ledger
-- totals that are the same for each of the 32 farms are read alike
module _ (t u : ℕ → ℕ) (same : (f : ℕ) → f < farm_count → t f ≡ u f) where
  same_bytes : (n : ℕ) → n ≤ farm_count → totals_bytes n t ≡ totals_bytes n u
  unfolding totals_bytes
  same_bytes zero l = refl
  same_bytes (suc n) l = ap₂ (λ (x : List ℕ) (k : ℕ). x ++ amount_bytes k) (same_bytes n (omega arith)) (same n (omega arith))

  same_sum : (n : ℕ) → n < farm_count → ordered n (λ f. of_int binary32 (pos (t f))) ≡ ordered n (λ f. of_int binary32 (pos (u f)))
  unfolding ordered
  same_sum zero l = ap (λ (k : ℕ). of_int binary32 (pos k)) (same 0 l)
  same_sum (suc n) l =
      ap₂ (λ (x : Float) (k : ℕ). add binary32 x (of_int binary32 (pos k))) (same_sum n (omega arith)) (same (suc n) l)

  pub same-reading : reading_for t ≡ reading_for u
  same-reading =
      ap₂ (λ (x : List ℕ) (y : Float). x ++ le_bytes amount_size (to_bits binary32 y)) (same_bytes farm_count (omega arith)) (same_sum 31 (omega arith))

pub ledger_same : {S T R : Type 0} (m : Follows S T R) (s : List ℕ) (z : PaperPlace S T) → Alike m s z → SameTotals s z.totals → (buffer : List ℕ)
    → Same m (ledger buffer) (bay_ledger_of s buffer)
    (sized m.kind (eqb (length buffer) reading_length) (buffer ∷ []) z (shows (reading_for z.totals) z))
unfolding bay_ledger_of
ledger_same m s z a t buffer = go (eqb (length buffer) reading_length)
  where
    go : (b : Bool) → Same m (ledger buffer) (cond b (called 0 s (reading_of (ledger_in s) ∷ [])) (called 1 s (buffer ∷ [])))
        (sized m.kind b (buffer ∷ []) z (shows (reading_for z.totals) z))
    go true =
        record {
          report = ap (λ (x : List ℕ). replies 0 (x ∷ [])) (same-reading (λ f. total_in f (ledger_in s)) z.totals t);
          alike = a;
        }
    go false = record { report = refl; alike = a }

-- ---- an empty bay
module _ {S T R : Type 0} (m : Follows S T R) (k : ℕ) (s : List ℕ) (z : PaperPlace S T) (long : length s ≡ stretch_length) (empty : length_in s ≡ 0) (bay : z.bay ≡ none) (t : SameTotals s z.totals) where
  pub vacant-year-same : Same m new_year (bay_new_year_of s) (replies 0 [], record { bay = z.bay; totals = λ f. 0 })
  unfolding bay_new_year_of
  vacant-year-same =
      record {
        report = refl;
        alike = vacant (length-put bay_length ledger_length Ledgers.cleared s (omega arith) cleared_sized ∙ long)
            (ap le_number (put-before bay_length ledger_length Ledgers.cleared s (omega arith) cleared_sized 0 length_bytes (omega arith)) ∙ empty)
            bay (totals_after k s long z.totals t new_year refl);
      }

  module _ (x : Terms) (small : Sendable (admit x)) (plain : check_of x.sequence x.read_back ≡ 0 → (p : Statement) → Spells x.sequence p → m.For p) where
    -- ---- an accepted sequence
    module _ (a : Accepted x.sequence x.read_back) where
      abbrev own : ℕ
      own = ceiling_for x

      fresh : Present m (filled x (ceiling_for x) s)
      fresh =
          let zeroed = filled-zeros x own s long (bounds x a).1 in
          let table = zeroed positions_at table_length (omega arith) (omega arith) in
          record {
            terms = x;
            accepted = a;
            holds = (filled-stands x a s long small).holds;
            fine = plain (passed x a) a.statement a.spelled;
            state = State.fresh;
            bytes = fresh-state x a s long ∙ cleared_fresh;
            recorded = tt;
            machine = m.kind.fresh (program x.read_back a.statement);
            at = m.fresh_at (program x.read_back a.statement);
            last = 0;
            count = ap le_number (zeroed count_at number_bytes (omega arith) (omega arith)) ∙ zeros_number number_bytes;
            fits = omega arith;
            positioned = subst (Positioned x) (sym table) (positioned_zeros x);
            names = [];
            agrees = subst (λ (y : List ℕ). Agrees y []) (sym table) cleared-agrees;
            positions = [];
            saved = nil-kept (m.kept_of (program x.read_back a.statement));
          }

      ceiling-is : ceiling_for x ≡ ceiling (program x.read_back a.statement)
      ceiling-is = ap (ceiling_of x.read_back) a.is_checked

      by-room : (b : Bool) → bay_admit_of k s x ≡ cond b (called 0 (filled x (ceiling_for x) s) []) (called 14 s [])
          → Same m (admit x) (bay_admit_of k s x) (cond b (holds z (some (fresh_bay m.kind x a.statement))) (down 14 [] z))
      unfolding fresh
      by-room true w =
          same-answered m (admit x) (filled x (ceiling_for x) s) (record { bay = some (fresh_bay m.kind x a.statement); totals = z.totals }) [] (replies 0 []) refl
          (present fresh refl
          (λ f l. sym (ap (λ (o : Called). total_in f (ledger_in (memory_after o))) w) ∙ totals_after k s long z.totals t (admit x) (ap number w) f l))
          w refl
      by-room false w = same-down m (admit x) s z (vacant long empty bay t) 14 (λ y. omega arith) [] w refl

      accepted-same : Same m (admit x) (bay_admit_of k s x) (admit_on m.kind k z x (sound a.statement))
      accepted-same =
          by-room (leb (k + ceiling (program x.read_back a.statement)) shared_ceiling)
          (admit-by-sum k s x a
          ∙ ap (λ (n : ℕ). cond (leb (k + n) shared_ceiling) (called 0 (filled x (ceiling_for x) s) []) (called 14 s [])) ceiling-is)

    pub admit-same : Same m (admit x) (bay_admit_of k s x) (admit_on m.kind k z x (checked x.sequence x.read_back))
    unfolding bay_admit_of check_of
    admit-same = go (checked x.sequence x.read_back) refl (decided x.sequence x.read_back)
      where
        go : (c : Checked) → checked x.sequence x.read_back ≡ c → Decides x.sequence x.read_back c
            → Same m (admit x) (bay_admit_of k s x) (admit_on m.kind k z x (checked x.sequence x.read_back))
        go (bad n) i d =
            same-down m (admit x) s z (vacant long empty bay t) n (λ y. omega (arith, row-range x.sequence x.read_back n d.0)) []
            (rw i) (ap (admit_on m.kind k z x) i)
        go (sound p) i d =
            let a = accepted x.sequence x.read_back (rw i) in
            subst (λ (c : Checked). Same m (admit x) (bay_admit_of k s x) (admit_on m.kind k z x c)) (sym a.is_checked) (accepted-same a)
