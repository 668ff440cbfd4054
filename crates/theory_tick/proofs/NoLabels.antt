-- The paper knows no labels: what it reports of a term is what its run shows, and that is the same for terms that differ only in the
-- labels of held suspends (theory_language, Erasure).
use Prim.Native.Nat.{ℕ}
use mathlib.Core.Path.{◌≡◌, refl, sym, ap, ap₂, ◌∙◌}
use mathlib.Core.Bool.{Bool, true, false, cond}
use mathlib.Core.Option.{Option}
use mathlib.Core.List.{List, [], ◌∷◌, head-eq_of_cons-eq, tail-eq_of_cons-eq}
use lib.ListN.{length}
use lib.Dec.{eqb}
use Rattle.spec_language.specs.Statement.{Statement}
use Rattle.spec_language.specs.Reaction.{ended, waiting, leaving, wrong, Reaction, gives, react}
use Rattle.spec_language.specs.Errors.{Error, first_error}
use Rattle.spec_language.specs.Reactions.{reactions}
use Rattle.spec_language.specs.Machines.{Seen, instant, refused, seen, run, Rewriting, term_after, by_rewriting, erase}
use Rattle.theory_language.proofs.Erasure.{erased_run}
use Rattle.spec_tick.specs.AnswerRecord.{answer_length}
use Rattle.spec_tick.specs.Paper.{Call, Report, turned_down, phase_number, phase_of, report_of, paper_tick, paper}

-- what is seen of a tick tells the phase after it
abbrev phase_seen : Seen → ℕ
phase_seen (instant k x o n after) = phase_number after
phase_seen refused = 2

phase_after_lem : (r : Reaction) (x : Option Error) (n : ℕ) → phase_of (term_after r) ≡ phase_seen (seen r x n)
phase_after_lem (gives o ended l t) x n = refl
phase_after_lem (gives o waiting l t) x n = refl
phase_after_lem (gives o (leaving m) l t) x n = refl
phase_after_lem (gives o wrong l t) x n = refl

phase_seen_lem : (w : Rewriting) (e : ℕ) → phase_of (by_rewriting w e).1 ≡ phase_seen (by_rewriting w e).0
phase_seen_lem (Rewriting.fresh t) e = phase_after_lem (react t e) (first_error t e) (reactions t e)
phase_seen_lem (Rewriting.waits t) e = phase_after_lem (react t e) (first_error t e) (reactions t e)
phase_seen_lem Rewriting.over e = refl

-- terms of one phase whose runs show the same
record SameRuns (v w : Rewriting) : Type 0 where
  phase : phase_of v ≡ phase_of w
  runs : (es : List ℕ) → run by_rewriting v es ≡ run by_rewriting w es

abbrev Ticked : Report × Rewriting → Report × Rewriting → Type 0
Ticked x y = (x.0 ≡ y.0) × SameRuns x.1 y.1

module _ (v w : Rewriting) (h : SameRuns v w) where
  same_seen : (e : ℕ) → (by_rewriting v e).0 ≡ (by_rewriting w e).0
  unfolding run
  same_seen e = head-eq_of_cons-eq (h.runs (e ∷ []))

  same_next : (e : ℕ) → SameRuns (by_rewriting v e).1 (by_rewriting w e).1
  unfolding run
  same_next e =
      record {
        phase = phase_seen_lem v e ∙ ap phase_seen (same_seen e) ∙ sym (phase_seen_lem w e);
        runs = λ es. tail-eq_of_cons-eq (h.runs (e ∷ es));
      }

  same-tick : (e n : ℕ) → Ticked (paper_tick v e n) (paper_tick w e n)
  same-tick e n = go (eqb n answer_length)
    where
      go : (b : Bool)
          → Ticked (cond b (report_of (by_rewriting v e).0, (by_rewriting v e).1) (turned_down 1 (phase_of v), v))
          (cond b (report_of (by_rewriting w e).0, (by_rewriting w e).1) (turned_down 1 (phase_of w), w))
      go true = (ap report_of (same_seen e), same_next e)
      go false = (ap (turned_down 1) h.phase, h)

same_reports : (v w : Rewriting) → SameRuns v w → (calls : List Call) → paper v calls ≡ paper w calls
unfolding paper
same_reports v w h [] = refl
same_reports v w h (c ∷ calls) =
    let x = same-tick v w h c.input (length c.buffer) in
    ap₂ {B = List Report} {C = List Report} ◌∷◌ x.0 (same_reports (paper_tick v c.input (length c.buffer)).1 (paper_tick w c.input (length c.buffer)).1 x.1 calls)

-- THE PAPER KNOWS NO LABELS
pub paper_knows_no_labels : (t u : Statement) → erase t ≡ erase u → (calls : List Call)
    → paper (Rewriting.waits t) calls ≡ paper (Rewriting.waits u) calls
paper_knows_no_labels t u h =
    same_reports (Rewriting.waits t) (Rewriting.waits u) (record { phase = refl; runs = erased_run t u h })
