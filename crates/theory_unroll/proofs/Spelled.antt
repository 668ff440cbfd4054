-- The bytes of what is worked through spell it, with the new offsets as places, and pass the check that the original passed.
use Prim.Native.Nat.{ℕ, ◌+◌, ◌≤◌}
use native.Mathlib.Omega.{arith}
use mathlib.Core.Path.{◌≡◌, refl, sym, ap, ◌∙◌, subst}
use mathlib.Core.Bool.{Bool, true, false}
use mathlib.Core.List.{List}
use lib.ListN.{length}
use borrow.Author.Tests.{le-leb, le-ltb}
use Rattle.spec_language.specs.Statement.{pure, litres, Statement, nothing, pause, emit, exit, seq, par, loop, present, signal, try, setpause, suspend, held}
use Rattle.spec_language.specs.Sizes.{signal_nesting, depth_of}
use Rattle.spec_language.specs.LabelTests.{distinct, targeted, well_formed}
use Rattle.theory_language.proofs.LabelTests.{distinct_is, targeted_is, wellFormed-is}
use Rattle.spec_base.specs.Limits.{max_bytes, max_depth, max_signals, read_back_place}
use Rattle.spec_sequence.specs.Reader.{accepted, read_all}
use Rattle.spec_sequence.specs.Writer.{bytes_of, size, Ranged, Within, PlacedAt}
use Rattle.spec_sequence.specs.Program.{read_back_signals, program}
use Rattle.spec_sequence.specs.Check.{sound, checked}
use Rattle.spec_sequence.specs.Rows.{Spells}
use Rattle.theory_sequence.proofs.Writer.{reads_what_is-written}
use Rattle.theory_sequence.proofs.Extents.{few_signals}
use Rattle.theory_sequence.proofs.Rows.{Decides, decided}
use Rattle.spec_unroll.specs.Unrolled.{unrolled, placed, result_of}
use Rattle.theory_unroll.proofs.Forms.{Forms, unrolled_forms, declared_forms}
use Rattle.theory_unroll.proofs.Labels.{nesting_same, distinct_same, targeted-test, well_formed-test}

-- ---- places change no byte, no depth and no range
pub bytes_placed : (p : Statement) (a : ℕ) → bytes_of (placed a p) ≡ bytes_of p
unfolding bytes_of placed
bytes_placed nothing a = refl
bytes_placed (pause l) a = refl
bytes_placed (emit s v) a = refl
bytes_placed (exit n) a = refl
bytes_placed (seq p q) a = rw (bytes_placed p (a + 1), bytes_placed q (a + (1 + size p)))
bytes_placed (par p q) a = rw (bytes_placed p (a + 1), bytes_placed q (a + (1 + size p)))
bytes_placed (loop b p) a = rw (bytes_placed p (a + 1))
bytes_placed (present s p q) a = rw (bytes_placed p (a + 2), bytes_placed q (a + (2 + size p)))
bytes_placed (signal sc b s p) a = rw (bytes_placed p (a + 2))
bytes_placed (try p) a = rw (bytes_placed p (a + 1))
bytes_placed (setpause l) a = refl
bytes_placed (suspend s p) a = rw (bytes_placed p (a + 2))
bytes_placed (held s K p) a = refl

pub depth_placed : (p : Statement) (a : ℕ) → depth_of (placed a p) ≡ depth_of p
unfolding depth_of placed
depth_placed nothing a = refl
depth_placed (pause l) a = refl
depth_placed (emit s v) a = refl
depth_placed (exit n) a = refl
depth_placed (seq p q) a = rw (depth_placed p (a + 1), depth_placed q (a + (1 + size p)))
depth_placed (par p q) a = rw (depth_placed p (a + 1), depth_placed q (a + (1 + size p)))
depth_placed (loop b p) a = rw (depth_placed p (a + 1))
depth_placed (present s p q) a = rw (depth_placed p (a + 2), depth_placed q (a + (2 + size p)))
depth_placed (signal sc b s p) a = rw (depth_placed p (a + 2))
depth_placed (try p) a = rw (depth_placed p (a + 1))
depth_placed (setpause l) a = refl
depth_placed (suspend s p) a = rw (depth_placed p (a + 2))
depth_placed (held s K p) a = refl

-- the places are the offsets
pub placed_at : (p : Statement) (a : ℕ) → PlacedAt a (placed a p)
unfolding placed
placed_at nothing a = tt
placed_at (pause l) a = tt
placed_at (emit s v) a = tt
placed_at (exit n) a = tt
placed_at (seq p q) a = (placed_at p (a + 1), rw (bytes_placed p (a + 1)) (placed_at q (a + (1 + size p))))
placed_at (par p q) a = (placed_at p (a + 1), rw (bytes_placed p (a + 1)) (placed_at q (a + (1 + size p))))
placed_at (loop b p) a = (refl, placed_at p (a + 1))
placed_at (present s p q) a = (placed_at p (a + 2), rw (bytes_placed p (a + 2)) (placed_at q (a + (2 + size p))))
placed_at (signal sc b s p) a = (refl, placed_at p (a + 2))
placed_at (try p) a = placed_at p (a + 1)
placed_at (setpause l) a = tt
placed_at (suspend s p) a = placed_at p (a + 2)
placed_at (held s K p) a = tt

pub ranged_form : {c : Bool} {p q : Statement} → Forms c p q → Ranged p → Ranged q
ranged_form Forms.nothing r = tt
ranged_form Forms.pause r = r
ranged_form Forms.pause_copied r = r
ranged_form Forms.emit r = r
ranged_form Forms.exit r = r
ranged_form (Forms.seq f g) r = (ranged_form f r.0, ranged_form g r.1)
ranged_form (Forms.par f g) r = (ranged_form f r.0, ranged_form g r.1)
ranged_form (Forms.loop f g) r = (ranged_form f r, ranged_form g r)
ranged_form (Forms.loop_copied f) r = ranged_form f r
ranged_form (Forms.present f g) r = (r.0, ranged_form f r.1, ranged_form g r.2)
ranged_form (Forms.signal f) r = (r.0, r.1, ranged_form f r.2)
ranged_form (Forms.try f) r = ranged_form f r
ranged_form Forms.setpause r = r
ranged_form (Forms.suspend f) r = (r.0, ranged_form f r.1)
ranged_form (Forms.held f) r = absurd r

-- ---- what the written-out sequence spells
module _ (p : Statement) where
  pub out-forms : Forms false p (result_of p)
  out-forms = unrolled_forms p 0

  pub out-bytes : bytes_of (result_of p) ≡ bytes_of (unrolled p)
  out-bytes = bytes_placed (unrolled p) 0

  pub out-nesting : (read_back : ℕ) → signal_nesting (program read_back (result_of p)) ≡ signal_nesting (program read_back p)
  out-nesting read_back = nesting_same (declared_forms read_back_place (read_back_signals read_back) out-forms)

  pub out-spelled : Within max_depth max_signals p → depth_of (unrolled p) ≤ max_depth → Spells (bytes_of (unrolled p)) (result_of p)
  out-spelled w d = (
    sym out-bytes,
    record {
      deep = omega (arith, depth_placed (unrolled p) 0);
      nested = omega (arith, nesting_same out-forms, w.nested);
      ranged = ranged_form out-forms w.ranged;
    },
    placed_at (unrolled p) 0,
  )

-- ---- the check
bytes_some : (p : Statement) → Ranged p → 1 ≤ size p
unfolding bytes_of
bytes_some nothing r = omega arith
bytes_some (pause l) r = omega arith
bytes_some (emit s pure) r = omega arith
bytes_some (emit s (litres n)) r = omega arith
bytes_some (exit n) r = omega arith
bytes_some (seq p q) r = omega arith
bytes_some (par p q) r = omega arith
bytes_some (loop b p) r = omega arith
bytes_some (present s p q) r = omega arith
bytes_some (signal sc b s p) r = omega arith
bytes_some (try p) r = omega arith
bytes_some (setpause l) r = omega arith
bytes_some (suspend s p) r = omega arith
bytes_some (held s K p) r = absurd r

-- a statement whose bytes are within the limits and that keeps the rules on labels is what the check finds in them
pub checked_spelled : (bs : List ℕ) (read_back : ℕ) (p : Statement) → Spells bs p → length bs ≤ max_bytes
    → signal_nesting (program read_back p) ≤ max_signals → distinct p ≡ true → targeted p ≡ true → well_formed p ≡ true
    → checked bs read_back ≡ sound p
unfolding checked
checked_spelled bs read_back p s l n d t f =
    let some : 1 ≤ length bs = omega (arith, bytes_some p s.1.ranged, ap length s.0) in
    let reads : read_all bs ≡ accepted p (length bs) = (reads_what_is-written bs p).1 s in
    rw (
      le-leb 1 (length bs) some,
      le-leb (length bs) max_bytes l,
      reads,
      le-ltb max_signals (signal_nesting (program read_back p)) n,
      le-ltb (length bs) (length bs) (omega arith),
      d,
      t,
      f,
    )

-- THE RESULT IS ACCEPTED, if it passes neither limit, with the set with which the original was: it spells what is worked through, with
-- the new offsets as places
pub out_checked : (bs : List ℕ) (read_back : ℕ) (p : Statement) → checked bs read_back ≡ sound p
    → size (unrolled p) ≤ max_bytes → depth_of (unrolled p) ≤ max_depth
    → checked (bytes_of (unrolled p)) read_back ≡ sound (result_of p)
out_checked bs read_back p e l d =
    let w = subst (Decides bs read_back) e (decided bs read_back) in
    let f = out-forms p in
    checked_spelled (bytes_of (unrolled p)) read_back (result_of p) (out-spelled p w.1.1 d) l
    (omega (arith, out-nesting p read_back, few_signals bs read_back p e))
    (distinct_same f ∙ (distinct_is p).1 w.2)
    (targeted-test p (result_of p) f ((targeted_is p).1 w.3))
    (well_formed-test p (result_of p) f ∙ (wellFormed-is p w.2).1 w.4)
