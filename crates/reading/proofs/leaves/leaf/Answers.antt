use Prim.Native.Nat.{ℕ, ◌+◌}
use mathlib.Core.Path.{sym, subst}
use native.Mathlib.Omega.{arith}
use lib.ListN.{get_or}
use Rattle.layout.specs.Walk.{Notable, LeafNoted, LeafRead}
use Rattle.layout.proofs.Walk.{heading, head-fits, done_bad, done-deep, can-note, read-bare, read-noted}
use Rattle.reading.proofs.Leaving.{whole}
use Rattle.reading.proofs.leaves.leaf.Goals as goal

pub returns-then-w-ge-ROW_UNIT : goal.returns-then-w-ge-ROW_UNIT
returns-then-w-ge-ROW_UNIT c g t =
    done_bad _ g _ _ t t c.args.notes.now c.args.notes.now _ c.requires.fitting.fits c.leaf-w.ensures c.if-w-ge-ROW_UNIT.true

pub returns-then-depth-eq0 : goal.returns-then-depth-eq0
returns-then-depth-eq0 c g t = done-deep (heading _ _ c.leaf-w.ensures c.if-w-ge-ROW_UNIT.false) _ g _ t t c.args.notes.now c.args.notes.now c.if-depth-eq0.true

pub returns-then-w-eq1 : goal.returns-then-w-eq1
returns-then-w-eq1 c =
    let h = heading _ _ c.leaf-w.ensures c.if-w-ge-ROW_UNIT.false in
    subst (λ (w : ℕ). LeafRead c.args.depth c.args.at c.args.s.now c.args.notes.now c.args.notes.now (c.args.at + w)) c.if-w-eq1.true
    (read-bare h (whole c.args.b c.args.s.now c.requires.s_nonzero.1 c.requires.b_value h) _ _ c.if-depth-eq0.false c.args.notes.now c.if-w-eq1.true)

pub bounds-s-1 : goal.bounds-s-1
bounds-s-1 c =
    let h = heading _ _ c.leaf-w.ensures c.if-w-ge-ROW_UNIT.false in
    omega (arith, head-fits h, c.if-w-eq1.false)

pub leaf-requires : goal.leaf-requires
leaf-requires c =
    let h = heading _ _ c.leaf-w.ensures c.if-w-ge-ROW_UNIT.false in
    subst (λ (b : ℕ). Notable b (get_or c.args.s.now 1 0) c.args.notes.now) (sym c.requires.s_nonzero.1) (can-note h c.args.at c.args.notes.now c.requires.fitting)

pub returns : goal.returns
returns c =
    let h = heading _ _ c.leaf-w.ensures c.if-w-ge-ROW_UNIT.false in
    read-noted h (whole c.args.b c.args.s.now c.requires.s_nonzero.1 c.requires.b_value h) _ _ c.if-depth-eq0.false _ (omega (arith, head-fits h, c.if-w-eq1.false)) _
    (subst (λ (b : ℕ). LeafNoted b (get_or c.args.s.now 1 0) c.args.notes.now c.leaf.new.notes) c.requires.s_nonzero.1 c.leaf.ensures)
