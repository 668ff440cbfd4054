use borrow.Author.Rules.{rules}
use Prim.Native.Nat.{◌+◌, ◌≤◌, ◌<◌}
use native.Mathlib.Nat.{mod-lt}
use native.Mathlib.Omega.{arith}
use mathlib.Core.Path.{refl}
use lib.ListN.{length-set}
use Rattle.spec_programs.specs.Text.{numeral}
use Rattle.lines.proofs.Buffers.{begin, under}
use Rattle.lines.proofs.Numerals.{measure_falls, numeral_room, numeral-again, numeral_end}
use Rattle.lines.proofs.put_numeral.Goals as goal
use Rattle.lines.proofs.put_numeral.Goals.{then-left-gt0, else-left-gt0+then-rest-gt0}

pub loop-left-init : goal.loop-left-init
loop-left-init c = let a = c.args in (refl, begin a.line.now a.end (numeral a.base a.width a.x))

-- where the loop goes on, digits are left, and space for one
pub overflow_sub-from : goal.overflow_sub-from
overflow_sub-from c =
    let l = c.loop-left in
    let m : 0 < l.left + l.rest = elim c.if-left-gt0.branch [ then-left-gt0 w ↦ omega (arith, w.if-left-gt0.true) | else-left-gt0+then-rest-gt0 w ↦ omega (arith, w.if-rest-gt0.true) ] in
    let p = c.requires in
    let s : (0 < l.from) × (l.from ≤ c.args.end) = (numeral_room c.args.base l.left l.rest p.0 m l.invariant.1 p.2, under l.invariant.1) in
    omega (arith, s)

pub digit-requires : goal.digit-requires
digit-requires c = omega (arith, mod-lt c.loop-left.rest {m = c.args.base} (search rules))

pub bounds-line-from : goal.bounds-line-from
bounds-line-from c =
    let l = c.loop-left in
    let m : 0 < l.left + l.rest = elim c.if-left-gt0.branch [ then-left-gt0 w ↦ omega (arith, w.if-left-gt0.true) | else-left-gt0+then-rest-gt0 w ↦ omega (arith, w.if-rest-gt0.true) ] in
    let p = c.requires in
    let s : (0 < l.from) × (l.from ≤ c.args.end) = (numeral_room c.args.base l.left l.rest p.0 m l.invariant.1 p.2, under l.invariant.1) in
    omega (arith, s)

pub loop-left-smaller : goal.loop-left-smaller
loop-left-smaller c =
    let l = c.loop-left in
    let m : 0 < l.left + l.rest = elim c.if-left-gt0.branch [ then-left-gt0 w ↦ omega (arith, w.if-left-gt0.true) | else-left-gt0+then-rest-gt0 w ↦ omega (arith, w.if-rest-gt0.true) ] in
    omega (arith, c.saturating_sub-left.ensures, measure_falls c.args.base l.left l.rest c.requires.0 m)

pub loop-left-preserved : goal.loop-left-preserved
loop-left-preserved c =
    let l = c.loop-left in
    let m : 0 < l.left + l.rest = elim c.if-left-gt0.branch [ then-left-gt0 w ↦ omega (arith, w.if-left-gt0.true) | else-left-gt0+then-rest-gt0 w ↦ omega (arith, w.if-rest-gt0.true) ] in
    let p = c.requires in
    let s : (0 < l.from) × (l.from ≤ c.args.end) = (numeral_room c.args.base l.left l.rest p.0 m l.invariant.1 p.2, under l.invariant.1) in
    let a = c.args in (
      simp length-set l.invariant.0,
      rw (c.saturating_sub-left.ensures, c.digit.ensures) (numeral-again a.base l.left l.rest c.requires.0 m l.invariant.1 s.0 (omega arith)),
    )

pub shape_of-line : goal.shape_of-line
shape_of-line c = c.loop-left.invariant.0

pub returns : goal.returns
returns c =
    let l = c.loop-left in
    let a : l.left ≤ 0 = c.if-left-gt0.false in
    let b : l.rest ≤ 0 = c.if-rest-gt0.false in
    numeral_end c.args.base l.left l.rest (omega arith) l.invariant.1
