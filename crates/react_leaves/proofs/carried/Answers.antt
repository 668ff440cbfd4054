use Prim.Native.Nat.{ℕ}
use mathlib.Core.Path.{sym, subst}
use lib.Dec.{T}
use lib.Ieee.{binary32, of_bits}
use Rattle.spec_base.specs.WholeLitres.{whole}
use Rattle.litres.proofs.Sums.{whole_pattern}
use Rattle.react_leaves.proofs.Values.{with_litres, without}
use Rattle.react_leaves.proofs.carried.Goals as goal

pub bits-requires : goal.bits-requires
bits-requires c = (c.requires.fit c.if-s-eq-DELIVER.true).0

pub float_from_bits-result : goal.float_from_bits-result
float_from_bits-result c = whole_pattern _ (subst (λ (x : ℕ). T (whole (of_bits binary32 x))) (sym c.bits.ensures) (c.requires.fit c.if-s-eq-DELIVER.true).1)

pub returns-then-s-eq-DELIVER : goal.returns-then-s-eq-DELIVER
returns-then-s-eq-DELIVER c = (
  with_litres c.args.s.now c.bits.ensures c.if-s-eq-DELIVER.true,
  subst (λ (x : ℕ). T (whole (of_bits binary32 x))) (sym c.bits.ensures) (c.requires.fit c.if-s-eq-DELIVER.true).1,
)

pub returns-else-s-eq-DELIVER : goal.returns-else-s-eq-DELIVER
returns-else-s-eq-DELIVER c = (without c.args.s.now c.if-s-eq-DELIVER.false, tt)
