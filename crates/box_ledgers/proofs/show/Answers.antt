use Prim.Native.Nat.{◌*◌}
use mathlib.Core.Path.{sym, ap, ◌∙◌, subst}
use mathlib.Core.Bool.{not}
use lib.Seq.{sets}
use lib.Dec.{T}
use lib.Ieee.{Float, binary32, to_bits, is_nan}
use Rattle.spec_base.specs.Bytes.{le_bytes}
use Rattle.box_ledgers.proofs.Totals.{total_most, int_no_nan}
use Rattle.box_ledgers.proofs.show.Goals as goal

pub float_to_bits-t : goal.float_to_bits-t
float_to_bits-t c =
    subst (λ (x : Float). T (not (is_nan x))) (sym c.total-t.ensures) (int_no_nan _ (total_most _ _))

pub returns : goal.returns
returns c =
    let a = c.args in
    let e = c.total-t.ensures in
    record { value = e; reading_after = c.put_four.ensures ∙ ap (λ (x : Float). sets a.reading.now (a.farm * 4) (le_bytes 4 (to_bits binary32 x))) e }
