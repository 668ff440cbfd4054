use Rattle.std.proofs.Common.{◌+◌, ◌-◌, ◌∙◌, arith}
use lib.ListN.{length-set}
use Rattle.spec_base.specs.Bytes.{le_bytes}
use Rattle.numbers.proofs.Bytes.{length_le_bytes}
use Rattle.numbers.proofs.Writing.{put_step, put_end}
use Rattle.numbers.proofs.Putting.{stored_part}
use Rattle.numbers.proofs.put_le.Goals as goal

pub loop-byte-preserved : goal.loop-byte-preserved
loop-byte-preserved c =
    let l = c.loop-byte in
    record {
      goes_on = put_step l.byte-items c.args.n l.byte-index l.rest (omega arith) ∙ l.invariant.goes_on;
      whole = simp length-set l.invariant.whole;
    }

pub returns : goal.returns
returns c =
    let a = c.args in
    let l = c.loop-byte in
    stored_part a.at a.n (le_bytes a.n a.x) a.buf.now c.requires (length_le_bytes a.n a.x) l.byte-items (a.at + a.n - a.at) (omega arith)
    (put_end l.byte-items _ a.n l.byte-index l.rest l.invariant.goes_on (omega arith))
