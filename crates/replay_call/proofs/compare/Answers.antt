use mathlib.Core.Path.{refl, sym, ap, ◌∙◌}
use lib.ListN.{replicate}
use Rattle.spec_tick.specs.Record.{recordLength}
use Rattle.spec_replay.specs.Replay.{same}
use Rattle.replay_call.proofs.Comparing.{record_made}
use Rattle.replay_call.proofs.compare.Goals as goal

pub returns-then-same : goal.returns-then-same
returns-then-same c =
    let a = c.args in (
      ap (same a.trace.now) (sym (record_made a.number a.input a.r _ _ _ c.finish.ensures (replicate recordLength 0) _ refl c.write_record.ensures))
          ∙ sym c.same.ensures ∙ c.if-same.true,
      c.after.ensures,
    )

pub returns-else-same : goal.returns-else-same
returns-else-same c =
    let a = c.args in
    ap (same a.trace.now) (sym (record_made a.number a.input a.r _ _ _ c.finish.ensures (replicate recordLength 0) _ refl c.write_record.ensures))
    ∙ sym c.same.ensures ∙ c.if-same.false
