use Prim.Native.Nat.{ℕ}
use mathlib.Core.Path.{sym, subst}
use Rattle.checks.proofs.Passing.{as-ready}
use Rattle.program.specs.Deliveries.{HasNamed}
use Rattle.instants.specs.Replies.{CallStands}
use Rattle.instants.proofs.Replying.{refused-reply, started-reply}
use Rattle.instants.proofs.Delivering.{has_named, few-farms, refused-delivers, started-delivers}
use Rattle.instants.proofs.reply_to.Goals as goal

pub farms-requires : goal.farms-requires
farms-requires c =
    let (h, d) = subst (CallStands _ _ _ _ _) c.in_ok-start.was c.begin.ensures in
    few-farms h.known.noted h.ranged

pub instant-requires : goal.instant-requires
instant-requires c =
    let (h, d) = subst (CallStands _ _ _ _ _) c.in_ok-start.was c.begin.ensures in
    record { ready = as-ready h; litres_value = c.requires }

pub returns-in_err-start-clause-delivers : goal.returns-in_err-start-clause-delivers
returns-in_err-start-clause-delivers c =
    let a = c.args in
    let r = subst (CallStands _ _ _ _ _) c.in_err-start.was c.begin.ensures in
    refused-delivers a.sequence.now a.state.now a.input a.read_back a.farms.now a.litres.now c.requires _ (r a.input)

pub returns : goal.returns
returns c =
    let a = c.args in
    let (h, d) = subst (CallStands _ _ _ _ _) c.in_ok-start.was c.begin.ensures in
    let o = c.in_ok-start.start in
    let f = c.farms in
    let n = subst (λ (s : ℕ). HasNamed s h.p) (sym f.ensures) (has_named h.known.noted) in
    let i = c.instant.ensures h.p h.known.lies in record { replies = started-reply _ _ _ _ h.p h.is h.ranged 0 _ o d i.0; delivers = started-delivers a.sequence.now a.state.now a.input a.read_back f.result c.instant.new.litres h.p h.is h.ranged o d (i.2 _ n) i.1 }
