use mathlib.Core.Path.{sym, ◌∙◌}
use Rattle.checks.proofs.Passing.{as-ready}
use Rattle.replay_call.proofs.Following.{start-replies, comparable, refused-differs, compared-follows}
use Rattle.replay_call.proofs.follow.Goals as goal

pub react_without_litres-r-requires : goal.react_without_litres-r-requires
react_without_litres-r-requires c = as-ready c.requires.0

pub compare-requires : goal.compare-requires
compare-requires c =
    let (h, (s, k)) = c.requires in
    let e = sym c.ok.ensures.value ∙ c.in_ok-ok.was in
    comparable _ _ h s _ k _ _ (start-replies _ _ h s _ k _ e _ _ (c.react_without_litres-r.ensures h.p h.known.lies))

pub returns-in_err-ok : goal.returns-in_err-ok
returns-in_err-ok c h s k =
    let a = c.args in
    rw c.from_residual.ensures (refused-differs _ _ h s _ k a.number a.trace.now (sym c.ok.ensures.value ∙ c.in_err-ok.was))

pub returns : goal.returns
returns c h s k =
    let a = c.args in
    let e = sym c.ok.ensures.value ∙ c.in_ok-ok.was in
    compared-follows _ _ h s _ k a.number a.trace.now _ c.input-input.ensures _
    (start-replies _ _ h s _ k _ e _ _ (c.react_without_litres-r.ensures h.p h.known.lies)) c.compare.result c.compare.ensures
