use mathlib.Core.Path.{sym, ◌∙◌, subst}
use Rattle.std.specs.Prelude.{Ok, Err}
use Rattle.std.proofs.lemmas.Result.{err_from_is_err_and}
use Rattle.instants.specs.Replies.{Replies}
use Rattle.instants.proofs.Ticking.{lengths, unfit, as-replied}
use Rattle.instants.proofs.tick.Goals as goal

pub finish-requires : goal.finish-requires
finish-requires c =
    let l = lengths _ _ (sym c.fit.ensures ∙ c.if-not-fit.false) in
    (l.0, l.1, (subst (Replies _ _ _ _) c.in_ok-reaction.was c.reply_to.ensures.replies).writable)

pub returns-in_err-reaction : goal.returns-in_err-reaction
returns-in_err-reaction c =
    let p = err_from_is_err_and c.from_residual.result c.from_residual.ensures.1 in
    let r = subst (Replies _ _ _ _) c.in_err-reaction.was c.reply_to.ensures.replies in
    rw (p.1, p.2) (as-replied _ _ _ _ _ (sym c.fit.ensures ∙ c.if-not-fit.false) (Err _) r)

pub returns-then-not-fit : goal.returns-then-not-fit
returns-then-not-fit c = unfit _ _ _ _ _ (sym c.fit.ensures ∙ c.if-not-fit.true)

pub returns : goal.returns
returns c =
    let r = subst (Replies _ _ _ _) c.in_ok-reaction.was c.reply_to.ensures.replies in
    c.finish.ensures ∙ as-replied _ _ _ _ _ (sym c.fit.ensures ∙ c.if-not-fit.false) (Ok _) r
