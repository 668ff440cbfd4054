use mathlib.Core.Path.{sym, ◌∙◌}
use native.Mathlib.Omega.{arith}
use borrow.Author.Rules.{rules}
use Rattle.sets.proofs.Lowest.{remove_less}
use Rattle.program.specs.Program.{term_at}
use Rattle.program.proofs.Steps.{none_left, found, one_more, one-more-once}
use Rattle.program.proofs.+react.Goals as goal

pub returns-then-is_empty : goal.returns-then-is_empty
returns-then-is_empty t c p l f =
    let a = c.args in
    none_left f a.read_back (term_at a.origin p) a.input (sym c.is_empty.ensures ∙ c.if-is_empty.true) (c.inside.ensures p l f)

pub react-p-requires : goal.react-p-requires
react-p-requires t c =
    let a = c.args in
    let less = remove_less _ a.read_back
    (found a.read_back _ (search rules) (sym c.is_empty.ensures ∙ c.if-is_empty.false) c.lowest-x.ensures) in
    (omega (arith, less, c.decreases, c.without-others.ensures), c.requires)

pub react-q-requires : goal.react-q-requires
react-q-requires t c =
    let a = c.args in
    let less = remove_less _ a.read_back
    (found a.read_back _ (search rules) (sym c.is_empty.ensures ∙ c.if-is_empty.false) c.lowest-x.ensures) in
    (omega (arith, less, c.decreases, c.without-others.ensures), c.requires)

pub returns-then-member : goal.returns-then-member
returns-then-member t c p l f =
    let a = c.args in
    one_more a.read_back _ (omega (arith, c.ranges.read_back)) (sym c.is_empty.ensures ∙ c.if-is_empty.false) c.lowest-x.ensures
    f (term_at a.origin p) a.input c.without-others.ensures c.without-without.ensures (c.react-p.ensures p l f)
    c.with-with.ensures (c.react-q.ensures p l f) c.member-then-member.ensures c.select.ensures (c.in_read_back.ensures f)

pub returns-else-member : goal.returns-else-member
returns-else-member t c p l f =
    let a = c.args in
    one-more-once a.read_back _ (omega (arith, c.ranges.read_back)) (sym c.is_empty.ensures ∙ c.if-is_empty.false) c.lowest-x.ensures
    f (term_at a.origin p) a.input c.without-others.ensures c.without-without.ensures (c.react-p.ensures p l f)
    (sym c.member.ensures ∙ c.if-member.false) (c.in_read_back_once.ensures f _)
