use mathlib.Core.Path.{sym, subst}
use Prim.Native.Nat.{ℕ}
use Rattle.spec_base.specs.Sets.{Disjoint}
use Rattle.box_previews.specs.Standing.{answers_at}
use Rattle.box_previews.proofs.Splitting.{known_apart, known_findings}
use Rattle.box_previews.proofs.gather.Goals as goal

pub fill-requires : goal.fill-requires
fill-requires c =
    record { stands = c.requires; disjoint = subst (λ (k : ℕ). Disjoint k c.args.unknown) (sym c.difference-known.ensures) (known_apart c.args.input c.args.unknown); reacted_without_litres = c.react_without_litres-r.ensures }

pub returns : goal.returns
returns c p l =
    let a = c.args in
    known_findings (answers_at a.origin p a.read_back) a.input a.unknown c.difference-known.ensures (c.fill.ensures p l)
