use mathlib.Core.Path.{refl, sym, ◌∙◌}
use native.Mathlib.Omega.{arith}
use lib.ListN.{get_or}
use borrow.Author.Tests.{lt-ltb}
use Rattle.spec_base.specs.Limits.{label_count, signal_count}
use Rattle.spec_sequence.specs.Commands.{Command}
use Rattle.layout.proofs.Leaves.{notes-none}
use Rattle.reading.proofs.Leaving.{ahead-bare, notable-ahead, ahead-noted}
use Rattle.reading.proofs.leaves.ahead.Goals as goal

pub returns-then-b-eq-NOTHING : goal.returns-then-b-eq-NOTHING
returns-then-b-eq-NOTHING c =
    ahead-bare c.args.depth c.args.at c.if-depth-eq0.false c.args.s.now c.args.notes.now Command.nothing c.if-b-eq-NOTHING.true refl refl (omega (arith, c.if-s-le1.false))

pub returns-then-x-lt-SIGNALS : goal.returns-then-x-lt-SIGNALS
returns-then-x-lt-SIGNALS c =
    ahead-noted c.args.depth c.args.at c.if-depth-eq0.false c.args.s.now c.args.notes.now Command.emit c.if-b-eq-EMIT.true refl refl
    (omega (arith, c.if-s-le1.false)) (λ xs. sym (lt-ltb (get_or c.args.s.now 1 0) signal_count c.if-x-lt-SIGNALS.true)) _ (notes-none _ _ _ (λ e. absurd (omega (arith, e, c.if-b-eq-EMIT.true))) (λ e. absurd (omega (arith, e, c.if-b-eq-EMIT.true))) (λ e. absurd (omega (arith, e, c.if-b-eq-EMIT.true))))

pub returns-then-is_exit : goal.returns-then-is_exit
returns-then-is_exit c =
    ahead-noted c.args.depth c.args.at c.if-depth-eq0.false c.args.s.now c.args.notes.now Command.exit c.if-b-eq-EXIT.true refl refl
    (omega (arith, c.if-s-le1.false)) (λ xs. sym c.if-is_exit.true ∙ c.is_exit.ensures xs) _ (notes-none _ _ _ (λ e. absurd (omega (arith, e, c.if-b-eq-EXIT.true))) (λ e. absurd (omega (arith, e, c.if-b-eq-EXIT.true))) (λ e. absurd (omega (arith, e, c.if-b-eq-EXIT.true))))

pub leaf-requires : goal.leaf-requires
leaf-requires c =
    notable-ahead c.args.depth c.args.at c.if-depth-eq0.false c.args.s.now c.args.notes.now Command.pause c.if-b-eq-PAUSE.true refl refl
    (omega (arith, c.if-s-le1.false)) (λ xs. sym (lt-ltb (get_or c.args.s.now 1 0) label_count (omega (arith, c.if-x-ge-LABELS.false)))) c.requires

pub returns-then-b-eq-PAUSE : goal.returns-then-b-eq-PAUSE
returns-then-b-eq-PAUSE c =
    ahead-noted c.args.depth c.args.at c.if-depth-eq0.false c.args.s.now c.args.notes.now Command.pause c.if-b-eq-PAUSE.true refl refl
    (omega (arith, c.if-s-le1.false)) (λ xs. sym (lt-ltb (get_or c.args.s.now 1 0) label_count (omega (arith, c.if-x-ge-LABELS.false)))) _ c.leaf.ensures

pub leaf-requires-then-b-eq-SETPAUSE : goal.leaf-requires-then-b-eq-SETPAUSE
leaf-requires-then-b-eq-SETPAUSE c =
    notable-ahead c.args.depth c.args.at c.if-depth-eq0.false c.args.s.now c.args.notes.now Command.setpause c.if-b-eq-SETPAUSE.true refl refl
    (omega (arith, c.if-s-le1.false)) (λ xs. sym (lt-ltb (get_or c.args.s.now 1 0) label_count (omega (arith, c.if-x-ge-LABELS.false)))) c.requires

pub returns-then-b-eq-SETPAUSE : goal.returns-then-b-eq-SETPAUSE
returns-then-b-eq-SETPAUSE c =
    ahead-noted c.args.depth c.args.at c.if-depth-eq0.false c.args.s.now c.args.notes.now Command.setpause c.if-b-eq-SETPAUSE.true refl refl
    (omega (arith, c.if-s-le1.false)) (λ xs. sym (lt-ltb (get_or c.args.s.now 1 0) label_count (omega (arith, c.if-x-ge-LABELS.false)))) _ c.leaf-then-b-eq-SETPAUSE.ensures
