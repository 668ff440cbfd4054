use mathlib.Core.Path.{ap, ◌∙◌}
use Prim.Native.Nat.{ℕ}
use lib.Bits.{bit_and, bit_xor}
use borrow.Author.Rules.{rules}
use Rattle.sets.proofs.Masks.{masked_out}
use Rattle.sets.proofs.Widths.{difference-only}
use Rattle.signals.proofs.without.Goals as goal

pub returns : goal.returns
returns c =
    let s = c.args.s in
    masked_out 32 s c.single.result (search rules) (search rules)
    ∙ ap (λ (x : ℕ). bit_xor s (bit_and s x)) c.single.ensures
    ∙ difference-only 32 _ s (search rules)
