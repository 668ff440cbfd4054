-- What the traversal answers for a command without parts.
use Prim.Native.Nat.{ℕ, ◌+◌, ◌≤◌, ◌<◌}
use mathlib.Core.Path.{◌≡◌, refl, ap, ◌∙◌}
use mathlib.Core.Bool.{true}
use mathlib.Core.Option.{some}
use mathlib.Core.List.{List, ◌∷◌}
use native.Mathlib.Omega.{arith}
use lib.ListN.{length, get_or}
use Rattle.std.specs.Prelude.{Some}
use Rattle.spec_sequence.specs.Commands.{Command, command_of, operandCount, partCount, in_range}
use Rattle.theory_sequence.proofs.Table.{byte_of, command_of_byte, command_at}
use Rattle.commands.specs.Counts.{parts_at, is_leaf}
use Rattle.commands.proofs.Counts.{without_parts}
use Rattle.layout.specs.Walk.{Notable, LeafNoted, Fitting, Ahead}
use Rattle.layout.proofs.Walk.{Heading, heading, byte, can-note, read-bare, read-noted}
use Rattle.commands.proofs.Fronting.{bare, one}

-- a byte of a command without parts
pub whole : (b : ℕ) (s : List ℕ) {w : ℕ} → b ≡ get_or s 0 0 → is_leaf (parts_at b) ≡ true → (h : Heading s w) → partCount h.of ≡ 0
whole b s e l h = without_parts h.of (ap command_of e ∙ byte h) l

-- the command c at the front
module _ (d a : ℕ) (level : d ≡ 0 → ⊥) (s m : List ℕ) (c : Command) (e : get_or s 0 0 ≡ byte_of c) (z : partCount c ≡ 0) where
  here : command_of (get_or s 0 0) ≡ some c
  here = ap command_of e ∙ command_of_byte c

  no-parts : {w : ℕ} (h : Heading s w) → partCount h.of ≡ 0
  no-parts h = ap partCount (command_at (get_or s 0 0) h.of c (byte h) e) ∙ z

  pub ahead-bare : operandCount c ≡ 0 → 0 < length s → Ahead d a s m m (Some (a + 1))
  ahead-bare o l =
      let h = heading s 1 (bare s c here o l) (omega arith) in read-bare h (no-parts h) d a level m refl

  module _ (o : operandCount c ≡ 1) (l : 2 ≤ length s) (ranged : (xs : List ℕ) → true ≡ in_range c (get_or s 1 0 ∷ xs)) where
    head : Heading s 2
    head = heading s 2 (one s c here (omega arith) (omega arith) ranged o refl) (omega arith)

    pub notable-ahead : Fitting a s m → Notable (get_or s 0 0) (get_or s 1 0) m
    notable-ahead f = can-note head a m f

    pub ahead-noted : (n : List ℕ) → LeafNoted (get_or s 0 0) (get_or s 1 0) m n → Ahead d a s m n (Some (a + 2))
    ahead-noted n i = read-noted head (no-parts head) d a level m (omega arith) n i
