-- The ceiling from bytes, by computation.
use mathlib.Core.Path.{◌≡◌, refl}
use mathlib.Core.List.{List, [], ◌∷◌, map}
use Prim.Native.Nat.{ℕ}
use Rattle.spec_base.specs.Sets.{member, none, only, join, subset, disjoint, members_from}
use Rattle.spec_language.specs.ReadBack.{declared_by}
use Rattle.spec_language.specs.LabelTests.{labels_of, every_label, distinct, before, well_formed}
use Rattle.spec_language.specs.Sizes.{commands, loop_nesting, signal_nesting}
use Rattle.spec_language.specs.Ceiling.{ceiling}
use Rattle.spec_sequence.specs.Commands.{command_of}
use Rattle.spec_sequence.specs.Reader.{front, read}
use Rattle.spec_sequence.specs.Check.{checked}
use Rattle.spec_sequence.specs.Ceilings.{ceiling_of}

-- bytes, a read-back set, and the ceiling
abbrev table : List (List ℕ × ℕ × ℕ)
table =
    (0x06 ∷ 0x01 ∷ 0x00 ∷ [], 0, 4)
    ∷ (0x06 ∷ 0x01 ∷ 0x00 ∷ [], 5, 32)
    ∷ (0x04 ∷ 0x08 ∷ 0x00 ∷ 0x00 ∷ 0x06 ∷ 0x06 ∷ 0x01 ∷ 0x00 ∷ [], 0, 36)
    ∷ (0x06 ∷ 0x01 ∷ [], 0, 0)
    ∷ (0x06 ∷ 0x01 ∷ 0x00 ∷ [], 127, 0)
    ∷ []

examples : map (λ (x : List ℕ × ℕ × ℕ). ceiling_of x.1 (checked x.0 x.1)) table ≡ map (λ (x : List ℕ × ℕ × ℕ). x.2) table
unfolding checked read front command_of ceiling commands loop_nesting signal_nesting declared_by members_from distinct well_formed every_label before labels_of subset disjoint member none only join
examples = refl
