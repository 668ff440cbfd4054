-- The check on the examples of 01 ('Turned down', rows 2 to 10; 'Just inside'; 'Just outside'), row 3 by 02, and on the order of
-- its checks, with no read-back set and with one.
use mathlib.Core.Path.{◌≡◌, refl}
use mathlib.Core.List.{List, [], ◌∷◌, ◌++◌, map, flatten}
use Prim.Native.Nat.{ℕ}
use lib.ListN.{replicate}
use lib.Ieee.{of_bits, of_fields, odd, in_unsigned, whole}
use Rattle.spec_base.specs.Sets.{member, none, only, join, subset, disjoint, members_from}
use Rattle.spec_base.specs.Bytes.{le_number}
use Rattle.spec_language.specs.ReadBack.{declared_by}
use Rattle.spec_language.specs.LabelTests.{labels_of, every_label, distinct, before, well_formed}
use Rattle.spec_sequence.specs.Commands.{command_of}
use Rattle.spec_sequence.specs.Reader.{front, read}
use Rattle.spec_language.specs.Sizes.{signal_nesting}
use Rattle.spec_sequence.specs.Check.{checked, check_of}

-- n times
abbrev times : ℕ → List ℕ → List ℕ
times n bs = flatten (replicate n bs)

-- n loops, and n signals, around what follows
abbrev loops : ℕ → List ℕ → List ℕ
loops n bs = replicate n 0x06 ++ bs

abbrev signals : ℕ → List ℕ → List ℕ
signals n bs = times n (0x08 ∷ 0x00 ∷ []) ++ bs

-- a statement of 33 · n + 1 bytes
abbrev long : ℕ → List ℕ
long n = times n (0x04 ∷ times 15 (0x04 ∷ 0x00 ∷ []) ++ (0x02 ∷ 0x00 ∷ [])) ++ (0x00 ∷ [])

abbrev table : List (List ℕ × ℕ)
table =
    -- the examples of the rows
    ([], 2)
    ∷ (0x0D ∷ [], 3)
    ∷ (0x02 ∷ [], 4)
    ∷ (0x02 ∷ 0x20 ∷ [], 5)
    ∷ (loops 64 (0x00 ∷ []), 6)
    ∷ (0x00 ∷ 0x00 ∷ [], 7)
    ∷ (0x05 ∷ 0x01 ∷ 0x00 ∷ 0x01 ∷ 0x00 ∷ [], 8)
    ∷ (0x0A ∷ 0x00 ∷ [], 9)
    ∷ (0x04 ∷ 0x01 ∷ 0x01 ∷ 0x04 ∷ 0x05 ∷ 0x0A ∷ 0x02 ∷ 0x01 ∷ 0x03 ∷ 0x01 ∷ 0x02 ∷ [], 10)
    -- just inside: 1,024 bytes, the greatest operands, six signals, depth 64
    ∷ (long 31, 0)
    ∷ (0x02 ∷ 0x1F ∷ [], 0)
    ∷ (0x01 ∷ 0x7F ∷ [], 0)
    ∷ (0x05 ∷ 0x01 ∷ 0x7F ∷ 0x01 ∷ 0x40 ∷ [], 0)
    ∷ (0x03 ∷ 0x0F ∷ [], 0)
    ∷ (signals 6 (0x00 ∷ []), 0)
    ∷ (loops 63 (0x00 ∷ []), 0)
    -- a suspend: its greatest operand, depth 64
    ∷ (0x0B ∷ 0x1F ∷ 0x00 ∷ [], 0)
    ∷ (loops 62 (0x0B ∷ 0x00 ∷ 0x00 ∷ []), 0)
    -- just outside
    ∷ (long 31 ++ (0x00 ∷ []), 2)
    ∷ (0x01 ∷ 0x80 ∷ [], 5)
    ∷ (0x0A ∷ 0x80 ∷ [], 5)
    ∷ (0x03 ∷ 0x00 ∷ [], 5)
    ∷ (0x03 ∷ 0x10 ∷ [], 5)
    ∷ (0x0B ∷ [], 4)
    ∷ (0x0B ∷ 0x00 ∷ [], 4)
    ∷ (0x0B ∷ 0x20 ∷ 0x00 ∷ [], 5)
    ∷ (loops 63 (0x0B ∷ 0x00 ∷ 0x00 ∷ []), 6)
    -- a missing statement is found where it would begin, and nothing else is checked there
    ∷ (loops 64 [], 4)
    ∷ (loops 65 [], 6)
    -- 3 to 6 in that order at one command
    ∷ (loops 64 (0x0D ∷ []), 3)
    ∷ (loops 64 (0x01 ∷ []), 4)
    ∷ (loops 64 (0x01 ∷ 0x80 ∷ []), 5)
    ∷ (loops 64 (0x01 ∷ 0x00 ∷ []), 6)
    ∷ (signals 7 [], 6)
    ∷ (0x07 ∷ 0x20 ∷ [], 5)
    -- litres: 1, and 16,777,216 on the greatest signal
    ∷ (0x0C ∷ 0x00 ∷ 0x00 ∷ 0x00 ∷ 0x80 ∷ 0x3F ∷ [], 0)
    ∷ (0x0C ∷ 0x1F ∷ 0x00 ∷ 0x00 ∷ 0x80 ∷ 0x4B ∷ [], 0)
    -- minus zero, 1.5, minus 1, 16,777,218, infinity, a NaN, the least of all
    ∷ (0x0C ∷ 0x00 ∷ 0x00 ∷ 0x00 ∷ 0x00 ∷ 0x80 ∷ [], 18)
    ∷ (0x0C ∷ 0x00 ∷ 0x00 ∷ 0x00 ∷ 0xC0 ∷ 0x3F ∷ [], 18)
    ∷ (0x0C ∷ 0x00 ∷ 0x00 ∷ 0x00 ∷ 0x80 ∷ 0xBF ∷ [], 18)
    ∷ (0x0C ∷ 0x00 ∷ 0x01 ∷ 0x00 ∷ 0x80 ∷ 0x4B ∷ [], 18)
    ∷ (0x0C ∷ 0x00 ∷ 0x00 ∷ 0x00 ∷ 0x80 ∷ 0x7F ∷ [], 18)
    ∷ (0x0C ∷ 0x00 ∷ 0x00 ∷ 0x00 ∷ 0xC0 ∷ 0x7F ∷ [], 18)
    ∷ (0x0C ∷ 0x00 ∷ 0x01 ∷ 0x00 ∷ 0x00 ∷ 0x00 ∷ [], 18)
    -- 4, 5, 18 and 6 in that order at one command
    ∷ (0x0C ∷ 0x20 ∷ 0x00 ∷ 0x00 ∷ 0x00 ∷ [], 4)
    ∷ (0x0C ∷ 0x20 ∷ 0x00 ∷ 0x00 ∷ 0x00 ∷ 0x80 ∷ [], 5)
    ∷ (loops 64 (0x0C ∷ 0x00 ∷ 0x00 ∷ 0x00 ∷ 0x00 ∷ 0x80 ∷ []), 18)
    ∷ (loops 64 (0x0C ∷ 0x00 ∷ 0x00 ∷ 0x00 ∷ 0x80 ∷ 0x3F ∷ []), 6)
    -- command by command from the left; what follows the statement is not read as commands; 2 before all
    ∷ (0x04 ∷ 0x0D ∷ [], 3)
    ∷ (0x00 ∷ 0x0D ∷ [], 7)
    ∷ (replicate 1025 0x0D, 2)
    ∷ []

-- 02, item 5: with a read-back set. More than six signals, around nothing and around one; then the order of the checks: 3, 4 and 5
-- of the sequence's own, 2 before them, and 6 before 7 and 8
abbrev read_back_table : List (List ℕ × ℕ × ℕ)
read_back_table =
    (0x00 ∷ [], 0x3F, 0)
    ∷ (0x00 ∷ [], 0x7F, 6)
    ∷ (0x00 ∷ [], 0x80000000, 0)
    ∷ (signals 1 (0x00 ∷ []), 0x1F, 0)
    ∷ (signals 1 (0x00 ∷ []), 0x3F, 6)
    ∷ (signals 6 (0x00 ∷ []), 0x00, 0)
    ∷ (signals 6 (0x00 ∷ []), 0x01, 6)
    ∷ (0x05 ∷ signals 1 (0x00 ∷ []) ++ signals 2 (0x00 ∷ []), 0x0F, 0)
    ∷ (0x05 ∷ signals 1 (0x00 ∷ []) ++ signals 2 (0x00 ∷ []), 0x1F, 6)
    ∷ (loops 63 (0x00 ∷ []), 0x3F, 0)
    ∷ (signals 1 (0x0D ∷ []), 0x3F, 3)
    ∷ (signals 1 (0x02 ∷ []), 0x3F, 4)
    ∷ (signals 1 (0x02 ∷ 0x20 ∷ []), 0x3F, 5)
    ∷ (signals 7 [], 0x7F, 6)
    ∷ (replicate 1025 0x00, 0x7F, 2)
    ∷ (signals 1 (0x00 ∷ 0x00 ∷ []), 0x3F, 6)
    ∷ (signals 1 (0x05 ∷ 0x01 ∷ 0x00 ∷ 0x01 ∷ 0x00 ∷ []), 0x3F, 6)
    ∷ []

-- THE TABLES
pub examples : (map (λ (x : List ℕ × ℕ). check_of x.0 none) table ≡ map (λ (x : List ℕ × ℕ). x.1) table)
    × (map (λ (x : List ℕ × ℕ × ℕ). check_of x.0 x.1) read_back_table ≡ map (λ (x : List ℕ × ℕ × ℕ). x.2) read_back_table)
unfolding of_bits of_fields odd in_unsigned whole le_number check_of checked read front command_of signal_nesting declared_by members_from flatten distinct well_formed every_label before labels_of subset disjoint member none only join
examples = (refl, refl)
