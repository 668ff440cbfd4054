-- What a count says of its byte, and the counts of all bytes against the printed table.
use Prim.Native.Nat.{ℕ, zero, suc, ◌≤◌, ◌<◌}
use mathlib.Core.Path.{◌≡◌, refl, ap}
use mathlib.Core.Bool.{Bool, true, false, ◌&&◌, and-eq-true_iff, false≢true}
use mathlib.Core.List.{List, [], ◌∷◌}
use mathlib.Core.Option.{Option, none, some}
use native.Mathlib.Decide.{dec_lt}
use native.Mathlib.Omega.{arith}
use lib.Dec.{eqb}
use borrow.Author.Tests.{eqb-true, eqb-false, ne_eqb}
use Rattle.spec_sequence.specs.Commands.{Command, command_of, operandCount, partCount, in_range}
use Rattle.std.specs.Prelude.{Some, None}
use Rattle.commands.specs.Counts.{counted, operands_at, parts_at, count_of, is_leaf, operand_in_range}
use Rattle.commands.specs.Printed.{operands_printed, parts_printed}

-- ---- what a count says
pub of_command : (f : Command → ℕ) (o : Option Command) (n : ℕ) → Some n ≡ count_of (counted f o) → (c : Command) × ((o ≡ some c) × (n ≡ f c))
of_command f none n e = absurd (let x : ◌≡◌ {A = ℕ} 0 1 = cc in omega arith)
of_command f (some c) n e = (c, (refl, cc))

pub of_none : (f : Command → ℕ) (o : Option Command) → None ≡ count_of (counted f o) → o ≡ none
of_none f none e = refl
of_none f (some c) e = absurd (let x : ◌≡◌ {A = ℕ} 0 1 = cc in omega arith)

-- ---- whether a command has parts
pub without_parts : {o : Option Command} (c : Command) → o ≡ some c → is_leaf (counted partCount o) ≡ true → partCount c ≡ 0
without_parts c e h = eqb-true (partCount c) 0 (rw e at h)

pub with_parts : {o : Option Command} (c : Command) → o ≡ some c → is_leaf (counted partCount o) ≡ false → (partCount c ≡ 0 → ⊥)
with_parts c e h = eqb-false (partCount c) 0 (rw e at h)

pub some_leaf : (o : Option Command) → is_leaf (counted partCount o) ≡ true → (c : Command) × ((o ≡ some c) × (partCount c ≡ 0))
some_leaf none h = absurd (false≢true h)
some_leaf (some c) h = (c, (refl, eqb-true (partCount c) 0 h))

-- the range looks at the first operand alone
first_alone : (c : Command) (x : ℕ) (xs : List ℕ) → in_range c (x ∷ []) ≡ in_range c (x ∷ xs)
first_alone Command.nothing x xs = refl
first_alone Command.pause x xs = refl
first_alone Command.emit x xs = refl
first_alone Command.exit x xs = refl
first_alone Command.seq x xs = refl
first_alone Command.par x xs = refl
first_alone Command.loop x xs = refl
first_alone Command.present x xs = refl
first_alone Command.signal x xs = refl
first_alone Command.try x xs = refl
first_alone Command.setpause x xs = refl
first_alone Command.suspend x xs = refl
first_alone Command.deliver x xs = refl

pub operand_of : {o : Option Command} (c : Command) (x : ℕ) → o ≡ some c → 1 ≤ operandCount c → (xs : List ℕ)
    → operand_in_range o x ≡ in_range c (x ∷ xs)
operand_of c x e n xs = rw (e, ne_eqb (operandCount c) 0 (λ z. absurd (omega (arith, n, z)))) (first_alone c x xs)

-- ---- all bytes
abbrev same : Option ℕ → Option ℕ → Bool
same none none = true
same none (some n) = false
same (some m) none = false
same (some m) (some n) = eqb m n

same_is : (x y : Option ℕ) → same x y ≡ true → x ≡ y
same_is none none h = refl
same_is none (some n) h = absurd (false≢true h)
same_is (some m) none h = absurd (false≢true h)
same_is (some m) (some n) h = ap some (eqb-true m n h)

-- the test of f below n
abbrev every : (n : ℕ) → (ℕ → Bool) → Bool
every zero f = true
every (suc n) f = f n && every n f

every-is : (n : ℕ) (f : ℕ → Bool) → every n f ≡ true → (b : ℕ) → b < n → f b ≡ true
every-is zero f h b l = absurd (omega arith)
every-is (suc n) f h b l =
    let both = (and-eq-true_iff (f n) (every n f)).0 h in go both.0 (λ x. every-is n f both.1 b x) (dec_lt b n)
  where
    go : f n ≡ true → (b < n → f b ≡ true) → Dec (b < n) → f b ≡ true
    go e g (yes x) = g x
    go e g (no z) = let q : b ≡ n = omega (arith, z) in rw q e

abbrev agrees : ℕ → Bool
agrees b = same (operands_at b) (operands_printed b) && same (parts_at b) (parts_printed b)

-- THE TEST
tested : every 256 agrees ≡ true
unfolding command_of
tested = refl

pub as_printed : (b : ℕ) → b < 256 → (operands_at b ≡ operands_printed b) × (parts_at b ≡ parts_printed b)
as_printed b l =
    let h = (and-eq-true_iff (same (operands_at b) (operands_printed b)) (same (parts_at b) (parts_printed b))).0 (every-is 256 agrees tested b l) in
    (same_is (operands_at b) (operands_printed b) h.0, same_is (parts_at b) (parts_printed b) h.1)
