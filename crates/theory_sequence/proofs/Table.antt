-- Laws of the table of commands: the byte of a command, and a rule on bytes shown for the bytes of the table.
use mathlib.Core.Path.{◌≡◌, refl, sym, ap, ◌∙◌}
use mathlib.Core.Bool.{true}
use mathlib.Core.Option.{none, some}
use mathlib.Core.List.{List}
use Prim.Native.Nat.{ℕ, zero, suc, ◌+◌, ◌-◌, ◌≤◌, ◌<◌}
use lib.ListN.{get_or-eq_default}
use native.Mathlib.Decide.{dec_lt}
use native.Mathlib.Omega.{arith}
use Rattle.spec_base.specs.Limits.{last_command}
use Rattle.spec_sequence.specs.Commands.{Command, table, command_of, operandCount, partCount, in_range, litres_fit, declares}

-- P holds of the n numbers from k on
abbrev pub All : (ℕ → Type 0) → (k n : ℕ) → Type 0
All P k zero = Unit {0}
All P k (suc n) = P k × All P (suc k) n

pub between : (P : ℕ → Type 0) (k n : ℕ) → All P k n → (b : ℕ) → k ≤ b → b < k + n → P b
between P k zero a b l h = absurd (omega arith)
between P k (suc n) a b l h = go (λ p. between P (suc k) n a.1 b p (omega arith)) (dec_lt k b)
  where
    go : (k < b → P b) → Dec (k < b) → P b
    go f (yes p) = f p
    go f (no z) = let e : k ≡ b = omega (arith, z) in rw e at a.0

pub above : (b : ℕ) → last_command < b → command_of b ≡ none
unfolding command_of
above b h = get_or-eq_default table none {n = b} (omega arith)

-- ---- the command of a byte
-- a byte up to the last names a command
pub named : (b : ℕ) → b ≤ last_command → (c : Command) × (command_of b ≡ some c)
unfolding command_of
named b l =
    between (λ (b : ℕ). (c : Command) × (command_of b ≡ some c)) 0 13 (
      (Command.nothing, refl),
      (
        (Command.pause, refl),
        (
          (Command.emit, refl),
          (
            (Command.exit, refl),
            (
              (Command.seq, refl),
              (
                (Command.par, refl),
                ((Command.loop, refl), ((Command.present, refl), ((Command.signal, refl), ((Command.try, refl), ((Command.setpause, refl), ((Command.suspend, refl), ((Command.deliver, refl), tt))))))),
              ),
            ),
          ),
        ),
      ),
    )
    b (omega arith) (omega arith)

pub unnamed : (b : ℕ) → command_of b ≡ none → last_command < b
unnamed b e = go (dec_lt last_command b)
  where
    go : Dec (last_command < b) → last_command < b
    go (yes p) = p
    go (no z) = absurd (let x : ◌≡◌ {A = ℕ} 0 1 = cc (named b (omega (arith, z))).1 in omega arith)

abbrev pub byte_of : Command → ℕ
byte_of Command.nothing = 0
byte_of Command.pause = 1
byte_of Command.emit = 2
byte_of Command.exit = 3
byte_of Command.seq = 4
byte_of Command.par = 5
byte_of Command.loop = 6
byte_of Command.present = 7
byte_of Command.signal = 8
byte_of Command.try = 9
byte_of Command.setpause = 10
byte_of Command.suspend = 11
byte_of Command.deliver = 12

pub command_of_byte : (c : Command) → command_of (byte_of c) ≡ some c
unfolding command_of
command_of_byte Command.nothing = refl
command_of_byte Command.pause = refl
command_of_byte Command.emit = refl
command_of_byte Command.exit = refl
command_of_byte Command.seq = refl
command_of_byte Command.par = refl
command_of_byte Command.loop = refl
command_of_byte Command.present = refl
command_of_byte Command.signal = refl
command_of_byte Command.try = refl
command_of_byte Command.setpause = refl
command_of_byte Command.suspend = refl
command_of_byte Command.deliver = refl

-- f at the command that a byte names
pub valued : (f : Command → ℕ) {k : Command} (c : Command) → some k ≡ some c → f k ≡ f c
valued f {k} c e = let q : k ≡ c = cc in ap f q

pub last_byte : (b : ℕ) (c : Command) → command_of b ≡ some c → b ≤ last_command
last_byte b c e = go (dec_lt last_command b)
  where
    go : Dec (last_command < b) → b ≤ last_command
    go (yes p) = absurd (let z : ◌≡◌ {A = ℕ} 0 1 = cc (above b p) in omega arith)
    go (no n) = omega (arith, n)

-- a rule on bytes and their commands, shown for the n bytes from k on
pub by_bytes : (P : ℕ → Command → Type 0) (k n : ℕ) → All (λ b. (c : Command) → command_of b ≡ some c → P b c) k n
    → (b : ℕ) (c : Command) → command_of b ≡ some c → k ≤ b → b < k + n → P b c
by_bytes P k n a b c e l h = between (λ (b : ℕ). (c : Command) → command_of b ≡ some c → P b c) k n a b l h c e

pub byte_is : (b : ℕ) (c : Command) → command_of b ≡ some c → b ≡ byte_of c
unfolding command_of
byte_is b c e =
    by_bytes (λ (b : ℕ) (c : Command). b ≡ byte_of c) 0 13
    (is, (is, (is, (is, (is, (is, (is, (is, (is, (is, (is, (is, (is, tt)))))))))))))
    b c e (omega arith) (omega (arith, last_byte b c e))
  where
    is : {k : Command} (c : Command) → some k ≡ some c → byte_of k ≡ byte_of c
    is c e = valued byte_of c e

-- the command of a byte that is that of d is d
pub command_at : (b : ℕ) (c d : Command) → command_of b ≡ some c → b ≡ byte_of d → c ≡ d
command_at b c d e z = let h : some c ≡ some d = sym e ∙ ap command_of z ∙ command_of_byte d in cc

-- ---- what is shown of the commands without parts, with one and with two
module _ (P : Command → Type 0) where
  pub leaves : P Command.nothing → P Command.pause → P Command.emit → P Command.exit → P Command.setpause → P Command.deliver → (c : Command) → partCount c ≡ 0 → P c
  leaves n p e x s v Command.nothing z = n
  leaves n p e x s v Command.pause z = p
  leaves n p e x s v Command.emit z = e
  leaves n p e x s v Command.exit z = x
  leaves n p e x s v Command.seq z = absurd (omega arith)
  leaves n p e x s v Command.par z = absurd (omega arith)
  leaves n p e x s v Command.loop z = absurd (omega arith)
  leaves n p e x s v Command.present z = absurd (omega arith)
  leaves n p e x s v Command.signal z = absurd (omega arith)
  leaves n p e x s v Command.try z = absurd (omega arith)
  leaves n p e x s v Command.setpause z = s
  leaves n p e x s v Command.suspend z = absurd (omega arith)
  leaves n p e x s v Command.deliver z = v

  pub ones : P Command.loop → P Command.signal → P Command.try → P Command.suspend → (c : Command) → partCount c ≡ 1 → P c
  ones l s t f Command.nothing z = absurd (omega arith)
  ones l s t f Command.pause z = absurd (omega arith)
  ones l s t f Command.emit z = absurd (omega arith)
  ones l s t f Command.exit z = absurd (omega arith)
  ones l s t f Command.seq z = absurd (omega arith)
  ones l s t f Command.par z = absurd (omega arith)
  ones l s t f Command.loop z = l
  ones l s t f Command.present z = absurd (omega arith)
  ones l s t f Command.signal z = s
  ones l s t f Command.try z = t
  ones l s t f Command.setpause z = absurd (omega arith)
  ones l s t f Command.suspend z = f
  ones l s t f Command.deliver z = absurd (omega arith)

  pub twos : P Command.seq → P Command.par → P Command.present → (c : Command) → partCount c ≡ 2 → P c
  twos s p t Command.nothing z = absurd (omega arith)
  twos s p t Command.pause z = absurd (omega arith)
  twos s p t Command.emit z = absurd (omega arith)
  twos s p t Command.exit z = absurd (omega arith)
  twos s p t Command.seq z = s
  twos s p t Command.par z = p
  twos s p t Command.loop z = absurd (omega arith)
  twos s p t Command.present z = t
  twos s p t Command.signal z = absurd (omega arith)
  twos s p t Command.try z = absurd (omega arith)
  twos s p t Command.setpause z = absurd (omega arith)
  twos s p t Command.suspend z = absurd (omega arith)
  twos s p t Command.deliver z = absurd (omega arith)

-- ---- the counts of operand bytes and parts
counts : (c : Command) → (operandCount c ≤ 5) × (partCount c ≤ 2)
counts Command.nothing = omega arith
counts Command.pause = omega arith
counts Command.emit = omega arith
counts Command.exit = omega arith
counts Command.seq = omega arith
counts Command.par = omega arith
counts Command.loop = omega arith
counts Command.present = omega arith
counts Command.signal = omega arith
counts Command.try = omega arith
counts Command.setpause = omega arith
counts Command.suspend = omega arith
counts Command.deliver = omega arith

pub at_most-five : (c : Command) → operandCount c ≤ 5
at_most-five c = (counts c).0

pub at_most_two : (c : Command) → partCount c ≤ 2
at_most_two c = (counts c).1

-- a command without operands has no range to keep
pub free : (c : Command) (xs : List ℕ) → operandCount c ≡ 0 → in_range c xs ≡ true
free Command.nothing xs e = refl
free Command.pause xs e = absurd (omega arith)
free Command.emit xs e = absurd (omega arith)
free Command.exit xs e = absurd (omega arith)
free Command.seq xs e = refl
free Command.par xs e = refl
free Command.loop xs e = refl
free Command.present xs e = absurd (omega arith)
free Command.signal xs e = absurd (omega arith)
free Command.try xs e = refl
free Command.setpause xs e = absurd (omega arith)
free Command.suspend xs e = absurd (omega arith)
free Command.deliver xs e = absurd (omega arith)

-- a command of at most one operand byte has no litres
pub no_amount : (c : Command) (xs : List ℕ) → operandCount c ≤ 1 → litres_fit c xs ≡ true
no_amount Command.nothing xs e = refl
no_amount Command.pause xs e = refl
no_amount Command.emit xs e = refl
no_amount Command.exit xs e = refl
no_amount Command.seq xs e = refl
no_amount Command.par xs e = refl
no_amount Command.loop xs e = refl
no_amount Command.present xs e = refl
no_amount Command.signal xs e = refl
no_amount Command.try xs e = refl
no_amount Command.setpause xs e = refl
no_amount Command.suspend xs e = refl
no_amount Command.deliver xs e = absurd (omega arith)

-- a signal alone declares one
pub undeclared : (c : Command) → (byte_of c ≡ 8 → ⊥) → declares c ≡ 0
undeclared Command.nothing n = refl
undeclared Command.pause n = refl
undeclared Command.emit n = refl
undeclared Command.exit n = refl
undeclared Command.seq n = refl
undeclared Command.par n = refl
undeclared Command.loop n = refl
undeclared Command.present n = refl
undeclared Command.signal n = absurd (n refl)
undeclared Command.try n = refl
undeclared Command.setpause n = refl
undeclared Command.suspend n = refl
undeclared Command.deliver n = refl

-- only 0C has more than one operand byte
pub many : (c : Command) → 2 ≤ operandCount c → c ≡ Command.deliver
many Command.nothing h = absurd (omega arith)
many Command.pause h = absurd (omega arith)
many Command.emit h = absurd (omega arith)
many Command.exit h = absurd (omega arith)
many Command.seq h = absurd (omega arith)
many Command.par h = absurd (omega arith)
many Command.loop h = absurd (omega arith)
many Command.present h = absurd (omega arith)
many Command.signal h = absurd (omega arith)
many Command.try h = absurd (omega arith)
many Command.setpause h = absurd (omega arith)
many Command.suspend h = absurd (omega arith)
many Command.deliver h = refl
