-- The shapes of commands with parts: f stands at offset a, its own bytes are h, and what holds of it by that of its parts.
use mathlib.Core.Path.{◌≡◌, refl}
use mathlib.Core.Logic.{◌↔◌}
use mathlib.Core.List.{List, [], ◌∷◌, ◌++◌}
use Prim.Native.Nat.{ℕ, ◌+◌, ◌<◌, max}
use native.Mathlib.Omega.{arith}
use lib.ListN.{length}
use Rattle.spec_language.specs.Statement.{local, Statement, seq, par, loop, present, signal, try, suspend}
use Rattle.spec_base.specs.Limits.{signal_count}
use Rattle.spec_language.specs.Sizes.{signal_nesting, depth_of}
use Rattle.spec_sequence.specs.Writer.{bytes_of, size, Ranged, PlacedAt}

pub record OnePart (h : List ℕ) (a declared : ℕ) (f : Statement → Statement) : Type 0 where
  pub bytes : (p : Statement) → bytes_of (f p) ≡ h ++ bytes_of p
  pub depth : (p : Statement) → depth_of (f p) ≡ 1 + depth_of p
  pub signals : (p : Statement) → signal_nesting (f p) ≡ declared + signal_nesting p
  pub ranged : (p : Statement) → Ranged p ↔ Ranged (f p)
  pub placed : (p : Statement) → PlacedAt (a + length h) p ↔ PlacedAt a (f p)

pub record TwoParts (h : List ℕ) (a : ℕ) (f : Statement → Statement → Statement) : Type 0 where
  pub bytes : (p q : Statement) → bytes_of (f p q) ≡ h ++ (bytes_of p ++ bytes_of q)
  pub depth : (p q : Statement) → depth_of (f p q) ≡ 1 + max (depth_of p) (depth_of q)
  pub signals : (p q : Statement) → signal_nesting (f p q) ≡ max (signal_nesting p) (signal_nesting q)
  pub ranged : (p q : Statement) → (Ranged p × Ranged q) ↔ Ranged (f p q)
  pub placed : (p q : Statement) → (PlacedAt (a + length h) p × PlacedAt (a + (length h + size p)) q) ↔ PlacedAt a (f p q)

pub loop_shape : (a : ℕ) → OnePart (6 ∷ []) a 0 (loop a)
unfolding bytes_of depth_of signal_nesting
loop_shape a =
    record { bytes = λ p. refl; depth = λ p. refl; signals = λ p. omega arith; ranged = λ p. (λ r. r, λ r. r); placed = λ p. (λ s. (refl, s), λ s. s.1) }

pub try_shape : (a : ℕ) → OnePart (9 ∷ []) a 0 try
unfolding bytes_of depth_of signal_nesting
try_shape a =
    record { bytes = λ p. refl; depth = λ p. refl; signals = λ p. omega arith; ranged = λ p. (λ r. r, λ r. r); placed = λ p. (λ s. s, λ s. s) }

pub signal_shape : (a x : ℕ) → x < signal_count → OnePart (8 ∷ x ∷ []) a 1 (signal local a x)
unfolding bytes_of depth_of signal_nesting
signal_shape a x i =
    record { bytes = λ p. refl; depth = λ p. refl; signals = λ p. refl; ranged = λ p. (λ r. (refl, i, r), λ r. r.2); placed = λ p. (λ s. (refl, s), λ s. s.1) }

pub suspend_shape : (a x : ℕ) → x < signal_count → OnePart (11 ∷ x ∷ []) a 0 (suspend x)
unfolding bytes_of depth_of signal_nesting
suspend_shape a x i =
    record { bytes = λ p. refl; depth = λ p. refl; signals = λ p. omega arith; ranged = λ p. (λ r. (i, r), λ r. r.1); placed = λ p. (λ s. s, λ s. s) }

pub seq_shape : (a : ℕ) → TwoParts (4 ∷ []) a seq
unfolding bytes_of depth_of signal_nesting
seq_shape a =
    record { bytes = λ p q. refl; depth = λ p q. refl; signals = λ p q. refl; ranged = λ p q. (λ r. r, λ r. r); placed = λ p q. (λ s. s, λ s. s) }

pub par_shape : (a : ℕ) → TwoParts (5 ∷ []) a par
unfolding bytes_of depth_of signal_nesting
par_shape a =
    record { bytes = λ p q. refl; depth = λ p q. refl; signals = λ p q. refl; ranged = λ p q. (λ r. r, λ r. r); placed = λ p q. (λ s. s, λ s. s) }

pub present_shape : (a x : ℕ) → x < signal_count → TwoParts (7 ∷ x ∷ []) a (present x)
unfolding bytes_of depth_of signal_nesting
present_shape a x i =
    record { bytes = λ p q. refl; depth = λ p q. refl; signals = λ p q. refl; ranged = λ p q. (λ r. (i, r.0, r.1), λ r. (r.1, r.2)); placed = λ p q. (λ s. s, λ s. s) }
