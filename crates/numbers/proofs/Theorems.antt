-- The theorem of this crate: what is written is what is read, of a number that fits.
use Prim.Native.Nat.{ℕ, ◌^◌, ◌<◌}
use mathlib.Core.Path.{◌≡◌}
use Rattle.spec_base.specs.Bytes.{le_bytes, le_number}
use Rattle.numbers.proofs.Bytes as bytes

pub le_round_trip : (n x : ℕ) → x < 256 ^ n → le_number (le_bytes n x) ≡ x
le_round_trip = bytes.le_round_trip
