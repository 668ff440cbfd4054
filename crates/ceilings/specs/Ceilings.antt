-- What the ceiling of a sequence with a read-back set is made of (02, item 6).
use Rattle.std.specs.Prelude.{ℕ, ◌+◌, ◌*◌, ◌^◌, ◌≤◌, ◌<◌}
use Rattle.spec_base.specs.Limits.{max_bytes, max_depth, max_signals}
use Rattle.ceilings.specs.declared.Extent.{Extent}

-- numbers of a whole sequence whose signals leave space for k declarations
pub record Plannable (n : Extent) (k : ℕ) : Type 0 where
  pub count : n.commands ≤ max_bytes
  pub loops : n.loops < max_depth
  pub signals : k + n.signals ≤ max_signals

-- the ceiling of a statement with these numbers under k declarations
abbrev pub product : Extent → (k : ℕ) → ℕ
product n k = (k + n.commands) * (1 + n.loops) * 2 ^ (k + n.signals)
