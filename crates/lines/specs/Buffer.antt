-- Text at the end of a buffer, put before the text that is there.
use Rattle.std.specs.Prelude.{ℕ, ◌+◌, ◌≡◌, List, ◌++◌, length, take, drop}

-- the text stands from `from` to `end`, and the other bytes are as before
pub record Prepended (before : List ℕ) (end : ℕ) (text after : List ℕ) (from : ℕ) : Type 0 where
  pub fits : from + length text ≡ end
  pub kept : take from after ≡ take from before
  pub shows : drop from after ≡ text ++ drop end before
