use Rattle.std.proofs.Common.{◌≡◌, ◌-◌, length}
use Rattle.std.proofs.lemmas.List.Edits.{sets}
use Rattle.spec_base.specs.Bytes.{le_bytes}
use Rattle.numbers.proofs.put_le.Given as goal

abbrev pub invariant-loop-byte : goal.invariant-loop-byte
invariant-loop-byte l = record {
  goes_on : sets l.byte-items l.byte-index (le_bytes (l.n - l.byte-index) l.rest) ≡ sets l.initial.byte-items 0 (le_bytes l.n l.x);
  whole : length l.byte-items ≡ l.n;
}
