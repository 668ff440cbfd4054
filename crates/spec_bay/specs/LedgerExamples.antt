-- Totals worked by hand, where single precision rounds.
use Rattle.std.specs.Prelude.{◌≡◌, refl, true, false, ◌++◌}
use Rattle.std.specs.Float.{binary32}
use Rattle.std.specs.Float.Ieee.{of_bits, to_bits, of_int, add, whole, in_unsigned, to_unsigned}
use Rattle.spec_base.specs.Bytes.{le_bytes, le_number}
use Rattle.spec_base.specs.WholeLitres.{ordered}
use Rattle.spec_sequence.specs.Amounts.{amount_bytes}
use Rattle.spec_bay.specs.Ledgers.{total_in, would_pass, shown_total}

-- ---- the sum that is held to the limit is exact: 16,777,216 and 1 would be 16,777,216
limit-reached : would_pass 1 (λ f. 16777215) (λ f. 1) ≡ false
unfolding would_pass of_int in_unsigned to_unsigned
limit-reached = refl

limit-passed : would_pass 1 (λ f. 16777216) (λ f. 1) ≡ true
unfolding would_pass of_int in_unsigned to_unsigned
limit-passed = refl

-- ---- the ledger's total is added in the order of the farms: 16,777,216 and 1 and then 2 are 16,777,218; 2 and then 1, 16,777,220
rounded : to_bits binary32 (shown_total (amount_bytes 16777216 ++ amount_bytes 1 ++ amount_bytes 2)) ≡ 0x4B800001
unfolding ordered total_in le_bytes le_number of_bits to_bits of_int add whole in_unsigned to_unsigned
rounded = refl
