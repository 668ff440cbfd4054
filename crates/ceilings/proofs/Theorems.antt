-- What hosts may take from a ceiling (02, item 6): it is 0 exactly of a sequence that the check turns down.
use Prim.Native.Nat.{ℕ, ◌≤◌}
use native.Mathlib.Omega.{arith}
use mathlib.Core.Path.{◌≡◌, refl}
use mathlib.Core.Logic.{◌≢◌}
use mathlib.Core.List.{List}
use Rattle.spec_language.specs.Statement.{Statement}
use Rattle.theory_language.proofs.Reactions.{some_reaction}
use Rattle.theory_language.proofs.Theorems.{ceiling-holds}
use Rattle.spec_sequence.specs.Program.{program}
use Rattle.spec_sequence.specs.Check.{Checked, sound, bad, checked, number_of, check_of}
use Rattle.spec_sequence.specs.Ceilings.{ceiling_of}
use Rattle.theory_sequence.proofs.Rows.{Decides, decided, row-range}

accepted_some : (read_back : ℕ) (p : Statement) → 1 ≤ ceiling_of read_back (sound p)
accepted_some read_back p =
    let some = some_reaction (program read_back p) 0 in let below = (ceiling-holds (program read_back p) 0).0 in omega (arith, some, below)

-- NO CEILING, NO ACCEPTANCE, AND THE OTHER WAY ROUND
pub zero_exactly : (bs : List ℕ) (read_back : ℕ)
    → (ceiling_of read_back (checked bs read_back) ≡ 0 → check_of bs read_back ≢ 0) × (check_of bs read_back ≢ 0 → ceiling_of read_back (checked bs read_back) ≡ 0)
unfolding check_of
zero_exactly bs read_back = go (checked bs read_back) (decided bs read_back)
  where
    go : (c : Checked) → Decides bs read_back c → (ceiling_of read_back c ≡ 0 → number_of c ≢ 0) × (number_of c ≢ 0 → ceiling_of read_back c ≡ 0)
    go (sound p) d = ((λ z. absurd (let some = accepted_some read_back p in omega (arith, some, z))), (λ n. absurd (n refl)))
    go (bad k) d = ((λ z e. let r = row-range bs read_back k d.0 in omega (arith, r, e)), (λ n. refl))
