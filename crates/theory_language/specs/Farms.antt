-- The farms that a statement names (02, item 12): the signals of its emissions with litres. Only they can be delivered to.
use Rattle.std.specs.Prelude.{ℕ}
use Rattle.spec_base.specs.Sets.{none, only, join}
use Rattle.spec_language.specs.Statement.{Value, pure, litres, Statement, nothing, pause, emit, exit, seq, par, loop, present, signal, try, setpause, suspend, held}

-- 'An emission by 02 carries no litres'
abbrev pub farm_of : (s : ℕ) → Value → ℕ
farm_of s pure = none
farm_of s (litres n) = only s

unfoldable pub farms_of : Statement → ℕ
farms_of nothing = none
farms_of (pause l) = none
farms_of (emit s v) = farm_of s v
farms_of (exit n) = none
farms_of (seq p q) = join (farms_of p) (farms_of q)
farms_of (par p q) = join (farms_of p) (farms_of q)
farms_of (loop a p) = farms_of p
farms_of (present s p q) = join (farms_of p) (farms_of q)
farms_of (signal sc a s p) = farms_of p
farms_of (try p) = farms_of p
farms_of (setpause l) = none
farms_of (suspend s p) = farms_of p
farms_of (held s K p) = farms_of p
