-- A farm that a statement does not name has no litres in it.
use Prim.Native.Nat.{ℕ, ◌≤◌}
use mathlib.Core.Path.{◌≡◌, sym, ◌∙◌}
use mathlib.Core.Bool.{Bool, true, false, cond}
use native.Mathlib.Omega.{arith}
use lib.Dec.{eqb}
use Rattle.spec_base.specs.Sets.{member, join}
use Rattle.sets.proofs.Booleans.{never, clash}
use Rattle.sets.proofs.Members.{member-only, in_l, in_r}
use Rattle.spec_language.specs.Statement.{pure, litres, Statement, nothing, pause, emit, exit, seq, par, loop, present, signal, try, setpause, suspend, held}
use Rattle.spec_language.specs.Litres.{AtMost}
use Rattle.theory_language.specs.Farms.{farms_of}

none-brought : (b : Bool) → cond b 0 0 ≤ 0
none-brought true = omega arith
none-brought false = omega arith

-- what is in neither part
module _ (f x y : ℕ) (e : member f (join x y) ≡ false) where
  left : member f x ≡ false
  left = never (member f x) (λ i. clash (member f (join x y)) (in_l f x y i) e)

  right : member f y ≡ false
  right = never (member f y) (λ i. clash (member f (join x y)) (in_r f x y i) e)

pub unnamed_none : (f : ℕ) (p : Statement) → member f (farms_of p) ≡ false → AtMost f 0 p
unfolding farms_of AtMost
unnamed_none f nothing h = tt
unnamed_none f (pause l) h = tt
unnamed_none f (emit s pure) h = none-brought (eqb s f)
unnamed_none f (emit s (litres n)) h = let e : eqb s f ≡ false = sym (member-only s f) ∙ h in rw e (omega arith)
unnamed_none f (exit n) h = tt
unnamed_none f (seq p q) h = (unnamed_none f p (left f (farms_of p) (farms_of q) h), unnamed_none f q (right f (farms_of p) (farms_of q) h))
unnamed_none f (par p q) h = (unnamed_none f p (left f (farms_of p) (farms_of q) h), unnamed_none f q (right f (farms_of p) (farms_of q) h))
unnamed_none f (loop a p) h = unnamed_none f p h
unnamed_none f (present s p q) h = (unnamed_none f p (left f (farms_of p) (farms_of q) h), unnamed_none f q (right f (farms_of p) (farms_of q) h))
unnamed_none f (signal sc a s p) h = unnamed_none f p h
unnamed_none f (try p) h = unnamed_none f p h
unnamed_none f (setpause l) h = tt
unnamed_none f (suspend s p) h = unnamed_none f p h
unnamed_none f (held s K p) h = unnamed_none f p h
