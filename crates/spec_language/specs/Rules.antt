-- The rules of a reaction as printed: 003, figure 3 (all but loop and signal) and figure 7 (loop and signal), with the
-- labels of 002, figure 4, its setpause (section 4.2), and the suspend of 02, item 1, which is Berry's (1999).
-- `ReactsBy ord p e (gives o k l p')` is the printed p —O,k,L/E→ p' by an order of the signal rules; `Reacts` is by 02's.
-- Four things are added, each marked where it stands: the labels, 01's residuals, 02's order of the signal rules and its scopes.
use Rattle.std.specs.Prelude.{ℕ, ◌≡◌, ◌≢◌, Bool, true, false}
use Rattle.spec_base.specs.Sets.{member, none, only, join, insert, remove}
use Rattle.spec_language.specs.Statement.{Scope, Value, Statement}
use Rattle.spec_language.specs.Reaction.{Code, ended, waiting, leaving, wrong, greater, down, if_waiting, side, outside, remains, Reaction, gives, Order, printed, inheritanceFirst}

-- ---- what the signal rules ask of the codes of the runs − and + (without s, with s), by the order of the rules
-- s in O−, in O+? As 01 prints it, and by 02, item 4: inheritance is tried first, so the other four ask that no run is wrong
abbrev pub Permits : Order → (in− in+ : Bool) (k− k+ : Code) → Type 0
Permits printed true true k− k+ = Unit {0}
Permits printed false false k− k+ = (k− ≢ wrong) × (k+ ≢ wrong)
Permits printed true false k− k+ = k+ ≢ wrong
Permits printed false true k− k+ = k− ≢ wrong
Permits inheritanceFirst in− in+ k− k+ = greater k− k+ ≢ wrong

-- 01, as printed: 'otherwise', where none of the four fits
abbrev pub Inherits : Order → (in− in+ : Bool) (k− k+ : Code) → Type 0
Inherits printed in− in+ k− k+ = ¬ Permits printed in− in+ k− k+
Inherits inheritanceFirst in− in+ k− k+ = greater k− k+ ≡ wrong

pub data ReactsBy (ord : Order) : Statement → ℕ → Reaction → Type 0 where
  nothing : {e : ℕ} → ReactsBy ord Statement.nothing e (gives none ended none Statement.nothing)
  -- labels: 002, rule 2
  pause : {e l : ℕ} → ReactsBy ord (Statement.pause l) e (gives none waiting (only l) Statement.nothing)
  exit : {e n : ℕ} → ReactsBy ord (Statement.exit n) e (gives none (leaving n) none Statement.nothing)
  -- its value is no part of E, O, k or L (02, item 12)
  emit : {e s : ℕ} {v : Value} → ReactsBy ord (Statement.emit s v) e (gives (only s) ended none Statement.nothing)
  loop : {e a o l : ℕ} {k : Code} {p p' : Statement}
      → ReactsBy ord p e (gives o k l p')
      → k ≢ ended
      → ReactsBy ord (Statement.loop a p) e (gives o k l (Statement.seq p' (Statement.loop a p)))
  loop_error : {e a o l : ℕ} {k : Code} {p p' : Statement}
      → ReactsBy ord p e (gives o k l p')
      → k ≡ ended
      → ReactsBy ord (Statement.loop a p) e (gives none wrong none Statement.nothing)
  -- labels: 002, rule b, with its γ. Residual: 01, nothing for a side that had code 0
  parallel : {e o o₂ l l₂ : ℕ} {k k₂ : Code} {p p' q q' : Statement}
      → ReactsBy ord p e (gives o k l p')
      → ReactsBy ord q e (gives o₂ k₂ l₂ q')
      → ReactsBy ord (Statement.par p q) e
      (gives (join o o₂) (greater k k₂) (if_waiting (greater k k₂) (join l l₂)) (Statement.par (side k p') (side k₂ q')))
  present+ : {e s : ℕ} {r : Reaction} {p q : Statement}
      → member s e ≡ true
      → ReactsBy ord p e r
      → ReactsBy ord (Statement.present s p q) e r
  present− : {e s : ℕ} {r : Reaction} {p q : Statement}
      → member s e ≡ false
      → ReactsBy ord q e r
      → ReactsBy ord (Statement.present s p q) e r
  try_catch : {e o l : ℕ} {p p' : Statement}
      → ReactsBy ord p e (gives o (leaving 1) l p')
      → ReactsBy ord (Statement.try p) e (gives o ended l Statement.nothing)
  try_through : {e o l : ℕ} {k : Code} {p p' : Statement}
      → ReactsBy ord p e (gives o k l p')
      → k ≢ leaving 1
      → ReactsBy ord (Statement.try p) e (gives o (down k) l (Statement.try p'))
  sequence_p : {e o l : ℕ} {k : Code} {p p' q : Statement}
      → ReactsBy ord p e (gives o k l p')
      → k ≢ ended
      → ReactsBy ord (Statement.seq p q) e (gives o k l (Statement.seq p' q))
  -- labels: 002, rule 6, where those of p are empty (002, corollary 1)
  sequence_q : {e o o₂ l l₂ : ℕ} {k : Code} {p p' q q' : Statement}
      → ReactsBy ord p e (gives o ended l p')
      → ReactsBy ord q e (gives o₂ k l₂ q')
      → ReactsBy ord (Statement.seq p q) e (gives (join o o₂) k l₂ q')
  -- 02, item 5: outside a declaration with scope `reported` its signal stays emitted; with `local` this is figure 7's removal
  signal++ : {sc : Scope} {e a s o− o+ l− l+ : ℕ} {k− k+ : Code} {p p− p+ : Statement}
      → ReactsBy ord p (remove s e) (gives o− k− l− p−)
      → member s o− ≡ true
      → ReactsBy ord p (insert s e) (gives o+ k+ l+ p+)
      → member s o+ ≡ true
      → Permits ord true true k− k+
      → ReactsBy ord (Statement.signal sc a s p) e (gives (outside sc s o+) k+ l+ (Statement.signal sc a s p+))
  signal−− : {sc : Scope} {e a s o− o+ l− l+ : ℕ} {k− k+ : Code} {p p− p+ : Statement}
      → ReactsBy ord p (remove s e) (gives o− k− l− p−)
      → member s o− ≡ false
      → ReactsBy ord p (insert s e) (gives o+ k+ l+ p+)
      → member s o+ ≡ false
      → Permits ord false false k− k+
      → ReactsBy ord (Statement.signal sc a s p) e (gives o− k− l− (Statement.signal sc a s p−))
  signal+− : {sc : Scope} {e a s o− o+ l− l+ : ℕ} {k− k+ : Code} {p p− p+ : Statement}
      → ReactsBy ord p (remove s e) (gives o− k− l− p−)
      → member s o− ≡ true
      → ReactsBy ord p (insert s e) (gives o+ k+ l+ p+)
      → member s o+ ≡ false
      → Permits ord true false k− k+
      → ReactsBy ord (Statement.signal sc a s p) e (gives none wrong none Statement.nothing)
  signal−+ : {sc : Scope} {e a s o− o+ l− l+ : ℕ} {k− k+ : Code} {p p− p+ : Statement}
      → ReactsBy ord p (remove s e) (gives o− k− l− p−)
      → member s o− ≡ false
      → ReactsBy ord p (insert s e) (gives o+ k+ l+ p+)
      → member s o+ ≡ true
      → Permits ord false true k− k+
      → ReactsBy ord (Statement.signal sc a s p) e (gives none wrong none Statement.nothing)
  signal∞ : {sc : Scope} {e a s o− o+ l− l+ : ℕ} {k− k+ : Code} {p p− p+ : Statement}
      → ReactsBy ord p (remove s e) (gives o− k− l− p−)
      → ReactsBy ord p (insert s e) (gives o+ k+ l+ p+)
      → Inherits ord (member s o−) (member s o+) k− k+
      → ReactsBy ord (Statement.signal sc a s p) e (gives none wrong none Statement.nothing)
  -- 002, section 4.2
  setpause : {e l : ℕ} → ReactsBy ord (Statement.setpause l) e (gives none waiting (only l) Statement.nothing)
  -- 02, item 1: fresh as p; held, s is tested first
  suspend : {e s o l : ℕ} {k : Code} {p p' : Statement}
      → ReactsBy ord p e (gives o k l p')
      → ReactsBy ord (Statement.suspend s p) e (gives o k l (remains s k l p'))
  held+ : {e s K : ℕ} {p : Statement}
      → member s e ≡ true
      → ReactsBy ord (Statement.held s K p) e (gives none waiting K (Statement.held s K p))
  held− : {e s K o l : ℕ} {k : Code} {p p' : Statement}
      → member s e ≡ false
      → ReactsBy ord p e (gives o k l p')
      → ReactsBy ord (Statement.held s K p) e (gives o k l (remains s k l p'))

-- 02, item 4: 'inheritance of a wrong run is tried before the other four'
abbrev pub Reacts : Statement → ℕ → Reaction → Type 0
Reacts = ReactsBy inheritanceFirst
