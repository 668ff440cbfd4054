-- The writer (01, 'Commands'): the bytes of a statement, 01's limits on it, and places that are the offsets of its commands.
use Rattle.std.specs.Prelude.{ℕ, ◌+◌, ◌≤◌, ◌<◌, ◌≡◌, refl, List, [], ◌∷◌, ◌++◌, length}
use Rattle.spec_language.specs.Statement.{local, pure, litres, Statement, nothing, pause, emit, exit, seq, par, loop, present, signal, try, setpause, suspend, held}
use Rattle.spec_base.specs.Limits.{label_count, signal_count, max_exit, litres_limit}
use Rattle.spec_language.specs.Litres.{amount}
use Rattle.spec_sequence.specs.Amounts.{amount_bytes}
use Rattle.spec_language.specs.Sizes.{signal_nesting, depth_of}

-- no bytes spell a held suspend (02)
unfoldable pub bytes_of : Statement → List ℕ
bytes_of nothing = 0 ∷ []
bytes_of (pause l) = 1 ∷ l ∷ []
bytes_of (emit s pure) = 2 ∷ s ∷ []
bytes_of (emit s (litres n)) = 12 ∷ s ∷ amount_bytes n
bytes_of (exit n) = 3 ∷ n ∷ []
bytes_of (seq p q) = 4 ∷ bytes_of p ++ bytes_of q
bytes_of (par p q) = 5 ∷ bytes_of p ++ bytes_of q
bytes_of (loop a p) = 6 ∷ bytes_of p
bytes_of (present s p q) = 7 ∷ s ∷ bytes_of p ++ bytes_of q
bytes_of (signal sc a s p) = 8 ∷ s ∷ bytes_of p
bytes_of (try p) = 9 ∷ bytes_of p
bytes_of (setpause l) = 10 ∷ l ∷ []
bytes_of (suspend s p) = 11 ∷ s ∷ bytes_of p
bytes_of (held s K p) = []

-- the bytes of a statement, counted
abbrev pub size : Statement → ℕ
size p = length (bytes_of p)

-- signals are 0 to 31, labels 0 to 127, exits 1 to 15, litres 0 to 16,777,216; no held suspend, and no signal that is reported
abbrev pub Ranged : Statement → Type 0
Ranged nothing = Unit {0}
Ranged (pause l) = l < label_count
Ranged (emit s v) = (s < signal_count) × (amount v ≤ litres_limit)
Ranged (exit n) = (1 ≤ n) × (n ≤ max_exit)
Ranged (seq p q) = Ranged p × Ranged q
Ranged (par p q) = Ranged p × Ranged q
Ranged (loop a p) = Ranged p
Ranged (present s p q) = (s < signal_count) × Ranged p × Ranged q
Ranged (signal sc a s p) = (sc ≡ local) × (s < signal_count) × Ranged p
Ranged (try p) = Ranged p
Ranged (setpause l) = l < label_count
Ranged (suspend s p) = (s < signal_count) × Ranged p
Ranged (held s K p) = ⊥

pub record Within (depth signals : ℕ) (p : Statement) : Type 0 where
  pub deep : depth_of p ≤ depth
  pub nested : signal_nesting p ≤ signals
  pub ranged : Ranged p

-- the command of p stands at offset a: each loop and signal in it carries the offset of its own command
abbrev pub PlacedAt : ℕ → Statement → Type 0
PlacedAt a nothing = Unit {0}
PlacedAt a (pause l) = Unit {0}
PlacedAt a (emit s v) = Unit {0}
PlacedAt a (exit n) = Unit {0}
PlacedAt a (seq p q) = PlacedAt (a + 1) p × PlacedAt (a + (1 + size p)) q
PlacedAt a (par p q) = PlacedAt (a + 1) p × PlacedAt (a + (1 + size p)) q
PlacedAt a (loop b p) = (b ≡ a) × PlacedAt (a + 1) p
PlacedAt a (present s p q) = PlacedAt (a + 2) p × PlacedAt (a + (2 + size p)) q
PlacedAt a (signal sc b s p) = (b ≡ a) × PlacedAt (a + 2) p
PlacedAt a (try p) = PlacedAt (a + 1) p
PlacedAt a (setpause l) = Unit {0}
PlacedAt a (suspend s p) = PlacedAt (a + 2) p
PlacedAt a (held s K p) = Unit {0}

-- the bytes begin with p, of n bytes, as the writer writes it at offset a within the limits
pub record Written (depth signals a : ℕ) (bs : List ℕ) (p : Statement) (n : ℕ) : Type 0 where
  pub rest : List ℕ
  pub bytes : bs ≡ bytes_of p ++ rest
  pub count : n ≡ size p
  pub within : Within depth signals p
  pub placed : PlacedAt a p

-- by hand: emit 1; loop pause 0 as bytes, and with the loop's command at offset 3
in_order : bytes_of (seq (emit 1 pure) (loop 3 (pause 0))) ≡ 4 ∷ 2 ∷ 1 ∷ 6 ∷ 1 ∷ 0 ∷ []
unfolding bytes_of
in_order = refl

loop_at_three : PlacedAt 0 (seq (emit 1 pure) (loop 3 (pause 0)))
unfolding bytes_of
loop_at_three = (tt, (refl, tt))
