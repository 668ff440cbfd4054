-- Rows of label sets, one for each label, as one traversal from the left fills them: where the traversal meets a label, it adds to
-- its row the labels that it knows to stand before. theory_language/proofs/LabelRows shows that the rows are those of LabelTests.
use Rattle.std.specs.Prelude.{ℕ, Bool, cond, eqb}
use Rattle.spec_base.specs.Sets.{join}
use Rattle.spec_language.specs.Statement.{Statement, nothing, pause, emit, exit, seq, par, loop, present, signal, try, setpause, suspend, held}
use Rattle.spec_language.specs.LabelTests.{labels_of, Joint, alternative, parallel}

-- the rows with the labels of s added to row k
unfoldable pub add_row : (k s : ℕ) → (ℕ → ℕ) → ℕ → ℕ
add_row k s rows i = cond (eqb k i) (join (rows i) s) (rows i)

-- the labels before a second part: those before the whole, and those of the first part if their joint counts
abbrev pub further : Joint → Joint → ℕ → ℕ → ℕ
further alternative alternative known s = join known s
further alternative parallel known s = known
further parallel alternative known s = known
further parallel parallel known s = join known s

-- the rows after a traversal over the statement, where the labels in `known` stand before it
unfoldable pub fill : (x y : Bool) → Joint → Statement → ℕ → (ℕ → ℕ) → ℕ → ℕ
fill x y j nothing known rows = rows
fill x y j (pause l) known rows = cond x (add_row l known rows) rows
fill x y j (emit s v) known rows = rows
fill x y j (exit n) known rows = rows
fill x y j (seq p q) known rows = fill x y j q (further j alternative known (labels_of x y p)) (fill x y j p known rows)
fill x y j (par p q) known rows = fill x y j q (further j parallel known (labels_of x y p)) (fill x y j p known rows)
fill x y j (loop a p) known rows = fill x y j p known rows
fill x y j (present s p q) known rows = fill x y j q (further j alternative known (labels_of x y p)) (fill x y j p known rows)
fill x y j (signal sc a s p) known rows = fill x y j p known rows
fill x y j (try p) known rows = fill x y j p known rows
fill x y j (setpause l) known rows = cond y (add_row l known rows) rows
fill x y j (suspend s p) known rows = fill x y j p known rows
fill x y j (held s K p) known rows = rows
