-- 01's rules on labels (rows 8 to 11) as tests on label sets, which a program can compute in one traversal.
-- theory_language/proofs/LabelTests shows that each test is true exactly if the definition by places (States) holds.
use Rattle.std.specs.Prelude.{ℕ, Bool, true, false, not, ◌&&◌, ◌||◌, cond, eqb}
use Rattle.std.specs.Int.Bits.{bit_and}
use Rattle.spec_base.specs.Sets.{member, none, only, join, subset, disjoint}
use Rattle.spec_language.specs.Statement.{Statement, nothing, pause, emit, exit, seq, par, loop, present, signal, try, setpause, suspend, held}

-- the labels of p: those of its pauses if x, and those of its setpauses if y
unfoldable pub labels_of : (x y : Bool) → Statement → ℕ
labels_of x y nothing = none
labels_of x y (pause l) = cond x (only l) none
labels_of x y (emit s v) = none
labels_of x y (exit n) = none
labels_of x y (seq p q) = join (labels_of x y p) (labels_of x y q)
labels_of x y (par p q) = join (labels_of x y p) (labels_of x y q)
labels_of x y (loop a p) = labels_of x y p
labels_of x y (present s p q) = join (labels_of x y p) (labels_of x y q)
labels_of x y (signal sc a s p) = labels_of x y p
labels_of x y (try p) = labels_of x y p
labels_of x y (setpause l) = cond y (only l) none
labels_of x y (suspend s p) = labels_of x y p
labels_of x y (held s K p) = none

abbrev pub pauses : Statement → ℕ
pauses = labels_of true false

abbrev pub setpauses : Statement → ℕ
setpauses = labels_of false true

abbrev pub triggers : Statement → ℕ
triggers = labels_of true true

-- 02: 'the active labels inside it'
unfoldable pub active_labels : Statement → ℕ → ℕ
active_labels p L = bit_and L (pauses p)

-- does f hold for the label of each pause and each setpause?
unfoldable pub every_label : Statement → (ℕ → Bool) → Bool
every_label nothing f = true
every_label (pause l) f = f l
every_label (emit s v) f = true
every_label (exit n) f = true
every_label (seq p q) f = every_label p f && every_label q f
every_label (par p q) f = every_label p f && every_label q f
every_label (loop a p) f = every_label p f
every_label (present s p q) f = every_label p f && every_label q f
every_label (signal sc a s p) f = every_label p f
every_label (try p) f = every_label p f
every_label (setpause l) f = f l
every_label (suspend s p) f = every_label p f
every_label (held s K p) f = true

-- row 8 does not hold
unfoldable pub distinct : Statement → Bool
distinct nothing = true
distinct (pause l) = true
distinct (emit s v) = true
distinct (exit n) = true
distinct (seq p q) = disjoint (pauses p) (pauses q) && (distinct p && distinct q)
distinct (par p q) = disjoint (pauses p) (pauses q) && (distinct p && distinct q)
distinct (loop a p) = distinct p
distinct (present s p q) = disjoint (pauses p) (pauses q) && (distinct p && distinct q)
distinct (signal sc a s p) = distinct p
distinct (try p) = distinct p
distinct (setpause l) = true
distinct (suspend s p) = distinct p
distinct (held s K p) = true

-- row 9 does not hold
abbrev pub targeted : Statement → Bool
targeted p = subset (setpauses p) (pauses p)

-- what two parts of a command are to each other
pub data Joint : Type 0 where
  alternative parallel : Joint

-- a set where the two joints are the same, else none
abbrev pub at_joint : Joint → Joint → ℕ → ℕ
at_joint alternative alternative s = s
at_joint alternative parallel s = none
at_joint parallel alternative s = none
at_joint parallel parallel s = s

-- the labels of s if k is in t, else none
abbrev pub if_member : ℕ → ℕ → ℕ → ℕ
if_member k t s = cond (member k t) s none

-- The labels of first parts before a label k of the second part, over all commands whose parts are joined so.
-- Only labels before k: of each two labels one row tells, and a traversal from the left knows it at once.
unfoldable pub before : (x y : Bool) → Joint → Statement → ℕ → ℕ
before x y j nothing k = none
before x y j (pause l) k = none
before x y j (emit s v) k = none
before x y j (exit n) k = none
before x y j (seq p q) k =
    join (at_joint j alternative (if_member k (labels_of x y q) (labels_of x y p))) (join (before x y j p k) (before x y j q k))
before x y j (par p q) k =
    join (at_joint j parallel (if_member k (labels_of x y q) (labels_of x y p))) (join (before x y j p k) (before x y j q k))
before x y j (loop a p) k = before x y j p k
before x y j (present s p q) k =
    join (at_joint j alternative (if_member k (labels_of x y q) (labels_of x y p))) (join (before x y j p k) (before x y j q k))
before x y j (signal sc a s p) k = before x y j p k
before x y j (try p) k = before x y j p k
before x y j (setpause l) k = none
before x y j (suspend s p) k = before x y j p k
before x y j (held s K p) k = none

-- the labels of the pauses before a pause k and exclusive with it
abbrev pub exclusive_with : Statement → ℕ → ℕ
exclusive_with = before true false alternative

-- the labels that have a pause or setpause before one of k, on the other side of a parallel
abbrev pub concurrent_with : Statement → ℕ → ℕ
concurrent_with = before true true parallel

-- have k and l exclusive pauses?
abbrev pub exclusive : Statement → ℕ → ℕ → Bool
exclusive p k l = member l (exclusive_with p k) || member k (exclusive_with p l)

-- row 10 does not hold, if row 8 does not: triggers at compatible places are one, or stand on two sides of a parallel
unfoldable pub well_formed : Statement → Bool
well_formed p = every_label p (λ k. every_label p (λ l. not (member l (concurrent_with p k) && exclusive p k l)))

-- is L valid (row 11)?
unfoldable pub valid : Statement → ℕ → Bool
valid p L = not (eqb L none) && (subset L (pauses p) && every_label p (λ k. not (member k L) || disjoint (exclusive_with p k) L))
