-- Active pauses as a mask, the set of their ranks, with their labels and row 11 by it. The rank of a pause is the number of
-- pauses left of it in the whole; those of a part are neighbours in rank, from a base, so the masks of two parts are a
-- mask below and from a number.
use Rattle.std.specs.Prelude.{ℕ, ◌+◌, Bool, true, false, ◌&&◌, cond}
use Rattle.spec_base.specs.Sets.{member, none, empty, only, join, below, from}
use Rattle.spec_language.specs.Statement.{Statement, nothing, pause, emit, exit, seq, par, loop, present, signal, try, setpause, suspend, held}
use Rattle.spec_language.specs.LabelTests.{pauses, Joint, alternative, parallel}

-- ---- ranks
unfoldable pub pause_count : Statement → ℕ
pause_count nothing = 0
pause_count (pause l) = 1
pause_count (emit s v) = 0
pause_count (exit n) = 0
pause_count (seq p q) = pause_count p + pause_count q
pause_count (par p q) = pause_count p + pause_count q
pause_count (loop a p) = pause_count p
pause_count (present s p q) = pause_count p + pause_count q
pause_count (signal sc a s p) = pause_count p
pause_count (try p) = pause_count p
pause_count (setpause l) = 0
pause_count (suspend s p) = pause_count p
pause_count (held s K p) = 0

-- the first rank of the second part, after a first part p
abbrev pub middle : ℕ → Statement → ℕ
middle base p = base + pause_count p

-- the ranks of the pauses of p whose label is in L, its first pause having rank base
unfoldable pub mask : (base : ℕ) → Statement → (L : ℕ) → ℕ
mask base nothing L = none
mask base (pause l) L = cond (member l L) (only base) none
mask base (emit s v) L = none
mask base (exit n) L = none
mask base (seq p q) L = join (mask base p L) (mask (middle base p) q L)
mask base (par p q) L = join (mask base p L) (mask (middle base p) q L)
mask base (loop a p) L = mask base p L
mask base (present s p q) L = join (mask base p L) (mask (middle base p) q L)
mask base (signal sc a s p) L = mask base p L
mask base (try p) L = mask base p L
mask base (setpause l) L = none
mask base (suspend s p) L = mask base p L
mask base (held s K p) L = none

-- the rank of the pause l of p, if p has one
unfoldable pub rank : (base : ℕ) → Statement → (l : ℕ) → ℕ
rank base nothing l = base
rank base (pause k) l = base
rank base (emit s v) l = base
rank base (exit n) l = base
rank base (seq p q) l = cond (member l (pauses p)) (rank base p l) (rank (middle base p) q l)
rank base (par p q) l = cond (member l (pauses p)) (rank base p l) (rank (middle base p) q l)
rank base (loop a p) l = rank base p l
rank base (present s p q) l = cond (member l (pauses p)) (rank base p l) (rank (middle base p) q l)
rank base (signal sc a s p) l = rank base p l
rank base (try p) l = rank base p l
rank base (setpause k) l = base
rank base (suspend s p) l = rank base p l
rank base (held s K p) l = base

-- the labels of the pauses of p with these ranks; a part whose mask is empty has none and need not be entered
unfoldable pub labels_by : (base : ℕ) → Statement → (m : ℕ) → ℕ
labels_by base nothing m = none
labels_by base (pause l) m = cond (empty m) none (only l)
labels_by base (emit s v) m = none
labels_by base (exit n) m = none
labels_by base (seq p q) m = join (labels_by base p (below (middle base p) m)) (labels_by (middle base p) q (from (middle base p) m))
labels_by base (par p q) m = join (labels_by base p (below (middle base p) m)) (labels_by (middle base p) q (from (middle base p) m))
labels_by base (loop a p) m = labels_by base p m
labels_by base (present s p q) m = join (labels_by base p (below (middle base p) m)) (labels_by (middle base p) q (from (middle base p) m))
labels_by base (signal sc a s p) m = labels_by base p m
labels_by base (try p) m = labels_by base p m
labels_by base (setpause l) m = none
labels_by base (suspend s p) m = labels_by base p m
labels_by base (held s K p) m = none

-- ---- row 11: are the active pauses pairwise compatible?
-- A test of two parts, x and y saying that a part has no active pause: of the active part, or of both. Active pauses in
-- two alternatives are exclusive.
abbrev pub ofParts : Joint → (x y : Bool) → (first second : Bool) → Bool
ofParts j true y first second = second
ofParts j false true first second = first
ofParts alternative false false first second = false
ofParts parallel false false first second = first && second

unfoldable pub compatible : (base : ℕ) → Statement → (m : ℕ) → Bool
compatible base nothing m = true
compatible base (pause l) m = true
compatible base (emit s v) m = true
compatible base (exit n) m = true
compatible base (seq p q) m =
    ofParts alternative (empty (below (middle base p) m)) (empty (from (middle base p) m))
    (compatible base p (below (middle base p) m)) (compatible (middle base p) q (from (middle base p) m))
compatible base (par p q) m =
    ofParts parallel (empty (below (middle base p) m)) (empty (from (middle base p) m))
    (compatible base p (below (middle base p) m)) (compatible (middle base p) q (from (middle base p) m))
compatible base (loop a p) m = compatible base p m
compatible base (present s p q) m =
    ofParts alternative (empty (below (middle base p) m)) (empty (from (middle base p) m))
    (compatible base p (below (middle base p) m)) (compatible (middle base p) q (from (middle base p) m))
compatible base (signal sc a s p) m = compatible base p m
compatible base (try p) m = compatible base p m
compatible base (setpause l) m = true
compatible base (suspend s p) m = compatible base p m
compatible base (held s K p) m = true
