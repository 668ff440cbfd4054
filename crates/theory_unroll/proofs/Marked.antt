-- What is counted by marks: with all commands marked and both runs of each signal, 02's number of reactions (item 6); and of an
-- expansion each command has the mark of the command it comes from.
use Prim.Native.Nat.{ℕ, ◌≤◌, max}
use mathlib.Core.Path.{◌≡◌, refl}
use mathlib.Core.Bool.{Bool, true, false, ◌&&◌, cond}
use mathlib.Core.List.{[], ◌∷◌}
use native.Mathlib.Omega.{arith}
use Rattle.spec_base.specs.Sets.{insert, remove}
use Rattle.spec_language.specs.Statement.{Scope, Statement, nothing, pause, emit, exit, seq, par, loop, present, signal, try, setpause, suspend, held}
use Rattle.spec_language.specs.Places.{Part, second, PartOf, seq₁, seq₂, par₁, par₂, loop₁, present₁, present₂, signal₁, try₁, suspend₁, Place}
use Rattle.spec_language.specs.Reactions.{reactions_by, reactions}
use Rattle.spec_language.specs.States.{active}
use Rattle.spec_language.specs.Expansion.{expand}
use Rattle.spec_unroll.specs.Entries.{Marks, nowhere, everywhere, marks, own, in_first, in_second, chosen, chosen_run, any_run, both_runs, OneRun, reacting, carried, Stands, Origin}

pub all-reactions : (p : Statement) (e : ℕ) → reacting both_runs p e everywhere ≡ reactions p e
unfolding reacting reactions_by
all-reactions nothing e = refl
all-reactions (pause l) e = refl
all-reactions (emit s v) e = refl
all-reactions (exit n) e = refl
all-reactions (seq p q) e = rw (all-reactions p e, all-reactions q e)
all-reactions (par p q) e = rw (all-reactions p e, all-reactions q e)
all-reactions (loop a p) e = rw (all-reactions p e)
all-reactions (present s p q) e = rw (all-reactions p e, all-reactions q e)
all-reactions (signal sc a s p) e = omega (arith, all-reactions p (remove s e), all-reactions p (insert s e))
all-reactions (try p) e = rw (all-reactions p e)
all-reactions (setpause l) e = refl
all-reactions (suspend s p) e = rw (all-reactions p e)
all-reactions (held s K p) e = rw (all-reactions p e)

either-run : (b : Bool) (x y : ℕ) → cond b y x ≤ max x y
either-run true x y = omega arith
either-run false x y = omega arith

pub chosen-run : OneRun chosen_run
chosen-run s p e x y = either-run (chosen s p e) x y

pub any_run_lem : OneRun any_run
any_run_lem s p e x y = omega arith

-- ---- what a command of an expansion comes from
-- of a part, so of the whole
from_part : {r : Bool} {d : Part} {c p : Statement} {L : ℕ} {x : Statement} {h : Marks → Bool} → PartOf d c p → Origin r c L x h
    → Origin r p L x (λ m. h (λ a. m (d ∷ a)))
from_part {d = d} i (Origin.copy a s f) = Origin.copy (d ∷ a) (Stands.inside i s) (λ m. f (λ b. m (d ∷ b)))
from_part {d = d} i (Origin.remains a y s e f) = Origin.remains (d ∷ a) y (Stands.inside i s) e (λ m. f (λ b. m (d ∷ b)))
from_part {d = d} i (Origin.round a b y s e f) = Origin.round (d ∷ a) b y (Stands.inside i s) e (λ m. f (λ b. m (d ∷ b)))
from_part {d = d} i (Origin.idle a y s n e f) = Origin.idle (d ∷ a) y (Stands.inside i s) n e (λ m. f (λ b. m (d ∷ b)))

-- H m are the marks of a term t by the marks m of p
abbrev From : Bool → Statement → (L : ℕ) → Statement → (Marks → Marks) → Type 0
From r p L t H = (b : Place) (x : Statement) → Stands x b t → Origin r p L x (λ m. H m b)

idle_from : {r : Bool} (p : Statement) (L : ℕ) → active p L ≡ false → From r p L nothing (λ m. nowhere)
idle_from p L n b x Stands.here = Origin.idle [] p Stands.here n refl (λ m. refl)
idle_from p L n b x (Stands.inside i s) = elim i [ ]

seq_from : {r : Bool} {p : Statement} {L : ℕ} {t u : Statement} (h : Marks → Bool) (H J : Marks → Marks) → Origin r p L (seq t u) h
    → From r p L t H → From r p L u J → From r p L (seq t u) (λ m. marks (h m) (H m) (J m))
seq_from h H J o f g b x Stands.here = o
seq_from h H J o f g b x (Stands.inside {a = a} seq₁ s) = f a x s
seq_from h H J o f g b x (Stands.inside {a = a} seq₂ s) = g a x s

par_from : {r : Bool} {p : Statement} {L : ℕ} {t u : Statement} (h : Marks → Bool) (H J : Marks → Marks) → Origin r p L (par t u) h
    → From r p L t H → From r p L u J → From r p L (par t u) (λ m. marks (h m) (H m) (J m))
par_from h H J o f g b x Stands.here = o
par_from h H J o f g b x (Stands.inside {a = a} par₁ s) = f a x s
par_from h H J o f g b x (Stands.inside {a = a} par₂ s) = g a x s

signal_from : {r : Bool} {p : Statement} {L : ℕ} {sc : Scope} {a s : ℕ} {t : Statement} (h : Marks → Bool) (H : Marks → Marks)
    → Origin r p L (signal sc a s t) h → From r p L t H → From r p L (signal sc a s t) (λ m. marks (h m) (H m) nowhere)
signal_from h H o f b x Stands.here = o
signal_from h H o f b x (Stands.inside {a = a} signal₁ s) = f a x s

try_from : {r : Bool} {p : Statement} {L : ℕ} {t : Statement} (h : Marks → Bool) (H : Marks → Marks)
    → Origin r p L (try t) h → From r p L t H → From r p L (try t) (λ m. marks (h m) (H m) nowhere)
try_from h H o f b x Stands.here = o
try_from h H o f b x (Stands.inside {a = a} try₁ s) = f a x s

held_from : {r : Bool} {p : Statement} {L s K : ℕ} {t : Statement} (h : Marks → Bool) (H : Marks → Marks)
    → Origin r p L (held s K t) h → From r p L t H → From r p L (held s K t) (λ m. marks (h m) (H m) nowhere)
held_from h H o f b x Stands.here = o
held_from h H o f b x (Stands.inside i s) = elim i [ ]
held_from h H o f b x (Stands.inside_held {a = a} s) = f a x s

-- by a test of activity
cond_from : {r : Bool} {p : Statement} {L : ℕ} {t u : Statement} (c : Bool) (H J : Marks → Marks) → (c ≡ true → From r p L t H) → (c ≡ false → From r p L u J)
    → From r p L (cond c t u) (λ m. cond c (H m) (J m))
cond_from true H J f g = f refl
cond_from false H J f g = g refl

pause_from : (r : Bool) (l L : ℕ) → From r (pause l) L nothing (λ m. marks (r && own m) nowhere nowhere)
unfolding expand
pause_from r l L b x Stands.here = Origin.remains [] (pause l) Stands.here refl (λ m. refl)
pause_from r l L b x (Stands.inside i s) = elim i [ ]

pub comes_from : (r : Bool) (p : Statement) (L : ℕ) → From r p L (expand p L) (carried r p L)
unfolding carried expand active
comes_from r nothing L = idle_from nothing L refl
comes_from r (pause l) L = pause_from r l L
comes_from r (emit s v) L = idle_from (emit s v) L refl
comes_from r (exit n) L = idle_from (exit n) L refl
comes_from r (seq p q) L =
    cond_from (active p L) (λ m. marks (r && own m) (carried r p L (in_first m)) (in_second m)) (λ m. carried r q L (in_second m))
    (λ h. seq_from (λ m. r && own m) (λ m. carried r p L (in_first m)) in_second (Origin.remains [] (seq p q) Stands.here (rw h) (λ m. refl))
    (λ b x s. from_part seq₁ (comes_from r p L b x s)) (λ b x s. Origin.copy (second ∷ b) (Stands.inside seq₂ s) (λ m. refl)))
    (λ h b x s. from_part seq₂ (comes_from r q L b x s))
comes_from r (par p q) L =
    par_from (λ m. r && own m) (λ m. cond (active p L) (carried r p L (in_first m)) nowhere) (λ m. cond (active q L) (carried r q L (in_second m)) nowhere)
    (Origin.remains [] (par p q) Stands.here refl (λ m. refl))
    (cond_from (active p L) (λ m. carried r p L (in_first m)) (λ m. nowhere)
    (λ h b x s. from_part par₁ (comes_from r p L b x s)) (λ h b x s. from_part par₁ (idle_from p L h b x s)))
    (cond_from (active q L) (λ m. carried r q L (in_second m)) (λ m. nowhere)
    (λ h b x s. from_part par₂ (comes_from r q L b x s)) (λ h b x s. from_part par₂ (idle_from q L h b x s)))
comes_from r (loop a p) L =
    seq_from (λ m. false) (λ m. carried r p L (in_first m)) (λ m. m) (Origin.round [] a p Stands.here refl (λ m. refl))
    (λ b x s. from_part loop₁ (comes_from r p L b x s)) (λ b x s. Origin.copy b s (λ m. refl))
comes_from r (present s p q) L =
    cond_from (active p L) (λ m. carried r p L (in_first m)) (λ m. carried r q L (in_second m))
    (λ h b x s. from_part present₁ (comes_from r p L b x s)) (λ h b x s. from_part present₂ (comes_from r q L b x s))
comes_from r (signal sc a s p) L =
    signal_from (λ m. r && own m) (λ m. carried r p L (in_first m)) (Origin.remains [] (signal sc a s p) Stands.here refl (λ m. refl))
    (λ b x s. from_part signal₁ (comes_from r p L b x s))
comes_from r (try p) L =
    try_from (λ m. r && own m) (λ m. carried r p L (in_first m)) (Origin.remains [] (try p) Stands.here refl (λ m. refl))
    (λ b x s. from_part try₁ (comes_from r p L b x s))
comes_from r (setpause l) L = idle_from (setpause l) L refl
comes_from r (suspend s p) L =
    cond_from (active p L) (λ m. marks (r && own m) (carried r p L (in_first m)) nowhere) (λ m. nowhere)
    (λ h. held_from (λ m. r && own m) (λ m. carried r p L (in_first m)) (Origin.remains [] (suspend s p) Stands.here (rw h) (λ m. refl))
    (λ b x s. from_part suspend₁ (comes_from r p L b x s)))
    (λ h. idle_from (suspend s p) L h)
comes_from r (held s K p) L = idle_from (held s K p) L refl
