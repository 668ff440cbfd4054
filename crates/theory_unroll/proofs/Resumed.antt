-- What is counted as resumed: with compatible labels, every command that holds an active pause, but loops and their bodies.
use Prim.Native.Nat.{ℕ, ◌≤◌}
use mathlib.Core.Path.{◌≡◌}
use mathlib.Core.Logic.{◌⊎◌, inl, inr}
use mathlib.Core.Bool.{true, false, false≢true}
use mathlib.Core.List.{[], ◌∷◌}
use native.Mathlib.Omega.{arith}
use Rattle.sets.proofs.Booleans.{never}
use Rattle.spec_language.specs.Statement.{Statement, nothing, pause, emit, exit, seq, par, loop, present, signal, try, setpause, suspend, held}
use Rattle.spec_language.specs.Places.{Part, first, second, PartOf, seq₁, seq₂, par₁, par₂, loop₁, present₁, present₂, signal₁, try₁, suspend₁, Place, At, Alternative, Exclusive}
use Rattle.spec_language.specs.States.{active}
use Rattle.theory_language.proofs.Activity.{active-is, active_part}
use Rattle.theory_language.proofs.Places.{Together, together_part}
use Rattle.spec_unroll.specs.Entries.{at, resuming, AtLoop}

active_at : {y : Statement} {a : Place} {p : Statement} (L : ℕ) → At y a p → active y L ≡ true → active p L ≡ true
active_at L At.here h = h
active_at L (At.inside i x) h = active_part L i (active_at L x h)

-- of two alternatives one is active
first_idle : {p q w : Statement} (L : ℕ) → Alternative w → PartOf first p w → PartOf second q w → Together w L → active q L ≡ true
    → active p L ≡ false
first_idle {p = p} {q = q} L z i j t h =
    never (active p L) (λ g. let u = (active-is p L).0 g in
    let v = (active-is q L).0 h in
    t u.0 v.0 u.1 v.1 (first ∷ u.2.0) (second ∷ v.2.0) (At.inside i u.2.1) (At.inside j v.2.1) (Exclusive.apart z))

abbrev Met : Statement → (L : ℕ) → Place → Type 0
Met p L a = (1 ≤ resuming p L (at a)) ⊎ AtLoop a p

met_in : {d : Part} {c p : Statement} (L : ℕ) {a : Place} → PartOf d c p → (1 ≤ resuming c L (at a) → 1 ≤ resuming p L (at (d ∷ a))) → Met c L a → Met p L (d ∷ a)
met_in L i f (inl h) = inl (f h)
met_in L i f (inr x) = inr (AtLoop.inside i x)

met_own : (p : Statement) (L : ℕ) → active p L ≡ true → Met p L []
unfolding resuming at active
met_own nothing L h = absurd (false≢true h)
met_own (pause l) L h = inl (omega arith)
met_own (emit s v) L h = absurd (false≢true h)
met_own (exit n) L h = absurd (false≢true h)
met_own (seq p q) L h = inl (omega arith)
met_own (par p q) L h = inl (omega arith)
met_own (loop a p) L h = inr AtLoop.itself
met_own (present s p q) L h = inl (omega arith)
met_own (signal sc a s p) L h = inl (omega arith)
met_own (try p) L h = inl (omega arith)
met_own (setpause l) L h = absurd (false≢true h)
met_own (suspend s p) L h = inl (omega arith)
met_own (held s K p) L h = absurd (false≢true h)

met_round : {b : ℕ} {p : Statement} (L : ℕ) (a : Place) → Met p L a → Met (loop b p) L (first ∷ a)
unfolding resuming at
met_round L [] x = inr AtLoop.body
met_round L (first ∷ a) x = met_in L loop₁ (λ h. h) x
met_round L (second ∷ a) x = met_in L loop₁ (λ h. h) x

pub met_active : {y : Statement} {a : Place} {p : Statement} (L : ℕ) → Together p L → At y a p → active y L ≡ true → Met p L a
unfolding resuming at
met_active {p = p} L t At.here h = met_own p L h
met_active L t (At.inside seq₁ x) h =
    met_in L seq₁ (λ k. rw (active_at L x h) (omega (arith, k))) (met_active L (together_part L seq₁ t) x h)
met_active L t (At.inside seq₂ x) h =
    met_in L seq₂ (λ k. rw (first_idle L Alternative.sequence seq₁ seq₂ t (active_at L x h)) (omega (arith, k)))
    (met_active L (together_part L seq₂ t) x h)
met_active L t (At.inside par₁ x) h =
    met_in L par₁ (λ k. rw (active_at L x h) (omega (arith, k))) (met_active L (together_part L par₁ t) x h)
met_active L t (At.inside par₂ x) h =
    met_in L par₂ (λ k. rw (active_at L x h) (omega (arith, k))) (met_active L (together_part L par₂ t) x h)
met_active L t (At.inside {a = a} (loop₁ {a = b}) x) h = met_round L a (met_active L (together_part L (loop₁ {a = b}) t) x h)
met_active L t (At.inside (present₁ {s = s} {q = q}) x) h =
    met_in L present₁ (λ k. rw (active_at L x h) (omega (arith, k))) (met_active L (together_part L (present₁ {s = s} {q = q}) t) x h)
met_active L t (At.inside (present₂ {s = s} {p = p}) x) h =
    met_in L present₂ (λ k. rw (first_idle L Alternative.test present₁ present₂ t (active_at L x h)) (omega (arith, k)))
    (met_active L (together_part L (present₂ {s = s} {p = p}) t) x h)
met_active L t (At.inside signal₁ x) h = met_in L signal₁ (λ k. omega (arith, k)) (met_active L (together_part L signal₁ t) x h)
met_active L t (At.inside try₁ x) h = met_in L try₁ (λ k. omega (arith, k)) (met_active L (together_part L try₁ t) x h)
met_active L t (At.inside suspend₁ x) h = met_in L suspend₁ (λ k. omega (arith, k)) (met_active L (together_part L suspend₁ t) x h)
