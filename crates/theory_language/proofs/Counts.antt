-- Of pauses with distinct labels below w there are at most w.
use Prim.Native.Nat.{ℕ, ◌+◌, ◌^◌, ◌<◌, ◌≤◌}
use mathlib.Core.Path.{◌≡◌, ap₂, ◌∙◌, subst}
use lib.Count.{ones, ones-le}
use Rattle.spec_base.specs.Sets.{join}
use Rattle.sets.proofs.Sizes.{size_none, size-only, size-join}
use Rattle.spec_language.specs.Statement.{Statement, nothing, pause, emit, exit, seq, par, loop, present, signal, try, setpause, suspend, held}
use Rattle.spec_language.specs.Places.{loop₁, signal₁, try₁, suspend₁}
use Rattle.spec_language.specs.States.{Distinct}
use Rattle.spec_language.specs.LabelTests.{Joint, labels_of, pauses}
use Rattle.theory_language.specs.Ranks.{pause_count}
use Rattle.theory_language.proofs.Places.{distinct_part}
use Rattle.theory_language.proofs.Order.{Joined, sequence, test, sides, first_part, second_part}
use Rattle.theory_language.proofs.LabelTests.{pauses_apart}

abbrev Counted : Statement → Type 0
Counted p = Distinct p → ones (pauses p) ≡ pause_count p

counted_two : {j : Joint} {p q c : Statement} → Joined j p q c → Counted p → Counted q
    → Distinct c → ones (join (pauses p) (pauses q)) ≡ pause_count p + pause_count q
counted_two {p = p} {q = q} t f g d =
    size-join (pauses p) (pauses q) (pauses_apart t d)
    ∙ ap₂ ◌+◌ (f (distinct_part (first_part t) d)) (g (distinct_part (second_part t) d))

counted : (p : Statement) → Counted p
unfolding labels_of pause_count
counted nothing d = size_none
counted (pause l) d = size-only l
counted (emit s v) d = size_none
counted (exit n) d = size_none
counted (seq p q) d = counted_two sequence (counted p) (counted q) d
counted (par p q) d = counted_two sides (counted p) (counted q) d
counted (loop a p) d = counted p (distinct_part (loop₁ {a = a}) d)
counted (present s p q) d = counted_two (test {s = s}) (counted p) (counted q) d
counted (signal sc a s p) d = counted p (distinct_part (signal₁ {sc = sc} {a = a} {s = s}) d)
counted (try p) d = counted p (distinct_part try₁ d)
counted (setpause l) d = size_none
counted (suspend s p) d = counted p (distinct_part (suspend₁ {s = s}) d)
counted (held s K p) d = size_none

pub few_pauses : (w : ℕ) (p : Statement) → Distinct p → pauses p < 2 ^ w → pause_count p ≤ w
few_pauses w p d h = subst (λ (n : ℕ). n ≤ w) (counted p d) (ones-le w (pauses p) h)
