-- The expansion by the ranks of the active pauses is the expansion.
use Prim.Native.Nat.{ℕ}
use mathlib.Core.Path.{◌≡◌, refl, ap, ap₂}
use mathlib.Core.Bool.{Bool, true, false, not, ◌||◌, cond, false≢true}
use Rattle.spec_language.specs.Statement.{Statement, nothing, pause, emit, exit, seq, par, loop, present, signal, try, setpause, suspend, held}
use Rattle.spec_language.specs.States.{active}
use Rattle.spec_language.specs.Expansion.{expand, if_active}
use Rattle.spec_language.specs.LabelTests.{alternative, parallel}
use Rattle.theory_language.specs.Ranks.{middle, mask}
use Rattle.theory_language.specs.RankedExpansion.{expand_by}
use Rattle.theory_language.proofs.Order.{Joined, sequence, test, sides}
use Rattle.theory_language.proofs.Ranks.{split_below, split_from, first-empty, second_empty, labels-by}

-- of two alternatives the first active one goes on, x and y being what the expansions t and u are by ranks
alternative_expands : (x y t u : Statement) (b c : Bool) → (b ≡ true → x ≡ t) → (c ≡ true → y ≡ u) → (b || c) ≡ true
    → cond (not b) y x ≡ cond b t u
alternative_expands x y t u true c f g h = f refl
alternative_expands x y t u false c f g h = g h

-- of two sides each active one
side_expands : (x t : Statement) (b : Bool) → (b ≡ true → x ≡ t) → cond (not b) nothing x ≡ if_active b t
side_expands x t true f = f refl
side_expands x t false f = refl

pub expand_by_lem : (base : ℕ) (p : Statement) (L : ℕ) → active p L ≡ true → expand_by base p (mask base p L) ≡ expand p L
unfolding expand_by mask active expand
expand_by_lem base nothing L h = absurd (false≢true h)
expand_by_lem base (pause l) L h = refl
expand_by_lem base (emit s v) L h = absurd (false≢true h)
expand_by_lem base (exit n) L h = absurd (false≢true h)
expand_by_lem base (seq p q) L h =
    let t : Joined alternative p q (seq p q) = sequence in
    rw (first-empty base L t, split_below base L t, split_from base L t)
    (alternative_expands _ _ (seq (expand p L) q) (expand q L) (active p L) (active q L)
    (λ x. ap (λ (y : Statement). seq y q) (expand_by_lem base p L x)) (expand_by_lem (middle base p) q L) h)
expand_by_lem base (par p q) L h =
    let t : Joined parallel p q (par p q) = sides in
    rw (first-empty base L t, second_empty base L t, split_below base L t, split_from base L t)
    (ap₂ par (side_expands _ (expand p L) (active p L) (expand_by_lem base p L))
    (side_expands _ (expand q L) (active q L) (expand_by_lem (middle base p) q L)))
expand_by_lem base (loop a p) L h = ap (λ (y : Statement). seq y (loop a p)) (expand_by_lem base p L h)
expand_by_lem base (present s p q) L h =
    let t : Joined alternative p q (present s p q) = test in
    rw (first-empty base L t, split_below base L t, split_from base L t)
    (alternative_expands _ _ (expand p L) (expand q L) (active p L) (active q L) (expand_by_lem base p L) (expand_by_lem (middle base p) q L) h)
expand_by_lem base (signal sc a s p) L h = ap (signal sc a s) (expand_by_lem base p L h)
expand_by_lem base (try p) L h = ap try (expand_by_lem base p L h)
expand_by_lem base (setpause l) L h = absurd (false≢true h)
expand_by_lem base (suspend s p) L h = rw h (ap₂ (held s) (labels-by L base p) (expand_by_lem base p L h))
expand_by_lem base (held s K p) L h = absurd (false≢true h)
