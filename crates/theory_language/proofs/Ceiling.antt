-- The ceiling of 02, item 6: no instant takes more reactions, fresh or resumed with whatever labels.
use Prim.Native.Nat.{ℕ, zero, suc, ◌+◌, ◌*◌, ◌^◌, ◌≤◌}
use mathlib.Core.Path.{◌≡◌}
use mathlib.Core.Bool.{Bool, true, false, cond}
use mathlib.Core.List.{List, [], ◌∷◌}
use lib.ListN.{length}
use native.Mathlib.Nat.{le_refl, le_trans, pow-suc, one-le-pow, add-le-add, mul-le-mul, pow-le-pow_right}
use native.Mathlib.Omega.{arith}
use Rattle.spec_base.specs.Sets.{member, insert, remove}
use Rattle.spec_language.specs.Statement.{Statement, nothing, pause, emit, exit, seq, par, loop, present, signal, try, setpause, suspend, held}
use Rattle.spec_language.specs.Reaction.{code, react}
use Rattle.spec_language.specs.States.{active}
use Rattle.spec_language.specs.LabelTests.{active_labels}
use Rattle.spec_language.specs.Expansion.{expand, if_active}
use Rattle.spec_language.specs.Reactions.{reactions_by, reactions}
use Rattle.spec_language.specs.Sizes.{commands, loop_nesting, signal_nesting}
use Rattle.spec_language.specs.Ceiling.{ceiling}
use Rattle.spec_language.specs.ReadBack.{declared_by, declared}
use Rattle.theory_language.proofs.Reactions.{if_ended_lem, either, some_reaction}

-- ---- a bound from those of the parts
abbrev Bound : (n m g : ℕ) → ℕ
Bound n m g = n * (1 + m) * 2 ^ g

positive : (g : ℕ) → 1 ≤ 2 ^ g
positive g = one-le-pow g 2 (omega arith)

module _ (m g : ℕ) where
  one : (n : ℕ) → 1 ≤ Bound (1 + n) m g
  one n = let o = positive g in omega arith

  over-one : {x : ℕ} (n : ℕ) → x ≤ Bound n m g → 1 + x ≤ Bound (1 + n) m g
  over-one n h = let o = positive g in omega arith

  over_two : {x y : ℕ} (n₁ n₂ : ℕ) → x ≤ Bound n₁ m g → y ≤ Bound n₂ m g → 1 + x + y ≤ Bound (1 + n₁ + n₂) m g
  over_two n₁ n₂ h i = let o = positive g in omega arith

  -- a signal over its two runs
  twice : {x y : ℕ} (n : ℕ) → x ≤ Bound n m g → y ≤ Bound n m g → 1 + x + y ≤ Bound (1 + n) m (suc g)
  twice {x} {y} n h i =
      let o = positive g in
      let k : 1 + x + y ≤ (1 + n) * (1 + m) * (2 ^ g * 2) = omega arith in
      rw (pow-suc 2 g) k

  -- a resumed loop, and the loop begun again
  round : {x y : ℕ} (n : ℕ) → x ≤ Bound n m g → y ≤ Bound n 0 g → 1 + x + (1 + y) ≤ Bound (1 + n) (suc m) g
  round n h i = let o = positive g in omega arith

-- ---- a fresh instant: every command at most once in each run of the signals around it
fresh_within : (p : Statement) (e m g : ℕ) → signal_nesting p ≤ g → reactions p e ≤ Bound (commands p) m g
unfolding reactions_by commands signal_nesting
fresh_within nothing e m g h = one m g 0
fresh_within (pause l) e m g h = one m g 0
fresh_within (emit s v) e m g h = one m g 0
fresh_within (exit n) e m g h = one m g 0
fresh_within (seq p q) e m g h =
    let i = if_ended_lem (code (react p e)) (reactions q e) in
    let j = over_two m g (commands p) (commands q) (fresh_within p e m g (omega arith)) (fresh_within q e m g (omega arith)) in
    omega arith
fresh_within (par p q) e m g h =
    over_two m g (commands p) (commands q) (fresh_within p e m g (omega arith)) (fresh_within q e m g (omega arith))
fresh_within (loop a p) e m g h = over-one m g (commands p) (fresh_within p e m g h)
fresh_within (present s p q) e m g h =
    let i = either (member s e) (reactions p e) (reactions q e) in
    let j = over_two m g (commands p) (commands q) (fresh_within p e m g (omega arith)) (fresh_within q e m g (omega arith)) in
    omega arith
fresh_within (signal sc a s p) e m zero h = absurd (omega arith)
fresh_within (signal sc a s p) e m (suc g) h =
    twice m g (commands p) (fresh_within p (remove s e) m g (omega arith)) (fresh_within p (insert s e) m g (omega arith))
fresh_within (try p) e m g h = over-one m g (commands p) (fresh_within p e m g h)
fresh_within (setpause l) e m g h = one m g 0
fresh_within (suspend s p) e m g h = over-one m g (commands p) (fresh_within p e m g h)
fresh_within (held s K p) e m g h =
    let i = either (member s e) 0 (reactions p e) in
    let j = over-one m g (commands p) (fresh_within p e m g h) in
    omega arith

pub fresh_below : (p : Statement) (e : ℕ) → reactions p e ≤ ceiling p
unfolding ceiling
fresh_below p e = fresh_within p e (loop_nesting p) (signal_nesting p) (le_refl (signal_nesting p))

-- ---- a resumed instant: beside that, once for each loop around it
-- what holds of both holds of the one that is chosen
pub chosen : (P : Statement → Type 0) (b : Bool) (t u : Statement) → P t → P u → P (cond b t u)
chosen P true t u h i = h
chosen P false t u h i = i

-- an inactive part is nothing
if_active_lem : (b : Bool) (t : Statement) (e : ℕ) {z : ℕ} → reactions t e ≤ z → reactions (if_active b t) e ≤ z
unfolding reactions_by
if_active_lem b t e {z} h = chosen (λ u. reactions u e ≤ z) b t nothing h (le_trans (some_reaction t e) h)

resumed_within : (p : Statement) (L e m g : ℕ) → loop_nesting p ≤ m → signal_nesting p ≤ g → reactions (expand p L) e ≤ Bound (commands p) m g
unfolding reactions_by expand commands loop_nesting signal_nesting
resumed_within nothing L e m g h i = one m g 0
resumed_within (pause l) L e m g h i = one m g 0
resumed_within (emit s v) L e m g h i = one m g 0
resumed_within (exit n) L e m g h i = one m g 0
resumed_within (seq p q) L e m g h i =
    let x = resumed_within p L e m g (omega arith) (omega arith) in
    let y = resumed_within q L e m g (omega arith) (omega arith) in
    let z = over_two m g (commands p) (commands q) x (fresh_within q e m g (omega arith)) in
    let w = if_ended_lem (code (react (expand p L) e)) (reactions q e) in
    chosen (λ t. reactions t e ≤ Bound (1 + commands p + commands q) m g) (active p L) (seq (expand p L) q) (expand q L)
    (omega arith) (omega arith)
resumed_within (par p q) L e m g h i =
    over_two m g (commands p) (commands q)
    (if_active_lem (active p L) (expand p L) e (resumed_within p L e m g (omega arith) (omega arith)))
    (if_active_lem (active q L) (expand q L) e (resumed_within q L e m g (omega arith) (omega arith)))
resumed_within (loop a p) L e zero g h i = absurd (omega arith)
resumed_within (loop a p) L e (suc m) g h i =
    let x = if_ended_lem (code (react (expand p L) e)) (1 + reactions p e) in
    let y = round m g (commands p) (resumed_within p L e m g (omega arith) i) (fresh_within p e 0 g i) in
    omega arith
resumed_within (present s p q) L e m g h i =
    let x = resumed_within p L e m g (omega arith) (omega arith) in
    let y = resumed_within q L e m g (omega arith) (omega arith) in
    chosen (λ t. reactions t e ≤ Bound (1 + commands p + commands q) m g) (active p L) (expand p L) (expand q L) (omega arith) (omega arith)
resumed_within (signal sc a s p) L e m zero h i = absurd (omega arith)
resumed_within (signal sc a s p) L e m (suc g) h i =
    twice m g (commands p) (resumed_within p L (remove s e) m g h (omega arith)) (resumed_within p L (insert s e) m g h (omega arith))
resumed_within (try p) L e m g h i = over-one m g (commands p) (resumed_within p L e m g h i)
resumed_within (setpause l) L e m g h i = one m g 0
resumed_within (suspend s p) L e m g h i =
    let x = either (member s e) 0 (reactions (expand p L) e) in
    let y = over-one m g (commands p) (resumed_within p L e m g h i) in
    if_active_lem (active p L) (held s (active_labels p L) (expand p L)) e (omega arith)
resumed_within (held s K p) L e m g h i = one m g (commands p)

-- for every set of labels, valid or not
pub resumed_below : (p : Statement) (L e : ℕ) → reactions (expand p L) e ≤ ceiling p
unfolding ceiling
resumed_below p L e = resumed_within p L e (loop_nesting p) (signal_nesting p) (le_refl (loop_nesting p)) (le_refl (signal_nesting p))

-- ---- the ceiling itself
pub ceiling_within : (p : Statement) (n m g : ℕ) → commands p ≤ n → loop_nesting p ≤ m → signal_nesting p ≤ g → ceiling p ≤ n * (1 + m) * 2 ^ g
unfolding ceiling
ceiling_within p n m g h i j = mul-le-mul (mul-le-mul h (add-le-add (le_refl 1) i)) (pow-le-pow_right {n = 2} (omega arith) j)

-- under read-back declarations
pub commands_declared : (a : ℕ) (ss : List ℕ) (p : Statement) → commands (declared a ss p) ≡ length ss + commands p
unfolding commands declared_by
commands_declared a [] p = omega arith
commands_declared a (s ∷ ss) p = let h = commands_declared a ss p in omega arith

pub loops-declared : (a : ℕ) (ss : List ℕ) (p : Statement) → loop_nesting (declared a ss p) ≡ loop_nesting p
unfolding loop_nesting declared_by
loops-declared a [] p = omega arith
loops-declared a (s ∷ ss) p = loops-declared a ss p

pub nesting_declared : (a : ℕ) (ss : List ℕ) (p : Statement) → signal_nesting (declared a ss p) ≡ length ss + signal_nesting p
unfolding signal_nesting declared_by
nesting_declared a [] p = omega arith
nesting_declared a (s ∷ ss) p = let h = nesting_declared a ss p in omega arith
