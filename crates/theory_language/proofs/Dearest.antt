-- The dearest statements without loops (02, item 6): of 100 commands, with at most six signals around one, none takes more than
-- 6079 reactions in an instant, fresh or resumed with whatever labels.
use Prim.Native.Nat.{ℕ, zero, suc, ◌+◌, ◌-◌, ◌*◌, ◌^◌, ◌≤◌, min, max}
use mathlib.Core.Path.{◌≡◌, refl, ap, ◌∙◌}
use mathlib.Core.Bool.{Bool}
use native.Mathlib.Nat.{le_trans, pow-suc}
use native.Mathlib.Omega.{arith}
use Rattle.spec_base.specs.Sets.{member, insert, remove}
use Rattle.spec_language.specs.Statement.{Statement, nothing, pause, emit, exit, seq, par, loop, present, signal, try, setpause, suspend, held}
use Rattle.spec_language.specs.Reaction.{code, react}
use Rattle.spec_language.specs.States.{active}
use Rattle.spec_language.specs.LabelTests.{active_labels}
use Rattle.spec_language.specs.Expansion.{expand, if_active}
use Rattle.spec_language.specs.Reactions.{reactions_by, reactions}
use Rattle.spec_language.specs.Sizes.{commands, signal_nesting}
use Rattle.spec_language.specs.Ceiling.{LoopFree, dearest, tries, tries_but_one, hundred, hundred_takes}
use Rattle.theory_language.proofs.Reactions.{if_ended_lem, either, some_command}
use Rattle.theory_language.proofs.Ceiling.{chosen}

-- ---- the numbers
dearest-none : (g : ℕ) → dearest g 0 ≡ 1
unfolding dearest
dearest-none zero = refl
dearest-none (suc g) = refl

dearest-some : (g n : ℕ) → 1 ≤ dearest g n
unfolding dearest
dearest-some zero n = omega arith
dearest-some (suc g) zero = omega arith
dearest-some (suc g) (suc n) = let h = dearest-some g n in omega arith

dearest_mono : (g n m : ℕ) → n ≤ m → dearest g n ≤ dearest g m
unfolding dearest
dearest_mono zero n m h = omega arith
dearest_mono (suc g) zero m h = dearest-some (suc g) m
dearest_mono (suc g) (suc n) zero h = absurd (omega arith)
dearest_mono (suc g) (suc n) (suc m) h = let i = dearest_mono g n m (omega arith) in omega arith

-- a command more
dearer : (g n m : ℕ) → suc n ≤ m → 1 + dearest g n ≤ dearest g m
unfolding dearest
dearer zero n m h = omega arith
dearer (suc g) n zero h = absurd (omega arith)
dearer (suc g) zero (suc m) h = let i = dearest-some g m in omega arith
dearer (suc g) (suc n) (suc m) h = let i = dearer g n m (omega arith) in omega arith

-- a command over two parts
dearest_two : (g n m t : ℕ) → 1 + n + m ≤ t → dearest g n + dearest g m ≤ dearest g t
unfolding dearest
dearest_two zero n m t h = omega arith
dearest_two (suc g) n m zero h = absurd (omega arith)
dearest_two (suc g) zero zero (suc t) h = let i = dearest-some g t in omega arith
dearest_two (suc g) zero (suc m) (suc t) h = let i = dearer g m t (omega arith) in omega arith
dearest_two (suc g) (suc n) zero (suc t) h = let i = dearer g n t (omega arith) in omega arith
dearest_two (suc g) (suc n) (suc m) (suc t) h = let i = dearest_two g n m t (omega arith) in omega arith

-- a signal over a part
dearest_signal : (g n t : ℕ) → t ≡ suc n → dearest (suc g) t ≡ 2 * dearest g n
unfolding dearest
dearest_signal g n t h = rw h

doubled : (d x y : ℕ) → d ≡ x * y → 2 * d ≡ x * 2 * y
doubled d x y h = omega arith

product : (g n k : ℕ) → k ≡ min g (n - 1) → dearest g n ≡ 2 ^ k * (n - k + 1)
unfolding dearest
product zero n zero h = omega arith
product zero n (suc k) h = absurd (omega arith)
product (suc g) zero zero h = refl
product (suc g) zero (suc k) h = absurd (omega arith)
product (suc g) (suc zero) zero h = let i = dearest-none g in omega arith
product (suc g) (suc zero) (suc k) h = absurd (omega arith)
product (suc g) (suc (suc n)) zero h = absurd (omega arith)
product (suc g) (suc (suc n)) (suc k) h =
    let i = product g (suc n) k (omega arith) in
    let j : suc (suc n) - suc k ≡ suc n - k = omega arith in
    rw (pow-suc 2 k, j) (doubled (dearest g (suc n)) (2 ^ k) (suc n - k + 1) i)

-- as a product: as many signals as may stand around one, as long as a command is left
pub dearest-is : (g n : ℕ) → let k = min g (n - 1) in dearest g n ≡ 2 ^ k * (n - k + 1)
dearest-is g n = product g n (min g (n - 1)) refl

-- ---- a fresh instant
abbrev Within : (g : ℕ) (p : Statement) (e : ℕ) → Type 0
Within g p e = 1 + reactions p e ≤ dearest g (commands p)

-- from the parts
alone : (g : ℕ) → 1 + 1 ≤ dearest g 1
alone g = let h = dearest-none g in let i = dearer g 0 1 (omega arith) in omega arith

module _ (g e : ℕ) where
  over-one : (p : Statement) → Within g p e → 1 + (1 + reactions p e) ≤ dearest g (1 + commands p)
  over-one p h = let t = dearer g (commands p) (1 + commands p) (omega arith) in omega arith

  over_two : (p q : Statement) → Within g p e → Within g q e
      → 1 + (1 + reactions p e + reactions q e) ≤ dearest g (1 + commands p + commands q)
  over_two p q h i = let t = dearest_two g (commands p) (commands q) (1 + commands p + commands q) (omega arith) in omega arith

-- DEAREST: fresh, also with loops
pub fresh_dearest : (g : ℕ) (p : Statement) (e : ℕ) → signal_nesting p ≤ g → 1 + reactions p e ≤ dearest g (commands p)
unfolding reactions_by commands signal_nesting
fresh_dearest g nothing e h = alone g
fresh_dearest g (pause l) e h = alone g
fresh_dearest g (emit s v) e h = alone g
fresh_dearest g (exit n) e h = alone g
fresh_dearest g (seq p q) e h =
    let i = if_ended_lem (code (react p e)) (reactions q e) in
    let j = over_two g e p q (fresh_dearest g p e (omega arith)) (fresh_dearest g q e (omega arith)) in
    omega arith
fresh_dearest g (par p q) e h = over_two g e p q (fresh_dearest g p e (omega arith)) (fresh_dearest g q e (omega arith))
fresh_dearest g (loop a p) e h = over-one g e p (fresh_dearest g p e h)
fresh_dearest g (present s p q) e h =
    let i = either (member s e) (reactions p e) (reactions q e) in
    let j = over_two g e p q (fresh_dearest g p e (omega arith)) (fresh_dearest g q e (omega arith)) in
    omega arith
fresh_dearest zero (signal sc a s p) e h = absurd (omega arith)
fresh_dearest (suc g) (signal sc a s p) e h =
    let i = fresh_dearest g p (remove s e) (omega arith) in
    let j = fresh_dearest g p (insert s e) (omega arith) in
    let k = dearest_signal g (commands p) (1 + commands p) (omega arith) in
    omega arith
fresh_dearest g (try p) e h = over-one g e p (fresh_dearest g p e h)
fresh_dearest g (setpause l) e h = alone g
fresh_dearest g (suspend s p) e h = over-one g e p (fresh_dearest g p e h)
fresh_dearest g (held s K p) e h =
    let i = either (member s e) 0 (reactions p e) in
    let j = over-one g e p (fresh_dearest g p e h) in
    omega arith

-- ---- the expansion of a loop-free statement has no more commands and no more signals around one
-- an inactive part is nothing
commands_if : (b : Bool) (t p : Statement) → commands t ≤ commands p → commands (if_active b t) ≤ commands p
unfolding commands
commands_if b t p h = chosen (λ u. commands u ≤ commands p) b t nothing h (some_command p)

nesting_if : (b : Bool) (t p : Statement) → signal_nesting t ≤ signal_nesting p → signal_nesting (if_active b t) ≤ signal_nesting p
unfolding signal_nesting
nesting_if b t p h = chosen (λ u. signal_nesting u ≤ signal_nesting p) b t nothing h (omega arith)

module _ (L : ℕ) where
  pub expand-commands : (p : Statement) → LoopFree p → commands (expand p L) ≤ commands p
  unfolding LoopFree expand commands
  expand-commands nothing h = omega arith
  expand-commands (pause l) h = omega arith
  expand-commands (emit s v) h = omega arith
  expand-commands (exit n) h = omega arith
  expand-commands (seq p q) h =
      let i = expand-commands p h.0 in
      let j = expand-commands q h.1 in
      chosen (λ t. commands t ≤ 1 + commands p + commands q) (active p L) (seq (expand p L) q) (expand q L) (omega arith) (omega arith)
  expand-commands (par p q) h =
      let i = commands_if (active p L) (expand p L) p (expand-commands p h.0) in
      let j = commands_if (active q L) (expand q L) q (expand-commands q h.1) in
      omega arith
  expand-commands (loop a p) h = absurd h
  expand-commands (present s p q) h =
      let i = expand-commands p h.0 in
      let j = expand-commands q h.1 in
      chosen (λ t. commands t ≤ 1 + commands p + commands q) (active p L) (expand p L) (expand q L) (omega arith) (omega arith)
  expand-commands (signal sc a s p) h = let i = expand-commands p h in omega arith
  expand-commands (try p) h = let i = expand-commands p h in omega arith
  expand-commands (setpause l) h = omega arith
  expand-commands (suspend s p) h =
      let i = expand-commands p h in
      commands_if (active p L) (held s (active_labels p L) (expand p L)) (suspend s p) (omega arith)
  expand-commands (held s K p) h = omega arith

  -- also with loops
  pub expand-nesting : (p : Statement) → signal_nesting (expand p L) ≤ signal_nesting p
  unfolding expand signal_nesting
  expand-nesting nothing = omega arith
  expand-nesting (pause l) = omega arith
  expand-nesting (emit s v) = omega arith
  expand-nesting (exit n) = omega arith
  expand-nesting (seq p q) =
      let i = expand-nesting p in
      let j = expand-nesting q in
      chosen (λ t. signal_nesting t ≤ max (signal_nesting p) (signal_nesting q)) (active p L) (seq (expand p L) q) (expand q L) (omega arith) (omega arith)
  expand-nesting (par p q) =
      let i = nesting_if (active p L) (expand p L) p (expand-nesting p) in
      let j = nesting_if (active q L) (expand q L) q (expand-nesting q) in
      omega arith
  expand-nesting (loop a p) = let i = expand-nesting p in omega arith
  expand-nesting (present s p q) =
      let i = expand-nesting p in
      let j = expand-nesting q in
      chosen (λ t. signal_nesting t ≤ max (signal_nesting p) (signal_nesting q)) (active p L) (expand p L) (expand q L) (omega arith) (omega arith)
  expand-nesting (signal sc a s p) = let i = expand-nesting p in omega arith
  expand-nesting (try p) = expand-nesting p
  expand-nesting (setpause l) = omega arith
  expand-nesting (suspend s p) = nesting_if (active p L) (held s (active_labels p L) (expand p L)) p (expand-nesting p)
  expand-nesting (held s K p) = omega arith

-- DEAREST: resumed
pub resumed_dearest : (g : ℕ) (p : Statement) (L e : ℕ) → LoopFree p → signal_nesting p ≤ g → 1 + reactions (expand p L) e ≤ dearest g (commands p)
resumed_dearest g p L e f h =
    le_trans (fresh_dearest g (expand p L) e (le_trans (expand-nesting L p) h))
    (dearest_mono g (commands (expand p L)) (commands p) (expand-commands L p f))

-- ---- of 100 commands
module _ (p : Statement) (many : commands p ≡ 100) (nested : signal_nesting p ≤ 6) where
  at-hundred : dearest 6 (commands p) ≡ 6080
  at-hundred = ap (dearest 6) many ∙ hundred_takes.4

  -- also with loops
  pub hundred-fresh : (e : ℕ) → reactions p e ≤ 6079
  hundred-fresh e = let h = fresh_dearest 6 p e nested in let i = at-hundred in omega arith

  pub hundred-resumed : LoopFree p → (L e : ℕ) → reactions (expand p L) e ≤ 6079
  hundred-resumed f L e = let h = resumed_dearest 6 p L e f nested in let i = at-hundred in omega arith

-- the one that takes so many (spec_language, specs/Ceiling) is one of them
pub hundred_free : LoopFree hundred
unfolding LoopFree hundred tries tries_but_one
hundred_free = search
