-- Laws of the loop that writes a number as bytes, over every number of bytes, of runs of stores, and of a buffer that a record is written to.
use mathlib.Core.Path.{◌≡◌, refl, sym, ap, ◌∙◌}
use mathlib.Core.Logic.{◌≢◌}
use mathlib.Core.List.{List, [], ◌∷◌, ◌++◌, append-nil}
use Prim.Native.Nat.{ℕ, suc, ◌+◌, ◌-◌, ◌/◌, ◌%◌, ◌≤◌, ◌<◌}
use native.Mathlib.Nat.{zero-add}
use native.Mathlib.Numerals.{add-one}
use native.Mathlib.Omega.{arith}
use lib.ListN.{length, drop, set}
use lib.Seq.{sets, sets-eq, drop-length}
use borrow.Author.Tests.{eq-eqb, ne_eqb}
use Rattle.spec_base.specs.Bytes.{le_bytes, replaced}

-- one store of the loop that writes
pub put_step : (b : List ℕ) (n i rest : ℕ) → i < n → sets (set b i (rest % 256)) (i + 1) (le_bytes (n - (i + 1)) (rest / 256)) ≡ sets b i (le_bytes (n - i) rest)
unfolding le_bytes
put_step b n i rest h =
    let e : n - i ≡ suc (n - (i + 1)) = omega arith in
    rw (e, add-one i) refl

pub put_end : (b c : List ℕ) (n i rest : ℕ) → sets b i (le_bytes (n - i) rest) ≡ c → n ≤ i → b ≡ c
unfolding le_bytes
put_end b c n i rest e h =
    let z : ◌≡◌ {A = ℕ} 0 (n - i) = omega arith in
    ap (λ (m : ℕ). sets b i (le_bytes m rest)) z ∙ e

-- ---- runs of stores

pub sets_append : (l : List ℕ) (i : ℕ) (vs ws : List ℕ) → sets (sets l i vs) (length vs + i) ws ≡ sets l i (vs ++ ws)
sets_append l i [] ws = ap (λ (k : ℕ). sets l k ws) (zero-add i)
sets_append l i (v ∷ vs) ws =
    let e : suc (length vs) + i ≡ length vs + suc i = omega arith in
    ap (λ (k : ℕ). sets (sets (set l i v) (suc i) vs) k ws) e ∙ sets_append (set l i v) (suc i) vs ws

-- a run of stores over the whole list
pub sets-whole : (l vs : List ℕ) → length vs ≡ length l → sets l 0 vs ≡ vs
sets-whole l vs e =
    sets-eq vs l 0 (omega arith)
    ∙ ap (λ (r : List ℕ). vs ++ r) (ap (λ (k : ℕ). drop k l) (zero-add (length vs) ∙ e) ∙ drop-length l)
    ∙ append-nil vs

-- ---- buffers
module _ (n : ℕ) (b r : List ℕ) (sized : length r ≡ n) where
  pub replaced-by : length b ≡ n → replaced b r ≡ r
  replaced-by h = rw (eq-eqb (length b) (length r) (h ∙ sym sized)) refl

  pub left_alone : length b ≢ n → b ≡ replaced b r
  left_alone h = rw (ne_eqb (length b) (length r) (λ e. h (e ∙ sized))) refl
