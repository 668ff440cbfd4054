-- What the box needs of a bay's tick (02, item 12): the litres come capped (reaction, capped_of), and neither 19 nor a total sees it.
use Prim.Native.Nat.{ℕ, zero, suc, ◌+◌, ◌≤◌, ◌<◌}
use mathlib.Core.Path.{◌≡◌, refl, sym, ap, ap₂, ◌∙◌}
use mathlib.Core.Bool.{false, ◌||◌}
use mathlib.Core.List.{List}
use native.Mathlib.Omega.{arith}
use native.Mathlib.Decide.{dec_lt}
use lib.ListN.{length, get_or}
use lib.Dec.{ltb}
use borrow.Author.Tests.{lt-ltb, le-ltb}
use Rattle.spec_base.specs.Limits.{litres_limit, farm_count}
use Rattle.reaction.specs.Reactions.{capped_of}
use Rattle.spec_bay.specs.Ledgers.{ledger_length, total_in, would_pass, passes, added_to, added_below, added}
use Rattle.box_ledgers.proofs.Totals.{passes-not}
use Rattle.box_ledgers.proofs.Theorems as ledgers
use Rattle.spec_tick.specs.Deliveries.{deliveries}
use Rattle.instants.specs.Delivering.{Delivers}

one_farm : (t x : ℕ) → ltb litres_limit (t + capped_of x) ≡ ltb litres_limit (t + x)
one_farm t x =
    elim (dec_lt litres_limit (t + x)) [
      | yes h ↦ lt-ltb litres_limit (t + capped_of x) (omega arith) ∙ sym (lt-ltb litres_limit (t + x) h)
      | no h ↦ le-ltb litres_limit (t + capped_of x) (omega arith) ∙ sym (le-ltb litres_limit (t + x) (omega arith))
    ]

-- litres y that are those of x, capped
module _ (x y : ℕ → ℕ) where
  same-passes : (n : ℕ) (t : ℕ → ℕ) → ((f : ℕ) → f < n → y f ≡ capped_of (x f)) → would_pass n t y ≡ would_pass n t x
  unfolding would_pass
  same-passes zero t h = refl
  same-passes (suc n) t h =
      ap₂ ◌||◌ (same-passes n t (λ f l. h f (omega arith))) (ap (λ (k : ℕ). ltb litres_limit (t n + k)) (h n (omega arith)) ∙ one_farm (t n) (x n))

  same_added : (n : ℕ) (bs : List ℕ) → ((f : ℕ) → f < n → y f ≡ x f) → added_below n y bs ≡ added_below n x bs
  unfolding added_below
  same_added zero bs h = refl
  same_added (suc n) bs h =
      ap (λ (k : ℕ). added_to n k (added_below n y bs)) (h n (omega arith)) ∙ ap (added_to n (x n)) (same_added n bs (λ f l. h f (omega arith)))

capped_small : (t x y : ℕ) → t + x ≤ litres_limit → y ≡ capped_of x → y ≡ x
capped_small t x y l e = omega arith

-- a tick of a bay whose ledger has the bytes bs
module _ (sequence state : List ℕ) (e read_back farms : ℕ) (litres bs : List ℕ) (d : Delivers sequence state e read_back farms litres) where
  abbrev exact : ℕ → ℕ
  exact f = deliveries sequence read_back state e f

  abbrev told : ℕ → ℕ
  told f = get_or litres f 0

  -- 19 is given by the exact litres
  pub passes-exactly : passes bs told ≡ passes bs exact
  passes-exactly = same-passes exact told farm_count (λ f. total_in f bs) d.1

  -- and where it is not given, the exact litres are added: each total grows by what the tick delivers
  module _ (sized : length bs ≡ ledger_length) (below : passes bs exact ≡ false) where
    pub adds-exactly : added told bs ≡ added exact bs
    adds-exactly =
        same_added exact told farm_count bs
        (λ f l. capped_small (total_in f bs) (exact f) (told f) (passes-not (λ f. total_in f bs) exact farm_count below f l) (d.1 f l))

    pub total-grows : (f : ℕ) → f < farm_count → total_in f (added told bs) ≡ total_in f bs + deliveries sequence read_back state e f
    total-grows f l = ap (total_in f) adds-exactly ∙ ledgers.added-total exact bs sized below f l
