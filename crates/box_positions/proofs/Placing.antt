-- The laws by which the code returns, over plain lists.
use Prim.Native.Nat.{ℕ, zero, suc, ◌+◌, ◌-◌, ◌*◌, ◌≤◌, ◌<◌}
use native.Mathlib.Omega.{arith}
use mathlib.Core.Path.{◌≡◌, sym, ap, ap₂, ◌∙◌}
use mathlib.Core.Bool.{cond}
use mathlib.Core.Logic.{◌≢◌}
use mathlib.Core.List.{List, ◌++◌}
use lib.ListN.{length, take, drop, length-drop}
use lib.Seq.{sets, length-take-le}
use lib.Dec.{eqb, ltb}
use borrow.Author.Tests.{eq-eqb, ne_eqb, lt-ltb, le-ltb}
use Rattle.spec_base.specs.Limits.{max_positions, name_bytes}
use Rattle.spec_base.specs.Bytes.{le_bytes, replaced}
use Rattle.numbers.proofs.Bytes.{length_le_bytes}
use Rattle.numbers.proofs.Writing.{replaced-by}
use Rattle.spec_tick.specs.StateRecord.{state_length, state_record}
use Rattle.records.proofs.StateLaws.{state_sized}
use Rattle.spec_base.specs.Parts.{slot, put, zeros}
use Rattle.numbers.proofs.Putting.{length-put, stored, put_next}
use Rattle.spec_bay.specs.Table.{entry_length, table_length, key_in, written, cleared, kept, save_of}
use Rattle.box_positions.specs.Places.{place, place_of, place_for}
use Rattle.box_positions.proofs.Searching.{save_is}

place_step : (n key : ℕ) (t : List ℕ) → 0 < n → place n key t ≡ cond (eqb (key_in (n - 1) t) key) (n - 1) (place (n - 1) key t)
unfolding place
place_step zero key t h = absurd (omega arith)
place_step (suc n) key t h = let e : suc n - 1 ≡ n = omega arith in rw e

module _ (n key : ℕ) (t : List ℕ) (i : ℕ) (inv : place n key t ≡ place i key t) where
  pub hit : {r : ℕ} → 0 < i → r ≡ key_in (i - 1) t → r ≡ key → place n key t ≡ i - 1
  hit h e k = inv ∙ place_step i key t h ∙ rw (eq-eqb (key_in (i - 1) t) key (sym e ∙ k))

  pub missed : {r : ℕ} → 0 < i → r ≡ key_in (i - 1) t → r ≢ key → place n key t ≡ place (i - 1) key t
  missed h e k = inv ∙ place_step i key t h ∙ rw (ne_eqb (key_in (i - 1) t) key (λ x. k (e ∙ x)))

  pub nowhere : i ≤ 0 → place n key t ≡ max_positions
  unfolding place
  nowhere h = let e : i ≡ 0 = omega arith in inv ∙ ap (λ (m : ℕ). place m key t) e

-- ---- a name is saved at its place, or at a free one
module _ (name : ℕ) (t : List ℕ) (labels : ℕ) where
  pub saved : {i : ℕ} → (i < max_positions) × (place_for name t ≡ i) → {t' : List ℕ} → t' ≡ written i name labels t → kept 0 t' ≡ save_of name labels t
  saved {i} (l, e) {t'} h =
      (let w : kept 0 t' ≡ cond (ltb (place_for name t) max_positions) (kept 0 (written (place_for name t) name labels t)) (kept 16 t) =
      rw (e, lt-ltb i max_positions l) (ap (kept 0) h) in w)
      ∙ sym (save_is name labels t)

  pub not_saved : place_for name t ≡ max_positions → kept 16 t ≡ save_of name labels t
  not_saved e =
      (let w : kept 16 t ≡ cond (ltb (place_for name t) max_positions) (kept 0 (written (place_for name t) name labels t)) (kept 16 t) =
      rw e in w)
      ∙ sym (save_is name labels t)

module _ (i : ℕ) (t : List ℕ) where
  pub forgotten : i < max_positions → {t' : List ℕ} → t' ≡ cleared i t → kept 0 t' ≡ cond (ltb i max_positions) (kept 0 (cleared i t)) (kept 15 t)
  forgotten l w = rw (lt-ltb i max_positions l) (ap (kept 0) w)

-- ---- an entry is written, or cleared
module _ (i : ℕ) (t : List ℕ) (z : length t ≡ table_length) (l : i < max_positions) where
  pub entry-fits : i * entry_length + entry_length ≤ length t
  entry-fits = omega arith

  pub entry-cleared : sets t (i * entry_length) (le_bytes entry_length 0) ≡ cleared i t
  unfolding zeros
  entry-cleared = stored (i * entry_length) entry_length (le_bytes entry_length 0) t entry-fits (length_le_bytes entry_length 0)

  module _ (name labels : ℕ) where
    abbrev from : ℕ
    from = i * entry_length + name_bytes

    abbrev bytes : List ℕ
    bytes = le_bytes name_bytes name

    name-fits : i * entry_length + name_bytes ≤ length t
    name-fits = omega arith

    name-sized : length bytes ≡ name_bytes
    name-sized = length_le_bytes name_bytes name

    pub entry-written : {t₁ state : List ℕ} → t₁ ≡ sets t (i * entry_length) bytes
        → state ≡ replaced (slot from (from + state_length - from) t₁) (state_record 1 labels)
        → take from t₁ ++ (state ++ drop (from + state_length - from) (drop from t₁)) ≡ written i name labels t
    unfolding put
    entry-written {t₁} {state} e w =
        let k : from + state_length - from ≡ state_length = omega arith in
        let n : t₁ ≡ put (i * entry_length) name_bytes bytes t = e ∙ stored (i * entry_length) name_bytes bytes t name-fits name-sized in
        let q : length t₁ ≡ table_length = ap length n ∙ length-put (i * entry_length) name_bytes bytes t name-fits name-sized ∙ z in
        let r : length (slot from (from + state_length - from) t₁) ≡ state_length =
        ap (λ (m : ℕ). length (slot from m t₁)) k ∙ length-take-le state_length (drop from t₁) (omega (arith, length-drop from t₁)) in
        let v : state ≡ state_record 1 labels =
        w ∙ replaced-by state_length (slot from (from + state_length - from) t₁) (state_record 1 labels) (state_sized 1 labels) r in
        ap (λ (m : ℕ). take from t₁ ++ (state ++ drop m (drop from t₁))) k
        ∙ ap₂ (λ (x y : List ℕ). put from state_length y x) n v
        ∙ put_next (i * entry_length) name_bytes bytes t name-fits name-sized state_length (state_record 1 labels)
