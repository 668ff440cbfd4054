-- Laws of text put before text in a buffer.
use Prim.Native.Nat.{ℕ, suc, ◌+◌, ◌-◌, ◌≤◌, ◌<◌}
use native.Mathlib.Omega.{arith}
use mathlib.Core.Path.{◌≡◌, refl, sym, ap, ap₂, ◌∙◌, subst}
use mathlib.Core.List.{List, [], ◌∷◌, ◌++◌, append-nil, append_assoc}
use lib.ListN.{length, take, drop, set, length-append, length-set}
use lib.Seq.{take-set-le, drop-set-lt, drop-cons, get_or-set_same, take-take}
use Rattle.lines.specs.Buffer.{Prepended}

pub one : (l : List ℕ) (i x : ℕ) → i < length l → Prepended l (suc i) (x ∷ []) (set l i x) i
one l i x h =
    record {
      fits = omega arith;
      kept = take-set-le i l i x (omega arith);
      shows =
          drop-cons (set l i x) i 0 (omega (arith, length-set l i x))
          ∙ ap₂ (λ (y : ℕ) (r : List ℕ). y ∷ r) (get_or-set_same l i x 0 h) (drop-set-lt (suc i) l i x (omega arith));
    }

pub none-put : (l : List ℕ) (end : ℕ) → Prepended l end [] l end
none-put l end = record { fits = omega arith; kept = refl; shows = refl }

-- s stands before t
pub before : {a b c : List ℕ} {end from from' : ℕ} {s t : List ℕ}
    → Prepended a end t b from → Prepended b from s c from' → Prepended a end (s ++ t) c from'
before {a} {b} {c} {end} {from} {from'} {s} {t} p q =
    let e : from' + length (s ++ t) ≡ end = omega (arith, length-append s t, p.fits, q.fits) in
    let f : from' ≤ from = omega (arith, q.fits) in
    record {
      fits = e;
      kept = q.kept ∙ sym (take-take from' from b f) ∙ ap (take from') p.kept ∙ take-take from' from a f;
      shows = q.shows ∙ ap (λ (r : List ℕ). s ++ r) p.shows ∙ sym (append_assoc s t (drop end a));
    }

-- ---- a loop that puts a text from its end: `todo` is still to be put
pub record Filling (l₀ : List ℕ) (end : ℕ) (text l : List ℕ) (from : ℕ) (todo : List ℕ) : Type 0 where
  pub done : List ℕ
  pub put : Prepended l₀ end done l from
  pub all : todo ++ done ≡ text

pub begin : (l : List ℕ) (end : ℕ) (text : List ℕ) → Filling l end text l end text
begin l end text = record { done = []; put = none-put l end; all = append-nil text }

pub room : {l₀ l text todo : List ℕ} {end from : ℕ} → Filling l₀ end text l from todo → length text ≤ end → length todo ≤ from
room {l₀} {l} {text} {todo} {end} {from} f h =
    let e : length todo + length f.done ≡ length text = sym (length-append todo f.done) ∙ ap length f.all in
    omega (arith, f.put.fits, e)

pub again : {l₀ l text todo : List ℕ} {end from : ℕ} (x : ℕ) → Filling l₀ end text l from (todo ++ (x ∷ [])) → 0 < from → from ≤ length l
    → Filling l₀ end text (set l (from - 1) x) (from - 1) todo
again {l₀} {l} {text} {todo} {end} {from} x f pos le =
    let e : suc (from - 1) ≡ from = omega arith in
    let p : Prepended l from (x ∷ []) (set l (from - 1) x) (from - 1)
    = subst (λ (n : ℕ). Prepended l n (x ∷ []) (set l (from - 1) x) (from - 1)) e (one l (from - 1) x (omega arith)) in
    record { done = x ∷ f.done; put = before f.put p; all = sym (append_assoc todo (x ∷ []) f.done) ∙ f.all }

pub end_filling : {l₀ l text : List ℕ} {end from : ℕ} → Filling l₀ end text l from [] → Prepended l₀ end text l from
end_filling {l₀} {l} {text} {end} {from} f = subst (λ (t : List ℕ). Prepended l₀ end t l from) f.all f.put

pub under : {l₀ l text todo : List ℕ} {end from : ℕ} → Filling l₀ end text l from todo → from ≤ end
under f = omega (arith, f.put.fits)
