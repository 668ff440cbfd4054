-- What holds of each error that a command may make holds of the one that an instant names: that its place fits two bytes, and where
-- it is.
use Prim.Native.Nat.{ℕ, ◌^◌, ◌<◌, ◌≤◌}
use native.Mathlib.Omega.{arith}
use mathlib.Core.Path.{◌≡◌, refl, sym, ap, subst}
use mathlib.Core.Logic.{◌≢◌, ⊎_elim}
use mathlib.Core.Bool.{Bool, true, false, cond}
use mathlib.Core.Option.{Option, none, some}
use mathlib.Core.List.Memᴰ
use mathlib.Core.List.{List, [], ◌∷◌, ◌++◌, head?, Memᴰ}
use lib.ListN.{length}
use Rattle.spec_base.specs.Limits.{place_bytes}
use Rattle.spec_base.specs.Sets.{member, insert, remove}
use Rattle.spec_language.specs.Statement.{Statement, nothing, pause, emit, exit, seq, par, loop, present, signal, try, setpause, suspend, held}
use Rattle.spec_language.specs.Reaction.{Code, ended, waiting, leaving, wrong, code, Case, both, neither, only−, only+, inherited, case_of, react, inheritanceFirst}
use Rattle.spec_language.specs.Errors.{Error, instantaneous, not_reactive, not_deterministic, if_ended, loop_errors, signal_errors, errors, first_error, blame, errors_by}
use Rattle.spec_language.specs.States.{active}
use Rattle.spec_language.specs.LabelTests.{active_labels}
use Rattle.spec_language.specs.Expansion.{expand}
use Rattle.spec_language.specs.ReadBack.{declared_by, declared}

-- P holds of each error that a loop or a signal of p may make
abbrev pub AllErrors : (Error → Type 0) → Statement → Type 0
AllErrors P nothing = Unit {0}
AllErrors P (pause l) = Unit {0}
AllErrors P (emit s v) = Unit {0}
AllErrors P (exit k) = Unit {0}
AllErrors P (seq p q) = AllErrors P p × AllErrors P q
AllErrors P (par p q) = AllErrors P p × AllErrors P q
AllErrors P (loop a p) = P (instantaneous a) × AllErrors P p
AllErrors P (present s p q) = AllErrors P p × AllErrors P q
AllErrors P (signal sc a s p) = P (not_reactive a) × P (not_deterministic a) × AllErrors P p
AllErrors P (try p) = AllErrors P p
AllErrors P (setpause l) = Unit {0}
AllErrors P (suspend s p) = AllErrors P p
AllErrors P (held s K p) = AllErrors P p

abbrev pub PlacesBelow : ℕ → Statement → Type 0
PlacesBelow n p = AllErrors (λ (x : Error). x.place < n) p

module _ (P : Error → Type 0) where
  -- ---- also for a copy made by expansion
  cond-errors : (b : Bool) (p q : Statement) → AllErrors P p → AllErrors P q → AllErrors P (cond b p q)
  cond-errors true p q f g = f
  cond-errors false p q f g = g

  pub errors-expand : (p : Statement) (L : ℕ) → AllErrors P p → AllErrors P (expand p L)
  unfolding expand
  errors-expand nothing L h = tt
  errors-expand (pause l) L h = tt
  errors-expand (emit s v) L h = tt
  errors-expand (exit k) L h = tt
  errors-expand (seq p q) L h =
      cond-errors (active p L) (seq (expand p L) q) (expand q L) (errors-expand p L h.0, h.1) (errors-expand q L h.1)
  errors-expand (par p q) L h = (
    cond-errors (active p L) (expand p L) nothing (errors-expand p L h.0) tt,
    cond-errors (active q L) (expand q L) nothing (errors-expand q L h.1) tt,
  )
  errors-expand (loop a p) L h = (errors-expand p L h.1, h)
  errors-expand (present s p q) L h =
      cond-errors (active p L) (expand p L) (expand q L) (errors-expand p L h.0) (errors-expand q L h.1)
  errors-expand (signal sc a s p) L h = (h.0, h.1, errors-expand p L h.2)
  errors-expand (try p) L h = errors-expand p L h
  errors-expand (setpause l) L h = tt
  errors-expand (suspend s p) L h =
      cond-errors (active p L) (held s (active_labels p L) (expand p L)) nothing (errors-expand p L h) tt
  errors-expand (held s K p) L h = tt

  -- ---- under declarations at place a, if there are any
  pub errors-declared : (a : ℕ) (ss : List ℕ) (p : Statement) → (ss ≢ [] → P (not_reactive a) × P (not_deterministic a))
      → AllErrors P p → AllErrors P (declared a ss p)
  unfolding declared_by
  errors-declared a [] p f h = h
  errors-declared a (s ∷ ss) p f h =
      let g = f (λ z. absurd (omega (arith, ap length z))) in
      (g.0, g.1, errors-declared a ss p (λ n. g) h)

  -- ---- the errors of an instant
  abbrev Every : List Error → Type 0
  Every xs = (x : Error) → Memᴰ x xs → P x

  every-nil : Every []
  every-nil x m = absurd (Memᴰ.not-nil m)

  every_append : (xs ys : List Error) → Every xs → Every ys → Every (xs ++ ys)
  every_append xs ys f g x m = ⊎_elim (f x) (g x) (Memᴰ.append_cases xs m)

  every_one : (y : Error) → P y → Every (y ∷ [])
  every_one y h x m = subst P (sym (Memᴰ.eq_of_singleton m)) h

  every-ifEnded : (k : Code) (xs : List Error) → Every xs → Every (if_ended k xs [])
  every-ifEnded ended xs f = f
  every-ifEnded waiting xs f = every-nil
  every-ifEnded (leaving m) xs f = every-nil
  every-ifEnded wrong xs f = every-nil

  every-signal : (a : ℕ) (c : Case) → P (not_reactive a) → P (not_deterministic a) → Every (signal_errors a c)
  every-signal a both f g = every-nil
  every-signal a neither f g = every-nil
  every-signal a only− f g = every_one _ f
  every-signal a only+ f g = every_one _ g
  every-signal a inherited f g = every-nil

  every-present : (b : Bool) (xs ys : List Error) → Every xs → Every ys → Every (cond b xs ys)
  every-present true xs ys f g = f
  every-present false xs ys f g = g

  errors-hold : (p : Statement) (e : ℕ) → AllErrors P p → Every (errors p e)
  unfolding errors_by
  errors-hold nothing e h = every-nil
  errors-hold (pause l) e h = every-nil
  errors-hold (emit s v) e h = every-nil
  errors-hold (exit k) e h = every-nil
  errors-hold (seq p q) e h =
      every_append (errors p e) (if_ended (code (react p e)) (errors q e) []) (errors-hold p e h.0)
      (every-ifEnded (code (react p e)) (errors q e) (errors-hold q e h.1))
  errors-hold (par p q) e h = every_append (errors p e) (errors q e) (errors-hold p e h.0) (errors-hold q e h.1)
  errors-hold (loop a p) e h =
      every_append (errors p e) (loop_errors a (code (react p e))) (errors-hold p e h.1)
      (every-ifEnded (code (react p e)) _ (every_one _ h.0))
  errors-hold (present s p q) e h =
      every-present (member s e) (errors p e) (errors q e) (errors-hold p e h.0) (errors-hold q e h.1)
  errors-hold (signal sc a s p) e h =
      every_append (errors p (remove s e) ++ errors p (insert s e)) _
      (every_append (errors p (remove s e)) (errors p (insert s e)) (errors-hold p (remove s e) h.2) (errors-hold p (insert s e) h.2))
      (every-signal a (case_of inheritanceFirst s (react p (remove s e)) (react p (insert s e))) h.0 h.1)
  errors-hold (try p) e h = errors-hold p e h
  errors-hold (setpause l) e h = every-nil
  errors-hold (suspend s p) e h = errors-hold p e h
  errors-hold (held s K p) e h = every-present (member s e) [] (errors p e) every-nil (errors-hold p e h)

  -- the first of them
  pub first_holds : (t : Statement) (e : ℕ) (x : Error) → AllErrors P t → first_error t e ≡ some x → P x
  first_holds t e x h = go (errors t e) (errors-hold t e h)
    where
      go : (xs : List Error) → Every xs → head? xs ≡ some x → P x
      go [] f i = absurd (let z : ◌≡◌ {A = ℕ} 0 1 = cc in omega arith)
      go (y ∷ xs) f i = let q : y ≡ x = cc in subst P q (f y (Memᴰ.head refl))

-- ---- what an instant names fits its bytes
names-below : (n : ℕ) (k : Code) (x : Option Error) → n ≤ 256 ^ place_bytes → ((y : Error) → x ≡ some y → y.place < n)
    → (blame k x).place < 256 ^ place_bytes
names-below n ended x h f = omega arith
names-below n waiting x h f = omega arith
names-below n (leaving m) x h f = omega arith
names-below n wrong none h f = omega arith
names-below n wrong (some y) h f = omega (arith, h, f y refl)

pub place_fits : (n : ℕ) (t : Statement) (e : ℕ) (k : Code) → n ≤ 256 ^ place_bytes → PlacesBelow n t
    → (blame k (first_error t e)).place < 256 ^ place_bytes
place_fits n t e k h f = names-below n k (first_error t e) h (λ y. first_holds (λ (x : Error). x.place < n) t e y f)
