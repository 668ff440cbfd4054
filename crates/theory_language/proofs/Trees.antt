-- An instant, and its tree, from those of the parts: a law for each command.
use Prim.Native.Nat.{ℕ, ◌+◌}
use mathlib.Core.Path.{◌≡◌, refl, ap, ◌∙◌}
use mathlib.Core.Bool.{Bool, true, false, cond}
use mathlib.Core.Option.{Option}
use mathlib.Core.List.{List, [], ◌∷◌, ◌++◌, head?}
use Rattle.spec_base.specs.Sets.{member, none, insert, remove}
use Rattle.spec_language.specs.Statement.{Scope, Statement, seq, par, loop, present, signal, try, suspend, held}
use Rattle.spec_language.specs.Reaction.{Code, ended, waiting, leaving, wrong, is_wrong, emitted, code, in_seq, in_par, in_loop, in_signal, in_suspend, stopped, inheritanceFirst, first_fit, react_by, react}
use Rattle.spec_language.specs.Errors.{Error, instantaneous, if_ended, signal_errors, errors_by, errors}
use Rattle.spec_language.specs.Reactions.{reactions_by, reactions}
use Rattle.theory_language.specs.Asked.{asked_by, asked}
use Rattle.spec_language.specs.Litres.{delivered_by, delivered}
use Rattle.spec_language.specs.Instants.{Instant, instant, start}
use Rattle.theory_language.specs.InstantRules.{seq_instant, par_instant, loop_instant, present_instant, try_instant, signal_names, signal_instant, suspend_instant, stopped_instant}
use Rattle.theory_language.specs.Traced.{traced, start_traced, seq_traced, par_traced, loop_traced, present_traced, try_traced, signal_traced, suspend_traced, held_traced, stopped_traced}
use Rattle.theory_language.proofs.SignalOrders.{Blamed, blamed}

-- ---- the first error of a list in parts: what is wrong has one, what is not has none
seq_first : (k : Code) (xs ys : List Error) → Blamed (is_wrong k) xs → head? (xs ++ if_ended k ys []) ≡ if_ended k (head? ys) (head? xs)
seq_first ended xs ys h = rw h
seq_first waiting xs ys h = rw h
seq_first (leaving n) xs ys h = rw h
seq_first wrong xs ys h = rw h.2

par_first : (w : Bool) (xs ys : List Error) → Blamed w xs → head? (xs ++ ys) ≡ cond w (head? xs) (head? ys)
par_first true xs ys h = rw h.2
par_first false xs ys h = rw h

alone : (i− i+ : Bool) (a : ℕ) (x : Option Error)
    → head? (signal_errors a (first_fit inheritanceFirst i− i+ false false))
    ≡ signal_names (first_fit inheritanceFirst i− i+ false false) a x
alone true true a x = refl
alone true false a x = refl
alone false true a x = refl
alone false false a x = refl

signal_first : (i− i+ w− w+ : Bool) (a : ℕ) (xs ys : List Error) → Blamed w− xs → Blamed w+ ys
    → head? (xs ++ ys ++ signal_errors a (first_fit inheritanceFirst i− i+ w− w+))
    ≡ signal_names (first_fit inheritanceFirst i− i+ w− w+) a (cond w− (head? xs) (head? ys))
signal_first i− i+ true w+ a xs ys h g = rw h.2
signal_first i− i+ false true a xs ys h g = rw (h, g.2)
signal_first i− i+ false false a xs ys h g = rw (h, g) (alone i− i+ a Option.none)

-- ---- an instant from the instants of the parts
pub start_seq : (p q : Statement) (e : ℕ) → start (seq p q) e ≡ seq_instant q (start p e) (start q e)
unfolding react_by errors_by reactions_by
start_seq p q e =
    ap (λ (x : Option Error). instant (in_seq q (react p e) (react q e)) x (reactions (seq p q) e)) (seq_first (code (react p e)) (errors p e) (errors q e) (blamed p e))

pub start_par : (p q : Statement) (e : ℕ) → start (par p q) e ≡ par_instant (start p e) (start q e)
unfolding react_by errors_by reactions_by
start_par p q e =
    ap (λ (x : Option Error). instant (in_par (react p e) (react q e)) x (reactions (par p q) e)) (par_first (is_wrong (code (react p e))) (errors p e) (errors q e) (blamed p e))

pub start_loop : (a : ℕ) (p : Statement) (e : ℕ) → start (loop a p) e ≡ loop_instant a p (start p e)
unfolding react_by errors_by reactions_by
start_loop a p e =
    ap (λ (x : Option Error). instant (in_loop a p (react p e)) x (reactions (loop a p) e)) (seq_first (code (react p e)) (errors p e) (instantaneous a ∷ []) (blamed p e))

pub start_present : (s : ℕ) (p q : Statement) (e : ℕ) → start (present s p q) e ≡ present_instant (cond (member s e) (start p e) (start q e))
unfolding react_by errors_by reactions_by
start_present s p q e = go (member s e)
  where
    go : (b : Bool)
        → instant (cond b (react p e) (react q e)) (head? (cond b (errors p e) (errors q e))) (1 + cond b (reactions p e) (reactions q e))
        ≡ present_instant (cond b (start p e) (start q e))
    go true = refl
    go false = refl

pub start_signal : (sc : Scope) (a s : ℕ) (p : Statement) (e : ℕ)
    → start (signal sc a s p) e ≡ signal_instant sc a s (start p (remove s e)) (start p (insert s e))
unfolding react_by errors_by reactions_by
start_signal sc a s p e =
    let r− = react p (remove s e) in
    let r+ = react p (insert s e) in
    ap (λ (x : Option Error). instant (in_signal inheritanceFirst sc a s r− r+) x (reactions (signal sc a s p) e))
    (signal_first (member s (emitted r−)) (member s (emitted r+)) (is_wrong (code r−)) (is_wrong (code r+)) a
    (errors p (remove s e)) (errors p (insert s e)) (blamed p (remove s e)) (blamed p (insert s e)))

pub start_try : (p : Statement) (e : ℕ) → start (try p) e ≡ try_instant (start p e)
unfolding react_by errors_by reactions_by
start_try p e = refl

pub start_suspend : (s : ℕ) (p : Statement) (e : ℕ) → start (suspend s p) e ≡ suspend_instant s (start p e)
unfolding react_by errors_by reactions_by
start_suspend s p e = refl

pub start_held : (s K : ℕ) (p : Statement) (e : ℕ)
    → start (held s K p) e ≡ cond (member s e) (stopped_instant s K p) (suspend_instant s (start p e))
unfolding react_by errors_by reactions_by
start_held s K p e = go (member s e)
  where
    go : (b : Bool)
        → instant (cond b (stopped s K p) (in_suspend s (react p e))) (head? (cond b [] (errors p e))) (1 + cond b 0 (reactions p e))
        ≡ cond b (stopped_instant s K p) (suspend_instant s (start p e))
    go true = refl
    go false = refl

-- ---- a tree from the trees of the parts, with the litres of a farm
module _ (f : ℕ) where
  pub start-traced-seq : (p q : Statement) (e : ℕ) → start_traced f (seq p q) e ≡ seq_traced q (start_traced f p e) (start_traced f q e)
  unfolding asked_by delivered_by
  start-traced-seq p q e = ap (λ (i : Instant). traced i (asked (seq p q) e) (delivered f (seq p q) e)) (start_seq p q e)

  pub start-traced-par : (p q : Statement) (e : ℕ) → start_traced f (par p q) e ≡ par_traced (start_traced f p e) (start_traced f q e)
  unfolding asked_by delivered_by
  start-traced-par p q e = ap (λ (i : Instant). traced i (asked (par p q) e) (delivered f (par p q) e)) (start_par p q e)

  pub start-traced-loop : (a : ℕ) (p : Statement) (e : ℕ) → start_traced f (loop a p) e ≡ loop_traced a p (start_traced f p e)
  unfolding asked_by delivered_by
  start-traced-loop a p e = ap (λ (i : Instant). traced i (asked p e) (delivered f (loop a p) e)) (start_loop a p e)

  pub start-traced-present : (s : ℕ) (p q : Statement) (e : ℕ)
      → start_traced f (present s p q) e ≡ present_traced s (cond (member s e) (start_traced f p e) (start_traced f q e))
  unfolding asked_by delivered_by
  start-traced-present s p q e = ap (λ (i : Instant). traced i (asked (present s p q) e) (delivered f (present s p q) e)) (start_present s p q e) ∙ go (member s e)
    where
      go : (b : Bool)
          → traced (present_instant (cond b (start p e) (start q e))) (insert s (cond b (asked p e) (asked q e))) (cond b (delivered f p e) (delivered f q e))
          ≡ present_traced s (cond b (start_traced f p e) (start_traced f q e))
      go true = refl
      go false = refl

  pub start-traced-signal : (sc : Scope) (a s : ℕ) (p : Statement) (e : ℕ)
      → start_traced f (signal sc a s p) e ≡ signal_traced f sc a s (start_traced f p (remove s e)) (start_traced f p (insert s e))
  unfolding asked_by delivered_by
  start-traced-signal sc a s p e = ap (λ (i : Instant). traced i (asked (signal sc a s p) e) (delivered f (signal sc a s p) e)) (start_signal sc a s p e)

  pub start-traced-try : (p : Statement) (e : ℕ) → start_traced f (try p) e ≡ try_traced (start_traced f p e)
  unfolding asked_by delivered_by
  start-traced-try p e = ap (λ (i : Instant). traced i (asked p e) (delivered f p e)) (start_try p e)

  pub start-traced-suspend : (s : ℕ) (p : Statement) (e : ℕ) → start_traced f (suspend s p) e ≡ suspend_traced s (start_traced f p e)
  unfolding asked_by delivered_by
  start-traced-suspend s p e = ap (λ (i : Instant). traced i (asked p e) (delivered f p e)) (start_suspend s p e)

  pub start-traced-held : (s K : ℕ) (p : Statement) (e : ℕ)
      → start_traced f (held s K p) e ≡ cond (member s e) (stopped_traced s K p) (held_traced s (start_traced f p e))
  unfolding asked_by delivered_by
  start-traced-held s K p e = ap (λ (i : Instant). traced i (asked (held s K p) e) (delivered f (held s K p) e)) (start_held s K p e) ∙ go (member s e)
    where
      go : (b : Bool)
          → traced (cond b (stopped_instant s K p) (suspend_instant s (start p e))) (insert s (cond b none (asked p e))) (cond b 0 (delivered f p e))
          ≡ cond b (stopped_traced s K p) (held_traced s (start_traced f p e))
      go true = refl
      go false = refl
