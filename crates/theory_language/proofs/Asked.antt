-- A status that the tree of an instant does not ask for changes nothing of it. So where the run of a signal's body without the
-- signal does not ask for it, that run is the run with it too.
use Prim.Native.Nat.{ℕ, ◌+◌}
use mathlib.Core.Path.{◌≡◌, refl, sym, ap, ◌∙◌}
use mathlib.Core.Bool.{Bool, true, false, not, ◌&&◌, ◌||◌, cond, or-true, or-false, and-true, and-false}
use mathlib.Core.List.{[], ◌++◌}
use lib.Dec.{eqb}
use borrow.Author.Tests.{eqb-true, eq-eqb}
use Rattle.spec_base.specs.Sets.{member, none, join, insert, remove}
use Rattle.sets.proofs.Booleans.{or_l, clash, Tested, tested}
use Rattle.sets.proofs.Members.{member-insert, member-remove, in_l, in_r}
use Rattle.sets.proofs.Algebra.{join-none_r, join_self, remove_absent}
use Rattle.spec_language.specs.Statement.{Scope, Statement, nothing, pause, emit, exit, seq, par, loop, present, signal, try, setpause, suspend, held}
use Rattle.spec_language.specs.Reaction.{ended, waiting, leaving, wrong, Reaction, gives, code, in_seq, in_suspend, stopped, Order, inheritanceFirst, react_by}
use Rattle.spec_language.specs.Rules.{ReactsBy}
use Rattle.spec_language.specs.Errors.{if_ended, errors_by}
use Rattle.spec_language.specs.Reactions.{reactions_by}
use Rattle.theory_language.specs.Asked.{asked_by, asked, asks}
use Rattle.spec_language.specs.Litres.{chosen, passing, delivered_by}
use Rattle.theory_language.specs.InstantRules.{signal_instant}
use Rattle.theory_language.specs.Traced.{Traced, traced, asked_of, case_of_runs, start_traced, signal_traced, signal_once}
use Rattle.theory_language.proofs.Rules.{sound}
use Rattle.theory_language.proofs.Reactions.{stays}
use Rattle.theory_language.proofs.Trees.{start-traced-signal}

-- ---- two present sets that give each member of a set the same status
abbrev pub Agree : (a e e' : ℕ) → Type 0
Agree a e e' = (i : ℕ) → member i a ≡ true → member i e ≡ member i e'

module _ (a b e e' : ℕ) (h : Agree (join a b) e e') where
  agree-l : Agree a e e'
  agree-l i m = h i (in_l i a b m)

  agree-r : Agree b e e'
  agree-r i m = h i (in_r i a b m)

module _ (s a e e' : ℕ) (h : Agree (insert s a) e e') where
  agree-tested : member s e' ≡ member s e
  agree-tested = sym (h s (member-insert s a s ∙ rw (eq-eqb s s refl) (or-true (member s a))))

  agree-reactions : Agree a e e'
  agree-reactions i m = h i (member-insert s a i ∙ or_l (member i a) (eqb s i) m)

-- in each run of a signal its own status is given, and the others stay
module _ (s a e e' : ℕ) (h : Agree (remove s a) e e') where
  other : (i : ℕ) → eqb s i ≡ false → member i a ≡ true → member i e ≡ member i e'
  other i n m = h i (member-remove s a i ∙ rw (n, m))

  agree-without : Agree a (remove s e) (remove s e')
  agree-without i m = rw (member-remove s e i, member-remove s e' i) (go (tested (eqb s i)))
    where
      go : Tested (eqb s i) → (member i e && not (eqb s i)) ≡ (member i e' && not (eqb s i))
      go (Tested.yes x) = rw x (and-false (member i e) ∙ sym (and-false (member i e')))
      go (Tested.no x) = ap (λ (b : Bool). b && not (eqb s i)) (other i x m)

  agree-with : Agree a (insert s e) (insert s e')
  agree-with i m = rw (member-insert s e i, member-insert s e' i) (go (tested (eqb s i)))
    where
      go : Tested (eqb s i) → (member i e || eqb s i) ≡ (member i e' || eqb s i)
      go (Tested.yes x) = rw x (or-true (member i e) ∙ sym (or-true (member i e')))
      go (Tested.no x) = ap (λ (b : Bool). b || eqb s i) (other i x m)

-- ---- UNASKED, by either order of the signal rules
module _ (ord : Order) (f : ℕ) where
  abbrev pub SameTraced : (p : Statement) (e e' : ℕ) → Type 0
  SameTraced p e e' =
      (react_by ord p e' ≡ react_by ord p e) × (errors_by ord p e' ≡ errors_by ord p e) × (reactions_by ord p e' ≡ reactions_by ord p e)
      × (asked_by ord p e' ≡ asked_by ord p e) × (delivered_by ord f p e' ≡ delivered_by ord f p e)

  -- where the statuses that are asked for agree
  abbrev Unasked : (p : Statement) (e e' : ℕ) → Type 0
  Unasked p e e' = Agree (asked_by ord p e) e e' → SameTraced p e e'

  seq-unasked : (p q : Statement) (e e' : ℕ) → SameTraced p e e' → Unasked q e e' → Unasked (seq p q) e e'
  unfolding react_by errors_by reactions_by asked_by delivered_by
  seq-unasked p q e e' x y h =
      rw (x.0, x.1, x.2, x.3, x.4)
      (go (react_by ord p e) (agree-r (asked_by ord p e) (if_ended (code (react_by ord p e)) (asked_by ord q e) none) e e' h))
    where
      go : (r : Reaction) → Agree (if_ended (code r) (asked_by ord q e) none) e e'
          → (in_seq q r (react_by ord q e') ≡ in_seq q r (react_by ord q e))
          × (errors_by ord p e ++ if_ended (code r) (errors_by ord q e') [] ≡ errors_by ord p e ++ if_ended (code r) (errors_by ord q e) [])
          × (1 + reactions_by ord p e + if_ended (code r) (reactions_by ord q e') 0
          ≡ 1 + reactions_by ord p e + if_ended (code r) (reactions_by ord q e) 0)
          × (join (asked_by ord p e) (if_ended (code r) (asked_by ord q e') none)
          ≡ join (asked_by ord p e) (if_ended (code r) (asked_by ord q e) none))
          × (delivered_by ord f p e + if_ended (code r) (delivered_by ord f q e') 0 ≡ delivered_by ord f p e + if_ended (code r) (delivered_by ord f q e) 0)
      go (gives o ended l t) k = rw ((y k).0, (y k).1, (y k).2, (y k).3, (y k).4) (refl, refl, refl, refl, refl)
      go (gives o waiting l t) k = (refl, refl, refl, refl, refl)
      go (gives o (leaving n) l t) k = (refl, refl, refl, refl, refl)
      go (gives o wrong l t) k = (refl, refl, refl, refl, refl)

  present-unasked : (s : ℕ) (p q : Statement) (e e' : ℕ) → Unasked p e e' → Unasked q e e' → Unasked (present s p q) e e'
  unfolding react_by errors_by reactions_by asked_by delivered_by
  present-unasked s p q e e' x y h =
      rw (agree-tested s _ e e' h) (go (member s e) (agree-reactions s _ e e' h))
    where
      go : (b : Bool) → Agree (cond b (asked_by ord p e) (asked_by ord q e)) e e'
          → (cond b (react_by ord p e') (react_by ord q e') ≡ cond b (react_by ord p e) (react_by ord q e))
          × (cond b (errors_by ord p e') (errors_by ord q e') ≡ cond b (errors_by ord p e) (errors_by ord q e))
          × (1 + cond b (reactions_by ord p e') (reactions_by ord q e') ≡ 1 + cond b (reactions_by ord p e) (reactions_by ord q e))
          × (insert s (cond b (asked_by ord p e') (asked_by ord q e')) ≡ insert s (cond b (asked_by ord p e) (asked_by ord q e)))
          × (cond b (delivered_by ord f p e') (delivered_by ord f q e') ≡ cond b (delivered_by ord f p e) (delivered_by ord f q e))
      go true k = rw ((x k).0, (x k).1, (x k).2, (x k).3, (x k).4) (refl, refl, refl, refl, refl)
      go false k = rw ((y k).0, (y k).1, (y k).2, (y k).3, (y k).4) (refl, refl, refl, refl, refl)

  held-unasked : (s K : ℕ) (p : Statement) (e e' : ℕ) → Unasked p e e' → Unasked (held s K p) e e'
  unfolding react_by errors_by reactions_by asked_by delivered_by
  held-unasked s K p e e' x h =
      rw (agree-tested s _ e e' h) (go (member s e) (agree-reactions s _ e e' h))
    where
      go : (b : Bool) → Agree (cond b none (asked_by ord p e)) e e'
          → (cond b (stopped s K p) (in_suspend s (react_by ord p e')) ≡ cond b (stopped s K p) (in_suspend s (react_by ord p e)))
          × (cond b [] (errors_by ord p e') ≡ cond b [] (errors_by ord p e))
          × (1 + cond b 0 (reactions_by ord p e') ≡ 1 + cond b 0 (reactions_by ord p e))
          × (insert s (cond b none (asked_by ord p e')) ≡ insert s (cond b none (asked_by ord p e)))
          × (cond b 0 (delivered_by ord f p e') ≡ cond b 0 (delivered_by ord f p e))
      go true k = (refl, refl, refl, refl, refl)
      go false k = rw ((x k).0, (x k).1, (x k).2, (x k).3, (x k).4) (refl, refl, refl, refl, refl)

  pub unasked : (p : Statement) (e e' : ℕ) → Agree (asked_by ord p e) e e' → SameTraced p e e'
  unfolding react_by errors_by reactions_by asked_by delivered_by
  unasked nothing e e' h = (refl, refl, refl, refl, refl)
  unasked (pause l) e e' h = (refl, refl, refl, refl, refl)
  unasked (emit s v) e e' h = (refl, refl, refl, refl, refl)
  unasked (exit n) e e' h = (refl, refl, refl, refl, refl)
  unasked (seq p q) e e' h =
      seq-unasked p q e e'
      (unasked p e e' (agree-l (asked_by ord p e) (if_ended (code (react_by ord p e)) (asked_by ord q e) none) e e' h)) (unasked q e e') h
  unasked (par p q) e e' h =
      let x = unasked p e e' (agree-l (asked_by ord p e) (asked_by ord q e) e e' h) in
      let y = unasked q e e' (agree-r (asked_by ord p e) (asked_by ord q e) e e' h) in
      rw (x.0, x.1, x.2, x.3, x.4, y.0, y.1, y.2, y.3, y.4) (refl, refl, refl, refl, refl)
  unasked (loop a p) e e' h = let x = unasked p e e' h in rw (x.0, x.1, x.2, x.3, x.4) (refl, refl, refl, refl, refl)
  unasked (present s p q) e e' h = present-unasked s p q e e' (unasked p e e') (unasked q e e') h
  unasked (signal sc a s p) e e' h =
      let a− = asked_by ord p (remove s e) in
      let a+ = asked_by ord p (insert s e) in
      let x = unasked p (remove s e) (remove s e') (agree-l a− a+ (remove s e) (remove s e') (agree-without s (join a− a+) e e' h)) in
      let y = unasked p (insert s e) (insert s e') (agree-r a− a+ (insert s e) (insert s e') (agree-with s (join a− a+) e e' h)) in
      rw (x.0, x.1, x.2, x.3, x.4, y.0, y.1, y.2, y.3, y.4) (refl, refl, refl, refl, refl)
  unasked (try p) e e' h = let x = unasked p e e' h in rw (x.0, x.1, x.2, x.3, x.4) (refl, refl, refl, refl, refl)
  unasked (setpause l) e e' h = (refl, refl, refl, refl, refl)
  unasked (suspend s p) e e' h = let x = unasked p e e' h in rw (x.0, x.1, x.2, x.3, x.4) (refl, refl, refl, refl, refl)
  unasked (held s K p) e e' h = held-unasked s K p e e' (unasked p e e') h

pub unasked_traced : (f : ℕ) (p : Statement) (e e' : ℕ) → Agree (asked p e) e e' → start_traced f p e' ≡ start_traced f p e
unasked_traced f p e e' h = let x = unasked inheritanceFirst f p e e' h in rw (x.0, x.1, x.2, x.3, x.4) refl

-- ---- ONE RUN: the two runs of a signal s differ in s only
pub agree_runs : (s a e : ℕ) → member s a ≡ false → Agree a (remove s e) (insert s e)
agree_runs s a e h i m = rw (member-remove s e i, member-insert s e i) (go (tested (eqb s i)))
  where
    go : Tested (eqb s i) → (member i e && not (eqb s i)) ≡ (member i e || eqb s i)
    go (Tested.yes x) = clash (member s a) (ap (λ (j : ℕ). member j a) (eqb-true s i x) ∙ m) h
    go (Tested.no x) = rw x (and-true (member i e) ∙ sym (or-false (member i e)))

pub one_run : (f s : ℕ) (p : Statement) (e : ℕ) → member s (asked p (remove s e)) ≡ false
    → start_traced f p (insert s e) ≡ start_traced f p (remove s e)
one_run f s p e h = unasked_traced f p (remove s e) (insert s e) (agree_runs s (asked p (remove s e)) e h)

-- two equal runs that do not ask for s ask for the same outside its declaration
twice : (s a : ℕ) → member s a ≡ false → remove s (join a a) ≡ a
twice s a h = ap (remove s) (join_self a) ∙ remove_absent s a h

pub once_is : (f : ℕ) (sc : Scope) (a s : ℕ) (t : Traced) → member s (asked_of t) ≡ false → signal_traced f sc a s t t ≡ signal_once f sc a s t
once_is f sc a s (traced i b x) h =
    ap (λ (y : ℕ). traced (signal_instant sc a s i i) y (passing sc f s (chosen (case_of_runs s i i) x x))) (twice s b h)

pub one_run_signal : (f s : ℕ) (p : Statement) (e : ℕ) → member s (asked p (remove s e)) ≡ false → (sc : Scope) (a : ℕ)
    → start_traced f (signal sc a s p) e ≡ signal_once f sc a s (start_traced f p (remove s e))
one_run_signal f s p e h sc a =
    start-traced-signal f sc a s p e ∙ ap (signal_traced f sc a s (start_traced f p (remove s e))) (one_run f s p e h)
    ∙ once_is f sc a s (start_traced f p (remove s e)) h

-- ---- DERIVATIONS: what is asked for is what the rules used test
pub asks-is : {ord : Order} {p : Statement} {e : ℕ} {r : Reaction} (d : ReactsBy ord p e r) → asks d ≡ asked_by ord p e
unfolding asks asked_by
asks-is ReactsBy.nothing = refl
asks-is ReactsBy.pause = refl
asks-is ReactsBy.exit = refl
asks-is ReactsBy.emit = refl
asks-is (ReactsBy.loop d n) = asks-is d
asks-is (ReactsBy.loop_error d z) = asks-is d
asks-is (ReactsBy.parallel d d₂) = rw (asks-is d, asks-is d₂)
asks-is (ReactsBy.present+ i d) = rw (i, asks-is d)
asks-is (ReactsBy.present− i d) = rw (i, asks-is d)
asks-is (ReactsBy.try_catch d) = asks-is d
asks-is (ReactsBy.try_through d n) = asks-is d
asks-is {ord} {e = e} (ReactsBy.sequence_p {k = k} {p = p} {q = q} d n) =
    let j : if_ended (code (react_by ord p e)) (asked_by ord q e) none ≡ none = rw (← sound d) (stays k (asked_by ord q e) none n) in
    rw (j, asks-is d) (sym (join-none_r (asked_by ord p e)))
asks-is (ReactsBy.sequence_q d d₂) = rw (asks-is d, asks-is d₂, ← sound d)
asks-is (ReactsBy.signal++ d− i− d+ i+ n) = rw (asks-is d−, asks-is d+)
asks-is (ReactsBy.signal−− d− i− d+ i+ n) = rw (asks-is d−, asks-is d+)
asks-is (ReactsBy.signal+− d− i− d+ i+ n) = rw (asks-is d−, asks-is d+)
asks-is (ReactsBy.signal−+ d− i− d+ i+ n) = rw (asks-is d−, asks-is d+)
asks-is (ReactsBy.signal∞ d− d+ w) = rw (asks-is d−, asks-is d+)
asks-is ReactsBy.setpause = refl
asks-is (ReactsBy.suspend d) = asks-is d
asks-is (ReactsBy.held+ i) = rw i
asks-is (ReactsBy.held− i d) = rw (i, asks-is d)
