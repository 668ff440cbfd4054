-- The litres of a farm in an instant: those that a derivation's emissions bring, none where the farm's signal is not emitted, and at
-- most those of one emission for each reaction; and run and rewriting add the same.
use Prim.Native.Nat.{ℕ, ◌+◌, ◌-◌, ◌*◌, ◌≤◌}
use mathlib.Core.Path.{◌≡◌, refl, sym, ap, ap₂, ◌∙◌}
use mathlib.Core.Bool.{Bool, true, false, not, ◌&&◌, cond}
use mathlib.Core.List.{List, [], ◌∷◌}
use native.Mathlib.Nat.{le_trans}
use native.Mathlib.Omega.{arith}
use lib.Dec.{eqb}
use Rattle.spec_base.specs.Sets.{member, none, only, insert, remove}
use Rattle.sets.proofs.Members.{member-only, member-remove, out_l, out_r}
use Rattle.spec_language.specs.Statement.{Scope, local, reported, Value, Statement, nothing, pause, emit, exit, seq, par, loop, present, signal, try, setpause, suspend, held}
use Rattle.spec_language.specs.Reaction.{Code, ended, waiting, leaving, wrong, Reaction, gives, code, emitted, in_seq, in_par, in_loop, in_try, in_suspend, stopped, Case, both, neither, only−, only+, inherited, Order, inheritanceFirst, case_of, answer, react_by, react}
use Rattle.spec_language.specs.Rules.{ReactsBy}
use Rattle.spec_language.specs.Errors.{if_ended}
use Rattle.spec_language.specs.Reactions.{reactions_by, reactions}
use Rattle.spec_language.specs.States.{active, Source, Distinct, NoSetpause}
use Rattle.spec_language.specs.LabelTests.{active_labels}
use Rattle.spec_language.specs.Expansion.{expand}
use Rattle.spec_language.specs.Litres.{brought, chosen, passing, AtMost, delivered_by, delivered, delivers}
use Rattle.spec_language.specs.Machines.{Machine, State, by_labels, Rewriting, by_rewriting, adds_by_labels, adds_by_rewriting, added}
use Rattle.theory_language.proofs.Rules.{sound, fits++, fits−−, fits+−, fits−+, fits∞}
use Rattle.theory_language.proofs.Reactions.{stays}
use Rattle.theory_language.proofs.Ceiling as ceilings
use Rattle.theory_language.proofs.Agreement as agreements

-- ---- what no run delivers, no declaration lets pass
pub passing-none : (sc : Scope) (f s : ℕ) → passing sc f s 0 ≡ 0
passing-none local f s = go (eqb s f)
  where
    go : (b : Bool) → ◌≡◌ {A = ℕ} (cond b 0 0) 0
    go true = refl
    go false = refl
passing-none reported f s = refl

-- ---- DERIVATIONS
-- the runs are the reactions of the premises
signal_delivers : {r− r+ : Reaction} {c : Case} {y− x− y+ x+ : ℕ} (ord : Order) (sc : Scope) (f s : ℕ) (u− u+ : Reaction)
    → case_of ord s u− u+ ≡ c → u− ≡ r− → u+ ≡ r+ → y− ≡ x− → y+ ≡ x+
    → passing sc f s (chosen c y− y+) ≡ passing sc f s (chosen (case_of ord s r− r+) x− x+)
signal_delivers ord sc f s u− u+ h i− i+ j− j+ = rw (← j−, ← j+, ← i−, ← i+, h)

pub delivers-is : (f : ℕ) {ord : Order} {p : Statement} {e : ℕ} {r : Reaction} (d : ReactsBy ord p e r) → delivers f d ≡ delivered_by ord f p e
unfolding delivers delivered_by
delivers-is f ReactsBy.nothing = refl
delivers-is f ReactsBy.pause = refl
delivers-is f ReactsBy.exit = refl
delivers-is f ReactsBy.emit = refl
delivers-is f {ord} {e = e} (ReactsBy.loop {k = k} {p = p} d n) =
    delivers-is f d ∙ sym (stays k 0 (delivered_by ord f p e) n) ∙ ap (λ (x : Reaction). if_ended (code x) 0 (delivered_by ord f p e)) (sound d)
delivers-is f {ord} {e = e} (ReactsBy.loop_error {p = p} d z) = rw (← sound d, z)
delivers-is f (ReactsBy.parallel d d₂) = rw (delivers-is f d, delivers-is f d₂)
delivers-is f (ReactsBy.present+ i d) = rw i (delivers-is f d)
delivers-is f (ReactsBy.present− i d) = rw i (delivers-is f d)
delivers-is f (ReactsBy.try_catch d) = delivers-is f d
delivers-is f (ReactsBy.try_through d n) = delivers-is f d
delivers-is f {ord} {e = e} (ReactsBy.sequence_p {k = k} {p = p} {q = q} d n) =
    let i = delivers-is f d in
    let j : if_ended (code (react_by ord p e)) (delivered_by ord f q e) 0 ≡ 0 = rw (← sound d) (stays k (delivered_by ord f q e) 0 n) in
    omega arith
delivers-is f (ReactsBy.sequence_q d d₂) = rw (delivers-is f d, delivers-is f d₂, ← sound d)
delivers-is f {ord} (ReactsBy.signal++ {sc = sc} {s = s} {o− = o−} {o+ = o+} {k− = k−} {k+ = k+} d− i− d+ i+ n) =
    signal_delivers ord sc f s _ _ (fits++ s o− o+ k− k+ ord i− i+ n) (sound d−) (sound d+) (delivers-is f d−) (delivers-is f d+)
delivers-is f {ord} (ReactsBy.signal−− {sc = sc} {s = s} {o− = o−} {o+ = o+} {k− = k−} {k+ = k+} d− i− d+ i+ n) =
    signal_delivers ord sc f s _ _ (fits−− s o− o+ k− k+ ord i− i+ n) (sound d−) (sound d+) (delivers-is f d−) (delivers-is f d+)
delivers-is f {ord} (ReactsBy.signal+− {sc = sc} {s = s} {o− = o−} {o+ = o+} {k− = k−} {k+ = k+} d− i− d+ i+ n) =
    sym (passing-none sc f s)
    ∙ signal_delivers ord sc f s _ _ (fits+− s o− o+ k− k+ ord i− i+ n) (sound d−) (sound d+) (delivers-is f d−) (delivers-is f d+)
delivers-is f {ord} (ReactsBy.signal−+ {sc = sc} {s = s} {o− = o−} {o+ = o+} {k− = k−} {k+ = k+} d− i− d+ i+ n) =
    sym (passing-none sc f s)
    ∙ signal_delivers ord sc f s _ _ (fits−+ s o− o+ k− k+ ord i− i+ n) (sound d−) (sound d+) (delivers-is f d−) (delivers-is f d+)
delivers-is f {ord} (ReactsBy.signal∞ {sc = sc} {s = s} {o− = o−} {o+ = o+} {k− = k−} {k+ = k+} d− d+ w) =
    sym (passing-none sc f s)
    ∙ signal_delivers ord sc f s _ _ (fits∞ s o− o+ k− k+ ord w) (sound d−) (sound d+) (delivers-is f d−) (delivers-is f d+)
delivers-is f ReactsBy.setpause = refl
delivers-is f (ReactsBy.suspend d) = delivers-is f d
delivers-is f (ReactsBy.held+ i) = rw i
delivers-is f (ReactsBy.held− i d) = rw i (delivers-is f d)

-- ---- NOT EMITTED: who is not emitted delivers nothing
module _ (f : ℕ) where
  abbrev Dry : Reaction → ℕ → Type 0
  Dry r x = member f (emitted r) ≡ false → x ≡ 0

  dry-emit : (s : ℕ) (v : Value) → member f (emitted (gives (only s) ended none nothing)) ≡ false → brought f s v ≡ 0
  dry-emit s v h = rw (sym (member-only s f) ∙ h)

  dry-seq : (q : Statement) (r u : Reaction) (x y : ℕ) → Dry r x → Dry u y → Dry (in_seq q r u) (x + if_ended (code r) y 0)
  dry-seq q (gives o ended l t) u x y i j h = let a = i (out_l f o (emitted u) h) in let b = j (out_r f o (emitted u) h) in omega arith
  dry-seq q (gives o waiting l t) u x y i j h = let a = i h in omega arith
  dry-seq q (gives o (leaving n) l t) u x y i j h = let a = i h in omega arith
  dry-seq q (gives o wrong l t) u x y i j h = let a = i h in omega arith

  dry-par : (r u : Reaction) (x y : ℕ) → Dry r x → Dry u y → Dry (in_par r u) (x + y)
  dry-par (gives o k l t) (gives o₂ k₂ l₂ t₂) x y i j h = let a = i (out_l f o o₂ h) in let b = j (out_r f o o₂ h) in omega arith

  dry-loop : (a : ℕ) (p : Statement) (r : Reaction) (x : ℕ) → Dry r x → Dry (in_loop a p r) (if_ended (code r) 0 x)
  dry-loop a p (gives o ended l t) x i h = refl
  dry-loop a p (gives o waiting l t) x i h = i h
  dry-loop a p (gives o (leaving n) l t) x i h = i h
  dry-loop a p (gives o wrong l t) x i h = i h

  dry-try : (r : Reaction) (x : ℕ) → Dry r x → Dry (in_try r) x
  dry-try (gives o ended l t) x i = i
  dry-try (gives o waiting l t) x i = i
  dry-try (gives o (leaving n) l t) x i = go (eqb n 1)
    where
      go : (b : Bool) → member f (emitted (cond b (gives o ended l nothing) (gives o (leaving (n - 1)) l (try t)))) ≡ false → x ≡ 0
      go true h = i h
      go false h = i h
  dry-try (gives o wrong l t) x i = i

  dry-suspend : (s : ℕ) (r : Reaction) (x : ℕ) → Dry r x → Dry (in_suspend s r) x
  dry-suspend s (gives o k l t) x i h = i h

  dry-cond : (b : Bool) (r u : Reaction) (x y : ℕ) → Dry r x → Dry u y → Dry (cond b r u) (cond b x y)
  dry-cond true r u x y i j = i
  dry-cond false r u x y i j = j

  -- outside a local declaration its own signal is not emitted, and its litres are not delivered
  dry-local : (s o x : ℕ) → (member f o ≡ false → x ≡ 0) → member f (remove s o) ≡ false → cond (eqb s f) 0 x ≡ 0
  dry-local s o x i h = go (eqb s f) (sym (member-remove s o f) ∙ h)
    where
      left : (m : Bool) → (m && true) ≡ false → m ≡ false
      left true k = k
      left false k = refl

      go : (b : Bool) → (member f o && not b) ≡ false → cond b 0 x ≡ 0
      go true k = refl
      go false k = i (left (member f o) k)

  none_passes : (sc : Scope) (s x : ℕ) → x ≡ 0 → passing sc f s x ≡ 0
  none_passes sc s x h = ap (passing sc f s) h ∙ passing-none sc f s

  dry-signal : (c : Case) (sc : Scope) (a s : ℕ) (r− r+ : Reaction) (x− x+ : ℕ) → Dry r− x− → Dry r+ x+
      → Dry (answer c sc a s r− r+) (passing sc f s (chosen c x− x+))
  dry-signal both local a s r− r+ x− x+ i j h = dry-local s (emitted r+) x+ j h
  dry-signal both reported a s r− r+ x− x+ i j h = j h
  dry-signal neither sc a s r− r+ x− x+ i j h = none_passes sc s x− (i h)
  dry-signal only− sc a s r− r+ x− x+ i j h = passing-none sc f s
  dry-signal only+ sc a s r− r+ x− x+ i j h = passing-none sc f s
  dry-signal inherited sc a s r− r+ x− x+ i j h = passing-none sc f s

  pub not-emitted : (p : Statement) (e : ℕ) → member f (emitted (react p e)) ≡ false → delivered f p e ≡ 0
  unfolding react_by delivered_by
  not-emitted nothing e h = refl
  not-emitted (pause l) e h = refl
  not-emitted (emit s v) e h = dry-emit s v h
  not-emitted (exit n) e h = refl
  not-emitted (seq p q) e h = dry-seq q (react p e) (react q e) (delivered f p e) (delivered f q e) (not-emitted p e) (not-emitted q e) h
  not-emitted (par p q) e h = dry-par (react p e) (react q e) (delivered f p e) (delivered f q e) (not-emitted p e) (not-emitted q e) h
  not-emitted (loop a p) e h = dry-loop a p (react p e) (delivered f p e) (not-emitted p e) h
  not-emitted (present s p q) e h =
      dry-cond (member s e) (react p e) (react q e) (delivered f p e) (delivered f q e) (not-emitted p e) (not-emitted q e) h
  not-emitted (signal sc a s p) e h =
      let r− = react p (remove s e) in
      let r+ = react p (insert s e) in
      dry-signal (case_of inheritanceFirst s r− r+) sc a s r− r+ (delivered f p (remove s e)) (delivered f p (insert s e))
      (not-emitted p (remove s e)) (not-emitted p (insert s e)) h
  not-emitted (try p) e h = dry-try (react p e) (delivered f p e) (not-emitted p e) h
  not-emitted (setpause l) e h = refl
  not-emitted (suspend s p) e h = dry-suspend s (react p e) (delivered f p e) (not-emitted p e) h
  not-emitted (held s K p) e h =
      dry-cond (member s e) (stopped s K p) (in_suspend s (react p e)) 0 (delivered f p e) (λ i. refl)
      (dry-suspend s (react p e) (delivered f p e) (not-emitted p e)) h

-- ---- BOUND: at most c litres for each reaction
module _ (f c : ℕ) where
  if-ended-most : (k : Code) {x y : ℕ} (n m : ℕ) → x ≤ c * n → y ≤ c * m → x + if_ended k y 0 ≤ c * (1 + n + if_ended k m 0)
  if-ended-most ended n m h i = omega arith
  if-ended-most waiting n m h i = omega arith
  if-ended-most (leaving j) n m h i = omega arith
  if-ended-most wrong n m h i = omega arith

  loop-most : (k : Code) {x : ℕ} (n : ℕ) → x ≤ c * n → if_ended k 0 x ≤ c * (1 + n)
  loop-most ended n h = omega arith
  loop-most waiting n h = omega arith
  loop-most (leaving j) n h = omega arith
  loop-most wrong n h = omega arith

  cond-most : (b : Bool) {x y : ℕ} (n m : ℕ) → x ≤ c * n → y ≤ c * m → cond b x y ≤ c * (1 + cond b n m)
  cond-most true n m h i = omega arith
  cond-most false n m h i = omega arith

  passing-most : (sc : Scope) (s x : ℕ) → passing sc f s x ≤ x
  passing-most local s x = go (eqb s f)
    where
      go : (b : Bool) → cond b 0 x ≤ x
      go true = omega arith
      go false = omega arith
  passing-most reported s x = omega arith

  chosen-most : (d : Case) {x y : ℕ} (n m : ℕ) → x ≤ c * n → y ≤ c * m → chosen d x y ≤ c * (1 + n + m)
  chosen-most both n m h i = omega arith
  chosen-most neither n m h i = omega arith
  chosen-most only− n m h i = omega arith
  chosen-most only+ n m h i = omega arith
  chosen-most inherited n m h i = omega arith

  pub delivered-most : (p : Statement) (e : ℕ) → AtMost f c p → delivered f p e ≤ c * reactions p e
  unfolding delivered_by reactions_by AtMost
  delivered-most nothing e h = omega arith
  delivered-most (pause l) e h = omega arith
  delivered-most (emit s v) e h = omega arith
  delivered-most (exit n) e h = omega arith
  delivered-most (seq p q) e h = if-ended-most (code (react p e)) (reactions p e) (reactions q e) (delivered-most p e h.0) (delivered-most q e h.1)
  delivered-most (par p q) e h = let x = delivered-most p e h.0 in let y = delivered-most q e h.1 in omega arith
  delivered-most (loop a p) e h = loop-most (code (react p e)) (reactions p e) (delivered-most p e h)
  delivered-most (present s p q) e h = cond-most (member s e) (reactions p e) (reactions q e) (delivered-most p e h.0) (delivered-most q e h.1)
  delivered-most (signal sc a s p) e h =
      le_trans (passing-most sc s _)
      (chosen-most (case_of inheritanceFirst s (react p (remove s e)) (react p (insert s e))) (reactions p (remove s e)) (reactions p (insert s e))
      (delivered-most p (remove s e) h) (delivered-most p (insert s e) h))
  delivered-most (try p) e h = let x = delivered-most p e h in omega arith
  delivered-most (setpause l) e h = omega arith
  delivered-most (suspend s p) e h = let x = delivered-most p e h in omega arith
  delivered-most (held s K p) e h = cond-most (member s e) 0 (reactions p e) (omega arith) (delivered-most p e h)

-- an expansion has the emissions of its statement
pub expand-most : (f c : ℕ) (p : Statement) (L : ℕ) → AtMost f c p → AtMost f c (expand p L)
unfolding AtMost expand
expand-most f c nothing L h = tt
expand-most f c (pause l) L h = tt
expand-most f c (emit s v) L h = tt
expand-most f c (exit n) L h = tt
expand-most f c (seq p q) L h =
    ceilings.chosen (AtMost f c) (active p L) (seq (expand p L) q) (expand q L) (expand-most f c p L h.0, h.1) (expand-most f c q L h.1)
expand-most f c (par p q) L h = (
  ceilings.chosen (AtMost f c) (active p L) (expand p L) nothing (expand-most f c p L h.0) tt,
  ceilings.chosen (AtMost f c) (active q L) (expand q L) nothing (expand-most f c q L h.1) tt,
)
expand-most f c (loop a p) L h = (expand-most f c p L h, h)
expand-most f c (present s p q) L h =
    ceilings.chosen (AtMost f c) (active p L) (expand p L) (expand q L) (expand-most f c p L h.0) (expand-most f c q L h.1)
expand-most f c (signal sc a s p) L h = expand-most f c p L h
expand-most f c (try p) L h = expand-most f c p L h
expand-most f c (setpause l) L h = tt
expand-most f c (suspend s p) L h =
    ceilings.chosen (AtMost f c) (active p L) (held s (active_labels p L) (expand p L)) nothing (expand-most f c p L h) tt
expand-most f c (held s K p) L h = tt

-- ---- RUNS: machines that stay related add the same, if related states do
pub same_added : {S T : Type 0} (m : Machine S) (n : Machine T) (R : S → T → Type 0) (f : S → ℕ → ℕ) (g : T → ℕ → ℕ)
    → ((s : S) (t : T) → R s t → (e : ℕ) → R (m s e).1 (n t e).1) → ((s : S) (t : T) → R s t → (e : ℕ) → f s e ≡ g t e)
    → (s : S) (t : T) → R s t → (es : List ℕ) → added m f s es ≡ added n g t es
unfolding added
same_added m n R f g a b s t r [] = refl
same_added m n R f g a b s t r (e ∷ es) =
    ap₂ {B = List ℕ} {C = List ℕ} ◌∷◌ (b s t r e) (same_added m n R f g a b (m s e).1 (n t e).1 (a s t r e) es)

module _ (f : ℕ) (p : Statement) where
  same-term : (s : State) (w : Rewriting) → agreements.TermOf p s w → (e : ℕ) → adds_by_labels f p s e ≡ adds_by_rewriting f w e
  same-term State.fresh (Rewriting.fresh t) h e = rw h
  same-term State.fresh (Rewriting.waits t) h e = absurd h
  same-term State.fresh Rewriting.over h e = absurd h
  same-term (State.waits L) (Rewriting.fresh t) h e = absurd h
  same-term (State.waits L) (Rewriting.waits t) h e = rw h
  same-term (State.waits L) Rewriting.over h e = absurd h
  same-term State.over (Rewriting.fresh t) h e = absurd h
  same-term State.over (Rewriting.waits t) h e = absurd h
  same-term State.over Rewriting.over h e = refl

  pub agree-added : Source p → Distinct p → NoSetpause p → (s : State) (w : Rewriting) → agreements.TermOf p s w → (es : List ℕ)
      → added (by_labels p) (adds_by_labels f p) s es ≡ added by_rewriting (adds_by_rewriting f) w es
  agree-added c d n =
      same_added (by_labels p) by_rewriting (agreements.TermOf p) (adds_by_labels f p) (adds_by_rewriting f)
      (λ s w r e. (agreements.step p c d n s w r e).1) same-term
