-- The tree of each command from those of its parts, as the code finds them.
use Prim.Native.Nat.{ℕ, ◌+◌, ◌-◌, ◌<◌}
use mathlib.Core.Path.{◌≡◌, ap, ◌∙◌}
use mathlib.Core.Bool.{Bool, true, false, cond}
use mathlib.Core.List.{List}
use native.Mathlib.Omega.{arith}
use lib.ListN.{length, get_or, set, length-drop}
use lib.Seq.{get_or-drop}
use borrow.Author.Tests.{lt-ltb}
use Rattle.spec_base.specs.Limits.{signal_count}
use Rattle.spec_base.specs.Sets.{member, insert, remove}
use Rattle.spec_base.specs.Widths.{insert_below}
use Rattle.spec_language.specs.Statement.{local, Statement, seq, par, loop, present, signal, try, suspend}
use Rattle.theory_language.specs.Traced as Traces
use Rattle.theory_language.specs.Traced.{start_traced, seq_traced, par_traced, loop_traced, present_traced, try_traced, suspend_traced, signal_traced, signal_once}
use Rattle.theory_language.proofs.Trees.{start-traced-seq, start-traced-par, start-traced-loop, start-traced-present, start-traced-signal, start-traced-try, start-traced-suspend}
use Rattle.theory_language.proofs.Asked.{one_run_signal}
use Rattle.layout.specs.Layout.{rest, Ready}
use Rattle.layout.proofs.Parts.{rest-is}
use Rattle.reaction.specs.Completions.{is_ended}
use Rattle.reaction.specs.declared.Reaction.{Reaction}
use Rattle.reaction.specs.Reactions.{reaction_of, FromOne, FromTwo, Realizes}
use Rattle.reaction.proofs.Accumulating.{seq_accumulates, first_accumulates, par_accumulates, loop_accumulates, present_accumulates, try_accumulates, suspend_accumulates, farms-one, farms_two, farms-signal, farms-once}

-- what is said of a command is said of the statement that it is, and of its tree
pub here : (f : ℕ) (t p : Statement) (e : ℕ) {b a : List ℕ} {r : Reaction} → p ≡ t → Realizes f b a r (start_traced f t e) → Realizes f b a r (start_traced f p e)
here f t p e h m = rw h m

pub of_tree : {f : ℕ} {b a : List ℕ} {r : Reaction} {t u : Traces.Traced} → t ≡ u → Realizes f b a r u → Realizes f b a r t
of_tree h m = rw h m

module _ (f e : ℕ) {b a : List ℕ} {p r : Reaction} where
  pub loop-step : (pl : ℕ) (t : Statement) → Realizes f b a p (start_traced f t e) → ((u : Statement) → FromOne (loop_traced pl u) p r)
      → Realizes f b a r (start_traced f (loop pl t) e)
  loop-step pl t h k =
      of_tree (start-traced-loop f pl t e) (k t (start_traced f t e) h.0, farms-one (λ x y. loop_accumulates pl t (start_traced f t e)) h.1)

  pub try-step : (t : Statement) → Realizes f b a p (start_traced f t e) → FromOne try_traced p r → Realizes f b a r (start_traced f (try t) e)
  try-step t h k = of_tree (start-traced-try f t e) (k (start_traced f t e) h.0, farms-one (λ x y. try_accumulates (start_traced f t e)) h.1)

  pub suspend-step : (s : ℕ) (t : Statement) → Realizes f b a p (start_traced f t e) → FromOne (suspend_traced s) p r
      → Realizes f b a r (start_traced f (suspend s t) e)
  suspend-step s t h k =
      of_tree (start-traced-suspend f s t e) (k (start_traced f t e) h.0, farms-one (λ x y. suspend_accumulates s (start_traced f t e)) h.1)

  -- ---- a test of x
  module _ (x : ℕ) (t u : Statement) where
    tested : (c : Bool) → member x e ≡ c → Realizes f b a p (cond c (start_traced f t e) (start_traced f u e)) → FromOne (present_traced x) p r
        → Realizes f b a r (start_traced f (present x t u) e)
    tested c i h k =
        let v = cond c (start_traced f t e) (start_traced f u e) in
        of_tree (start-traced-present f x t u e ∙ ap (λ (y : Bool). present_traced x (cond y (start_traced f t e) (start_traced f u e))) i)
        (k v h.0, farms-one (λ y z. present_accumulates x v) h.1)

    pub present-step : member x e ≡ true → Realizes f b a p (start_traced f t e) → FromOne (present_traced x) p r
        → Realizes f b a r (start_traced f (present x t u) e)
    present-step = tested true

    pub absent-step : member x e ≡ false → Realizes f b a p (start_traced f u e) → FromOne (present_traced x) p r
        → Realizes f b a r (start_traced f (present x t u) e)
    absent-step = tested false

-- ---- two parts, with the litres m between them
module _ (f e : ℕ) {b m a : List ℕ} {p r : Reaction} where
  pub seq-step : (t u : Statement) → Realizes f b m p (start_traced f t e)
      → ((z : Traces.Traced) (w : List ℕ) → Realizes f w m p z → Realizes f w a r (seq_traced u z (start_traced f u e)))
      → Realizes f b a r (start_traced f (seq t u) e)
  seq-step t u h k = of_tree (start-traced-seq f t u e) (k (start_traced f t e) b h)

  pub par-step : (t u : Statement) {q : Reaction} → Realizes f b m p (start_traced f t e) → Realizes f m a q (start_traced f u e) → FromTwo par_traced p q r
      → Realizes f b a r (start_traced f (par t u) e)
  par-step t u h g k =
      of_tree (start-traced-par f t u e)
      (k (start_traced f t e) (start_traced f u e) h.0 g.0, farms_two (λ x y z. par_accumulates (start_traced f t e) (start_traced f u e)) h.1 g.1)

-- a part behind a tree v, which has ended, or has not
module _ (f : ℕ) {b m : List ℕ} (v : Traces.Traced) {p : Reaction} (p-is : Realizes f b m p v) (u : Statement) (w : Traces.Traced) {r : Reaction} where
  pub goes_on : {a : List ℕ} {q : Reaction} → is_ended p.completion ≡ true → Realizes f m a q w → FromTwo (seq_traced u) p q r → Realizes f b a r (seq_traced u v w)
  goes_on h g k =
      let i : is_ended (reaction_of v).completion ≡ true = rw p-is.0 at h in
      (k v w p-is.0 g.0, farms_two (λ x y z. seq_accumulates u v w i) p-is.1 g.1)

  pub stops : is_ended p.completion ≡ false → (is_ended p.completion ≡ false → FromOne (λ (t : Traces.Traced). seq_traced u t w) p r) → Realizes f b m r (seq_traced u v w)
  stops h k =
      let i : is_ended (reaction_of v).completion ≡ false = rw p-is.0 at h in
      (k h v p-is.0, farms-one (λ x y. first_accumulates u v w i) p-is.1)

-- ---- a local signal x at place a, whose run without it is p
module _ (f e : ℕ) (pl x : ℕ) (t : Statement) (small : x < signal_count) {b m : List ℕ} {p r : Reaction} {e− : ℕ} (less : e− ≡ remove x e)
    (p-is : Realizes f b m p (start_traced f t e−)) where
  pub signal-step : {q : Reaction} {n k a : List ℕ} {e+ : ℕ} {c : Bool} → e+ ≡ insert_below signal_count x e → Realizes f b n q (start_traced f t e+)
      → c ≡ member x q.emitted → k ≡ cond c n m → a ≡ set k x (get_or b x 0)
      → FromTwo (signal_traced f local pl x) p q r → Realizes f b a r (start_traced f (signal local pl x t) e)
  signal-step {q} {e+ = e+} more g c-is k-is a-is w =
      let more' : e+ ≡ insert x e = more ∙ rw (lt-ltb x signal_count small) in
      let h− = rw less at p-is in
      let h+ = rw more' at g in
      of_tree (start-traced-signal f local pl x t e) (
        w (start_traced f t (remove x e)) (start_traced f t (insert x e)) h−.0 h+.0,
        farms-signal f pl x (start_traced f t (remove x e)) (start_traced f t (insert x e)) h−.1 h+.1 (rw h+.0 at c-is) k-is a-is,
      )

  -- it was not asked for
  pub signal-once-step : {a : List ℕ} → member x p.asked ≡ false → a ≡ set m x (get_or b x 0) → FromOne (signal_once f local pl x) p r
      → Realizes f b a r (start_traced f (signal local pl x t) e)
  signal-once-step n a-is k =
      let h = rw less at p-is in
      of_tree (one_run_signal f x t e (rw h.0 at n) local pl)
      (k (start_traced f t (remove x e)) h.0, farms-once f pl x (start_traced f t (remove x e)) h.1 a-is)

-- ---- the part from index n on: its first byte is there, and is that at n
module _ (n : ℕ) (bs : List ℕ) where
  pub front-there : {t : List ℕ} {d a : ℕ} → Ready t d a (rest n bs) → n < length bs
  front-there r = let e : length (rest n bs) ≡ length bs - n = ap length (rest-is n bs) ∙ length-drop n bs in omega (arith, r.bytes, e)

  pub front-is : {b : ℕ} → get_or bs n 0 ≡ b → get_or (rest n bs) 0 0 ≡ b
  front-is h =
      let e : n + 0 ≡ n = omega arith in
      ap (λ (l : List ℕ). get_or l 0 0) (rest-is n bs) ∙ get_or-drop n bs 0 0 ∙ ap (λ (k : ℕ). get_or bs k 0) e ∙ h
