-- The tree of each command from those of its active parts, as the code finds them: that of the fresh command to which it expands.
use Prim.Native.Nat.{ℕ, ◌-◌, ◌<◌}
use mathlib.Core.Path.{◌≡◌, refl, ap, ◌∙◌}
use mathlib.Core.Bool.{Bool, true, false, cond}
use mathlib.Core.Option.{Option, none, some}
use mathlib.Core.List.{List}
use lib.ListN.{get_or, set}
use Rattle.spec_base.specs.Limits.{signal_count}
use Rattle.spec_base.specs.Sets.{member, empty, remove, below, from}
use Rattle.spec_base.specs.Widths.{insert_below}
use Rattle.spec_language.specs.Statement.{local, Statement, nothing, seq, par, loop, present, signal, try, suspend}
use Rattle.theory_language.specs.Ranks.{middle, labels_by}
use Rattle.theory_language.specs.Traced as Traces
use Rattle.theory_language.specs.Traced.{start_traced, seq_traced, par_traced, try_traced, signal_traced, signal_once, held_traced, stopped_traced}
use Rattle.theory_language.specs.RankedExpansion.{expand_by, resume_traced}
use Rattle.theory_language.proofs.Trees.{start-traced-held}
use Rattle.spec_sequence.specs.Commands.{Command, command_of}
use Rattle.layout.specs.Layout.{Form, Lies}
use Rattle.theory_sequence.proofs.Table.{byte_of, byte_is}
use Rattle.layout.proofs.Laid.{opened, by_command}
use Rattle.reaction.specs.declared.Reaction.{Reaction}
use Rattle.reaction.specs.Reactions.{reaction_of, FromOne, FromTwo, Realizes}
use Rattle.reaction.proofs.Accumulating.{held_accumulates, farms-none, farms-one}
use Rattle.react_leaves.specs.Started.{Partless}
use Rattle.react.proofs.Steps as fresh
use Rattle.resume.specs.Resumed.{side_by}

-- a cut at k is one at j
moved : (cut : ℕ → ℕ → ℕ) (m : ℕ) {k j f : ℕ} → k ≡ j → f ≡ cut k m → f ≡ cut j m
moved cut m h g = g ∙ ap (λ (i : ℕ). cut i m) h

-- ---- to what a command expands, the first rank of its second part being k
module _ (base m : ℕ) (p q : Statement) where
  module _ {k f : ℕ} (hk : k ≡ middle base p) (hf : f ≡ below k m) where
    seq-expands : empty f ≡ false → expand_by base (seq p q) m ≡ seq (expand_by base p f) q
    unfolding expand_by
    seq-expands z = rw (← moved below m hk hf, z)

    par-expands : {g : ℕ} → g ≡ from k m → expand_by base (par p q) m ≡ par (side_by base p f) (side_by (middle base p) q g)
    unfolding expand_by
    par-expands hg = rw (← moved below m hk hf, ← moved from m hk hg)

  loop-expands : {a : ℕ} → q ≡ loop a p → expand_by base q m ≡ seq (expand_by base p m) q
  unfolding expand_by
  loop-expands h = rw h

module _ (farm base m e : ℕ) {b a : List ℕ} {r : Reaction} where
  -- what is said of a command is said of the statement that it is
  pub here : (t p : Statement) → p ≡ t → Realizes farm b a r (resume_traced farm base t m e) → Realizes farm b a r (resume_traced farm base p m e)
  here t p h = fresh.here farm (expand_by base t m) (expand_by base p m) e (ap (λ (z : Statement). expand_by base z m) h)

  -- ---- two parts; the first rank of the second part is k
  module _ (p q : Statement) (k f : ℕ) (hk : k ≡ middle base p) (hf : f ≡ below k m) where
    pub seq_first : {n : List ℕ} {u : Reaction} → empty f ≡ false → Realizes farm b n u (resume_traced farm base p f e)
        → ((t : Traces.Traced) (w : List ℕ) → Realizes farm w n u t → Realizes farm w a r (seq_traced q t (start_traced farm q e)))
        → Realizes farm b a r (resume_traced farm base (seq p q) m e)
    seq_first z h g =
        fresh.here farm (seq (expand_by base p f) q) (expand_by base (seq p q) m) e (seq-expands base m p q hk hf z) (fresh.seq-step farm e (expand_by base p f) q h g)

    pub present_first : (x : ℕ) → empty f ≡ false → Realizes farm b a r (resume_traced farm base p f e) → Realizes farm b a r (resume_traced farm base (present x p q) m e)
    unfolding expand_by
    present_first x z h = rw (← moved below m hk hf, z) h

    module _ (g : ℕ) (hg : g ≡ from k m) where
      pub seq_second : empty f ≡ true → Realizes farm b a r (resume_traced farm (middle base p) q g e) → Realizes farm b a r (resume_traced farm base (seq p q) m e)
      unfolding expand_by
      seq_second z h = rw (← moved below m hk hf, ← moved from m hk hg, z) h

      pub present_second : (x : ℕ) → empty f ≡ true → Realizes farm b a r (resume_traced farm (middle base p) q g e)
          → Realizes farm b a r (resume_traced farm base (present x p q) m e)
      unfolding expand_by
      present_second x z h = rw (← moved below m hk hf, ← moved from m hk hg, z) h

      pub par-step : {n : List ℕ} {u v : Reaction} → Realizes farm b n u (start_traced farm (side_by base p f) e)
          → Realizes farm n a v (start_traced farm (side_by (middle base p) q g) e) → FromTwo par_traced u v r
          → Realizes farm b a r (resume_traced farm base (par p q) m e)
      par-step h i w =
          let x = side_by base p f in
          let y = side_by (middle base p) q g in
          fresh.here farm (par x y) (expand_by base (par p q) m) e (par-expands base m p q hk hf hg) (fresh.par-step farm e x y h i w)

  -- ---- one part, which resumed as u
  module _ (p : Statement) {u : Reaction} where
    pub loop-step : {n : List ℕ} (pl : ℕ) (q : Statement) → q ≡ loop pl p → Realizes farm b n u (resume_traced farm base p m e)
        → ((t : Traces.Traced) (w : List ℕ) → Realizes farm w n u t → Realizes farm w a r (seq_traced q t (start_traced farm q e)))
        → Realizes farm b a r (resume_traced farm base q m e)
    loop-step pl q h k w =
        fresh.here farm (seq (expand_by base p m) q) (expand_by base q m) e (loop-expands base m p q h) (fresh.seq-step farm e (expand_by base p m) q k w)

    pub try-step : Realizes farm b a u (resume_traced farm base p m e) → FromOne try_traced u r → Realizes farm b a r (resume_traced farm base (try p) m e)
    unfolding expand_by
    try-step = fresh.try-step farm e (expand_by base p m)

-- ---- a local signal x at place pl, whose run without it is u
module _ (farm base m e : ℕ) {b n : List ℕ} {r : Reaction} (p : Statement) {u : Reaction} (pl x : ℕ) (small : x < signal_count) {e− : ℕ} (less : e− ≡ remove x e)
    (u-is : Realizes farm b n u (resume_traced farm base p m e−)) where
  pub signal-step : {v : Reaction} {o k a : List ℕ} {e+ : ℕ} {c : Bool} → e+ ≡ insert_below signal_count x e → Realizes farm b o v (resume_traced farm base p m e+)
      → c ≡ member x v.emitted → k ≡ cond c o n → a ≡ set k x (get_or b x 0)
      → FromTwo (signal_traced farm local pl x) u v r → Realizes farm b a r (resume_traced farm base (signal local pl x p) m e)
  unfolding expand_by
  signal-step = fresh.signal-step farm e pl x (expand_by base p m) small less u-is

  pub signal-once-step : {a : List ℕ} → member x u.asked ≡ false → a ≡ set n x (get_or b x 0) → FromOne (signal_once farm local pl x) u r
      → Realizes farm b a r (resume_traced farm base (signal local pl x p) m e)
  unfolding expand_by
  signal-once-step = fresh.signal-once-step farm e pl x (expand_by base p m) small less u-is

-- ---- a suspend, held with the labels of its active pauses
module _ (farm base m e s : ℕ) (p : Statement) {b a : List ℕ} {r : Reaction} where
  as_held : (c : Bool) → member s e ≡ c
      → Realizes farm b a r (cond c (stopped_traced s (labels_by base p m) (expand_by base p m)) (held_traced s (resume_traced farm base p m e)))
      → Realizes farm b a r (resume_traced farm base (suspend s p) m e)
  unfolding expand_by
  as_held c i h =
      fresh.of_tree (start-traced-held farm s (labels_by base p m) (expand_by base p m) e
      ∙ ap (λ (x : Bool). cond x (stopped_traced s (labels_by base p m) (expand_by base p m)) (held_traced s (resume_traced farm base p m e))) i) h

  pub suspend-resumed : {u : Reaction} → member s e ≡ false → Realizes farm b a u (resume_traced farm base p m e) → FromOne (held_traced s) u r
      → Realizes farm b a r (resume_traced farm base (suspend s p) m e)
  suspend-resumed i h k = as_held false i (k (resume_traced farm base p m e) h.0, farms-one (λ x y. held_accumulates s (resume_traced farm base p m e)) h.1)

-- it keeps the labels K
pub suspend_stopped : (farm base m e s : ℕ) (p : Statement) (b : List ℕ) {r : Reaction} {K : ℕ} → member s e ≡ true → K ≡ labels_by base p m
    → ((u : Statement) → r ≡ reaction_of (stopped_traced s K u)) → Realizes farm b b r (resume_traced farm base (suspend s p) m e)
suspend_stopped farm base m e s p b i k h = as_held farm base m e s p true i (rw k at h (expand_by base p m), farms-none _ _ _ _)

-- ---- a side of a parallel
module _ (farm base m e : ℕ) (p : Statement) {b a : List ℕ} {r : Reaction} where
  pub side-ended : empty m ≡ true → Realizes farm b a r (start_traced farm nothing e)
      → Realizes farm b a r (start_traced farm (side_by base p m) e)
  side-ended z h = rw z h

  pub side-active : empty m ≡ false → Realizes farm b a r (resume_traced farm base p m e)
      → Realizes farm b a r (start_traced farm (side_by base p m) e)
  side-active z h = rw z h

-- ---- a command without parts
pub leaf_step : (t : List ℕ) (d base a : ℕ) (bs : List ℕ) (p : Statement) (farm m e : ℕ) {x y : List ℕ} {r : Reaction} → Lies t d base a bs p → Partless (get_or bs 0 0)
    → Realizes farm x y r (start_traced farm nothing e) → Realizes farm x y r (resume_traced farm base p m e)
unfolding expand_by
leaf_step t d base a bs p farm m e {x} {y} {r} l w h = go (command_of (get_or bs 0 0)) refl (opened t d base a bs p l).1.form
  where
    go : (o : Option Command) → command_of (get_or bs 0 0) ≡ o → Form (Lies t (d - 1)) t base a bs p o → Realizes farm x y r (resume_traced farm base p m e)
    go none q f = absurd f
    go (some Command.nothing) q f = rw f.parts h
    go (some Command.pause) q f = rw f.parts h
    go (some Command.emit) q f = rw f.parts h
    go (some Command.exit) q f = rw f.parts h
    go (some Command.seq) q f = absurd (w.0.0.0.0.0.0.1 (byte_is (get_or bs 0 0) Command.seq q))
    go (some Command.par) q f = absurd (w.0.0.0.0.0.1 (byte_is (get_or bs 0 0) Command.par q))
    go (some Command.loop) q f = absurd (w.0.0.0.0.1 (byte_is (get_or bs 0 0) Command.loop q))
    go (some Command.present) q f = absurd (w.0.0.0.1 (byte_is (get_or bs 0 0) Command.present q))
    go (some Command.signal) q f = absurd (w.0.0.1 (byte_is (get_or bs 0 0) Command.signal q))
    go (some Command.try) q f = absurd (w.0.1 (byte_is (get_or bs 0 0) Command.try q))
    go (some Command.setpause) q f = rw f.parts h
    go (some Command.suspend) q f = absurd (w.1 (byte_is (get_or bs 0 0) Command.suspend q))
    go (some Command.deliver) q f = rw f.parts h

-- an active pause
pub pause_step : (t : List ℕ) (d base a : ℕ) (bs : List ℕ) (p : Statement) (farm m e : ℕ) {x y : List ℕ} {r : Reaction} → Lies t d base a bs p → get_or bs 0 0 ≡ byte_of Command.pause
    → Realizes farm x y r (start_traced farm nothing e) → Realizes farm x y r (resume_traced farm base p m e)
unfolding expand_by
pause_step t d base a bs p farm m e l b h = rw (by_command t d base a bs p l Command.pause b).parts h
