-- Past each command: its labels and what they add to the rows, from what the code finds of its parts.
use Prim.Native.Nat.{ℕ, ◌+◌, ◌-◌, ◌≤◌, ◌<◌}
use mathlib.Core.Path.{◌≡◌, refl, sym, ap, ap₂, ◌∙◌, subst}
use mathlib.Core.Bool.{Bool, true, false, cond}
use mathlib.Core.List.{List}
use native.Mathlib.Omega.{arith}
use lib.ListN.{length, get_or, length-append}
use borrow.Author.Tests.{lt-ltb}
use Rattle.spec_base.specs.Limits.{label_count}
use Rattle.spec_base.specs.Sets.{none, only, join}
use Rattle.spec_base.specs.Widths.{only_below}
use Rattle.spec_language.specs.Statement.{pure, litres, local, Statement, nothing, pause, emit, exit, seq, par, loop, present, signal, try, setpause, suspend}
use Rattle.spec_language.specs.LabelTests.{labels_of, alternative, parallel}
use Rattle.theory_language.specs.LabelRows.{add_row, further, fill}
use Rattle.theory_language.specs.Ranks.{middle}
use Rattle.labels.specs.declared.Labels.{Labels}
use Rattle.labels.specs.Labels.{label_set}
use Rattle.wellformed.specs.Rows.{row_of, add_row_below, Updates}
use Rattle.spec_base.specs.Bytes.{le_bytes}
use Rattle.spec_sequence.specs.Writer.{bytes_of, size}
use Rattle.spec_sequence.specs.Commands.{Command}
use Rattle.layout.specs.Layout.{rest, secondAt, Two, Lies, Ready}
use Rattle.theory_sequence.proofs.Table.{byte_of}
use Rattle.layout.proofs.Laid.{ready, by_command, command, first-ready}
use Rattle.layout.specs.Joints.{joint_of}
use Rattle.wellformed.specs.declared.exclusion.Before.{Before}
use Rattle.wellformed.specs.declared.exclusion.Walked.{Walked}
use Rattle.wellformed.specs.Exclusion.{Carries, Joins, BeginsSecond}
use Rattle.wellformed.specs.Survey.{Standing, StandingTwo, Past, Passes, PastTwo}

-- ---- rows
pub unchanged : {m : List Labels} → Updates (λ rows. rows) m m
unchanged = record { updates = λ l. (l, refl) }

-- one traversal after another
pub in_turn_lem : {f g : (ℕ → ℕ) → ℕ → ℕ} {m n o : List Labels} → Updates f m n → Updates g n o → Updates (λ rows. g (f rows)) m o
in_turn_lem {g = g} s t = record { updates = λ l. let x = s.updates l in let y = t.updates x.0 in (y.0, y.1 ∙ ap g x.1) }

row_of_label : (l s : ℕ) {m n : List Labels} → l < label_count → Updates (add_row_below label_count l s) m n → Updates (add_row l s) m n
row_of_label l s {m} h t =
    record {
      updates = λ e. let x = t.updates e in
          (x.0, x.1 ∙ ap (λ (b : Bool). cond b (add_row l s (row_of m)) (row_of m)) (lt-ltb l label_count h));
    }

only_label : {l s : ℕ} → l < label_count → s ≡ only_below label_count l → s ≡ only l
only_label {l} h e = e ∙ rw (lt-ltb l label_count h)

-- ---- what is said of a command is said of the statement that it is
module _ (a : ℕ) (v : Before) (r : Walked) (m m' n n' : List Labels) where
  pub here : (p t : Statement) → p ≡ t → Past t a v r m m' n n' → Past p a v r m m' n n'
  here p t e h = subst (λ (z : Statement). Past z a v r m m' n n') (sym e) h

ends_at : {r : Walked} {i j s t : ℕ} → i ≡ j → Carries r i s t → Carries r j s t
ends_at e h = record { ends = h.ends ∙ e; paused = h.paused; triggering = h.triggering }

-- ---- commands without parts
module _ (a : ℕ) (v : Before) (r : Walked) (m n : List Labels) where
  pub nothing-step : Carries r (a + 1) none none → Past nothing a v r m m n n
  unfolding labels_of bytes_of fill
  nothing-step h = record { labels = h; excludes = unchanged; sides = unchanged }

  module _ (h : Carries r (a + 2) none none) where
    pub emit-step : (s : ℕ) → Past (emit s pure) a v r m m n n
    unfolding labels_of bytes_of fill
    emit-step s = record { labels = h; excludes = unchanged; sides = unchanged }

    pub exit-step : (k : ℕ) → Past (exit k) a v r m m n n
    unfolding labels_of bytes_of fill
    exit-step k = record { labels = h; excludes = unchanged; sides = unchanged }

  pub deliver-step : Carries r (a + 6) none none → (s x : ℕ) → Past (emit s (litres x)) a v r m m n n
  unfolding labels_of bytes_of le_bytes fill
  deliver-step h s x = record { labels = h; excludes = unchanged; sides = unchanged }

  -- a label below the width
  module _ (l : ℕ) (small : l < label_count) (n' : List Labels) (w : Updates (add_row_below label_count l (label_set v.concurrent)) n n') where
    pub setpause-step : Carries r (a + 2) none (only_below label_count l) → Past (setpause l) a v r m m n n'
    unfolding labels_of bytes_of fill
    setpause-step h = record {
      labels = record { ends = h.ends; paused = h.paused; triggering = only_label small h.triggering };
      excludes = unchanged;
      sides = row_of_label l (label_set v.concurrent) small w;
    }

    pub pause_step : (m' : List Labels) → Carries r (a + 2) (only_below label_count l) (only_below label_count l)
        → Updates (add_row_below label_count l (label_set v.exclusive)) m m' → Past (pause l) a v r m m' n n'
    unfolding labels_of bytes_of fill
    pause_step m' h u = record {
      labels = record { ends = h.ends; paused = only_label small h.paused; triggering = only_label small h.triggering };
      excludes = row_of_label l (label_set v.exclusive) small u;
      sides = row_of_label l (label_set v.concurrent) small w;
    }

-- the command is none of those with labels, parts or litres, nor nothing
abbrev pub Other : ℕ → Type 0
Other b =
    ((((((((((Unit {0} × (b ≡ 0 → ⊥)) × (b ≡ 1 → ⊥)) × (b ≡ 4 → ⊥)) × (b ≡ 5 → ⊥)) × (b ≡ 6 → ⊥)) × (b ≡ 7 → ⊥)) × (b ≡ 8 → ⊥)) × (b ≡ 9 → ⊥)) × (b ≡ 10 → ⊥)) × (b ≡ 11 → ⊥)) × (b ≡ 12 → ⊥)

pub other_step : {u : List ℕ} {d a : ℕ} {bs : List ℕ} (i : Ready u d a bs) (v : Before) (r : Walked) (m n : List Labels) → Carries r (a + 2) none none
    → Other (get_or bs 0 0) → (t : List ℕ) (base : ℕ) (p : Statement) → Lies t d base a bs p → Past p a v r m m n n
other_step {d = d} {a = a} {bs = bs} i v r m n h o t base p l = go (command i).0 (command i).1
  where
    go : (c : Command) → get_or bs 0 0 ≡ byte_of c → Past p a v r m m n n
    go Command.nothing b = absurd (o.0.0.0.0.0.0.0.0.0.0.1 b)
    go Command.pause b = absurd (o.0.0.0.0.0.0.0.0.0.1 b)
    go Command.emit b = here a v r m m n n p (emit (get_or bs 1 0) pure) (by_command t d base a bs p l Command.emit b).parts (emit-step a v r m n h (get_or bs 1 0))
    go Command.exit b = here a v r m m n n p (exit (get_or bs 1 0)) (by_command t d base a bs p l Command.exit b).parts (exit-step a v r m n h (get_or bs 1 0))
    go Command.seq b = absurd (o.0.0.0.0.0.0.0.0.1 b)
    go Command.par b = absurd (o.0.0.0.0.0.0.0.1 b)
    go Command.loop b = absurd (o.0.0.0.0.0.0.1 b)
    go Command.present b = absurd (o.0.0.0.0.0.1 b)
    go Command.signal b = absurd (o.0.0.0.0.1 b)
    go Command.try b = absurd (o.0.0.0.1 b)
    go Command.setpause b = absurd (o.0.0.1 b)
    go Command.suspend b = absurd (o.0.1 b)
    go Command.deliver b = absurd (o.1 b)

-- ---- commands of one part
module _ (a : ℕ) (v : Before) (r : Walked) (m m' n n' : List Labels) (p : Statement) where
  pub loop-step : (b : ℕ) → Past p (a + 1) v r m m' n n' → Past (loop b p) a v r m m' n n'
  unfolding labels_of bytes_of fill
  loop-step b h = record { labels = ends_at (omega arith) h.labels; excludes = h.excludes; sides = h.sides }

  pub signal-step : (b s : ℕ) → Past p (a + 2) v r m m' n n' → Past (signal local b s p) a v r m m' n n'
  unfolding labels_of bytes_of fill
  signal-step b s h = record { labels = ends_at (omega arith) h.labels; excludes = h.excludes; sides = h.sides }

  pub try-step : Past p (a + 1) v r m m' n n' → Past (try p) a v r m m' n n'
  unfolding labels_of bytes_of fill
  try-step h = record { labels = ends_at (omega arith) h.labels; excludes = h.excludes; sides = h.sides }

  pub suspend-step : (s : ℕ) → Past p (a + 2) v r m m' n n' → Past (suspend s p) a v r m m' n n'
  unfolding labels_of bytes_of fill
  suspend-step s h = record { labels = ends_at (omega arith) h.labels; excludes = h.excludes; sides = h.sides }

-- ---- commands of two parts
-- the first part ends at k, and there the second begins
pub second_at : (t : List ℕ) (d base a w : ℕ) (bs : List ℕ) (p q : Statement) → Two (Lies t d) t base a w bs p q → (k : ℕ) → k ≡ (a + w) + size p
    → Lies t d (middle base p) k (rest (k - a) bs) q
second_at t d base a w bs p q l k e =
    let met : secondAt t a ≡ k = omega (arith, l.place, e) in
    subst (λ (i : ℕ). Lies t d (middle base p) i (rest (i - a) bs) q) met l.second

module _ {d a w : ℕ} {bs : List ℕ} (i : StandingTwo d a w bs) where
  pub standing-first : Standing d (a + w) (rest w bs)
  standing-first = record { table = i.table; ready = first-ready i.pair }

  -- the first part was passed
  module _ {v : Before} {x : Walked} {m m' n n' : List Labels} (h : Passes d (a + w) (rest w bs) v x m m' n n') where
    ended : x.end ≡ (a + w) + size i.pair.p
    ended = (h i.table i.pair.base i.pair.p i.pair.two.first).labels.ends

    pub ends-behind : a ≤ x.end
    ends-behind = omega (arith, ended)

    pub ends-within : x.end - a ≤ length bs
    ends-within = omega (arith, ended, i.pair.two.place, i.pair.two.within)

    pub standing-second : Standing d x.end (rest (x.end - a) bs)
    standing-second = record {
      table = i.table;
      ready = ready (middle i.pair.base i.pair.p) i.pair.q i.pair.long
          (second_at i.table d i.pair.base a w bs i.pair.p i.pair.q i.pair.two x.end ended);
    }

module _ (a : ℕ) (v : Before) (r : Walked) (m m' n n' : List Labels) (p q : Statement) where
  pub seq-step : PastTwo false p q a 1 v r m m' n n' → Past (seq p q) a v r m m' n n'
  unfolding labels_of bytes_of fill
  seq-step h =
      record { labels = ends_at (omega (arith, length-append (bytes_of p) (bytes_of q))) h.labels; excludes = h.excludes; sides = h.sides }

  pub par-step : PastTwo true p q a 1 v r m m' n n' → Past (par p q) a v r m m' n n'
  unfolding labels_of bytes_of fill
  par-step h =
      record { labels = ends_at (omega (arith, length-append (bytes_of p) (bytes_of q))) h.labels; excludes = h.excludes; sides = h.sides }

  pub present-step : (s : ℕ) → PastTwo false p q a 2 v r m m' n n' → Past (present s p q) a v r m m' n n'
  unfolding labels_of bytes_of fill
  present-step s h =
      record { labels = ends_at (omega (arith, length-append (bytes_of p) (bytes_of q))) h.labels; excludes = h.excludes; sides = h.sides }

  -- one part after the other; the rows m₁ and n₁ are those between them
  pub parts_step : (w : ℕ) (b : Bool) (v₂ : Before) (x y : Walked) (m₁ n₁ : List Labels) → Past p (a + w) v x m m₁ n n₁ → BeginsSecond b v x v₂
      → Past q x.end v₂ y m₁ m' n₁ n' → Joins x y r → PastTwo b p q a w v r m m' n n'
  parts_step w b v₂ x y m₁ n₁ h e k j =
      record {
        labels = record {
          ends = omega (arith, h.labels.ends, k.labels.ends, j.ends);
          paused = j.paused ∙ ap₂ join h.labels.paused k.labels.paused;
          triggering = j.triggering ∙ ap₂ join h.labels.triggering k.labels.triggering;
        };
        excludes = in_turn_lem h.excludes
            (subst (λ (s : ℕ). Updates (fill true false alternative q s) m₁ m')
            (e.excludes ∙ ap (further alternative (joint_of b) (label_set v.exclusive)) h.labels.paused) k.excludes);
        sides = in_turn_lem h.sides
            (subst (λ (s : ℕ). Updates (fill true true parallel q s) n₁ n')
            (e.sides ∙ ap (further parallel (joint_of b) (label_set v.concurrent)) h.labels.triggering) k.sides);
      }
