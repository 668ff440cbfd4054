-- The litres of a farm go through each command as the command's tree says: capped litres compose, and what is not wrong has no wrong part
-- that reacted.
use Prim.Native.Nat.{ℕ, ◌+◌, ◌-◌, ◌≤◌, ◌<◌}
use mathlib.Core.Path.{◌≡◌, refl, sym, ap, ◌∙◌}
use mathlib.Core.Bool.{Bool, true, false, cond, false≢true, true≢false}
use mathlib.Core.Option.{Option}
use mathlib.Core.List.{List}
use native.Mathlib.Omega.{arith}
use lib.Dec.{eqb}
use lib.ListN.{length, get_or, set, length-set}
use lib.Seq.{get_or-set_same, get_or-set_other}
use borrow.Author.Tests.{eqb-true, eq-eqb}
use Rattle.spec_base.specs.Limits.{litres_limit}
use Rattle.spec_base.specs.Sets.{member, none}
use Rattle.spec_language.specs.Statement.{Scope, local, reported, Value, Statement}
use Rattle.spec_language.specs.Reaction.{Code, ended, waiting, leaving, wrong, is_wrong, greater, Reaction, gives, inheritanceFirst, first_fit, answer, code}
use Rattle.spec_language.specs.Errors.{Error}
use Rattle.spec_language.specs.Litres.{brought, chosen, passing}
use Rattle.spec_language.specs.Instants.{instant}
use Rattle.theory_language.specs.InstantRules.{code_told}
use Rattle.theory_language.specs.Traced.{Traced, traced, instant_of, seq_traced, par_traced, loop_traced, present_traced, try_traced, suspend_traced, held_traced, stopped_traced, signal_traced, signal_once}
use Rattle.reaction.specs.Completions.{is_ended}
use Rattle.reaction.specs.Reactions.{capped_of, alone, reaction_of, counted_around, Accumulates, AccumulatesAt}

-- what delivers none changes nothing
pub accumulates_none : (b : ℕ) (r : Reaction) (x : Option Error) (n a : ℕ) → Accumulates b b (traced (instant r x n) a 0)
accumulates_none b r x n a = record { bounded = λ h. h; summed = λ h w. omega arith }

-- an emission adds what it brings
pub accumulates_more : (b y : ℕ) (r : Reaction) (x : Option Error) (n a : ℕ) → Accumulates b (capped_of (b + y)) (traced (instant r x n) a y)
accumulates_more b y r x n a = record { bounded = λ h. omega arith; summed = λ h w. refl }

-- nothing is said of the litres where a tree is wrong
wrongly : {b a : ℕ} {t v : Traced} → is_wrong (code_told (instant_of v)) ≡ true → Accumulates b a t → Accumulates b a v
wrongly w p = record { bounded = p.bounded; summed = λ h right. absurd (true≢false (sym w ∙ right)) }

-- ---- p; q
pub seq_accumulates : (u : Statement) (t v : Traced) {b m a : ℕ} → is_ended (reaction_of t).completion ≡ true → Accumulates b m t → Accumulates m a v → Accumulates b a (seq_traced u t v)
seq_accumulates u (traced (instant (gives o ended l t₁) x n) c z) (traced (instant r y n₂) d w) h p q =
    record {
      bounded = λ s. q.bounded (p.bounded s);
      summed = λ s right. let e = p.summed s refl in let g = q.summed (p.bounded s) right in omega arith;
    }
seq_accumulates u (traced (instant (gives o waiting l t₁) x n) c z) v h p q = absurd (false≢true h)
seq_accumulates u (traced (instant (gives o (leaving k) l t₁) x n) c z) v h p q = absurd (false≢true h)
seq_accumulates u (traced (instant (gives o wrong l t₁) x n) c z) v h p q = absurd (false≢true h)

pub first_accumulates : (u : Statement) (t v : Traced) {b a : ℕ} → is_ended (reaction_of t).completion ≡ false → Accumulates b a t → Accumulates b a (seq_traced u t v)
first_accumulates u (traced (instant (gives o ended l t₁) x n) c z) v h p = absurd (true≢false h)
first_accumulates u (traced (instant (gives o waiting l t₁) x n) c z) (traced (instant r y n₂) d w) h p =
    record { bounded = p.bounded; summed = λ s right. let g = p.summed s right in omega arith }
first_accumulates u (traced (instant (gives o (leaving k) l t₁) x n) c z) (traced (instant r y n₂) d w) h p =
    record { bounded = p.bounded; summed = λ s right. let g = p.summed s right in omega arith }
first_accumulates u (traced (instant (gives o wrong l t₁) x n) c z) (traced (instant r y n₂) d w) h p = wrongly refl p

-- ---- p in parallel with q
sides_right : (k l : Code) → is_wrong (greater k l) ≡ false → (is_wrong k ≡ false) × (is_wrong l ≡ false)
sides_right ended l h = (refl, h)
sides_right waiting ended h = (refl, refl)
sides_right waiting waiting h = (refl, refl)
sides_right waiting (leaving n) h = (refl, refl)
sides_right waiting wrong h = absurd (true≢false h)
sides_right (leaving m) ended h = (refl, refl)
sides_right (leaving m) waiting h = (refl, refl)
sides_right (leaving m) (leaving n) h = (refl, refl)
sides_right (leaving m) wrong h = absurd (true≢false h)
sides_right wrong l h = absurd (true≢false h)

pub par_accumulates : (t v : Traced) {b m a : ℕ} → Accumulates b m t → Accumulates m a v → Accumulates b a (par_traced t v)
par_accumulates (traced (instant (gives o k l t₁) x n) c z) (traced (instant (gives o₂ k₂ l₂ t₂) y n₂) d w) p q =
    record {
      bounded = λ s. q.bounded (p.bounded s);
      summed = λ s right. let i = sides_right k k₂ right in let e = p.summed s i.0 in let g = q.summed (p.bounded s) i.1 in omega arith;
    }

-- ---- commands over one part
pub loop_accumulates : (pl : ℕ) (u : Statement) (t : Traced) {b a : ℕ} → Accumulates b a t → Accumulates b a (loop_traced pl u t)
loop_accumulates pl u (traced (instant (gives o ended l t₁) x n) c z) p = wrongly refl p
loop_accumulates pl u (traced (instant (gives o waiting l t₁) x n) c z) p = record { bounded = p.bounded; summed = p.summed }
loop_accumulates pl u (traced (instant (gives o (leaving k) l t₁) x n) c z) p = record { bounded = p.bounded; summed = p.summed }
loop_accumulates pl u (traced (instant (gives o wrong l t₁) x n) c z) p = wrongly refl p

pub present_accumulates : (s : ℕ) (t : Traced) {b a : ℕ} → Accumulates b a t → Accumulates b a (present_traced s t)
present_accumulates s (traced (instant r x n) c z) p = record { bounded = p.bounded; summed = p.summed }

pub try_accumulates : (t : Traced) {b a : ℕ} → Accumulates b a t → Accumulates b a (try_traced t)
try_accumulates (traced (instant (gives o ended l t₁) x n) c z) p = record { bounded = p.bounded; summed = p.summed }
try_accumulates (traced (instant (gives o waiting l t₁) x n) c z) p = record { bounded = p.bounded; summed = p.summed }
try_accumulates (traced (instant (gives o (leaving k) l t₁) x n) c z) p = record { bounded = p.bounded; summed = λ s right. p.summed s refl }
try_accumulates (traced (instant (gives o wrong l t₁) x n) c z) p = wrongly refl p

pub suspend_accumulates : (s : ℕ) (t : Traced) {b a : ℕ} → Accumulates b a t → Accumulates b a (suspend_traced s t)
suspend_accumulates s (traced (instant (gives o k l t₁) x n) c z) p = record { bounded = p.bounded; summed = p.summed }

pub held_accumulates : (s : ℕ) (t : Traced) {b a : ℕ} → Accumulates b a t → Accumulates b a (held_traced s t)
held_accumulates s (traced (instant (gives o k l t₁) x n) c z) p = record { bounded = p.bounded; summed = p.summed }

-- ---- a declaration of s: the run that answers, where neither is wrong
chosen_accumulates : (i− i+ w− w+ : Bool) (sc : Scope) (pl s : ℕ) (r− r+ : Reaction) (b m n y− y+ : ℕ)
    → ((w− ≡ false) → m ≡ capped_of (b + y−)) → ((w+ ≡ false) → n ≡ capped_of (b + y+))
    → is_wrong (code (answer (first_fit inheritanceFirst i− i+ w− w+) sc pl s r− r+)) ≡ false
    → cond i+ n m ≡ capped_of (b + chosen (first_fit inheritanceFirst i− i+ w− w+) y− y+)
chosen_accumulates i− i+ true w+ sc pl s r− r+ b m n y− y+ p q right = absurd (true≢false right)
chosen_accumulates i− i+ false true sc pl s r− r+ b m n y− y+ p q right = absurd (true≢false right)
chosen_accumulates true true false false sc pl s r− r+ b m n y− y+ p q right = q refl
chosen_accumulates true false false false sc pl s r− r+ b m n y− y+ p q right = absurd (true≢false right)
chosen_accumulates false true false false sc pl s r− r+ b m n y− y+ p q right = absurd (true≢false right)
chosen_accumulates false false false false sc pl s r− r+ b m n y− y+ p q right = p refl

either_small : (c : Bool) (m n k : ℕ) → m ≤ k → n ≤ k → cond c n m ≤ k
either_small true m n k h g = g
either_small false m n k h g = h

once-chosen : (i w : Bool) (sc : Scope) (pl s : ℕ) (r : Reaction) (b m y : ℕ) → ((w ≡ false) → m ≡ capped_of (b + y))
    → is_wrong (code (answer (first_fit inheritanceFirst i i w w) sc pl s r r)) ≡ false
    → m ≡ capped_of (b + chosen (first_fit inheritanceFirst i i w w) y y)
once-chosen i true sc pl s r b m y p right = absurd (true≢false right)
once-chosen true false sc pl s r b m y p right = p refl
once-chosen false false sc pl s r b m y p right = p refl

module _ (f : ℕ) (sc : Scope) (pl s : ℕ) where
  -- the litres of a farm that pass, from two runs and from one
  pub signal-accumulates : (t v : Traced) {b m n : ℕ} → ((x : ℕ) → passing sc f s x ≡ x) → Accumulates b m t → Accumulates b n v
      → Accumulates b (cond (member s (reaction_of v).emitted) n m) (signal_traced f sc pl s t v)
  signal-accumulates (traced (instant (gives o− k− l− t−) x− n−) a− y−) (traced (instant (gives o+ k+ l+ t+) x+ n+) a+ y+) {b} {m} {n} whole p q =
      record {
        bounded = λ h. either_small (member s o+) m n (litres_limit + 1) (p.bounded h) (q.bounded h);
        summed = λ h right. chosen_accumulates (member s o−) (member s o+) (is_wrong k−) (is_wrong k+) sc pl s (gives o− k− l− t−) (gives o+ k+ l+ t+) b m n y− y+ (p.summed h) (q.summed h) right
            ∙ ap (λ (z : ℕ). capped_of (b + z)) (sym (whole (chosen (first_fit inheritanceFirst (member s o−) (member s o+) (is_wrong k−) (is_wrong k+)) y− y+)));
      }

  pub once-accumulates : (t : Traced) {b m : ℕ} → ((x : ℕ) → passing sc f s x ≡ x) → Accumulates b m t → Accumulates b m (signal_once f sc pl s t)
  once-accumulates (traced (instant (gives o k l t₁) x n) a y) {b} {m} whole p =
      record {
        bounded = p.bounded;
        summed = λ h right. once-chosen (member s o) (is_wrong k) sc pl s (gives o k l t₁) b m y (p.summed h) right
            ∙ ap (λ (z : ℕ). capped_of (b + z)) (sym (whole (chosen (first_fit inheritanceFirst (member s o) (member s o) (is_wrong k) (is_wrong k)) y y)));
      }

  -- those that do not
  pub signal-drops : (t v : Traced) (b : ℕ) → ((x : ℕ) → passing sc f s x ≡ 0) → Accumulates b b (signal_traced f sc pl s t v)
  signal-drops (traced (instant (gives o− k− l− t−) x− n−) a− y−) (traced (instant (gives o+ k+ l+ t+) x+ n+) a+ y+) b nil =
      record { bounded = λ h. h; summed = λ h right. let e = nil (chosen (first_fit inheritanceFirst (member s o−) (member s o+) (is_wrong k−) (is_wrong k+)) y− y+) in omega arith }

  pub once-drops : (t : Traced) (b : ℕ) → ((x : ℕ) → passing sc f s x ≡ 0) → Accumulates b b (signal_once f sc pl s t)
  once-drops (traced (instant (gives o k l t₁) x n) a y) b nil =
      record { bounded = λ h. h; summed = λ h right. let e = nil (chosen (first_fit inheritanceFirst (member s o) (member s o) (is_wrong k) (is_wrong k)) y y) in omega arith }

-- ---- the same of the lists of all farms
module _ {f : ℕ} {b : List ℕ} where
  pub farms-none : (r : Reaction) (x : Option Error) (n a : ℕ) → AccumulatesAt f b b (traced (instant r x n) a 0)
  farms-none r x n a = record { long = refl; accumulates = λ h. accumulates_none (get_or b f 0) r x n a }

  pub farms-one : {a : List ℕ} {t v : Traced} → ((x y : ℕ) → Accumulates x y t → Accumulates x y v) → AccumulatesAt f b a t → AccumulatesAt f b a v
  farms-one h p = record { long = p.long; accumulates = λ i. h _ _ (p.accumulates i) }

  pub farms_two : {m a : List ℕ} {t v w : Traced} → ((x y z : ℕ) → Accumulates x y t → Accumulates y z v → Accumulates x z w) → AccumulatesAt f b m t → AccumulatesAt f m a v → AccumulatesAt f b a w
  farms_two h p q = record { long = q.long ∙ p.long; accumulates = λ i. h _ _ _ (p.accumulates i) (q.accumulates (rw (← p.long) at i)) }

-- litres brought to the farm s
pub farms_more : (f s y : ℕ) (b : List ℕ) {a : List ℕ} (r : Reaction) (x : Option Error) (n c : ℕ)
    → a ≡ set b s (capped_of (get_or b s 0 + y)) → AccumulatesAt f b a (traced (instant r x n) c (cond (eqb s f) y 0))
farms_more f s y b r x n c h =
    record { long = ap length h ∙ length-set b s (capped_of (get_or b s 0 + y)); accumulates = λ i. rw h (go (eqb s f) refl i) }
  where
    go : (d : Bool) → eqb s f ≡ d → f < length b
        → Accumulates (get_or b f 0) (get_or (set b s (capped_of (get_or b s 0 + y))) f 0) (traced (instant r x n) c (cond d y 0))
    go true e i =
        rw (eqb-true s f e, get_or-set_same b f (capped_of (get_or b f 0 + y)) 0 i) (accumulates_more (get_or b f 0) y r x n c)
    go false e i =
        let u : f ≡ s → ⊥ = λ z. true≢false (sym (eq-eqb s f (sym z)) ∙ e) in
        rw (get_or-set_other b s f (capped_of (get_or b s 0 + y)) 0 u) (accumulates_none (get_or b f 0) r x n c)

-- a local declaration of s: its own litres are as they were
kept : (f s : ℕ) (d : Bool) → eqb s f ≡ d → (x : ℕ) → passing local f s x ≡ cond d 0 x
kept f s d e x = rw e

module _ (f pl s : ℕ) {b : List ℕ} where
  own : (k : List ℕ) (t : Traced) → length k ≡ length b → (eqb s f ≡ false → f < length b → Accumulates (get_or b f 0) (get_or k f 0) t)
      → (eqb s f ≡ true → Accumulates (get_or b f 0) (get_or b f 0) t) → {a : List ℕ} → a ≡ set k s (get_or b s 0) → AccumulatesAt f b a t
  own k t long others mine h =
      record { long = ap length h ∙ length-set k s (get_or b s 0) ∙ long; accumulates = λ i. rw h (go (eqb s f) refl i) }
    where
      go : (d : Bool) → eqb s f ≡ d → f < length b → Accumulates (get_or b f 0) (get_or (set k s (get_or b s 0)) f 0) t
      go true e i =
          rw (eqb-true s f e, get_or-set_same k f (get_or b f 0) 0 (rw (← long) at i)) (mine e)
      go false e i =
          let u : f ≡ s → ⊥ = λ z. true≢false (sym (eq-eqb s f (sym z)) ∙ e) in
          rw (get_or-set_other k s f (get_or b s 0) 0 u) (others e i)

  pub farms-signal : (t v : Traced) {m n a : List ℕ} → AccumulatesAt f b m t → AccumulatesAt f b n v → {c : Bool} → c ≡ member s (reaction_of v).emitted → {k : List ℕ} → k ≡ cond c n m
      → a ≡ set k s (get_or b s 0) → AccumulatesAt f b a (signal_traced f local pl s t v)
  farms-signal t v {m} {n} p q {c} c-is {k} k-is h =
      own k (signal_traced f local pl s t v) (ap length k-is ∙ go c)
      (λ e i. rw (k-is, either c, c-is) (signal-accumulates f local pl s t v (kept f s false e) (p.accumulates i) (q.accumulates i)))
      (λ e. signal-drops f local pl s t v (get_or b f 0) (kept f s true e)) h
    where
      go : (d : Bool) → length (cond d n m) ≡ length b
      go true = q.long
      go false = p.long

      either : (d : Bool) → get_or (cond d n m) f 0 ≡ cond d (get_or n f 0) (get_or m f 0)
      either true = refl
      either false = refl

  pub farms-once : (t : Traced) {m a : List ℕ} → AccumulatesAt f b m t → a ≡ set m s (get_or b s 0) → AccumulatesAt f b a (signal_once f local pl s t)
  farms-once t {m} p h =
      own m (signal_once f local pl s t) p.long (λ e i. once-accumulates f local pl s t (kept f s false e) (p.accumulates i))
      (λ e. once-drops f local pl s t (get_or b f 0) (kept f s true e)) h

-- a read-back declaration of s: its litres are kept
module _ (f pl s : ℕ) {b : List ℕ} where
  pub farms-reported : (t v : Traced) {m n a : List ℕ} → AccumulatesAt f b m t → AccumulatesAt f b n v → {c : Bool} → c ≡ member s (reaction_of v).emitted → a ≡ cond c n m
      → AccumulatesAt f b a (signal_traced f reported pl s t v)
  farms-reported t v {m} {n} p q {c} c-is h =
      record {
        long = ap length h ∙ go c;
        accumulates = λ i. rw (h, either c, c-is) (signal-accumulates f reported pl s t v (λ x. refl) (p.accumulates i) (q.accumulates i));
      }
    where
      go : (d : Bool) → length (cond d n m) ≡ length b
      go true = q.long
      go false = p.long

      either : (d : Bool) → get_or (cond d n m) f 0 ≡ cond d (get_or n f 0) (get_or m f 0)
      either true = refl
      either false = refl

  pub farms-reported-once : (t : Traced) {a : List ℕ} → AccumulatesAt f b a t → AccumulatesAt f b a (signal_once f reported pl s t)
  farms-reported-once t p = record { long = p.long; accumulates = λ i. once-accumulates f reported pl s t (λ x. refl) (p.accumulates i) }
