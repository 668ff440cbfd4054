-- The rules on the values of the code are the language's: one law for each way in which a rule returns.
use Prim.Native.Nat.{ℕ, ◌+◌, ◌-◌, ◌<◌}
use mathlib.Core.Path.{◌≡◌, sym, ◌∙◌}
use mathlib.Core.Bool.{Bool, true, false, cond, false≢true, true≢false}
use mathlib.Core.Option.{Option}
use lib.Dec.{eqb}
use borrow.Author.Tests.{lt-ltb}
use Rattle.spec_base.specs.Limits.{signal_count}
use Rattle.spec_base.specs.Sets.{none, only, join, insert}
use Rattle.spec_base.specs.Widths.{only_below}
use Rattle.sets.proofs.Algebra.{join-none_l, join-none_r}
use Rattle.labels.specs.Labels.{labels_with}
use Rattle.spec_language.specs.Statement.{Statement, nothing, try}
use Rattle.spec_language.specs.Reaction.{ended, waiting, leaving, wrong, gives}
use Rattle.spec_language.specs.Errors.{Error, instantaneous}
use Rattle.theory_language.specs.Traced as Traces
use Rattle.spec_language.specs.Instants.{instant}
use Rattle.theory_language.specs.Traced.{traced, loop_traced, present_traced, try_traced, suspend_traced, held_traced, stopped_traced}
use Rattle.reaction.specs.declared.Completion.{Completion}
use Rattle.reaction.specs.declared.Reaction.{Reaction}
use Rattle.reaction.specs.Completions.{completion_of, is_ended, caught}
use Rattle.reaction.specs.Reactions.{kept_of, alone, reaction_of, failed_with, counted_around}
use Rattle.reaction.proofs.Values.{kept_one, counts_only}

-- ---- loop p at the offset b
module _ (b : ℕ) (u : Statement) (t : Traces.Traced) (p : Reaction) (p-is : p ≡ reaction_of t) {r : Reaction} where
  pub loop_fails : (m : ℕ) → is_ended p.completion ≡ true → r ≡ failed_with (instantaneous b) m p.asked → m ≡ kept_of (1 + p.reactions)
      → r ≡ reaction_of (loop_traced b u t)
  loop_fails m h w e = (rw p-is at w) ∙ go t (rw p-is at h) (rw p-is at e)
    where
      go : (t : Traces.Traced) → is_ended (reaction_of t).completion ≡ true → m ≡ kept_of (1 + (reaction_of t).reactions)
          → failed_with (instantaneous b) m (reaction_of t).asked ≡ reaction_of (loop_traced b u t)
      go (traced (instant (gives o ended l t₁) x n) a z) h e = rw (e, kept_one n)
      go (traced (instant (gives o waiting l t₁) x n) a z) h e = absurd (false≢true h)
      go (traced (instant (gives o (leaving k) l t₁) x n) a z) h e = absurd (false≢true h)
      go (traced (instant (gives o wrong l t₁) x n) a z) h e = absurd (false≢true h)

  pub loop-goes-on : is_ended p.completion ≡ false → r ≡ reaction_of (counted_around none t) → r ≡ reaction_of (loop_traced b u t)
  loop-goes-on h k = k ∙ go t (rw p-is at h)
    where
      go : (t : Traces.Traced) → is_ended (reaction_of t).completion ≡ false → reaction_of (counted_around none t) ≡ reaction_of (loop_traced b u t)
      go (traced (instant (gives o ended l t₁) x n) a z) h = absurd (true≢false h)
      go (traced (instant (gives o waiting l t₁) x n) a z) h = counts_only (instant (gives o waiting l t₁) x n) a z
      go (traced (instant (gives o (leaving k) l t₁) x n) a z) h = counts_only (instant (gives o (leaving k) l t₁) x n) a z
      go (traced (instant (gives o wrong l t₁) x n) a z) h = counts_only (instant (gives o wrong l t₁) x n) a z

-- ---- try p
abbrev TryCatches : Traces.Traced → Reaction → Type 0
TryCatches t p =
    (c : Completion) (m : ℕ) → c ≡ caught p.completion → m ≡ kept_of (1 + p.reactions)
    → ◌≡◌ {A = Reaction} (record { emitted = p.emitted; labels = p.labels; completion = c; reactions = m; asked = p.asked })
    (reaction_of (try_traced t))

pub try_catches : (t : Traces.Traced) (p : Reaction) → p ≡ reaction_of t → TryCatches t p
try_catches t p p-is = rw p-is (go t)
  where
    leaves : (b : Bool) (o l n : ℕ) (t : Statement) (x : Option Error) (n₁ a z : ℕ) (c : Completion) (m : ℕ)
        → c ≡ cond b (completion_of ended x) (completion_of (leaving (n - 1)) x) → m ≡ kept_of (1 + n₁)
        → ◌≡◌ {A = Reaction} (record { emitted = o; labels = labels_with l; completion = c; reactions = m; asked = a })
        (reaction_of (traced (instant (cond b (gives o ended l nothing) (gives o (leaving (n - 1)) l (try t))) x (1 + n₁)) a z))
    leaves true o l n t x n₁ a z c m h e = rw (h, e)
    leaves false o l n t x n₁ a z c m h e = rw (h, e)

    go : (t : Traces.Traced) → TryCatches t (reaction_of t)
    go (traced (instant (gives o ended l t₁) x n) a z) c m h e = rw (h, e, kept_one n)
    go (traced (instant (gives o waiting l t₁) x n) a z) c m h e = rw (h, e, kept_one n)
    go (traced (instant (gives o (leaving k) l t₁) x n) a z) c m h e = leaves (eqb k 1) o l k t₁ x n a z c m h (e ∙ kept_one n)
    go (traced (instant (gives o wrong l t₁) x n) a z) c m h e = rw (h, e, kept_one n)

-- ---- a suspend changes only what remains
pub suspend_counts : (s : ℕ) (t : Traces.Traced) {r : Reaction} → r ≡ reaction_of (counted_around none t) → r ≡ reaction_of (suspend_traced s t)
suspend_counts s (traced (instant (gives o k l t) x n) a y) h = h ∙ rw (join-none_r a)

-- ---- a test, a held suspend and a stopped one ask for their signal s
only_one : (s : ℕ) → only s ≡ insert s none
unfolding only insert join
only_one s = sym (join-none_l (only s))

pub single_is : (s : ℕ) → s < signal_count → {b : ℕ} → b ≡ only_below signal_count s → b ≡ only s
single_is s small noted = noted ∙ rw (lt-ltb s signal_count small)

module _ (s : ℕ) {b : ℕ} (known : b ≡ only s) where
  pub present-asks : (t : Traces.Traced) {r : Reaction} → r ≡ reaction_of (counted_around b t) → r ≡ reaction_of (present_traced s t)
  unfolding join only insert
  present-asks (traced (instant (gives o k l t) x n) a y) h = h ∙ rw known

  pub held_asks : (t : Traces.Traced) {r : Reaction} → r ≡ reaction_of (counted_around b t) → r ≡ reaction_of (held_traced s t)
  unfolding join only insert
  held_asks (traced (instant (gives o k l t) x n) a y) h = h ∙ rw known

  pub stopped-asks : (K : ℕ) (u : Statement) {r : Reaction} → r ≡ reaction_of (alone (gives none waiting K nothing) b 0) → r ≡ reaction_of (stopped_traced s K u)
  stopped-asks K u h = h ∙ rw (known, only_one s)
