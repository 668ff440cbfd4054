-- The rules of two parts on the values of the code are the language's: one law for each way in which a rule returns.
use Prim.Native.Nat.{ℕ, ◌+◌, ◌-◌}
use mathlib.Core.Path.{◌≡◌, refl, ap, ◌∙◌}
use mathlib.Core.Bool.{true, false, false≢true, true≢false}
use native.Mathlib.Omega.{arith}
use Rattle.spec_base.specs.Sets.{none, join}
use Rattle.labels.specs.declared.Labels.{Labels}
use Rattle.labels.specs.Labels.{label_set, labels_with, Represents}
use Rattle.labels.proofs.LabelValues.{label_set_of, stands_of}
use Rattle.spec_language.specs.Statement.{Statement}
use Rattle.spec_language.specs.Reaction.{Code, ended, waiting, leaving, wrong, greater, gives, if_waiting}
use Rattle.theory_language.specs.Traced as Traces
use Rattle.spec_language.specs.Instants.{instant}
use Rattle.theory_language.specs.InstantRules.{if_wrong}
use Rattle.theory_language.specs.Traced.{traced, seq_traced, par_traced}
use Rattle.reaction.specs.declared.Completion.{Completion}
use Rattle.reaction.specs.declared.Reaction.{Reaction}
use Rattle.reaction.specs.Completions.{completion_of, code_of, greater_of, is_ended}
use Rattle.reaction.proofs.Completions.{code_of_lem, greater_of_lem}
use Rattle.reaction.specs.Reactions.{kept_of, reaction_of, counted_around}
use Rattle.reaction.proofs.Values.{kept_two, made}

-- ---- p; q
abbrev SeqGoesOn : Statement → (t v : Traces.Traced) (p q : Reaction) → Type 0
SeqGoesOn u t v p q =
    (o m a : ℕ) → is_ended p.completion ≡ true → o ≡ join p.emitted q.emitted → m ≡ kept_of (1 + p.reactions + q.reactions)
    → a ≡ join p.asked q.asked
    → ◌≡◌ {A = Reaction} (record { emitted = o; labels = q.labels; completion = q.completion; reactions = m; asked = a })
    (reaction_of (seq_traced u t v))

no_more : (n : ℕ) → 1 + n + 0 ≡ 1 + n
no_more n = omega arith

module _ (u : Statement) (t v : Traces.Traced) (p : Reaction) (p-is : p ≡ reaction_of t) where
  pub seq-goes-on : (q : Reaction) → q ≡ reaction_of v → SeqGoesOn u t v p q
  seq-goes-on q q-is = rw (p-is, q-is) (go t v)
    where
      go : (t v : Traces.Traced) → SeqGoesOn u t v (reaction_of t) (reaction_of v)
      go (traced (instant (gives o₁ ended l₁ t₁) x n) a₁ z₁) (traced (instant (gives o₂ k l₂ t₂) y n₂) a₂ z₂) o m a h e w f =
          made k y (1 + n + n₂) (join a₁ a₂) (z₁ + z₂) e (stands_of l₂) refl (w ∙ kept_two n n₂) f
      go (traced (instant (gives o₁ waiting l₁ t₁) x n) a₁ z₁) v o m a h e w f = absurd (false≢true h)
      go (traced (instant (gives o₁ (leaving k) l₁ t₁) x n) a₁ z₁) v o m a h e w f = absurd (false≢true h)
      go (traced (instant (gives o₁ wrong l₁ t₁) x n) a₁ z₁) v o m a h e w f = absurd (false≢true h)

  pub seq_stops : {r : Reaction} → is_ended p.completion ≡ false → r ≡ reaction_of (counted_around none t) → r ≡ reaction_of (seq_traced u t v)
  seq_stops h k = k ∙ go t v (rw p-is at h)
    where
      go : (t v : Traces.Traced) → is_ended (reaction_of t).completion ≡ false
          → reaction_of (counted_around none t) ≡ reaction_of (seq_traced u t v)
      go (traced (instant (gives o ended l t₁) x n) a z) v h = absurd (true≢false h)
      go (traced (instant (gives o waiting l t₁) x n) a z) (traced (instant r y m) b w) h = rw (no_more n)
      go (traced (instant (gives o (leaving k) l t₁) x n) a z) (traced (instant r y m) b w) h = rw (no_more n)
      go (traced (instant (gives o wrong l t₁) x n) a z) (traced (instant r y m) b w) h = rw (no_more n)

-- ---- p in parallel with q
abbrev ParJoins : (t v : Traces.Traced) (p q : Reaction) → Type 0
ParJoins t v p q =
    (o m a : ℕ) (l u : Labels) (c : Completion)
    → o ≡ join p.emitted q.emitted → c ≡ greater_of p.completion q.completion → m ≡ kept_of (1 + p.reactions + q.reactions)
    → a ≡ join p.asked q.asked
    → label_set u ≡ join (label_set p.labels) (label_set q.labels) → Represents l (if_waiting (code_of c) (label_set u))
    → ◌≡◌ {A = Reaction} (record { emitted = o; labels = l; completion = c; reactions = m; asked = a }) (reaction_of (par_traced t v))

pub par_joins : (t v : Traces.Traced) (p q : Reaction) → p ≡ reaction_of t → q ≡ reaction_of v → ParJoins t v p q
par_joins t v p q p-is q-is = rw (p-is, q-is) (go t v)
  where
    go : (t v : Traces.Traced) → ParJoins t v (reaction_of t) (reaction_of v)
    go (traced (instant (gives o₁ k₁ l₁ t₁) x n) a₁ z₁) (traced (instant (gives o₂ k₂ l₂ t₂) y n₂) a₂ z₂) o m a l u c e g s f d w =
        let z : c ≡ completion_of (greater k₁ k₂) (if_wrong k₁ x y) = g ∙ greater_of_lem k₁ k₂ x y in
        let z' : code_of c ≡ greater k₁ k₂ = ap code_of z ∙ code_of_lem (greater k₁ k₂) (if_wrong k₁ x y) in
        let d' : label_set u ≡ join l₁ l₂ = d ∙ ap (λ (h : ℕ). join h (label_set (labels_with l₂))) (label_set_of l₁) ∙ ap (join l₁) (label_set_of l₂) in
        made (greater k₁ k₂) (if_wrong k₁ x y) (1 + n + n₂) (join a₁ a₂) (z₁ + z₂) e
        (w.0, w.1 ∙ ap (λ (h : Code). if_waiting h (label_set u)) z' ∙ ap (if_waiting (greater k₁ k₂)) d') z (s ∙ kept_two n n₂) f
