-- One run that stands for both: s is emitted by both or by neither, and a wrong run is inherited.
use Prim.Native.Nat.{ℕ, ◌+◌}
use mathlib.Core.Path.{◌≡◌, refl, ◌∙◌}
use mathlib.Core.Bool.{Bool, true, false, cond, false≢true}
use mathlib.Core.Option.{Option}
use Rattle.spec_base.specs.Sets.{member, none}
use Rattle.sets.proofs.Algebra.{remove_absent}
use Rattle.labels.specs.declared.Labels.{Labels}
use Rattle.labels.specs.Labels.{Represents}
use Rattle.spec_language.specs.Statement.{Scope, local, reported, Statement}
use Rattle.spec_language.specs.Reaction.{Code, ended, waiting, leaving, wrong, is_wrong, gives, outside}
use Rattle.spec_language.specs.Errors.{Error}
use Rattle.spec_language.specs.Litres.{passing}
use Rattle.theory_language.specs.Traced as Traces
use Rattle.spec_language.specs.Instants.{instant}
use Rattle.theory_language.specs.Traced.{traced, signal_once}
use Rattle.reaction.specs.declared.Reaction.{Reaction}
use Rattle.reaction.specs.Completions.{code_of}
use Rattle.reaction.proofs.Completions.{code_of_lem}
use Rattle.reaction.specs.Reactions.{reaction_of}
use Rattle.reaction.proofs.Values.{kept_two, made}
use Rattle.declarations.proofs.Runs.{unmoved, Counted}

absent_outside : (sc : Scope) (s o : ℕ) → member s o ≡ false → outside sc s o ≡ o
absent_outside local s o h = remove_absent s o h
absent_outside reported s o h = refl

module _ (f : ℕ) (sc : Scope) (b s : ℕ) where
  abbrev OnceRight : Traces.Traced → Reaction → Type 0
  OnceRight t p =
      (o m : ℕ) → is_wrong (code_of p.completion) ≡ false → o ≡ outside sc s p.emitted → Counted p p m
      → ◌≡◌ {A = Reaction}
      (record { emitted = o; labels = p.labels; completion = p.completion; reactions = m; asked = p.asked })
      (reaction_of (signal_once f sc b s t))

  right-by-member : (c : Bool) (o₁ : ℕ) (k : Code) (l : ℕ) (t₁ : Statement) (x : Option Error) (n a y : ℕ) → member s o₁ ≡ c
      → is_wrong k ≡ false → OnceRight (traced (instant (gives o₁ k l t₁) x n) a y) (reaction_of (traced (instant (gives o₁ k l t₁) x n) a y))
  right-by-member true o₁ k l t₁ x n a y i r o m h e w =
      rw (i, r, e, w, kept_two n n, unmoved k x Option.none r)
  right-by-member false o₁ k l t₁ x n a y i r o m h e w =
      rw (i, r, e, absent_outside sc s o₁ i, w, kept_two n n, unmoved k x Option.none r)

  right-run : (t : Traces.Traced) → OnceRight t (reaction_of t)
  right-run (traced (instant (gives o₁ k l t₁) x n) a y) o m h =
      right-by-member (member s o₁) o₁ k l t₁ x n a y refl (rw (code_of_lem k x) at h) o m h

  abbrev OnceWrong : Traces.Traced → Reaction → Type 0
  OnceWrong t p =
      (l : Labels) (m : ℕ) → is_wrong (code_of p.completion) ≡ true → Represents l none → Counted p p m
      → ◌≡◌ {A = Reaction} (record { emitted = none; labels = l; completion = p.completion; reactions = m; asked = p.asked })
      (reaction_of (signal_once f sc b s t))

  wrong-run : (t : Traces.Traced) → OnceWrong t (reaction_of t)
  wrong-run (traced (instant (gives o₁ ended l₁ t₁) x n) a y) l m h e w = absurd (false≢true h)
  wrong-run (traced (instant (gives o₁ waiting l₁ t₁) x n) a y) l m h e w = absurd (false≢true h)
  wrong-run (traced (instant (gives o₁ (leaving k) l₁ t₁) x n) a y) l m h e w = absurd (false≢true h)
  wrong-run (traced (instant (gives o₁ wrong l₁ t₁) x n) a y) l m h e w = made wrong x (1 + n + n) a (passing sc f s 0) refl e refl (w ∙ kept_two n n) refl

  module _ (t : Traces.Traced) (p : Reaction) (p-is : p ≡ reaction_of t) {m : ℕ} (counted : Counted p p m) {r : Reaction} where
    pub once-right : is_wrong (code_of p.completion) ≡ false → {o : ℕ} → o ≡ outside sc s p.emitted
        → r ≡ record { emitted = o; labels = p.labels; completion = p.completion; reactions = m; asked = p.asked }
        → r ≡ reaction_of (signal_once f sc b s t)
    once-right h {o} e k = let law : OnceRight t p = rw p-is (right-run t) in k ∙ law o m h e counted

    pub once-wrong : is_wrong (code_of p.completion) ≡ true → {l : Labels} → Represents l none
        → r ≡ record { emitted = none; labels = l; completion = p.completion; reactions = m; asked = p.asked }
        → r ≡ reaction_of (signal_once f sc b s t)
    once-wrong h {l} e k = let law : OnceWrong t p = rw p-is (wrong-run t) in k ∙ law l m h e counted
