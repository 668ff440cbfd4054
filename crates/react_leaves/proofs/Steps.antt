-- The tree of each command without parts, once it is known.
use Prim.Native.Nat.{ℕ, ◌<◌}
use mathlib.Core.Path.{◌≡◌, ◌∙◌}
use mathlib.Core.List.{List}
use lib.ListN.{get_or}
use borrow.Author.Tests.{lt-ltb}
use Rattle.spec_base.specs.Limits.{signal_count, label_count}
use Rattle.spec_base.specs.Sets.{none}
use Rattle.spec_base.specs.Widths.{only_below}
use Rattle.spec_language.specs.Statement.{Value, Statement, nothing, pause, emit, exit, setpause}
use Rattle.spec_language.specs.Reaction.{ended, waiting, leaving, gives, react_by}
use Rattle.spec_language.specs.Errors.{errors_by}
use Rattle.spec_language.specs.Reactions.{reactions_by}
use Rattle.theory_language.specs.Asked.{asked_by}
use Rattle.spec_language.specs.Litres.{brought, delivered_by}
use Rattle.theory_language.specs.Traced.{start_traced}
use Rattle.layout.specs.Layout.{Ready}
use Rattle.layout.proofs.Laid.{last_one}
use Rattle.reaction.specs.declared.Reaction.{Reaction}
use Rattle.reaction.specs.Reactions.{alone, reaction_of, Realizes}
use Rattle.reaction.proofs.Accumulating.{farms-none}
use Rattle.react_leaves.specs.Started.{Without, Partless}

module _ (f : ℕ) (p : Statement) (e : ℕ) (b : List ℕ) (r : Reaction) where
  pub nothing-step : p ≡ nothing → r ≡ reaction_of (alone (gives none ended none nothing) none 0) → Realizes f b b r (start_traced f p e)
  unfolding react_by errors_by reactions_by asked_by delivered_by
  nothing-step h k = rw h (k, farms-none _ _ _ _)

  pub emit-step : (a : List ℕ) (s : ℕ) (v : Value) → p ≡ emit s v → s < signal_count
      → Realizes f b a r (alone (gives (only_below signal_count s) ended none nothing) none (brought f s v)) → Realizes f b a r (start_traced f p e)
  unfolding react_by errors_by reactions_by asked_by delivered_by
  emit-step a s v h l i = rw h (rw (lt-ltb s signal_count l) at i)

  pub exit-step : (n : ℕ) → p ≡ exit n → r ≡ reaction_of (alone (gives none (leaving n) none nothing) none 0) → Realizes f b b r (start_traced f p e)
  unfolding react_by errors_by reactions_by asked_by delivered_by
  exit-step n h k = rw h (k, farms-none _ _ _ _)

  module _ (l : ℕ) (small : l < label_count) (h : r ≡ reaction_of (alone (gives none waiting (only_below label_count l) nothing) none 0)) where
    pub pause_step : p ≡ pause l → Realizes f b b r (start_traced f p e)
    unfolding react_by errors_by reactions_by asked_by delivered_by
    pause_step k = rw k (h ∙ rw (lt-ltb l label_count small), farms-none _ _ _ _)

    pub setpause-step : p ≡ setpause l → Realizes f b b r (start_traced f p e)
    unfolding react_by errors_by reactions_by asked_by delivered_by
    setpause-step k = rw k (h ∙ rw (lt-ltb l label_count small), farms-none _ _ _ _)

-- what is neither of the others nor has parts is 0C
pub last_leaf : {t : List ℕ} {d a : ℕ} {bs : List ℕ} → Ready t d a bs → Partless (get_or bs 0 0) → Without (get_or bs 0 0) 0 4 × (get_or bs 0 0 ≡ 10 → ⊥)
    → get_or bs 0 0 ≡ 12
last_leaf r w h =
    let v = w.0 in
    last_one r ((((((((h.0, v.0.0.0.0.0.1), v.0.0.0.0.1), v.0.0.0.1), v.0.0.1), v.0.1), v.1), h.1), w.1)
