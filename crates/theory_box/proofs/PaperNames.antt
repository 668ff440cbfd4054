-- Positions whose label sets are taken for something else that is kept: found, saved and forgotten alike.
use Prim.Native.Nat.{ℕ, suc}
use mathlib.Core.Path.{◌≡◌, refl, ap}
use mathlib.Core.Bool.{Bool, true, false, ◌||◌, cond}
use mathlib.Core.Option.{Option, some, none}
use mathlib.Core.List.{List, [], ◌∷◌}
use lib.ListN.{length}
use lib.Dec.{eqb, ltb}
use Rattle.spec_base.specs.Limits.{max_positions}
use Rattle.spec_bay.specs.Names.{Position, position, find, without, is_known, Answered, answered, save_named, forget_named}

module _ {T : Type 0} (g : ℕ → T) where
  unfoldable pub mapped : List (Position ℕ) → List (Position T)
  mapped [] = []
  mapped (position n labels ∷ ps) = position n (g labels) ∷ mapped ps

  abbrev pub kept_if : Option ℕ → Option T
  kept_if none = none
  kept_if (some labels) = some (g labels)

  abbrev pub mapped_answer : Answered ℕ → Answered T
  mapped_answer (answered n ps) = answered n (mapped ps)

  known_kept : (o : Option ℕ) → is_known (kept_if o) ≡ is_known o
  known_kept none = refl
  known_kept (some labels) = refl

  pub find-kept : (name : ℕ) (ps : List (Position ℕ)) → find name (mapped ps) ≡ kept_if (find name ps)
  unfolding mapped find
  find-kept name [] = refl
  find-kept name (position n labels ∷ ps) = go (eqb n name) (find-kept name ps)
    where
      go : (b : Bool) → find name (mapped ps) ≡ kept_if (find name ps)
          → cond b (some (g labels)) (find name (mapped ps)) ≡ kept_if (cond b (some labels) (find name ps))
      go true r = refl
      go false r = r

  without-kept : (name : ℕ) (ps : List (Position ℕ)) → without name (mapped ps) ≡ mapped (without name ps)
  unfolding mapped without
  without-kept name [] = refl
  without-kept name (position n labels ∷ ps) = go (eqb n name) (without-kept name ps)
    where
      go : (b : Bool) → without name (mapped ps) ≡ mapped (without name ps)
          → cond b (without name (mapped ps)) (position n (g labels) ∷ without name (mapped ps))
          ≡ mapped (cond b (without name ps) (position n labels ∷ without name ps))
      go true r = r
      go false r = ap (λ (l : List (Position T)). position n (g labels) ∷ l) r

  length-kept : (ps : List (Position ℕ)) → length (mapped ps) ≡ length ps
  unfolding mapped
  length-kept [] = refl
  length-kept (position n labels ∷ ps) = ap suc (length-kept ps)

  pub nil-kept : [] ≡ mapped []
  unfolding mapped
  nil-kept = refl

  -- a save and a forget
  pub save-kept : (name labels : ℕ) (ps : List (Position ℕ)) → save_named name (g labels) (mapped ps) ≡ mapped_answer (save_named name labels ps)
  unfolding mapped save_named
  save-kept name labels ps =
      rw (find-kept name ps, known_kept (find name ps), length-kept ps, without-kept name ps)
      (go (is_known (find name ps) || ltb (length ps) max_positions))
    where
      go : (b : Bool) → cond b (answered 0 (position name (g labels) ∷ mapped (without name ps))) (answered 16 (mapped ps))
          ≡ mapped_answer (cond b (answered 0 (position name labels ∷ without name ps)) (answered 16 ps))
      go true = refl
      go false = refl

  pub forget-kept : (name : ℕ) (ps : List (Position ℕ)) → forget_named name (mapped ps) ≡ mapped_answer (forget_named name ps)
  unfolding forget_named
  forget-kept name ps = rw (find-kept name ps, known_kept (find name ps), without-kept name ps) (go (is_known (find name ps)))
    where
      go : (b : Bool) → cond b (answered 0 (mapped (without name ps))) (answered 15 (mapped ps))
          ≡ mapped_answer (cond b (answered 0 (without name ps)) (answered 15 ps))
      go true = refl
      go false = refl
