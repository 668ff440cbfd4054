-- What the code's tests say of a state record.
use Prim.Native.Nat.{ℕ}
use native.Mathlib.Omega.{arith}
use mathlib.Core.Path.{◌≡◌, refl, sym, ap, ◌∙◌}
use mathlib.Core.Logic.{◌≢◌}
use mathlib.Core.Bool.{Bool, true, false, ◌&&◌, cond}
use mathlib.Core.List.{List}
use lib.Dec.{eqb}
use borrow.Author.Tests.{ne_eqb}
use Rattle.spec_base.specs.Sets.{none}
use Rattle.spec_language.specs.Statement.{Statement}
use Rattle.spec_language.specs.LabelTests.{valid}
use Rattle.spec_language.specs.Reaction.{inheritanceFirst}
use Rattle.spec_language.specs.Machines.{State}
use Rattle.spec_tick.specs.StateRecord.{phase_in, labels_in, Decoded, holds, malformed, decode_state}
use Rattle.spec_tick.specs.Tick.{refused, byState}
use Rattle.program.specs.declared.Start.TheVariants.{Fresh, Waiting}
use Rattle.std.specs.Prelude.{Option, Result, Ok, Err, Some, None, ok_or}
use Rattle.limits.specs.declared.rows.Refusal.{Refusal}
use Rattle.limits.specs.declared.rows.Refusal.TheVariants.{Malformed, Over}
use Rattle.limits.specs.Rows.{row_number}
use Rattle.instants.specs.Replies.{Decodes}
use Rattle.labels.specs.declared.Labels.{Labels}
use Rattle.validity.specs.Activity.{ValidityOf}

-- an option with an error in place of none
pub was_some : (o : Option Labels) (r : Refusal) (m : Labels) → ok_or o r ≡ Ok m → o ≡ Some m
was_some (Some x) r m h = let e : x ≡ m = cc in ap Some e
was_some None r m h = absurd (let z : ◌≡◌ {A = ℕ} 0 1 = cc in omega arith)

pub was_none : (o : Option Labels) (r s : Refusal) → ok_or o r ≡ Err s → (o ≡ None) × (s ≡ r)
was_none (Some x) r s h = absurd (let z : ◌≡◌ {A = ℕ} 0 1 = cc in omega arith)
was_none None r s h = (refl, cc)

module _ (p : Statement) (state : List ℕ) (phase L : ℕ) (at : phase ≡ phase_in state) (read : L ≡ labels_in state) where
  by-validity : (b : Bool) → phase ≡ 1 → valid p L ≡ b → decode_state p state ≡ cond b (holds (State.waits (labels_in state))) malformed
  unfolding decode_state
  by-validity b i v = let w : valid p (labels_in state) ≡ b = rw read at v in rw (sym at ∙ i, w)

  -- a record that holds d is turned down as d is
  turned_down : (d : Decoded) (r : Refusal) → decode_state p state ≡ d → ((q : Statement) (e : ℕ) → byState inheritanceFirst q d e ≡ refused (row_number r))
      → Decodes p state (Err r)
  turned_down d r h k q e = ap (λ (x : Decoded). byState inheritanceFirst q x e) h ∙ k q e

  pub waiting-as : phase ≡ 1 → (m : Labels) → ValidityOf p L (Some m) → Decodes p state (Ok (Waiting m))
  waiting-as i m v = (by-validity true i v.0, rw read at v.0, rw read at v.1)

  pub waiting-invalid : phase ≡ 1 → ValidityOf p L None → Decodes p state (Err Malformed)
  waiting-invalid i v = turned_down malformed Malformed (by-validity false i v) (λ q e. refl)

  pub is-fresh : phase ≢ 1 → phase ≡ 0 → eqb L none ≡ true → Decodes p state (Ok Fresh)
  unfolding decode_state
  is-fresh n i e = rw (sym at ∙ i, ← read, e)

  holds-over : phase ≡ 2 → eqb L none ≡ true → decode_state p state ≡ holds State.over
  unfolding decode_state
  holds-over i e = rw (sym at ∙ i, ← read, e)

  pub is-over : phase ≢ 1 → phase ≡ 2 → eqb L none ≡ true → Decodes p state (Err Over)
  is-over n i e = turned_down (holds State.over) Over (holds-over i e) (λ q e. refl)

  holds-none : phase ≢ 1 → phase ≢ 0 → phase ≢ 2 → decode_state p state ≡ malformed
  unfolding decode_state
  holds-none n i j = rw (← at, ne_eqb phase 1 n, ne_eqb phase 0 i, ne_eqb phase 2 j)

  pub other-phase : phase ≢ 1 → phase ≢ 0 → phase ≢ 2 → Decodes p state (Err Malformed)
  other-phase n i j = turned_down malformed Malformed (holds-none n i j) (λ q e. refl)

  holds-stray : phase ≢ 1 → eqb L none ≡ false → decode_state p state ≡ malformed
  unfolding decode_state
  holds-stray n e = rw (← at, ne_eqb phase 1 n, ← read, e) (go (eqb phase 0) (eqb phase 2))
    where
      go : (x y : Bool) → cond (x && false) (holds State.fresh) (cond (y && false) (holds State.over) malformed) ≡ malformed
      go true true = refl
      go true false = refl
      go false true = refl
      go false false = refl

  pub stray-labels : phase ≢ 1 → eqb L none ≡ false → Decodes p state (Err Malformed)
  stray-labels n e = turned_down malformed Malformed (holds-stray n e) (λ q e. refl)
