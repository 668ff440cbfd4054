-- 002, theorem 6, with 01's residuals: after code 1 the residual is the expansion by the labels, and the labels are those
-- of pauses; for a source with distinct labels and no setpause, fresh or resumed.
use Prim.Native.Nat.{ℕ}
use mathlib.Core.Path.{◌≡◌, refl, sym, ◌∙◌, subst}
use mathlib.Core.Logic.{⊎_elim}
use mathlib.Core.Bool.{true, or-false}
use mathlib.Core.List.{[]}
use borrow.Author.Tests.{eqb-true, eq-eqb}
use Rattle.spec_base.specs.Sets.{member, only, join}
use Rattle.sets.proofs.Booleans.{or_l, or_cases, never}
use Rattle.sets.proofs.Members.{member-join, member-only}
use Rattle.spec_language.specs.Statement.{Statement, nothing, pause, seq, par, loop, present, signal, try, suspend, held}
use Rattle.spec_language.specs.Reaction.{react}
use Rattle.spec_language.specs.Places.{Part, PartOf, seq₁, seq₂, par₁, par₂, loop₁, present₁, present₂, signal₁, try₁, suspend₁, At}
use Rattle.spec_language.specs.States.{Holds, active, Distinct, NoSetpause, Source}
use Rattle.spec_language.specs.Expansion.{expand}
use Rattle.spec_language.specs.LabelTests.{active_labels}
use Rattle.theory_language.proofs.Places.{holds_in, Disjoint, distinct_part, disjoint_parts, no_setpause_part, source_part}
use Rattle.theory_language.proofs.Activity.{active_part, Same, active_same, expand_same, Inside, active_labels_inside, active_labels_wakes, active_labels-all, expand-active_labels, asleep}
use Rattle.theory_language.proofs.Invariant.{Kept, Stopped, Fits, fresh-fits, resumed-fits}

-- the labels are the state of which t is the expansion
pub record Expanded (p : Statement) (L : ℕ) (t : Statement) : Type 0 where
  pub inside : Inside p L
  pub awake : active p L ≡ true
  pub equal : t ≡ expand p L

abbrev pub Remains : Statement → ℕ → Statement → Type 0
Remains p L t = Source p → Distinct p → NoSetpause p → Expanded p L t

at_pause : (l : ℕ) → Remains (pause l) (only l) nothing
unfolding active expand
at_pause l z d n =
    record {
      inside = λ j h. subst (λ (x : ℕ). Holds (pause l) (pause x)) (eqb-true l j (sym (member-only l j) ∙ h)) ([], At.here);
      awake = member-only l l ∙ eq-eqb l l refl;
      equal = refl;
    }

module _ (w : Statement) (L : ℕ) (u : Statement) where
  -- what holds of a part holds of the whole, whose residual u is then the expansion
  from_part : {d : Part} {c : Statement} → PartOf d c w → (t : Statement) → Remains c L t
      → (Expanded c L t → Distinct w → u ≡ expand w L) → Remains w L u
  from_part i t h g z d n =
      let x = h (source_part i z) (distinct_part i d) (no_setpause_part i n) in
      record {
        inside = λ l y. holds_in (pause l) i (x.inside l y);
        awake = active_part L i x.awake;
        equal = g x d;
      }

flipped : {p q : Statement} → Disjoint p q → Disjoint q p
flipped d l x y = d l y x

-- ---- the labels of two sides
module _ (p q : Statement) (L M : ℕ) (t u : Statement) (d : Distinct (par p q)) (x : Expanded p L t) (y : Expanded q M u) where
  apart : Disjoint p q
  apart = disjoint_parts par₁ par₂ d

  joined : (l : ℕ) → member l (join L M) ≡ true → Holds (par p q) (pause l)
  joined l h =
      ⊎_elim (λ z. holds_in (pause l) par₁ (x.inside l z)) (λ z. holds_in (pause l) par₂ (y.inside l z))
      (or_cases (member l L) (member l M) (sym (member-join l L M) ∙ h))

  same-l : Same p (join L M) L
  same-l l h = member-join l L M ∙ rw (never (member l M) (λ z. apart l h (y.inside l z))) (or-false (member l L))

  same-r : Same q (join L M) M
  same-r l h = member-join l L M ∙ rw (never (member l L) (λ z. apart l (x.inside l z) h))

  both-expanded : Expanded (par p q) (join L M) (par t u)
  unfolding active expand
  both-expanded =
      let ap-l : active p (join L M) ≡ true = active_same p (join L M) L same-l ∙ x.awake in
      let ap-r : active q (join L M) ≡ true = active_same q (join L M) M same-r ∙ y.awake in
      record {
        inside = joined;
        awake = or_l (active p (join L M)) (active q (join L M)) ap-l;
        equal =
            rw (ap-l, ap-r, expand_same p (join L M) L same-l, expand_same q (join L M) M same-r, x.equal, y.equal);
      }

-- ---- every command keeps it
kept : Kept Remains
unfolding expand
kept =
    record {
      at_pause = at_pause;
      at_setpause = λ l z d n. absurd (n l ([], At.here));
      seq_first = λ p q L t h. from_part (seq p q) L (seq t q) seq₁ t h (λ x d. rw (x.awake, x.equal));
      seq_second = λ p q L t h. from_part (seq p q) L t seq₂ t h
          (λ x d. rw (asleep p q L (disjoint_parts seq₁ seq₂ d) x.inside) x.equal);
      par_both = λ p q L M t u h i z d n. both-expanded p q L M t u d
          (h (source_part par₁ z) (distinct_part par₁ d) (no_setpause_part par₁ n))
          (i (source_part par₂ z) (distinct_part par₂ d) (no_setpause_part par₂ n));
      par_first = λ p q L t h. from_part (par p q) L (par t nothing) par₁ t h
          (λ x d. rw (x.awake, asleep q p L (flipped (disjoint_parts par₁ par₂ d)) x.inside, x.equal));
      par_second = λ p q L t h. from_part (par p q) L (par nothing t) par₂ t h
          (λ x d. rw (x.awake, asleep p q L (disjoint_parts par₁ par₂ d) x.inside, x.equal));
      loop_body = λ a p L t h. from_part (loop a p) L (seq t (loop a p)) loop₁ t h (λ x d. rw x.equal);
      present_first = λ s p q L t h. from_part (present s p q) L t present₁ t h (λ x d. rw x.awake x.equal);
      present_second = λ s p q L t h. from_part (present s p q) L t present₂ t h
          (λ x d. rw (asleep p q L (disjoint_parts present₁ present₂ d) x.inside) x.equal);
      signal_body = λ sc a s p L t h. from_part (signal sc a s p) L (signal sc a s t) signal₁ t h (λ x d. rw x.equal);
      try_body = λ p L t h. from_part (try p) L (try t) try₁ t h (λ x d. rw x.equal);
      suspend_body = λ s p L t h. from_part (suspend s p) L (held s L t) suspend₁ t h
          (λ x d. rw (x.awake, active_labels-all p L x.inside, x.equal));
      at_held = λ s M q L t z d n. absurd (z s M q ([], At.here));
    }

-- a stopped suspend holds what it held
at_stopped : (L : ℕ) → Stopped Remains L
unfolding active expand
at_stopped L s p h z d n =
    let awake : active p (active_labels p L) ≡ true = active_same p (active_labels p L) L (active_labels_wakes p L) ∙ h in
    record {
      inside = λ l x. holds_in (pause l) suspend₁ (active_labels_inside p L l x);
      awake = awake;
      equal = rw (awake, active_labels-all p (active_labels p L) (active_labels_inside p L), expand-active_labels p L);
    }

-- THEOREM 1, fresh and resumed
pub residual_fresh : (p : Statement) (e : ℕ) → Fits Remains p (react p e)
residual_fresh = fresh-fits Remains kept

pub residual_resumed : (p : Statement) (L e : ℕ) → Fits Remains p (react (expand p L) e)
residual_resumed p L e = resumed-fits Remains kept p L e (at_stopped L)
