-- 002, theorems 4 and 8: the labels of a waiting reaction are those of pauses and setpauses of the statement at pairwise
-- compatible places; so, for a well-formed statement, they are a valid set. Fresh, or resumed from a valid set; setpause
-- and suspend included.
use Prim.Native.Nat.{ℕ}
use mathlib.Core.Path.{◌≡◌, refl, sym, ◌∙◌, subst, subst₂}
use mathlib.Core.Logic.{◌⊎◌, inl, inr, ⊎_elim}
use mathlib.Core.Bool.{true, false≢true}
use mathlib.Core.List.{[], ◌∷◌}
use borrow.Author.Tests.{eqb-true, eq-eqb}
use Rattle.spec_base.specs.Sets.{member, none, only, join}
use Rattle.sets.proofs.Booleans.{or_l}
use Rattle.sets.proofs.Members.{member-join, member-none, member-only, in_join}
use Rattle.spec_language.specs.Statement.{Statement, pause, setpause, par}
use Rattle.spec_language.specs.Reaction.{react}
use Rattle.spec_language.specs.Places.{Part, first, second, PartOf, seq₁, seq₂, par₁, par₂, loop₁, present₁, present₂, signal₁, try₁, suspend₁, Place, At, Exclusive, Compatible}
use Rattle.spec_language.specs.States.{Holds, active, Stop, Stops, Valid, Distinct, Targeted, Source, WellFormed}
use Rattle.spec_language.specs.Expansion.{expand}
use Rattle.spec_language.specs.LabelTests.{active_labels}
use Rattle.theory_language.proofs.Places.{compatible-part, compatible_sides, compatible_sides', source_part, Together, together_part}
use Rattle.theory_language.proofs.Activity.{active-is, active_labels-is, active_labels_inside}
use Rattle.theory_language.proofs.Invariant.{Kept, Stopped, Fits, fresh-fits, resumed-fits}

-- stops with labels k and l at compatible places
abbrev pub Meet : Statement → ℕ → ℕ → Type 0
Meet p k l = (a : Place) × (b : Place) × Stop p k a × Stop p l b × Compatible p a b

-- S is the label set that was resumed: of it a stopped suspend keeps labels, which are compatible if those of S are
pub record Sound (S : ℕ) (p : Statement) (L : ℕ) : Type 0 where
  pub some : (l : ℕ) × (member l L ≡ true)
  pub stops : (l : ℕ) → member l L ≡ true → Stops p l
  pub meet : Together p S → (k l : ℕ) → member k L ≡ true → member l L ≡ true → Meet p k l

-- ---- from a part to the whole
stop_in : {d : Part} {c p : Statement} (l : ℕ) {a : Place} → PartOf d c p → Stop c l a → Stop p l (d ∷ a)
stop_in l i (inl x) = inl (At.inside i x)
stop_in l i (inr x) = inr (At.inside i x)

stops_in : {d : Part} {c p : Statement} (l : ℕ) → PartOf d c p → Stops c l → Stops p l
stops_in {d} l i s = (d ∷ s.0, stop_in l i s.1)

meet_in : {d : Part} {c p : Statement} (k l : ℕ) → PartOf d c p → Meet c k l → Meet p k l
meet_in {d} k l i m = (d ∷ m.0, d ∷ m.1, stop_in k i m.2, stop_in l i m.3, compatible-part i m.4)

sound_in : {d : Part} {c p : Statement} (S L : ℕ) → PartOf d c p → Sound S c L → Sound S p L
sound_in S L i s =
    record {
      some = s.some;
      stops = λ l h. stops_in l i (s.stops l h);
      meet = λ w k l h h₂. meet_in k l i (s.meet (together_part S i w) k l h h₂);
    }

-- ---- one label, and the labels of two sides
alone : (S : ℕ) (p : Statement) (l : ℕ) → Stop p l [] → Compatible p [] [] → Sound S p (only l)
alone S p l s c =
    record {
      some = (l, member-only l l ∙ eq-eqb l l refl);
      stops = λ k h. ([], at k h);
      meet = λ w k k₂ h h₂. ([], [], at k h, at k₂ h₂, c);
    }
  where
    at : (k : ℕ) → member k (only l) ≡ true → Stop p k []
    at k h = subst (λ (x : ℕ). Stop p x []) (eqb-true l k (sym (member-only l k) ∙ h)) s

nowhere : (p : Statement) → Compatible p [] []
nowhere p x = elim x [ ]

module _ (S : ℕ) (p q : Statement) (L M : ℕ) (f : Sound S p L) (g : Sound S q M) where
  across : (k l : ℕ) → Stops p k → Stops q l → Meet (par p q) k l
  across k l x y = (first ∷ x.0, second ∷ y.0, stop_in k par₁ x.1, stop_in l par₂ y.1, compatible_sides)

  across' : (k l : ℕ) → Stops q k → Stops p l → Meet (par p q) k l
  across' k l x y = (second ∷ x.0, first ∷ y.0, stop_in k par₂ x.1, stop_in l par₁ y.1, compatible_sides')

  sound-join : Sound S (par p q) (join L M)
  sound-join =
      record {
        some = (f.some.0, member-join f.some.0 L M ∙ or_l _ _ f.some.1);
        stops = λ l h. ⊎_elim (λ x. stops_in l par₁ (f.stops l x)) (λ x. stops_in l par₂ (g.stops l x)) (in_join l L M h);
        meet = λ w k l h i. ⊎_elim
            (λ x. ⊎_elim (λ y. meet_in k l par₁ (f.meet (together_part S par₁ w) k l x y))
            (λ y. across k l (f.stops k x) (g.stops l y)) (in_join l L M i))
            (λ x. ⊎_elim (λ y. across' k l (g.stops k x) (f.stops l y))
            (λ y. meet_in k l par₂ (g.meet (together_part S par₂ w) k l x y)) (in_join l L M i))
            (in_join k L M h);
      }

abbrev pub SoundLabels : ℕ → Statement → ℕ → Statement → Type 0
SoundLabels S p L t = Source p → Sound S p L

part : {d : Part} {c p : Statement} (S L : ℕ) → PartOf d c p → (Source c → Sound S c L) → Source p → Sound S p L
part S L i h z = sound_in S L i (h (source_part i z))

kept : (S : ℕ) → Kept (SoundLabels S)
kept S =
    record {
      at_pause = λ l z. alone S (pause l) l (inl At.here) (nowhere (pause l));
      at_setpause = λ l z. alone S (setpause l) l (inr At.here) (nowhere (setpause l));
      seq_first = λ p q L t. part S L seq₁;
      seq_second = λ p q L t. part S L seq₂;
      par_both = λ p q L M t u h i z. sound-join S p q L M (h (source_part par₁ z)) (i (source_part par₂ z));
      par_first = λ p q L t. part S L par₁;
      par_second = λ p q L t. part S L par₂;
      loop_body = λ a p L t. part S L loop₁;
      present_first = λ s p q L t. part S L present₁;
      present_second = λ s p q L t. part S L present₂;
      signal_body = λ sc a s p L t. part S L signal₁;
      try_body = λ p L t. part S L try₁;
      suspend_body = λ s p L t. part S L suspend₁;
      at_held = λ s M q L t z. absurd (z s M q ([], At.here));
    }

-- what a stopped suspend keeps
active_sound : (S : ℕ) (p : Statement) → active p S ≡ true → Sound S p (active_labels p S)
active_sound S p h =
    record {
      some = let x = (active-is p S).0 h in (x.0, (active_labels-is p S x.0).1 (x.1, x.2));
      stops = λ l i. let x = active_labels_inside p S l i in (x.0, inl x.1);
      meet = λ w k l i j.
          let x = (active_labels-is p S k).0 i in
          let y = (active_labels-is p S l).0 j in
          (x.1.0, y.1.0, inl x.1.1, inl y.1.1, w k l x.0 y.0 x.1.0 y.1.0 x.1.1 y.1.1);
    }

at_stopped : (S : ℕ) → Stopped (SoundLabels S) S
at_stopped S s p h z = sound_in S (active_labels p S) suspend₁ (active_sound S p h)

pub labels_fresh : (S : ℕ) (p : Statement) (e : ℕ) → Fits (SoundLabels S) p (react p e)
labels_fresh S = fresh-fits (SoundLabels S) (kept S)

pub labels_resumed : (p : Statement) (L e : ℕ) → Fits (SoundLabels L) p (react (expand p L) e)
labels_resumed p L e = resumed-fits (SoundLabels L) (kept L) p L e (at_stopped L)

-- fresh, no label is resumed
pub together_none : (p : Statement) → Together p none
together_none p k l h i = absurd (false≢true (sym (member-none k) ∙ h))

-- ---- from compatible triggers to compatible pauses, by 002's definition 3
module _ (p : Statement) (distinct : Distinct p) (formed : WellFormed p) (targeted : Targeted p) where
  paused : (l : ℕ) → Stops p l → Holds p (pause l)
  paused l s = ⊎_elim (λ x. (s.0, x)) (λ x. targeted l (s.0, x)) s.1

  together : (k l : ℕ) → Meet p k l → (a b : Place) → At (pause k) a p → At (pause l) b p → Compatible p a b
  together k l m a b x y exclusive = go m.2 m.3
    where
      go : Stop p k m.0 → Stop p l m.1 → ⊥
      go (inl u) (inl v) = m.4 (subst₂ (λ (c d : Place). Exclusive p c d) (distinct k a m.0 x u) (distinct l b m.1 y v) exclusive)
      go (inl u) (inr v) = m.4 ((formed k l a b x y exclusive).pause_setpause m.0 m.1 u v)
      go (inr u) (inl v) = m.4 ((formed k l a b x y exclusive).setpause_pause m.0 m.1 u v)
      go (inr u) (inr v) = m.4 ((formed k l a b x y exclusive).setpauses m.0 m.1 u v)

  pub sound-valid : (S : ℕ) → Together p S → (L : ℕ) → Sound S p L → Valid p L
  sound-valid S w L s =
      record {
        some = s.some;
        paused = λ l h. paused l (s.stops l h);
        together = λ k l h i. together k l (s.meet w k l h i);
      }
