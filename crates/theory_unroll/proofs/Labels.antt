-- 01's rules on labels hold of what is worked through exactly if they hold of the original.
use Prim.Native.Nat.{ℕ}
use mathlib.Core.Path.{◌≡◌, refl, sym, ap, ◌∙◌}
use mathlib.Core.Logic.{⊎_elim, ◌↔◌}
use mathlib.Core.Bool.{Bool, true, false, cond}
use native.Mathlib.Omega.{arith}
use Rattle.spec_base.specs.Sets.{member, none, join}
use Rattle.sets.proofs.Booleans.{same_test}
use Rattle.sets.proofs.Members.{in_r, in_join}
use Rattle.sets.proofs.Algebra.{join-none_l, join_self}
use Rattle.sets.proofs.Tests.{none-disjoint}
use Rattle.spec_language.specs.Statement.{Statement, pause, setpause}
use Rattle.spec_language.specs.Sizes.{signal_nesting}
use Rattle.spec_language.specs.States.{Holds, Valid, Distinct, Targeted, NoSetpause, WellFormed}
use Rattle.spec_language.specs.LabelTests.{labels_of, pauses, setpauses, triggers, distinct, targeted, if_member, before, exclusive_with, concurrent_with, exclusive, well_formed, valid}
use Rattle.theory_language.proofs.LabelSets.{triggers_are}
use Rattle.theory_language.proofs.LabelTests.{pauses-is, setpauses_is, targeted_is, distinct_is, exclusive-is, Unmixed, unmixed_is, wellFormed-is, no_setpause_formed, valid-is}
use Rattle.theory_unroll.proofs.Forms.{Forms}
use Rattle.theory_unroll.proofs.Alike.{copy_pauses, pauses_same}

no_two : (s : ℕ) → join none (join none s) ≡ s
no_two s = join-none_l (join none s) ∙ join-none_l s

if_none : (k s : ℕ) → if_member k s none ≡ none
if_none k s = go (member k s)
  where
    go : (b : Bool) → cond b none none ≡ none
    go true = refl
    go false = refl

-- ---- the nesting of signals
pub nesting_same : {c : Bool} {p q : Statement} → Forms c p q → signal_nesting q ≡ signal_nesting p
unfolding signal_nesting
nesting_same Forms.nothing = refl
nesting_same Forms.pause = refl
nesting_same Forms.pause_copied = refl
nesting_same Forms.emit = refl
nesting_same Forms.exit = refl
nesting_same (Forms.seq f g) = rw (nesting_same f, nesting_same g)
nesting_same (Forms.par f g) = rw (nesting_same f, nesting_same g)
nesting_same (Forms.loop {p = p} f g) = rw (nesting_same f, nesting_same g) (omega arith)
nesting_same (Forms.loop_copied f) = nesting_same f
nesting_same (Forms.present f g) = rw (nesting_same f, nesting_same g)
nesting_same (Forms.signal f) = rw (nesting_same f)
nesting_same (Forms.try f) = nesting_same f
nesting_same Forms.setpause = refl
nesting_same (Forms.suspend f) = nesting_same f
nesting_same (Forms.held f) = nesting_same f

-- ---- the labels of all triggers
pub triggers_same : {c : Bool} {p q : Statement} → Forms c p q → triggers q ≡ triggers p
unfolding labels_of
triggers_same Forms.nothing = refl
triggers_same Forms.pause = refl
triggers_same Forms.pause_copied = refl
triggers_same Forms.emit = refl
triggers_same Forms.exit = refl
triggers_same (Forms.seq f g) = rw (triggers_same f, triggers_same g)
triggers_same (Forms.par f g) = rw (triggers_same f, triggers_same g)
triggers_same (Forms.loop {p = p} f g) = rw (triggers_same f, triggers_same g) (join_self (triggers p))
triggers_same (Forms.loop_copied f) = triggers_same f
triggers_same (Forms.present f g) = rw (triggers_same f, triggers_same g)
triggers_same (Forms.signal f) = triggers_same f
triggers_same (Forms.try f) = triggers_same f
triggers_same Forms.setpause = refl
triggers_same (Forms.suspend f) = triggers_same f
triggers_same (Forms.held f) = refl

-- ---- row 8
copy_distinct : {p q : Statement} → Forms true p q → distinct q ≡ true
unfolding distinct
copy_distinct Forms.nothing = refl
copy_distinct Forms.pause_copied = refl
copy_distinct Forms.emit = refl
copy_distinct Forms.exit = refl
copy_distinct (Forms.seq f g) = rw (copy_pauses f, none-disjoint, copy_distinct f, copy_distinct g)
copy_distinct (Forms.par f g) = rw (copy_pauses f, none-disjoint, copy_distinct f, copy_distinct g)
copy_distinct (Forms.loop_copied f) = copy_distinct f
copy_distinct (Forms.present f g) = rw (copy_pauses f, none-disjoint, copy_distinct f, copy_distinct g)
copy_distinct (Forms.signal f) = copy_distinct f
copy_distinct (Forms.try f) = copy_distinct f
copy_distinct Forms.setpause = refl
copy_distinct (Forms.suspend f) = copy_distinct f
copy_distinct (Forms.held f) = refl

pub distinct_same : {p q : Statement} → Forms false p q → distinct q ≡ distinct p
unfolding distinct
distinct_same Forms.nothing = refl
distinct_same Forms.pause = refl
distinct_same Forms.emit = refl
distinct_same Forms.exit = refl
distinct_same (Forms.seq f g) = rw (pauses_same f, pauses_same g, distinct_same f, distinct_same g)
distinct_same (Forms.par f g) = rw (pauses_same f, pauses_same g, distinct_same f, distinct_same g)
distinct_same (Forms.loop f g) = rw (copy_pauses f, none-disjoint, copy_distinct f) (distinct_same g)
distinct_same (Forms.present f g) = rw (pauses_same f, pauses_same g, distinct_same f, distinct_same g)
distinct_same (Forms.signal f) = distinct_same f
distinct_same (Forms.try f) = distinct_same f
distinct_same Forms.setpause = refl
distinct_same (Forms.suspend f) = distinct_same f
distinct_same (Forms.held f) = refl

-- ---- row 10: the pairs of exclusive pauses, and those of triggers on two sides of a parallel, stay
copy_rivals : {p q : Statement} → Forms true p q → (k : ℕ) → exclusive_with q k ≡ none
unfolding before
copy_rivals Forms.nothing k = refl
copy_rivals Forms.pause_copied k = refl
copy_rivals Forms.emit k = refl
copy_rivals Forms.exit k = refl
copy_rivals (Forms.seq f g) k = rw (copy_pauses f, if_none, copy_rivals f k, copy_rivals g k) (no_two none)
copy_rivals (Forms.par f g) k = rw (copy_rivals f k, copy_rivals g k) (no_two none)
copy_rivals (Forms.loop_copied f) k = copy_rivals f k
copy_rivals (Forms.present f g) k = rw (copy_pauses f, if_none, copy_rivals f k, copy_rivals g k) (no_two none)
copy_rivals (Forms.signal f) k = copy_rivals f k
copy_rivals (Forms.try f) k = copy_rivals f k
copy_rivals Forms.setpause k = refl
copy_rivals (Forms.suspend f) k = copy_rivals f k
copy_rivals (Forms.held f) k = refl

pub rivals_same : {p q : Statement} → Forms false p q → (k : ℕ) → exclusive_with q k ≡ exclusive_with p k
unfolding before
rivals_same Forms.nothing k = refl
rivals_same Forms.pause k = refl
rivals_same Forms.emit k = refl
rivals_same Forms.exit k = refl
rivals_same (Forms.seq f g) k = rw (pauses_same f, pauses_same g, rivals_same f k, rivals_same g k)
rivals_same (Forms.par f g) k = rw (rivals_same f k, rivals_same g k)
rivals_same (Forms.loop {p' = p'} f g) k =
    rw (copy_pauses f, if_none, copy_rivals f k) (no_two (exclusive_with p' k) ∙ rivals_same g k)
rivals_same (Forms.present f g) k = rw (pauses_same f, pauses_same g, rivals_same f k, rivals_same g k)
rivals_same (Forms.signal f) k = rivals_same f k
rivals_same (Forms.try f) k = rivals_same f k
rivals_same Forms.setpause k = refl
rivals_same (Forms.suspend f) k = rivals_same f k
rivals_same (Forms.held f) k = refl

pub aside_same : {c : Bool} {p q : Statement} → Forms c p q → (k : ℕ) → concurrent_with q k ≡ concurrent_with p k
unfolding before
aside_same Forms.nothing k = refl
aside_same Forms.pause k = refl
aside_same Forms.pause_copied k = refl
aside_same Forms.emit k = refl
aside_same Forms.exit k = refl
aside_same (Forms.seq f g) k = rw (aside_same f k, aside_same g k)
aside_same (Forms.par f g) k = rw (triggers_same f, triggers_same g, aside_same f k, aside_same g k)
aside_same (Forms.loop {p = p} f g) k = rw (aside_same f k, aside_same g k, join-none_l) (join_self (concurrent_with p k))
aside_same (Forms.loop_copied f) k = aside_same f k
aside_same (Forms.present f g) k = rw (aside_same f k, aside_same g k)
aside_same (Forms.signal f) k = aside_same f k
aside_same (Forms.try f) k = aside_same f k
aside_same Forms.setpause k = refl
aside_same (Forms.suspend f) k = aside_same f k
aside_same (Forms.held f) k = refl

-- ---- the rules, from the tests
module _ (p q : Statement) (f : Forms false p q) where
  pub distinct-kept : Distinct q ↔ Distinct p
  distinct-kept = (
    λ d. (distinct_is p).0 (sym (distinct_same f) ∙ (distinct_is q).1 d),
    λ d. (distinct_is q).0 (distinct_same f ∙ (distinct_is p).1 d),
  )

  pub pauses-kept : (l : ℕ) → Holds q (pause l) ↔ Holds p (pause l)
  pauses-kept l = (
    λ h. (pauses-is p l).0 (sym (ap (member l) (pauses_same f)) ∙ (pauses-is q l).1 h),
    λ h. (pauses-is q l).0 (ap (member l) (pauses_same f) ∙ (pauses-is p l).1 h),
  )

  -- each setpause is one of the original, or stands for a pause of it
  trigger-kept : (l : ℕ) → Holds q (setpause l) → member l (triggers p) ≡ true
  trigger-kept l h =
      sym (ap (member l) (triggers_same f)) ∙ ap (member l) (triggers_are q)
      ∙ in_r l (pauses q) (setpauses q) ((setpauses_is q l).1 h)

  pub targeted-kept : Targeted p → Targeted q
  targeted-kept t l h =
      (pauses-kept l).1
      (⊎_elim (λ x. (pauses-is p l).0 x) (λ x. t l ((setpauses_is p l).0 x))
      (in_join l (pauses p) (setpauses p) (sym (ap (member l) (triggers_are p)) ∙ trigger-kept l h)))

  exclusive-kept : (k l : ℕ) → exclusive q k l ≡ exclusive p k l
  exclusive-kept k l = rw (rivals_same f k, rivals_same f l)

  unmixed-kept : Unmixed p ↔ Unmixed q
  unmixed-kept = (
    λ u k l a x. u k l (sym (ap (member l) (aside_same f k)) ∙ a) (sym (exclusive-kept k l) ∙ x),
    λ u k l a x. u k l (ap (member l) (aside_same f k) ∙ a) (exclusive-kept k l ∙ x),
  )

  pub well_formed-kept : Distinct p → WellFormed q ↔ WellFormed p
  well_formed-kept d = (
    λ w. (wellFormed-is p d).0 ((unmixed_is p).1 (unmixed-kept.1 ((unmixed_is q).0 ((wellFormed-is q (distinct-kept.1 d)).1 w)))),
    λ w. (wellFormed-is q (distinct-kept.1 d)).0 ((unmixed_is q).1 (unmixed-kept.0 ((unmixed_is p).0 ((wellFormed-is p d).1 w)))),
  )

  pub valid-kept : (L : ℕ) → Valid q L ↔ Valid p L
  valid-kept L = (
    λ v. record {
      some = v.some;
      paused = λ l h. (pauses-kept l).0 (v.paused l h);
      together = λ k l h i a b x y z.
          let w = (exclusive-is q k l).0 (exclusive-kept k l ∙ (exclusive-is p k l).1 (a, b, x, y, z)) in
          v.together k l h i w.0 w.1 w.2 w.3 w.4;
    },
    λ v. record {
      some = v.some;
      paused = λ l h. (pauses-kept l).1 (v.paused l h);
      together = λ k l h i a b x y z.
          let w = (exclusive-is p k l).0 (sym (exclusive-kept k l) ∙ (exclusive-is q k l).1 (a, b, x, y, z)) in
          v.together k l h i w.0 w.1 w.2 w.3 w.4;
    },
  )

  -- ROWS 8, 9 AND 10 of an original without setpause, by distinct labels alone
  pub plain-kept : Distinct p → NoSetpause p → Distinct q × Targeted q × WellFormed q
  plain-kept d n = (
    distinct-kept.1 d,
    targeted-kept (λ l x. absurd (n l x)),
    (well_formed-kept d).1 (no_setpause_formed p n),
  )

  -- the same of the tests of LabelTests, by which a sequence is checked and a state decoded
  pub targeted-test : targeted p ≡ true → targeted q ≡ true
  targeted-test h = (targeted_is q).1 (targeted-kept ((targeted_is p).0 h))

  pub well_formed-test : well_formed q ≡ well_formed p
  well_formed-test =
      same_test (well_formed q) (well_formed p)
      (λ x. (unmixed_is p).1 (unmixed-kept.1 ((unmixed_is q).0 x)))
      (λ x. (unmixed_is q).1 (unmixed-kept.0 ((unmixed_is p).0 x)))

  pub valid-test : (L : ℕ) → valid q L ≡ valid p L
  valid-test L =
      same_test (valid q L) (valid p L)
      (λ x. (valid-is p L).1 ((valid-kept L).0 ((valid-is q L).0 x)))
      (λ x. (valid-is q L).1 ((valid-kept L).1 ((valid-is p L).0 x)))
