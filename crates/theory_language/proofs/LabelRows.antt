-- The rows that a traversal fills are those of the tests: row k holds what it held, what was known before the statement if k
-- is a label of it, and the labels before k.
use Prim.Native.Nat.{ℕ}
use mathlib.Core.Path.{◌≡◌, refl, sym, ap, ap₂, ◌∙◌}
use mathlib.Core.Bool.{Bool, true, false, ◌&&◌, ◌||◌, cond, or-false}
use lib.Dec.{eqb}
use Rattle.spec_base.specs.Sets.{member, none, only, join}
use Rattle.sets.proofs.Members.{member-join, member-none, member-only, ext}
use Rattle.spec_language.specs.Statement.{Statement, nothing, pause, emit, exit, seq, par, loop, present, signal, try, setpause, suspend, held}
use Rattle.spec_language.specs.LabelTests.{labels_of, Joint, alternative, parallel, at_joint, if_member, before}
use Rattle.theory_language.specs.LabelRows.{add_row, further, fill}
use Rattle.theory_language.proofs.LabelSets.{member_if}

-- ---- members
member-further : (j i : Joint) (l known s : ℕ) → member l (further j i known s) ≡ (member l known || member l (at_joint j i s))
member-further alternative alternative l known s = member-join l known s
member-further alternative parallel l known s = sym (ap (λ (b : Bool). member l known || b) (member-none l) ∙ or-false (member l known))
member-further parallel alternative l known s = sym (ap (λ (b : Bool). member l known || b) (member-none l) ∙ or-false (member l known))
member-further parallel parallel l known s = member-join l known s

never_in_lem : (l : ℕ) (b : Bool) → member l none ≡ (b && member l none)
never_in_lem l true = refl
never_in_lem l false = member-none l

member_at : (j i : Joint) (l k s t : ℕ) → member l (at_joint j i (if_member k s t)) ≡ (member k s && member l (at_joint j i t))
member_at alternative alternative l k s t = member_if l k s t
member_at alternative parallel l k s t = never_in_lem l (member k s)
member_at parallel alternative l k s t = never_in_lem l (member k s)
member_at parallel parallel l k s t = member_if l k s t

-- r: in the row before; p, q: is k a label of the first, the second part; a: known; c: across; u, v: before k in the parts
mixed : (r p q a c u v : Bool) → ((r || ((p && a) || u)) || ((q && (a || c)) || v)) ≡ (r || (((p || q) && a) || ((q && c) || (u || v))))
mixed true p q a c u v = refl
mixed false false false a c u v = refl
mixed false true false true c u v = refl
mixed false true false false c u v = refl
mixed false false true true c true v = refl
mixed false false true true c false v = refl
mixed false false true false true true v = refl
mixed false false true false true false v = refl
mixed false false true false false u v = refl
mixed false true true true c u v = refl
mixed false true true false true true v = refl
mixed false true true false true false v = refl
mixed false true true false false u v = refl

module _ (x y : Bool) (j : Joint) where
  -- what the traversal makes of row k
  abbrev pub Row : Statement → ℕ → (ℕ → ℕ) → ℕ → ℕ
  Row p known rows k = join (rows k) (join (if_member k (labels_of x y p) known) (before x y j p k))

  member-row : (p : Statement) (known : ℕ) (rows : ℕ → ℕ) (k l : ℕ)
      → member l (Row p known rows k) ≡ (member l (rows k) || ((member k (labels_of x y p) && member l known) || member l (before x y j p k)))
  member-row p known rows k l =
      member-join l (rows k) _
      ∙ ap (λ (b : Bool). member l (rows k) || b)
      (member-join l (if_member k (labels_of x y p) known) (before x y j p k)
      ∙ ap (λ (b : Bool). b || member l (before x y j p k)) (member_if l k (labels_of x y p) known))

  -- no label, and nothing before it
  bare : (p : Statement) (known : ℕ) (rows : ℕ → ℕ) (k : ℕ) → labels_of x y p ≡ none → before x y j p k ≡ none → rows k ≡ Row p known rows k
  bare p known rows k e f =
      ext (rows k) (Row p known rows k)
      (λ l. sym (member-row p known rows k l
      ∙ ap₂ (λ (b c : Bool). member l (rows k) || ((b && member l known) || c))
      (ap (member k) e ∙ member-none k) (ap (member l) f ∙ member-none l)
      ∙ or-false (member l (rows k))))

  -- one label l, counted if b
  single : (p : Statement) (b : Bool) (l known : ℕ) (rows : ℕ → ℕ) (k : ℕ) → labels_of x y p ≡ cond b (only l) none → before x y j p k ≡ none
      → cond b (add_row l known rows) rows k ≡ Row p known rows k
  single p false l known rows k e f = bare p known rows k e f
  single p true l known rows k e f =
      ext (add_row l known rows k) (Row p known rows k)
      (λ m. added m
      ∙ sym (member-row p known rows k m
      ∙ ap₂ (λ (b c : Bool). member m (rows k) || ((b && member m known) || c))
      (ap (member k) e ∙ member-only l k) (ap (member m) f ∙ member-none m)
      ∙ ap (λ (b : Bool). member m (rows k) || b) (or-false (eqb l k && member m known))))
    where
      pick : (m : ℕ) (b : Bool) → member m (cond b (join (rows k) known) (rows k)) ≡ (member m (rows k) || (b && member m known))
      pick m true = member-join m (rows k) known
      pick m false = sym (or-false (member m (rows k)))

      added : (m : ℕ) → member m (add_row l known rows k) ≡ (member m (rows k) || (eqb l k && member m known))
      added m = unfold add_row in pick m (eqb l k)

  -- two parts
  split : (i : Joint) (p q w : Statement) (known : ℕ) (rows : ℕ → ℕ) (k : ℕ)
      → labels_of x y w ≡ join (labels_of x y p) (labels_of x y q)
      → before x y j w k ≡ join (at_joint j i (if_member k (labels_of x y q) (labels_of x y p))) (join (before x y j p k) (before x y j q k))
      → (mid : ℕ → ℕ) → mid k ≡ Row p known rows k
      → Row q (further j i known (labels_of x y p)) mid k ≡ Row w known rows k
  split i p q w known rows k e f mid g = ext _ _ (λ l. go l)
    where
      go : (l : ℕ) → member l (Row q (further j i known (labels_of x y p)) mid k) ≡ member l (Row w known rows k)
      go l =
          member-row q (further j i known (labels_of x y p)) mid k l
          ∙ ap₂ (λ (b c : Bool). b || ((member k (labels_of x y q) && c) || member l (before x y j q k)))
          (ap (member l) g ∙ member-row p known rows k l) (member-further j i l known (labels_of x y p))
          ∙ mixed (member l (rows k)) (member k (labels_of x y p)) (member k (labels_of x y q)) (member l known)
          (member l (at_joint j i (labels_of x y p))) (member l (before x y j p k)) (member l (before x y j q k))
          ∙ sym (member-row w known rows k l
          ∙ ap₂ (λ (b c : Bool). member l (rows k) || ((b && member l known) || c))
          (ap (member k) e ∙ member-join k (labels_of x y p) (labels_of x y q))
          (ap (member l) f ∙ member-join l _ _
          ∙ ap₂ (λ (b c : Bool). b || c)
          (member_at j i l k (labels_of x y q) (labels_of x y p)) (member-join l (before x y j p k) (before x y j q k))))

  pub fill_is : (p : Statement) (known : ℕ) (rows : ℕ → ℕ) (k : ℕ) → fill x y j p known rows k ≡ Row p known rows k
  unfolding fill labels_of before
  fill_is nothing known rows k = bare nothing known rows k refl refl
  fill_is (pause l) known rows k = single (pause l) x l known rows k refl refl
  fill_is (emit s v) known rows k = bare (emit s v) known rows k refl refl
  fill_is (exit n) known rows k = bare (exit n) known rows k refl refl
  fill_is (seq p q) known rows k =
      fill_is q (further j alternative known (labels_of x y p)) (fill x y j p known rows) k
      ∙ split alternative p q (seq p q) known rows k refl refl (fill x y j p known rows) (fill_is p known rows k)
  fill_is (par p q) known rows k =
      fill_is q (further j parallel known (labels_of x y p)) (fill x y j p known rows) k
      ∙ split parallel p q (par p q) known rows k refl refl (fill x y j p known rows) (fill_is p known rows k)
  fill_is (loop a p) known rows k = fill_is p known rows k
  fill_is (present s p q) known rows k =
      fill_is q (further j alternative known (labels_of x y p)) (fill x y j p known rows) k
      ∙ split alternative p q (present s p q) known rows k refl refl (fill x y j p known rows) (fill_is p known rows k)
  fill_is (signal sc a s p) known rows k = fill_is p known rows k
  fill_is (try p) known rows k = fill_is p known rows k
  fill_is (setpause l) known rows k = single (setpause l) y l known rows k refl refl
  fill_is (suspend s p) known rows k = fill_is p known rows k
  fill_is (held s K p) known rows k = bare (held s K p) known rows k refl refl
