-- A program under read-back declarations (02, item 5): expansion and rewriting leave the declarations in place, what is said
-- of labels is said of the statement inside, and the host's status of a declared signal is never read.
use Prim.Native.Nat.{ℕ}
use mathlib.Core.Path.{◌≡◌, refl, sym, ap}
use mathlib.Core.Logic.{◌≢◌, ⊎_elim}
use mathlib.Core.Bool.{true}
use mathlib.Core.List.Memᴰ
use mathlib.Core.List.{List, [], ◌∷◌, Memᴰ}
use native.Mathlib.Omega.{arith}
use Rattle.spec_base.specs.Sets.{member, join, insert, remove}
use Rattle.sets.proofs.Members.{in_join, in_remove}
use Rattle.spec_language.specs.Statement.{Scope, reported, Statement, signal, setpause, held}
use Rattle.spec_language.specs.Reaction.{waiting, Reaction, code, residual, Case, both, neither, only−, only+, inherited, inheritanceFirst, case_of, answer, react_by, react}
use Rattle.spec_language.specs.Places.{Place, signal₁, At}
use Rattle.spec_language.specs.States.{Holds, NoSetpause, Source}
use Rattle.spec_language.specs.Expansion.{expand}
use Rattle.spec_language.specs.LabelTests.{labels_of, every_label, before, distinct, targeted, well_formed, valid}
use Rattle.theory_language.specs.Asked.{asked_by, asked}
use Rattle.spec_language.specs.Instants.{start}
use Rattle.theory_language.specs.Traced.{instant_of}
use Rattle.spec_language.specs.ReadBack.{declared_by, declared, AgreeOutside, RemainsUnder}
use Rattle.theory_language.proofs.Asked.{unasked_traced}

-- ---- EXPANSION
pub expand_declared_by : (sc : Scope) (a : ℕ) (ss : List ℕ) (p : Statement) (L : ℕ)
    → expand (declared_by sc a ss p) L ≡ declared_by sc a ss (expand p L)
unfolding declared_by expand
expand_declared_by sc a [] p L = refl
expand_declared_by sc a (s ∷ ss) p L = ap (signal sc a s) (expand_declared_by sc a ss p L)

pub expand-declared : (a : ℕ) (ss : List ℕ) (p : Statement) (L : ℕ) → expand (declared a ss p) L ≡ declared a ss (expand p L)
expand-declared = expand_declared_by reported

-- ---- REWRITING: what remains after code 1 is under the same declarations
remains_in : (a s : ℕ) (ss : List ℕ) (p : Statement) (c : Case) (r− r+ : Reaction)
    → (code r− ≡ waiting → RemainsUnder a ss p (residual r−)) → (code r+ ≡ waiting → RemainsUnder a ss p (residual r+))
    → code (answer c reported a s r− r+) ≡ waiting → RemainsUnder a (s ∷ ss) p (residual (answer c reported a s r− r+))
unfolding declared_by
remains_in a s ss p both r− r+ f g h = let x = g h in (x.0, x.1, ap (signal reported a s) x.2)
remains_in a s ss p neither r− r+ f g h = let x = f h in (x.0, x.1, ap (signal reported a s) x.2)
remains_in a s ss p only− r− r+ f g h = absurd (let z : ◌≡◌ {A = ℕ} 0 1 = cc in omega arith)
remains_in a s ss p only+ r− r+ f g h = absurd (let z : ◌≡◌ {A = ℕ} 0 1 = cc in omega arith)
remains_in a s ss p inherited r− r+ f g h = absurd (let z : ◌≡◌ {A = ℕ} 0 1 = cc in omega arith)

pub remains_declared : (a : ℕ) (ss : List ℕ) (p : Statement) (e : ℕ) → code (react (declared a ss p) e) ≡ waiting
    → RemainsUnder a ss p (residual (react (declared a ss p) e))
unfolding declared_by react_by
remains_declared a [] p e h = (e, h, refl)
remains_declared a (s ∷ ss) p e h =
    let r− = react (declared a ss p) (remove s e) in
    let r+ = react (declared a ss p) (insert s e) in
    remains_in a s ss p (case_of inheritanceFirst s r− r+) r− r+
    (remains_declared a ss p (remove s e)) (remains_declared a ss p (insert s e)) h

-- ---- the host's status of a declared signal is not read
-- whoever asks inside a declaration of s for s asks for the declared one
pub declared_unasked : (sc : Scope) (a : ℕ) (ss : List ℕ) (p : Statement) (e i : ℕ) → member i (asked (declared_by sc a ss p) e) ≡ true
    → ¬ Memᴰ i ss
unfolding declared_by asked_by
declared_unasked sc a [] p e i h m = Memᴰ.not-nil m
declared_unasked sc a (s ∷ ss) p e i h m =
    let b− = asked (declared_by sc a ss p) (remove s e) in
    let b+ = asked (declared_by sc a ss p) (insert s e) in
    let x = in_remove s (join b− b+) i h in
    ⊎_elim (λ k. x.1 (sym k))
    (λ k. ⊎_elim (λ y. declared_unasked sc a ss p (remove s e) i y k) (λ y. declared_unasked sc a ss p (insert s e) i y k)
    (in_join i b− b+ x.0))
    (Memᴰ.cases_cons m)

pub declared_unread : (a : ℕ) (ss : List ℕ) (p : Statement) (e e' : ℕ) → AgreeOutside ss e e'
    → start (declared a ss p) e ≡ start (declared a ss p) e'
declared_unread a ss p e e' h =
    ap instant_of (sym (unasked_traced 0 (declared a ss p) e e' (λ i m. h i (declared_unasked reported a ss p e i m))))

-- ---- labels: the declarations have none
module _ (a : ℕ) where
  pub distinct-declared : (ss : List ℕ) (p : Statement) → distinct (declared a ss p) ≡ distinct p
  unfolding declared_by distinct
  distinct-declared [] p = refl
  distinct-declared (s ∷ ss) p = distinct-declared ss p

  pub targeted-declared : (ss : List ℕ) (p : Statement) → targeted (declared a ss p) ≡ targeted p
  unfolding declared_by labels_of
  targeted-declared [] p = refl
  targeted-declared (s ∷ ss) p = targeted-declared ss p

  pub wellFormed-declared : (ss : List ℕ) (p : Statement) → well_formed (declared a ss p) ≡ well_formed p
  unfolding declared_by well_formed every_label before
  wellFormed-declared [] p = refl
  wellFormed-declared (s ∷ ss) p = wellFormed-declared ss p

  pub valid-declared : (ss : List ℕ) (p : Statement) (L : ℕ) → valid (declared a ss p) L ≡ valid p L
  unfolding declared_by valid every_label before labels_of
  valid-declared [] p L = refl
  valid-declared (s ∷ ss) p L = valid-declared ss p L

-- ---- places: no other command is added than the declarations
entered : {a s : ℕ} {p x : Statement} → ((b t : ℕ) (q : Statement) → signal reported b t q ≢ x)
    → (pl : Place) → At x pl (signal reported a s p) → Holds p x
entered n pl At.here = absurd (n _ _ _ refl)
entered n pl (At.inside signal₁ i) = (_, i)

pub holds_inside : (a : ℕ) (ss : List ℕ) (p x : Statement) → ((b s : ℕ) (q : Statement) → signal reported b s q ≢ x)
    → Holds (declared a ss p) x → Holds p x
unfolding declared_by
holds_inside a [] p x n h = h
holds_inside a (s ∷ ss) p x n h = holds_inside a ss p x n (entered n h.0 h.1)

pub no_setpause_declared : (a : ℕ) (ss : List ℕ) (p : Statement) → NoSetpause p → NoSetpause (declared a ss p)
no_setpause_declared a ss p n l h =
    n l (holds_inside a ss p (setpause l) (λ b s q e. let z : ◌≡◌ {A = ℕ} 0 1 = cc in omega arith) h)

pub source_declared : (a : ℕ) (ss : List ℕ) (p : Statement) → Source p → Source (declared a ss p)
source_declared a ss p n t K q h =
    n t K q (holds_inside a ss p (held t K q) (λ b s u e. let z : ◌≡◌ {A = ℕ} 0 1 = cc in omega arith) h)
