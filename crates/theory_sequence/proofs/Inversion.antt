-- The reader taken apart: what it met for each answer. Every other proof about an answer goes by this.
use Prim.Native.Nat.{ℕ, zero, suc, ◌+◌, ◌-◌, ◌≤◌, ◌<◌}
use mathlib.Core.Path.{◌≡◌, refl, ap, ◌∙◌, subst}
use mathlib.Core.Bool.{Bool, true, false, cond}
use mathlib.Core.List.{List}
use native.Mathlib.Omega.{arith}
use lib.ListN.{drop}
use lib.Dec.{ltb}
use borrow.Author.Tests.{ltb-true, ltb-false, lt-ltb, le-ltb}
use Rattle.spec_language.specs.Statement.{Statement, nothing}
use Rattle.spec_sequence.specs.Commands.{Command, partCount, head_length, declares, build}
use Rattle.spec_sequence.specs.Reader.{Read, accepted, refused, Front, command, bad, front, last_part, first_part, read_parts, too_deep, read_command, read}
use Rattle.theory_sequence.proofs.Table.{at_most_two}
use Rattle.theory_sequence.proofs.Front.{Fronted, fronted}

-- where no level is left
pub data Stops (bs : List ℕ) : Read → Type 0 where
  unsound : (k : ℕ) → front bs ≡ bad k → Stops bs (refused k)
  deep : (c : Command) (xs : List ℕ) → front bs ≡ command c xs → Stops bs (refused 6)

-- the command c with operand bytes xs stands at the front, and its signals are allowed
pub record Allowed (signals : ℕ) (bs : List ℕ) (c : Command) (xs : List ℕ) : Type 0 where
  pub stands : front bs ≡ command c xs
  pub fronted : Fronted bs c xs
  pub fits : declares c ≤ signals

-- where a level is left, by a reader r of the parts
pub data Meets (r : (signals a : ℕ) → List ℕ → Read) (signals a : ℕ) (bs : List ℕ) : Read → Type 0 where
  unsound : (k : ℕ) → front bs ≡ bad k → Meets r signals a bs (refused k)
  crowded : (c : Command) (xs : List ℕ) → front bs ≡ command c xs → signals < declares c → Meets r signals a bs (refused 6)
  leaf : (c : Command) (xs : List ℕ) → Allowed signals bs c xs → partCount c ≡ 0
      → Meets r signals a bs (accepted (build c a xs nothing nothing) (head_length c))
  one : (c : Command) (xs : List ℕ) → Allowed signals bs c xs → partCount c ≡ 1
      → (p : Statement) (n : ℕ) → r (signals - declares c) (a + head_length c) (drop (head_length c) bs) ≡ accepted p n
      → Meets r signals a bs (accepted (build c a xs p nothing) (head_length c + n))
  two : (c : Command) (xs : List ℕ) → Allowed signals bs c xs → partCount c ≡ 2
      → (p : Statement) (n : ℕ) → r (signals - declares c) (a + head_length c) (drop (head_length c) bs) ≡ accepted p n
      → (q : Statement) (m : ℕ) → r (signals - declares c) (a + (head_length c + n)) (drop (head_length c + n) bs) ≡ accepted q m
      → Meets r signals a bs (accepted (build c a xs p q) (head_length c + n + m))
  first_refused : (c : Command) (xs : List ℕ) → Allowed signals bs c xs → (i : ℕ) → partCount c ≡ suc i
      → (k : ℕ) → r (signals - declares c) (a + head_length c) (drop (head_length c) bs) ≡ refused k
      → Meets r signals a bs (refused k)
  second_refused : (c : Command) (xs : List ℕ) → Allowed signals bs c xs → partCount c ≡ 2
      → (p : Statement) (n : ℕ) → r (signals - declares c) (a + head_length c) (drop (head_length c) bs) ≡ accepted p n
      → (k : ℕ) → r (signals - declares c) (a + (head_length c + n)) (drop (head_length c + n) bs) ≡ refused k
      → Meets r signals a bs (refused k)

pub stops : (signals a : ℕ) (bs : List ℕ) → Stops bs (read zero signals a bs)
unfolding read
stops signals a bs = go (front bs) refl
  where
    go : (f : Front) → front bs ≡ f → Stops bs (too_deep f)
    go (bad k) e = Stops.unsound k e
    go (command c xs) e = Stops.deep c xs e

module _ (r : (signals a : ℕ) → List ℕ → Read) (signals a : ℕ) (bs : List ℕ) where
  abbrev Met : Read → Type 0
  Met = Meets r signals a bs

  module _ (c : Command) (xs : List ℕ) (h : Allowed signals bs c xs) where
    abbrev part : ℕ → Read
    part k = r (signals - declares c) (a + k) (drop k bs)

    meets-one : partCount c ≡ 1 → (y : Read) → part (head_length c) ≡ y → Met (last_part (λ p. build c a xs p nothing) (head_length c) y)
    meets-one z (accepted p n) e = Meets.one c xs h z p n e
    meets-one z (refused k) e = Meets.first_refused c xs h 0 z k e

    meets-second : partCount c ≡ 2 → (p : Statement) (n : ℕ) → part (head_length c) ≡ accepted p n → (y : Read) → part (head_length c + n) ≡ y
        → Met (last_part (λ q. build c a xs p q) (head_length c + n) y)
    meets-second z p n e (accepted q m) f = Meets.two c xs h z p n e q m f
    meets-second z p n e (refused k) f = Meets.second_refused c xs h z p n e k f

    meets-first : partCount c ≡ 2 → (y : Read) → part (head_length c) ≡ y
        → Met (first_part (λ p n. last_part (λ q. build c a xs p q) (head_length c + n) (part (head_length c + n))) y)
    meets-first z (accepted p n) e = meets-second z p n e (part (head_length c + n)) refl
    meets-first z (refused k) e = Meets.first_refused c xs h 1 z k e

    meets-parts : (i : ℕ) → partCount c ≡ i → Met (read_parts (r (signals - declares c)) c a xs i bs)
    meets-parts zero z = Meets.leaf c xs h z
    meets-parts (suc zero) z = meets-one z (part (head_length c)) refl
    meets-parts (suc (suc i)) z = meets-first (omega (arith, at_most_two c)) (part (head_length c)) refl

  meets-allowed : (c : Command) (xs : List ℕ) → front bs ≡ command c xs → (t : Bool) → ltb signals (declares c) ≡ t
      → Met (cond t (refused 6) (read_parts (r (signals - declares c)) c a xs (partCount c) bs))
  meets-allowed c xs e true l = Meets.crowded c xs e (ltb-true signals (declares c) l)
  meets-allowed c xs e false l =
      meets-parts c xs (record { stands = e; fronted = fronted bs c xs e; fits = ltb-false signals (declares c) l }) (partCount c) refl

  meets-command : (f : Front) → front bs ≡ f → Met (read_command r signals a bs f)
  meets-command (bad k) e = Meets.unsound k e
  meets-command (command c xs) e = meets-allowed c xs e (ltb signals (declares c)) refl

pub meets : (depth signals a : ℕ) (bs : List ℕ) → Meets (read depth) signals a bs (read (suc depth) signals a bs)
unfolding read
meets depth signals a bs = meets-command (read depth) signals a bs (front bs) refl

-- without a level nothing is accepted
pub no_level {ℓ} : {A : Type ℓ} (signals a : ℕ) (bs : List ℕ) (p : Statement) (n : ℕ) → read zero signals a bs ≡ accepted p n → A
no_level {A = A} signals a bs p n e = go (read zero signals a bs) (stops signals a bs) e
  where
    go : (y : Read) → Stops bs y → y ≡ accepted p n → A
    go y (Stops.unsound k f) e = absurd (let z : ◌≡◌ {A = ℕ} 0 1 = cc in omega arith)
    go y (Stops.deep c xs f) e = absurd (let z : ◌≡◌ {A = ℕ} 0 1 = cc in omega arith)

pub met : (depth signals a : ℕ) (bs : List ℕ) (y : Read) → read (suc depth) signals a bs ≡ y → Meets (read depth) signals a bs y
met depth signals a bs y e = subst (Meets (read depth) signals a bs) e (meets depth signals a bs)

-- ---- from what stands at the front to the answer
pub refuses_bad : (depth signals a : ℕ) (bs : List ℕ) (k : ℕ) → front bs ≡ bad k → read depth signals a bs ≡ refused k
unfolding read
refuses_bad zero signals a bs k e = ap too_deep e
refuses_bad (suc depth) signals a bs k e = ap (read_command (read depth) signals a bs) e

module _ (signals a : ℕ) (bs : List ℕ) (c : Command) (xs : List ℕ) (e : front bs ≡ command c xs) where
  pub refuses-deep : read zero signals a bs ≡ refused 6
  unfolding read
  refuses-deep = ap too_deep e

  pub refuses-crowded : (depth : ℕ) → signals < declares c → read (suc depth) signals a bs ≡ refused 6
  unfolding read
  refuses-crowded depth l = ap (read_command (read depth) signals a bs) e ∙ rw (lt-ltb signals (declares c) l)

  pub enters : (depth : ℕ) → declares c ≤ signals
      → read (suc depth) signals a bs ≡ read_parts (read depth (signals - declares c)) c a xs (partCount c) bs
  unfolding read
  enters depth l = ap (read_command (read depth) signals a bs) e ∙ rw (le-ltb signals (declares c) l)
