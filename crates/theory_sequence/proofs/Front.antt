-- The command at the front of the bytes: what stands there for each answer of `front`, and nothing else does.
use mathlib.Core.Path.{◌≡◌, refl, sym, ap, ap₂, ◌∙◌, subst}
use mathlib.Core.Bool.{Bool, true, false, cond}
use mathlib.Core.Option.{Option, none, some}
use mathlib.Core.List.{List, [], ◌∷◌, ◌++◌}
use Prim.Native.Nat.{ℕ, zero, suc, ◌+◌, ◌≤◌, ◌<◌}
use native.Mathlib.Decide.{dec_lt}
use native.Mathlib.Omega.{arith}
use lib.ListN.{length, get_or, take, drop}
use lib.Seq.{drop-cons}
use Rattle.spec_base.specs.Limits.{last_command}
use Rattle.spec_sequence.specs.Commands.{Command, command_of, operandCount, bytes_at, operands_of, in_range, litres_fit, head_length}
use Rattle.spec_sequence.specs.Reader.{Front, command, bad, after, first_bytes, with_operands, with_command, front}
use Rattle.theory_sequence.proofs.Table.{above, unnamed, byte_of, byte_is}

-- the command c with operand bytes xs
pub record Fronted (bs : List ℕ) (c : Command) (xs : List ℕ) : Type 0 where
  pub byte : command_of (get_or bs 0 0) ≡ some c
  pub long : head_length c ≤ length bs
  pub operands : xs ≡ operands_of c bs
  pub ranged : in_range c xs ≡ true
  pub fit : litres_fit c xs ≡ true

pub data Fronts (bs : List ℕ) : Front → Type 0 where
  empty : length bs ≡ 0 → Fronts bs (bad 4)
  unknown : 0 < length bs → last_command < get_or bs 0 0 → Fronts bs (bad 3)
  short : (c : Command) → 0 < length bs → command_of (get_or bs 0 0) ≡ some c → length bs < head_length c → Fronts bs (bad 4)
  outside : (c : Command) → command_of (get_or bs 0 0) ≡ some c → head_length c ≤ length bs → in_range c (operands_of c bs) ≡ false → Fronts bs (bad 5)
  unfit : (c : Command) → command_of (get_or bs 0 0) ≡ some c → head_length c ≤ length bs → in_range c (operands_of c bs) ≡ true
      → litres_fit c (operands_of c bs) ≡ false → Fronts bs (bad 18)
  whole : (c : Command) (xs : List ℕ) → Fronted bs c xs → Fronts bs (command c xs)

-- ---- the first n bytes
behind : (b i n : ℕ) (bs : List ℕ) → bytes_at (suc i) n (b ∷ bs) ≡ bytes_at i n bs
behind b i zero bs = refl
behind b i (suc n) bs = ap (λ (l : List ℕ). get_or bs i 0 ∷ l) (behind b (suc i) n bs)

enough : (n : ℕ) (bs : List ℕ) → n ≤ length bs → first_bytes n bs ≡ some (bytes_at 0 n bs)
enough zero bs l = refl
enough (suc n) [] l = absurd (omega arith)
enough (suc n) (x ∷ bs) l = ap (after x) (enough n bs (omega arith)) ∙ ap (λ (xs : List ℕ). some (x ∷ xs)) (sym (behind x 0 n bs))

too_few : (n : ℕ) (bs : List ℕ) → length bs < n → first_bytes n bs ≡ none
too_few zero bs l = absurd (omega arith)
too_few (suc n) [] l = refl
too_few (suc n) (x ∷ bs) l = ap (after x) (too_few n bs (omega arith))

split : (n : ℕ) (bs : List ℕ) → n ≤ length bs → bs ≡ bytes_at 0 n bs ++ drop n bs
split zero bs l = refl
split (suc n) [] l = absurd (omega arith)
split (suc n) (x ∷ bs) l =
    ap (λ (t : List ℕ). x ∷ t) (split n bs (omega arith) ∙ ap (λ (xs : List ℕ). xs ++ drop n bs) (sym (behind x 0 n bs)))

-- n bytes from i on, as a part of the bytes
pub bytes_taken : (n i : ℕ) (s : List ℕ) → i + n ≤ length s → bytes_at i n s ≡ take n (drop i s)
bytes_taken zero i s h = refl
bytes_taken (suc n) i s h = rw (drop-cons s i 0 (omega arith)) (ap (λ (l : List ℕ). get_or s i 0 ∷ l) (bytes_taken n (suc i) s (omega arith)))

-- ---- the answer
by_command : (b : ℕ) (bs : List ℕ) (c : Command) → command_of b ≡ some c → front (b ∷ bs) ≡ with_operands c (first_bytes (operandCount c) bs)
unfolding front
by_command b bs c e = ap (λ (o : Option Command). with_command o bs) e

by_operands : (b : ℕ) (bs : List ℕ) (c : Command) (t u : Bool) → command_of b ≡ some c → operandCount c ≤ length bs → in_range c (operands_of c (b ∷ bs)) ≡ t
    → litres_fit c (operands_of c (b ∷ bs)) ≡ u → front (b ∷ bs) ≡ cond t (cond u (command c (operands_of c (b ∷ bs))) (bad 18)) (bad 5)
by_operands b bs c t u e l r i =
    by_command b bs c e
    ∙ ap (with_operands c) (enough (operandCount c) bs l ∙ ap some (sym (behind b 0 (operandCount c) bs)))
    ∙ ap₂ (λ (t u : Bool). cond t (cond u (command c (operands_of c (b ∷ bs))) (bad 18)) (bad 5)) r i

pub front-is : (bs : List ℕ) (f : Front) → Fronts bs f → front bs ≡ f
unfolding front
front-is [] f (Fronts.empty e) = refl
front-is [] f (Fronts.unknown l h) = absurd (omega arith)
front-is [] f (Fronts.short c l e h) = absurd (omega arith)
front-is [] f (Fronts.outside c e l r) = absurd (omega arith)
front-is [] f (Fronts.unfit c e l r i) = absurd (omega arith)
front-is [] f (Fronts.whole c xs w) = absurd (omega (arith, w.long))
front-is (b ∷ bs) f (Fronts.empty e) = absurd (omega arith)
front-is (b ∷ bs) f (Fronts.unknown l h) = ap (λ (o : Option Command). with_command o bs) (above b h)
front-is (b ∷ bs) f (Fronts.short c l e h) = by_command b bs c e ∙ ap (with_operands c) (too_few (operandCount c) bs (omega arith))
front-is (b ∷ bs) f (Fronts.outside c e l r) = by_operands b bs c false _ e (omega arith) r refl
front-is (b ∷ bs) f (Fronts.unfit c e l r i) = by_operands b bs c true false e (omega arith) r i
front-is (b ∷ bs) f (Fronts.whole c xs w) =
    by_operands b bs c true true w.byte (omega (arith, w.long)) (ap (in_range c) (sym w.operands) ∙ w.ranged)
    (ap (litres_fit c) (sym w.operands) ∙ w.fit)
    ∙ ap (command c) (sym w.operands)

module _ (bs : List ℕ) where
  told : (f : Front) → Fronts bs f → Fronts bs (front bs)
  told f v = subst (Fronts bs) (sym (front-is bs f v)) v

  by-litres : (c : Command) → command_of (get_or bs 0 0) ≡ some c → head_length c ≤ length bs → in_range c (operands_of c bs) ≡ true → (u : Bool)
      → litres_fit c (operands_of c bs) ≡ u → Fronts bs (front bs)
  by-litres c e l r true i =
      told _ (Fronts.whole c (operands_of c bs) (record { byte = e; long = l; operands = refl; ranged = r; fit = i }))
  by-litres c e l r false i = told _ (Fronts.unfit c e l r i)

  by-range : (c : Command) → command_of (get_or bs 0 0) ≡ some c → head_length c ≤ length bs → (t : Bool) → in_range c (operands_of c bs) ≡ t → Fronts bs (front bs)
  by-range c e l true r = by-litres c e l r (litres_fit c (operands_of c bs)) refl
  by-range c e l false r = told _ (Fronts.outside c e l r)

  by_width : 0 < length bs → (c : Command) → command_of (get_or bs 0 0) ≡ some c → Dec (length bs < head_length c) → Fronts bs (front bs)
  by_width n c e (yes l) = told _ (Fronts.short c n e l)
  by_width n c e (no l) = by-range c e (omega (arith, l)) (in_range c (operands_of c bs)) refl

  by_byte : 0 < length bs → (o : Option Command) → command_of (get_or bs 0 0) ≡ o → Fronts bs (front bs)
  by_byte n none e = told _ (Fronts.unknown n (unnamed (get_or bs 0 0) e))
  by_byte n (some c) e = by_width n c e (dec_lt (length bs) (head_length c))

  by_length : Dec (0 < length bs) → Fronts bs (front bs)
  by_length (yes n) = by_byte n (command_of (get_or bs 0 0)) refl
  by_length (no n) = told _ (Fronts.empty (omega (arith, n)))

  pub fronts : (f : Front) → front bs ≡ f → Fronts bs f
  fronts f e = subst (Fronts bs) e (by_length (dec_lt 0 (length bs)))

  only-whole : (c : Command) (xs : List ℕ) → Fronts bs (command c xs) → Fronted bs c xs
  only-whole c xs (Fronts.whole d ys w) = w

  pub fronted : (c : Command) (xs : List ℕ) → front bs ≡ command c xs → Fronted bs c xs
  fronted c xs e = only-whole c xs (fronts (command c xs) e)

-- the bytes are those of the command, and the rest
pub own_bytes : (bs : List ℕ) (c : Command) (xs : List ℕ) → Fronted bs c xs → bs ≡ byte_of c ∷ operands_of c bs ++ drop (head_length c) bs
own_bytes [] c xs f = absurd (omega (arith, f.long))
own_bytes (b ∷ bs) c xs f =
    let n : ℕ = operandCount c in
    let w : 1 + n ≡ suc n = omega arith in
    let t : bs ≡ operands_of c (b ∷ bs) ++ drop (head_length c) (b ∷ bs)
    = split n bs (omega (arith, f.long)) ∙ ap (λ (l : List ℕ). l ++ drop n bs) (sym (behind b 0 n bs))
    ∙ ap (λ (k : ℕ). operands_of c (b ∷ bs) ++ drop k (b ∷ bs)) (sym w) in
    ap (λ (l : List ℕ). b ∷ l) t ∙ ap (λ (k : ℕ). k ∷ operands_of c (b ∷ bs) ++ drop (head_length c) (b ∷ bs)) (byte_is b c f.byte)
