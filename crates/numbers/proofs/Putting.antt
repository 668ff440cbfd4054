-- Laws of bytes put in the place of others: what is read of them, of what stands before and of what stands behind.
use Prim.Native.Nat.{ℕ, ◌+◌, ◌-◌, ◌≤◌}
use native.Mathlib.Omega.{arith}
use mathlib.Core.Path.{◌≡◌, sym, ap, ap₂, ◌∙◌}
use mathlib.Core.List.{List, ◌++◌, append_assoc}
use lib.ListN.{length, take, drop, length-append, length-drop, take-append-drop}
use lib.Seq.{sets, sets-eq, take_at, drop_at, drop-drop, length-take-le, take-append-le, drop-append-le}
use Rattle.spec_base.specs.Parts.{slot, put}
use Rattle.numbers.proofs.Writing.{sets-whole}

-- what stands in the front of a list is read from it alone
pub slot-front : (i m : ℕ) (xs ys : List ℕ) → i + m ≤ length xs → slot i m (xs ++ ys) ≡ slot i m xs
slot-front i m xs ys h =
    let k : length (drop i xs) ≡ length xs - i = length-drop i xs in
    ap (take m) (drop-append-le i xs ys (omega arith)) ∙ take-append-le m (drop i xs) ys (omega arith)

-- what is read, put back
pub put-slot : (at n : ℕ) (s : List ℕ) → put at n (slot at n s) s ≡ s
unfolding put
put-slot at n s = ap (λ (r : List ℕ). take at s ++ r) (take-append-drop n (drop at s)) ∙ take-append-drop at s

module _ (at n : ℕ) (bytes s : List ℕ) (fits : at + n ≤ length s) (sized : length bytes ≡ n) where
  front : length (take at s) ≡ at
  front = length-take-le at s (omega arith)

  -- what stands before, with the bytes put; and what stands behind
  abbrev filled : List ℕ
  filled = take at s ++ bytes

  abbrev rest : List ℕ
  rest = drop n (drop at s)

  front-filled : length filled ≡ at + n
  front-filled = length-append (take at s) bytes ∙ ap₂ (λ (x y : ℕ). x + y) front sized

  put-filled : put at n bytes s ≡ filled ++ rest
  unfolding put
  put-filled = sym (append_assoc (take at s) bytes (drop n (drop at s)))

  pub length-put : length (put at n bytes s) ≡ length s
  length-put =
      let a : length (filled ++ rest) ≡ length filled + length rest = length-append filled rest in
      let b : length rest ≡ length (drop at s) - n = length-drop n (drop at s) in
      let c : length (drop at s) ≡ length s - at = length-drop at s in
      ap length put-filled ∙ omega (arith, a, b, c, front-filled)

  pub slot-put : slot at n (put at n bytes s) ≡ bytes
  unfolding put
  slot-put = ap (take n) (drop_at (take at s) (bytes ++ drop n (drop at s)) at front) ∙ take_at bytes (drop n (drop at s)) n sized

  -- inside what was put
  pub put-within : (k m : ℕ) → k + m ≤ n → slot (at + k) m (put at n bytes s) ≡ slot k m bytes
  unfolding put
  put-within k m h =
      let tail : List ℕ = bytes ++ drop n (drop at s) in
      ap (take m) (sym (drop-drop k at (take at s ++ tail)) ∙ ap (drop k) (drop_at (take at s) tail at front))
      ∙ slot-front k m bytes (drop n (drop at s)) (omega arith)

  pub put-before : (i m : ℕ) → i + m ≤ at → slot i m (put at n bytes s) ≡ slot i m s
  unfolding put
  put-before i m h =
      slot-front i m (take at s) (bytes ++ drop n (drop at s)) (omega (arith, front))
      ∙ sym (slot-front i m (take at s) (drop at s) (omega (arith, front)))
      ∙ ap (slot i m) (take-append-drop at s)

  behind : drop (at + n) (put at n bytes s) ≡ drop (at + n) s
  behind = ap (drop (at + n)) put-filled ∙ drop_at filled rest (at + n) front-filled ∙ drop-drop n at s

  pub put-behind : (i m : ℕ) → at + n ≤ i → slot i m (put at n bytes s) ≡ slot i m s
  put-behind i m h =
      let k : ℕ = i - (at + n) in
      let e : at + n + k ≡ i = omega arith in
      ap (λ (j : ℕ). slot j m (put at n bytes s)) (sym e)
      ∙ ap (take m) (sym (drop-drop k (at + n) (put at n bytes s)) ∙ ap (drop k) behind ∙ drop-drop k (at + n) s)
      ∙ ap (λ (j : ℕ). slot j m s) e

  -- a run of stores puts bytes
  pub stored : sets s at bytes ≡ put at n bytes s
  unfolding put
  stored =
      sets-eq bytes s at (omega arith)
      ∙ append_assoc (take at s) bytes (drop (at + length bytes) s)
      ∙ ap (λ (r : List ℕ). take at s ++ (bytes ++ r)) (ap (λ (k : ℕ). drop (at + k) s) sized ∙ sym (drop-drop n at s))

  -- a part of m bytes that holds the run of stores at its front, put back
  pub stored_part : (part : List ℕ) (m : ℕ) → m ≡ n → part ≡ sets (take m (drop at s)) 0 bytes → take at s ++ (part ++ drop m (drop at s)) ≡ sets s at bytes
  unfolding put
  stored_part part m e h =
      let k : length (drop at s) ≡ length s - at = length-drop at s in
      let long : length (take m (drop at s)) ≡ m = length-take-le m (drop at s) (omega (arith, k)) in
      let w : part ≡ bytes = h ∙ sets-whole (take m (drop at s)) bytes (sized ∙ sym (long ∙ e)) in
      rw (w, e) (sym stored)

  -- bytes put behind bytes put
  pub put_next : (m : ℕ) (more : List ℕ) → put (at + n) m more (put at n bytes s) ≡ put at (n + m) (bytes ++ more) s
  unfolding put
  put_next m more =
      ap (put (at + n) m more) put-filled
      ∙ ap₂ (λ (x y : List ℕ). x ++ (more ++ drop m y)) (take_at filled rest (at + n) front-filled) (drop_at filled rest (at + n) front-filled)
      ∙ ap (λ (r : List ℕ). filled ++ (more ++ r)) (drop-drop m n (drop at s))
      ∙ append_assoc (take at s) bytes (more ++ drop (n + m) (drop at s))
      ∙ ap (λ (r : List ℕ). take at s ++ r) (sym (append_assoc bytes more (drop (n + m) (drop at s))))
