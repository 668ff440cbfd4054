-- Bytes put into a buffer one behind the other.
use Prim.Native.Nat.{ℕ, zero, suc, ◌+◌, ◌≤◌}
use mathlib.Core.Path.{◌≡◌, refl, sym, ap, ◌∙◌, subst}
use mathlib.Core.List.{List, [], ◌∷◌, ◌++◌}
use native.Mathlib.Omega.{arith}
use lib.ListN.{length, get_or, set, drop, length-append}
use borrow.Author.Tests.{ne_eqb}
use lib.Seq.{sets, length-sets, sets-eq}
use Rattle.spec_sequence.specs.Commands.{bytes_at}
use Rattle.numbers.proofs.Writing.{sets_append}
use Rattle.unroll_call.specs.Putting.{Put, Room, copied_byte, copied_head, Operands, Copyable}

pub put_then : {i j r : ℕ} {xs ys b b₁ b₂ : List ℕ} → Put i xs b b₁ j → Put j ys b₁ b₂ r → Put i (xs ++ ys) b b₂ r
put_then {i} {j} {r} {xs} {ys} {b} {b₁} {b₂} h k =
    record {
      after =
          let e : j ≡ length xs + i = omega (arith, h.end) in
          k.after ∙ ap (λ (l : List ℕ). sets l j ys) h.after ∙ ap (λ (n : ℕ). sets (sets b i xs) n ys) e ∙ sets_append b i xs ys;
      end = omega (arith, h.end, k.end, length-append xs ys);
    }

-- the buffer keeps its length
pub put-length : {i r : ℕ} {xs b b' : List ℕ} → Put i xs b b' r → length b' ≡ length b
put-length {i} {r} {xs} {b} h = ap length h.after ∙ length-sets b i xs

-- what was space for both is space for the second, once the first is put
pub room_first : {i : ℕ} (xs ys : List ℕ) {b : List ℕ} → Room i (length (xs ++ ys)) b → Room i (length xs) b
room_first xs ys m = record { fits = omega (arith, m.fits, length-append xs ys); sized = m.sized }

pub room_then : {i j : ℕ} (xs ys : List ℕ) {b b' : List ℕ} → Room i (length (xs ++ ys)) b → Put i xs b b' j → Room j (length ys) b'
room_then xs ys m h =
    record {
      fits = omega (arith, m.fits, length-append xs ys, h.end, put-length h);
      sized = put-length h ∙ m.sized;
    }

-- from the start of a buffer
pub put_whole : {xs b b' : List ℕ} {r : ℕ} → length xs ≤ length b → Put 0 xs b b' r → b' ≡ xs ++ drop (length xs) b
put_whole {xs} {b} l h =
    let e : 0 + length xs ≡ length xs = omega arith in
    h.after ∙ sets-eq xs b 0 (omega arith) ∙ ap (λ (n : ℕ). xs ++ drop n b) e

-- ---- no bytes, and as many as are counted
pub put-none : {i : ℕ} {b : List ℕ} → Put i [] b b i
put-none = record { after = refl; end = omega arith }

bytes_count : (i n : ℕ) (s : List ℕ) → length (bytes_at i n s) ≡ n
bytes_count i zero s = refl
bytes_count i (suc n) s = ap (λ (k : ℕ). suc k) (bytes_count (suc i) n s)

bytes_next : (a k : ℕ) (s : List ℕ) → bytes_at a (suc k) s ≡ bytes_at a k s ++ (get_or s (a + k) 0 ∷ [])
bytes_next a zero s = ap (λ (j : ℕ). get_or s j 0 ∷ []) (let e : a ≡ a + 0 = omega arith in e)
bytes_next a (suc k) s =
    let e : suc a + k ≡ a + suc k = omega arith in
    ap (λ (l : List ℕ). get_or s a 0 ∷ l) (bytes_next (suc a) k s ∙ ap (λ (j : ℕ). bytes_at (suc a) k s ++ (get_or s j 0 ∷ [])) e)

-- one byte more
pub put_next : (i at k : ℕ) (s : List ℕ) {b b' : List ℕ} → Put i (bytes_at at k s) b b' (i + k)
    → Put i (bytes_at at (k + 1) s) b (set b' (i + k) (get_or s (at + k) 0)) (i + (k + 1))
put_next i at k s {b} {b'} h =
    let x : List ℕ = get_or s (at + k) 0 ∷ [] in
    let one : Put (i + k) x b' (set b' (i + k) (get_or s (at + k) 0)) (i + (k + 1)) = record { after = refl; end = omega arith } in
    let e : k + 1 ≡ suc k = omega arith in
    subst (λ (l : List ℕ). Put i l b (set b' (i + k) (get_or s (at + k) 0)) (i + (k + 1)))
    (sym (ap (λ (m : ℕ). bytes_at at m s) e ∙ bytes_next at k s)) (put_then h one)

pub room_of : {i n m : ℕ} {b : List ℕ} → Room i n b → n ≡ m → Room i m b
room_of {i} {b = b} r e = subst (λ (k : ℕ). Room i k b) e r

-- ---- operand bytes
pub five : {at n : ℕ} {s : List ℕ} {i : ℕ} {b : List ℕ} → Operands at n s i b → (n ≡ 0 → ⊥) → (n ≡ 1 → ⊥) → n ≡ 5
five w z y = w.count (omega (arith, z, y))

-- ---- a command in a copy
pub loop_put : {i : ℕ} {b : List ℕ} (x : ℕ) (xs : List ℕ) → x ≡ 6 → Put i (copied_head x xs) b b i
loop_put x xs e = rw e put-none

other_head : (x : ℕ) (xs : List ℕ) → (x ≡ 6 → ⊥) → copied_head x xs ≡ (copied_byte x ∷ []) ++ xs
other_head x xs z = rw (ne_eqb x 6 z)

module _ {at n : ℕ} {s : List ℕ} {i : ℕ} {b : List ℕ} (w : Copyable at n s i b) (z : get_or s at 0 ≡ 6 → ⊥) where
  abbrev byte : List ℕ
  byte = copied_byte (get_or s at 0) ∷ []

  abbrev behind : List ℕ
  behind = bytes_at (at + 1) n s

  room : Room i (length (byte ++ behind)) b
  room = subst (λ (l : List ℕ). Room i (length l) b) (other_head (get_or s at 0) behind z) w.room

  pub byte-room : Room i 1 b
  byte-room = room_first byte behind room

  pub operands-ready : {b₁ : List ℕ} {j : ℕ} → Put i byte b b₁ j → Operands (at + 1) n s j b₁
  operands-ready {b₁} {j} h =
      record {
        there = omega (arith, w.there);
        count = w.count;
        room = subst (λ (k : ℕ). Room j k b₁) (bytes_count (at + 1) n s) (room_then byte behind room h);
      }

  pub head-put : {b₁ b₂ : List ℕ} {j r : ℕ} → Put i byte b b₁ j → Put j behind b₁ b₂ r → Put i (copied_head (get_or s at 0) behind) b b₂ r
  head-put {b₂ = b₂} {r = r} h k = subst (λ (l : List ℕ). Put i l b b₂ r) (sym (other_head (get_or s at 0) behind z)) (put_then h k)
