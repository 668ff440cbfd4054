-- Laws of numerals, over every base.
use Prim.Native.Nat.{ℕ, zero, suc, ◌+◌, ◌*◌, ◌-◌, ◌/◌, ◌%◌, ◌^◌, ◌≤◌, ◌<◌}
use native.Mathlib.Nat.{pow-le-pow_left, not-suc-le-zero, div-le_self, div-lt_self, div-lt_iff_lt-mul, pow-suc, pow-zero, mul_assoc, mul_comm, add_comm, add-mul-div_left, mul-add-mod_self_left}
use native.Mathlib.Omega.{arith}
use mathlib.Core.Path.{◌≡◌, refl, sym, ap, ap₂, ◌∙◌, subst}
use mathlib.Core.List.{List, [], ◌∷◌, ◌++◌, append-nil, append_assoc}
use lib.ListN.{length, set, length-append}
use lib.Dec.{eqb-suc-zero}
use Rattle.spec_programs.specs.Text.{digit, numeral_in, numeral}
use Rattle.lines.specs.Buffer.{Prepended}
use Rattle.lines.proofs.Buffers.{before, Filling, room, again, end_filling}

fewer : (base width x n : ℕ) → 1 < base → 0 < width + x → width + x ≤ suc n → width - 1 + x / base ≤ n
fewer base zero zero n h pos le = omega arith
fewer base zero (suc x) n h pos le = omega (arith, div-lt_self {n = suc x} {k = base} (omega arith) h)
fewer base (suc w) x n h pos le = omega (arith, div-le_self x base)

step : (n base width x : ℕ) → 0 < width + x
    → numeral_in (suc n) base width x ≡ numeral_in n base (width - 1) (x / base) ++ digit (x % base) ∷ []
unfolding numeral_in
step n base zero zero pos = absurd (not-suc-le-zero {n = 0} (omega arith))
step n base zero (suc x) pos = rw (eqb-suc-zero x) refl
step n base (suc w) x pos = rw (eqb-suc-zero w) refl

none_left : (n base width x : ℕ) → width + x ≤ 0 → numeral_in n base width x ≡ []
unfolding numeral_in
none_left zero base width x le = refl
none_left (suc n) base zero zero le = refl
none_left (suc n) base zero (suc x) le = absurd (not-suc-le-zero {n = 0} (omega arith))
none_left (suc n) base (suc w) x le = absurd (not-suc-le-zero {n = 0} (omega arith))

further : (n m base width x : ℕ) → 0 < width + x
    → numeral_in n base (width - 1) (x / base) ≡ numeral_in m base (width - 1) (x / base)
    → numeral_in (suc n) base width x ≡ numeral_in (suc m) base width x
further n m base w x pos e =
    step n base w x pos ∙ ap (λ (t : List ℕ). t ++ digit (x % base) ∷ []) e ∙ sym (step m base w x pos)

-- the number of steps does not matter once there are enough
enough : (n m base width x : ℕ) → 1 < base → width + x ≤ n → width + x ≤ m → numeral_in n base width x ≡ numeral_in m base width x
enough zero m base w x h p q = none_left zero base w x p ∙ sym (none_left m base w x p)
enough (suc n) zero base w x h p q = none_left (suc n) base w x q ∙ sym (none_left zero base w x q)
enough (suc n) (suc m) base zero zero h p q = none_left (suc n) base 0 0 (omega arith) ∙ sym (none_left (suc m) base 0 0 (omega arith))
enough (suc n) (suc m) base zero (suc x) h p q =
    let pos : 0 < 0 + suc x = omega arith in
    further n m base 0 (suc x) pos (enough n m base (0 - 1) (suc x / base) h (fewer base 0 (suc x) n h pos p) (fewer base 0 (suc x) m h pos q))
enough (suc n) (suc m) base (suc w) x h p q =
    let pos : 0 < suc w + x = omega arith in
    further n m base (suc w) x pos (enough n m base (suc w - 1) (x / base) h (fewer base (suc w) x n h pos p) (fewer base (suc w) x m h pos q))

pub numeral-step : (base width x : ℕ) → 1 < base → 0 < width + x
    → numeral base width x ≡ numeral base (width - 1) (x / base) ++ digit (x % base) ∷ []
unfolding numeral
numeral-step base w x h pos =
    enough (w + x) (suc (w + x)) base w x h (omega arith) (omega arith)
    ∙ step (w + x) base w x pos
    ∙ ap (λ (t : List ℕ). t ++ digit (x % base) ∷ [])
    (enough (w + x) (w - 1 + x / base) base (w - 1) (x / base) h (fewer base w x (w + x) h pos (omega arith)) (omega arith))

pub numeral-none : (base : ℕ) → numeral base 0 0 ≡ []
unfolding numeral numeral_in
numeral-none base = refl

grown : (base k width x : ℕ) → 1 < base → 0 < width + x → length (numeral base (width - 1) (x / base)) ≤ k → length (numeral base width x) ≤ suc k
grown base k w x h pos le =
    let e : length (numeral base w x) ≡ length (numeral base (w - 1) (x / base)) + 1
    = ap length (numeral-step base w x h pos) ∙ length-append (numeral base (w - 1) (x / base)) (digit (x % base) ∷ []) in
    omega (arith, e)

smaller : (base k x : ℕ) → 1 < base → x < base ^ suc k → x / base < base ^ k
smaller base k x h lt = (div-lt_iff_lt-mul {k = base} {x = x} {y = base ^ k} (omega arith)).1 (subst (λ (n : ℕ). x < n) (pow-suc base k) lt)

pub numeral-fits : (base k width x : ℕ) → 1 < base → x < base ^ k → width ≤ k → length (numeral base width x) ≤ k
numeral-fits base zero zero zero h lt le = subst (λ (t : List ℕ). length t ≤ 0) (sym (numeral-none base)) (omega arith)
numeral-fits base zero zero (suc x) h lt le =
    let z : suc x < 1 = subst (λ (n : ℕ). suc x < n) (pow-zero base) lt in absurd (not-suc-le-zero {n = 0} (omega (arith, z)))
numeral-fits base zero (suc w) x h lt le = absurd (not-suc-le-zero le)
numeral-fits base (suc k) zero zero h lt le = subst (λ (t : List ℕ). length t ≤ suc k) (sym (numeral-none base)) (omega arith)
numeral-fits base (suc k) zero (suc x) h lt le =
    grown base k 0 (suc x) h (omega arith) (numeral-fits base k (0 - 1) (suc x / base) h (smaller base k (suc x) h lt) (omega arith))
numeral-fits base (suc k) (suc w) x h lt le =
    grown base k (suc w) x h (omega arith) (numeral-fits base k (suc w - 1) (x / base) h (smaller base k x h lt) (omega arith))

-- ---- a numeral in two: its last n digits, and those before
split-half : (b n h l : ℕ) → 0 < b → (h * b ^ suc n + l) / b ≡ h * b ^ n + l / b
split-half b n h l pos =
    ap (λ (x : ℕ). (x + l) / b) (ap (λ (y : ℕ). h * y) (pow-suc b n) ∙ sym (mul_assoc h (b ^ n) b) ∙ mul_comm (h * b ^ n) b)
    ∙ ap (λ (x : ℕ). x / b) (add_comm (b * (h * b ^ n)) l) ∙ add-mul-div_left l (h * b ^ n) pos ∙ add_comm (l / b) (h * b ^ n)

split_last : (b n h l : ℕ) → (h * b ^ suc n + l) % b ≡ l % b
split_last b n h l =
    ap (λ (x : ℕ). (x + l) % b) (ap (λ (y : ℕ). h * y) (pow-suc b n) ∙ sym (mul_assoc h (b ^ n) b) ∙ mul_comm (h * b ^ n) b)
    ∙ mul-add-mod_self_left b (h * b ^ n) l

pub numeral-split : (b m n h l : ℕ) → 1 < b → l < b ^ n → numeral b (m + n) (h * b ^ n + l) ≡ numeral b m h ++ numeral b n l
numeral-split b m zero h l g lt =
    let z : l ≡ 0 = omega (arith, subst (λ (x : ℕ). l < x) (pow-zero b) lt) in
    let e : h * b ^ 0 + l ≡ h = ap₂ (λ (x y : ℕ). h * x + y) (pow-zero b) z ∙ (omega arith) in
    let k : m + 0 ≡ m = omega arith in
    ap₂ (numeral b) k e ∙ sym (append-nil (numeral b m h)) ∙ ap (λ (t : List ℕ). numeral b m h ++ t) (sym (ap (numeral b 0) z ∙ numeral-none b))
numeral-split b m (suc n) h l g lt =
    let x = h * b ^ suc n + l in
    let w : m + suc n - 1 ≡ m + n = omega arith in
    let v : suc n - 1 ≡ n = omega arith in
    numeral-step b (m + suc n) x g (omega arith)
    ∙ ap₂ (λ (t : List ℕ) (d : ℕ). t ++ digit d ∷ [])
    (ap₂ (numeral b) w (split-half b n h l (omega arith)) ∙ numeral-split b m n h (l / b) g (smaller b n l g lt)) (split_last b n h l)
    ∙ append_assoc (numeral b m h) (numeral b n (l / b)) (digit (l % b) ∷ [])
    ∙ ap (λ (t : List ℕ). numeral b m h ++ t)
    (ap (λ (k : ℕ). numeral b k (l / b) ++ digit (l % b) ∷ []) (sym v) ∙ sym (numeral-step b (suc n) l g (omega arith)))

-- ---- the loop over a numeral
pub measure_falls : (base width x : ℕ) → 1 < base → 0 < width + x → width - 1 + x / base < width + x
measure_falls base w x h pos = let f : w - 1 + x / base ≤ w + x - 1 = fewer base w x (w + x - 1) h pos (omega arith) in omega (arith, f)

pub numeral_room : (base left rest : ℕ) {l₀ l text : List ℕ} {end from : ℕ} → 1 < base → 0 < left + rest
    → Filling l₀ end text l from (numeral base left rest) → length text ≤ end → 0 < from
numeral_room base left rest {l₀} {l} {text} {end} {from} h pos f fits =
    let e : length (numeral base left rest) ≡ length (numeral base (left - 1) (rest / base)) + 1
    = ap length (numeral-step base left rest h pos) ∙ length-append (numeral base (left - 1) (rest / base)) (digit (rest % base) ∷ []) in
    omega (arith, e, room f fits)

pub numeral-again : (base left rest : ℕ) {l₀ l text : List ℕ} {end from : ℕ} → 1 < base → 0 < left + rest
    → Filling l₀ end text l from (numeral base left rest) → 0 < from → from ≤ length l
    → Filling l₀ end text (set l (from - 1) (digit (rest % base))) (from - 1) (numeral base (left - 1) (rest / base))
numeral-again base left rest {l₀} {l} {text} {end} {from} h pos f space le =
    again (digit (rest % base))
    (subst (λ (t : List ℕ). Filling l₀ end text l from t) (numeral-step base left rest h pos) f) space le

pub numeral_end : (base left rest : ℕ) {l₀ l text : List ℕ} {end from : ℕ} → left + rest ≤ 0
    → Filling l₀ end text l from (numeral base left rest) → Prepended l₀ end text l from
numeral_end base left rest {l₀} {l} {text} {end} {from} le f =
    let a : left ≡ 0 = omega arith in
    let b : rest ≡ 0 = omega arith in
    end_filling
    (subst (λ (t : List ℕ). Filling l₀ end text l from t) (ap₂ (numeral base) a b ∙ numeral-none base) f)

-- ---- a field: a numeral of a number of 64 bits, and the byte after it
pub field_fits : (base width x : ℕ) → 10 ≤ base → width ≤ 16 → x < 2 ^ 64 → length (numeral base width x) ≤ 20
field_fits base width x h w lt =
    let p : 10 ^ 20 ≤ base ^ 20 = pow-le-pow_left {n = 10} {m = base} h 20 in
    numeral-fits base 20 width x (omega arith) (omega arith) (omega arith)

pub field : {a b c : List ℕ} {end at from : ℕ} (base width x after : ℕ) → length (numeral base width x) ≤ 20
    → Prepended a end (after ∷ []) b at → Prepended b at (numeral base width x) c from
    → Prepended a end (numeral base width x ++ after ∷ []) c from × (end ≤ from + 21)
field {a} {b} {c} {end} {at} {from} base width x after h p q = (before p q, omega (arith, p.fits, q.fits))
