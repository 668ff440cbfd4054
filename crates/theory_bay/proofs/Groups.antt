-- What the ten bytes say: each group of them, of every filling.
use Prim.Native.Nat.{ℕ, ◌/◌, ◌%◌, ◌^◌, ◌<◌}
use native.Mathlib.Nat.{mod-lt}
use native.Mathlib.Omega.{arith}
use native.Mathlib.Decide.{ℕ_discrete}
use mathlib.Core.Path.{◌≡◌, refl, sym, ap, ap₂, ◌∙◌}
use mathlib.Core.Logic.{◌≢◌, ◌↔◌, ◌⊎◌, inl, inr, ⊎_elim}
use mathlib.Core.Bool.{Bool, true, false, not, ◌&&◌, true≢false, false≢true}
use mathlib.Core.List.{List}
use lib.Dec.{ltb}
use borrow.Author.Tests.{eqb-true, eqb-false, ne_eqb, lt-ltb}
use Rattle.spec_base.specs.Limits.{signal_count, signal_bytes}
use Rattle.spec_base.specs.Sets.{member, Subset}
use Rattle.spec_base.specs.Widths.{all_below, complement}
use Rattle.sets.proofs.Members.{member_lt}
use Rattle.sets.proofs.Widths.{difference_lt, all_lt, member-complement}
use Rattle.sets.proofs.Words.{words_of, low_fits, member-low}
use Rattle.spec_base.specs.Bytes.{le_bytes, le_number}
use Rattle.numbers.proofs.Bytes.{le_low, le_round_trip}
use Rattle.spec_tick.specs.AnswerRecord.{code_in, emitted_in}
use Rattle.spec_bay.specs.declared.Findings.{Findings}
use Rattle.spec_bay.specs.Preview.{filled, openCode, findings, bit, preview_bytes, every_in, never_in, wrong_in, shared_in, Learned}
use Rattle.theory_bay.proofs.Gathering.{every-filling, wrong-filling, open-filling, all_present, emits, misses, right, shares, learned}

-- ---- the fields
member_mod : (w i s : ℕ) → i < w → member i (s % 2 ^ w) ≡ member i s
member_mod w i s h = member-low w (s % 2 ^ w) (s / 2 ^ w) (low_fits w s) i h ∙ ap (member i) (words_of w s)

le_mod : (n x : ℕ) → 0 < 256 ^ n → le_number (le_bytes n x) ≡ x % 256 ^ n
le_mod n x h = ap le_number (sym (le_low n x)) ∙ le_round_trip n (x % 256 ^ n) (mod-lt x h)

and_second : (a b : Bool) → (a && not b) ≡ true → b ≡ false
and_second true true h = absurd (false≢true h)
and_second true false h = refl
and_second false b h = absurd (false≢true h)

module _ (x : Findings) where
  every-field : every_in (preview_bytes x) ≡ x.every % 2 ^ signal_count
  unfolding le_bytes
  every-field = le_mod signal_bytes x.every (omega arith)

  in-every : (i : ℕ) → (member i (every_in (preview_bytes x)) ≡ true) ↔ ((i < signal_count) × (member i x.every ≡ true))
  in-every i = (
    λ h. let m : member i (x.every % 2 ^ signal_count) ≡ true = sym (ap (member i) every-field) ∙ h in
        let l = member_lt i (low_fits signal_count x.every) m in
        (l, sym (member_mod signal_count i x.every l) ∙ m),
    λ h. ap (member i) every-field ∙ member_mod signal_count i x.every h.0 ∙ h.1,
  )

  abbrev never : ℕ
  never = complement signal_count x.some

  never-lt : never < 2 ^ signal_count
  never-lt = difference_lt signal_count (all_below signal_count) x.some (all_lt signal_count)

  never-field : never_in (preview_bytes x) ≡ never
  unfolding le_bytes
  never-field = le_round_trip signal_bytes never never-lt

  in-never : (i : ℕ) → (member i (never_in (preview_bytes x)) ≡ true) ↔ ((i < signal_count) × (member i x.some ≡ false))
  in-never i = (
    λ h. let m : member i never ≡ true = sym (ap (member i) never-field) ∙ h in
        (member_lt i never-lt m, and_second (ltb i signal_count) (member i x.some) (sym (member-complement signal_count x.some i) ∙ m)),
    λ h. ap (member i) never-field ∙ member-complement signal_count x.some i
        ∙ ap₂ (λ (a b : Bool). a && not b) (lt-ltb i signal_count h.0) h.1,
  )

  wrong-field : wrong_in (preview_bytes x) ≡ bit x.wrong
  unfolding le_bytes
  wrong-field = refl

  shared-field : shared_in (preview_bytes x) ≡ x.code
  unfolding le_bytes
  shared-field = refl

bit-zero : (b : Bool) → (bit b ≡ 0) ↔ (b ≡ false)
bit-zero true = (λ e. absurd (omega arith), λ e. absurd (true≢false e))
bit-zero false = (λ e. refl, λ e. refl)

bit_one : (b : Bool) → bit b ≡ 1 → b ≡ true
bit_one true e = refl
bit_one false e = absurd (omega arith)

one_or_zero : (b : Bool) {n : ℕ} → n ≡ bit b → (n ≡ 0) ⊎ (n ≡ 1)
one_or_zero true e = inr e
one_or_zero false e = inl e

-- ---- the groups, of bytes that are the findings'
module _ (answers : ℕ → List ℕ) (input unknown : ℕ) where
  -- something of the answer to each filling
  abbrev pub Each : (List ℕ → Type 0) → Type 0
  Each P = (f : ℕ) → Subset f unknown → P (answers (filled input unknown f))

  abbrev x : Findings
  x = findings answers input unknown

  module _ (bytes : List ℕ) (g : bytes ≡ preview_bytes x) where
    pub every_group : (i : ℕ) → (member i (every_in bytes) ≡ true) ↔ ((i < signal_count) × Each (λ a. member i (emitted_in a) ≡ true))
    every_group i =
        let s = in-every x i in
        let t = every-filling (emits i) answers input unknown in (
          λ h. let w = s.0 (sym (ap (λ (b : List ℕ). member i (every_in b)) g) ∙ h) in (w.0, t.0 w.1),
          λ h. ap (λ (b : List ℕ). member i (every_in b)) g ∙ s.1 (h.0, t.1 h.1),
        )

    pub never_group : (i : ℕ) → (member i (never_in bytes) ≡ true) ↔ ((i < signal_count) × Each (λ a. member i (emitted_in a) ≡ false))
    never_group i =
        let s = in-never x i in
        let t = every-filling (misses i) answers input unknown in (
          λ h. let w = s.0 (sym (ap (λ (b : List ℕ). member i (never_in b)) g) ∙ h) in (w.0, t.0 w.1),
          λ h. ap (λ (b : List ℕ). member i (never_in b)) g ∙ s.1 (h.0, t.1 h.1),
        )

    pub none_wrong : (wrong_in bytes ≡ 0) ↔ Each (λ a. code_in a ≢ 255)
    none_wrong =
        let e = ap wrong_in g ∙ wrong-field x in
        let t = every-filling right answers input unknown in (
          λ h f m. eqb-false (code_in (answers (filled input unknown f))) 255 (t.0 ((bit-zero x.wrong).0 (sym e ∙ h)) f m),
          λ h. e ∙ (bit-zero x.wrong).1 (t.1 (λ f m. ne_eqb (code_in (answers (filled input unknown f))) 255 (h f m))),
        )

    pub shared_code : (k : ℕ) → k ≢ openCode → (shared_in bytes ≡ k) ↔ Each (λ a. code_in a ≡ k)
    shared_code k o =
        let e = ap shared_in g ∙ shared-field x in
        let t = every-filling (shares k o) answers input unknown in
        (λ h. t.0 (sym e ∙ h), λ h. e ∙ t.1 h)

    -- 1 exactly if some filling is wrong
    pub some_wrong : (wrong_in bytes ≡ 1) ↔ ((f : ℕ) × Subset f unknown × (code_in (answers (filled input unknown f)) ≡ 255))
    some_wrong =
        let e = ap wrong_in g ∙ wrong-field x in (
          λ h. let r = wrong-filling answers input unknown (bit_one x.wrong (sym e ∙ h)) in
              (r.0, r.1, eqb-true (code_in (answers (filled input unknown r.0))) 255 r.2),
          λ r. ⊎_elim (λ z. absurd (none_wrong.0 z r.0 r.1 r.2)) (λ z. z) (one_or_zero x.wrong e),
        )

    pub zero-or-one : (wrong_in bytes ≡ 0) ⊎ (wrong_in bytes ≡ 1)
    zero-or-one = one_or_zero x.wrong (ap wrong_in g ∙ wrong-field x)

    -- 254 exactly if two fillings have different codes, where no code of an answer is 254
    pub open_code : ((f : ℕ) → code_in (answers (filled input unknown f)) ≢ openCode)
        → (shared_in bytes ≡ openCode)
        ↔ ((f f' : ℕ) × Subset f unknown × Subset f' unknown × (code_in (answers (filled input unknown f)) ≢ code_in (answers (filled input unknown f'))))
    open_code never =
        let e = ap shared_in g ∙ shared-field x in (
          λ h. let r = open-filling answers input unknown (never unknown) (sym e ∙ h) in
              (r.0, unknown, r.1, all_present answers input unknown, r.2),
          λ r. elim (ℕ_discrete (shared_in bytes) openCode) [
            | yes q ↦ q
            | no q ↦
                let s = (shared_code (shared_in bytes) q).0 refl in
                absurd (r.4 (s r.0 r.2 ∙ sym (s r.1 r.3)))
          ],
        )

-- that no filling is wrong stays so
pub still_right : {input unknown input' unknown' : ℕ} → Learned input unknown input' unknown' → (answers : ℕ → List ℕ)
    → (before : List ℕ) → before ≡ preview_bytes (findings answers input unknown)
    → (after : List ℕ) → after ≡ preview_bytes (findings answers input' unknown') → wrong_in before ≡ 0 → wrong_in after ≡ 0
still_right {input} {unknown} {input'} {unknown'} l answers before b after a h =
    let x = findings answers input unknown in
    let y = findings answers input' unknown' in
    ap wrong_in a ∙ wrong-field y
    ∙ (bit-zero y.wrong).1 (learned l right answers ((bit-zero x.wrong).0 (sym (ap wrong_in b ∙ wrong-field x) ∙ h)))
