-- The bytes of a panel, and when two records give it the same.
use Prim.Native.Nat.{ℕ, ◌+◌, ◌^◌, ◌<◌}
use native.Mathlib.Omega.{arith}
use native.Mathlib.Decide.{dec_lt}
use mathlib.Core.Path.{◌≡◌, refl, sym, ap, ◌∙◌, subst}
use mathlib.Core.Logic.{◌↔◌}
use mathlib.Core.List.{List}
use lib.ListN.{length, get_or, take, drop, length-take, get_or-eq_default}
use lib.Seq.{get_or-take, get_or-drop}
use Rattle.spec_base.specs.Limits.{signal_count, signal_bytes, number_bytes}
use Rattle.spec_base.specs.Sets.{difference}
use Rattle.sets.proofs.Algebra.{differences_same}
use Rattle.sets.proofs.Widths.{difference_lt}
use Rattle.spec_base.specs.Bytes.{le_bytes, le_number}
use Rattle.numbers.proofs.Bytes.{le_round_trip}
use Rattle.numbers.proofs.Reading.{le_number_lt}
use Rattle.spec_tick.specs.AnswerRecord.{answer_length, code_in, emitted_at, emitted_in}
use Rattle.spec_tick.specs.Record.{input_at, answer_at, number_in, input_in, answer_in, panel_input_at, panel_emitted_at, panel_length, panel_bytes, panel_of, Agree, Bytes}

-- ---- a panel's bytes by their fields
module _ (n k i o : ℕ) where
  pub panel-sized : length (panel_bytes n k i o) ≡ panel_length
  unfolding le_bytes
  panel-sized = refl

  panel-number : n < 256 ^ number_bytes → le_number (take number_bytes (panel_bytes n k i o)) ≡ n
  unfolding le_bytes
  panel-number h = le_round_trip number_bytes n h

  panel-code : get_or (panel_bytes n k i o) number_bytes 0 ≡ k
  unfolding le_bytes
  panel-code = refl

  panel-input : i < 256 ^ signal_bytes → le_number (take signal_bytes (drop panel_input_at (panel_bytes n k i o))) ≡ i
  unfolding le_bytes
  panel-input h = le_round_trip signal_bytes i h

  panel-emitted : o < 256 ^ signal_bytes → le_number (take signal_bytes (drop panel_emitted_at (panel_bytes n k i o))) ≡ o
  unfolding le_bytes
  panel-emitted h = le_round_trip signal_bytes o h

pub length_panel : (v : ℕ) (r : List ℕ) → length (panel_of v r) ≡ panel_length
unfolding panel_of le_bytes
length_panel v r = refl

-- ---- bytes of a part
bytes_part : (n k : ℕ) (l : List ℕ) → Bytes l → Bytes (take n (drop k l))
bytes_part n k l h i =
    elim (dec_lt i n) [
      | yes q ↦ subst (λ (x : ℕ). x < 256) (sym (get_or-take n (drop k l) i 0 q ∙ get_or-drop k l i 0)) (h (k + i))
      | no q ↦
          let z = get_or-eq_default (take n (drop k l)) 0 {n = i} (omega (arith, length-take n (drop k l))) in
          subst (λ (x : ℕ). x < 256) (sym z) (omega arith)
    ]

-- ---- what a panel shows of bytes fits its fields
module _ (v : ℕ) (r : List ℕ) (h : Bytes r) where
  abbrev code : ℕ
  code = code_in (answer_in r)

  abbrev inputs : ℕ
  inputs = difference (input_in r) v

  abbrev emitted : ℕ
  emitted = difference (emitted_in (answer_in r)) v

  number_lt : number_in r < 256 ^ number_bytes
  number_lt = le_number_lt r 0 number_bytes h

  inputs-lt : inputs < 256 ^ signal_bytes
  inputs-lt = difference_lt signal_count (input_in r) v (le_number_lt r input_at signal_bytes h)

  emitted-lt : emitted < 256 ^ signal_bytes
  emitted-lt =
      difference_lt signal_count (emitted_in (answer_in r)) v
      (le_number_lt (answer_in r) emitted_at signal_bytes (bytes_part answer_length answer_at r h))

  shown-number : le_number (take number_bytes (panel_of v r)) ≡ number_in r
  unfolding panel_of
  shown-number = panel-number (number_in r) code inputs emitted number_lt

  shown-code : get_or (panel_of v r) number_bytes 0 ≡ code
  unfolding panel_of
  shown-code = panel-code (number_in r) code inputs emitted

  shown-inputs : le_number (take signal_bytes (drop panel_input_at (panel_of v r))) ≡ inputs
  unfolding panel_of
  shown-inputs = panel-input (number_in r) code inputs emitted inputs-lt

  shown-emitted : le_number (take signal_bytes (drop panel_emitted_at (panel_of v r))) ≡ emitted
  unfolding panel_of
  shown-emitted = panel-emitted (number_in r) code inputs emitted emitted-lt

-- ---- two records and one panel
module _ (v : ℕ) (r s : List ℕ) (hr : Bytes r) (hs : Bytes s) where
  agree : panel_of v r ≡ panel_of v s → Agree v r s
  agree e = record {
    number = sym (shown-number v r hr) ∙ ap (λ (l : List ℕ). le_number (take number_bytes l)) e ∙ shown-number v s hs;
    code = sym (shown-code v r hr) ∙ ap (λ (l : List ℕ). get_or l number_bytes 0) e ∙ shown-code v s hs;
    inputs = (differences_same v (input_in r) (input_in s)).0
        (sym (shown-inputs v r hr) ∙ ap (λ (l : List ℕ). le_number (take signal_bytes (drop panel_input_at l))) e ∙ shown-inputs v s hs);
    emitted = (differences_same v (emitted_in (answer_in r)) (emitted_in (answer_in s))).0
        (sym (shown-emitted v r hr) ∙ ap (λ (l : List ℕ). le_number (take signal_bytes (drop panel_emitted_at l))) e ∙ shown-emitted v s hs);
  }

  alike : Agree v r s → panel_of v r ≡ panel_of v s
  unfolding panel_of
  alike a =
      rw (
        a.number,
        a.code,
        (differences_same v (input_in r) (input_in s)).1 a.inputs,
        (differences_same v (emitted_in (answer_in r)) (emitted_in (answer_in s))).1 a.emitted,
      )

  pub panel_alike : (panel_of v r ≡ panel_of v s) ↔ Agree v r s
  panel_alike = (agree, alike)

-- the bytes that the code puts together are the panel's
pub panel_made : (v : ℕ) (r : List ℕ) {n k i o : ℕ} → n ≡ number_in r → k ≡ code_in (answer_in r) → i ≡ difference (input_in r) v
    → o ≡ difference (emitted_in (answer_in r)) v → panel_bytes n k i o ≡ panel_of v r
unfolding panel_of
panel_made v r a b c d = rw (a, b, c, d)
