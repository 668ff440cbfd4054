-- The fields that are sets, each put before the next.
use Prim.Native.Nat.{ℕ, ◌^◌, ◌<◌}
use native.Mathlib.Omega.{arith}
use mathlib.Core.Path.{◌≡◌, sym, ap, ◌∙◌, subst}
use mathlib.Core.List.{List, [], ◌∷◌, ◌++◌, append_assoc}
use Rattle.spec_base.specs.Limits.{word_labels}
use Rattle.spec_base.specs.Widths.{two_words}
use Rattle.spec_programs.specs.Text.{numeral, space, newline}
use Rattle.spec_programs.specs.Listing.{sets_of}
use Rattle.lines.specs.Buffer.{Prepended}
use Rattle.lines.proofs.Buffers.{before}
use Rattle.lines.proofs.Numerals.{numeral-split}

-- the labels from 64 on stand before the others
sets_text : (emitted low high : ℕ) → low < 2 ^ word_labels
    → (numeral 16 8 emitted ++ space ∷ []) ++ (numeral 16 16 high ++ (numeral 16 16 low ++ newline ∷ []))
    ≡ sets_of emitted (two_words word_labels low high)
unfolding two_words
sets_text emitted low high fits =
    ap (λ (t : List ℕ). (numeral 16 8 emitted ++ space ∷ []) ++ t)
    (sym (append_assoc (numeral 16 16 high) (numeral 16 16 low) (newline ∷ []))
    ∙ ap (λ (t : List ℕ). t ++ newline ∷ []) (sym (numeral-split 16 16 16 high low (omega arith) fits)))

pub sets-put : {a b c d : List ℕ} {end at high-at from : ℕ} (emitted low high : ℕ) → low < 2 ^ word_labels
    → Prepended a end (numeral 16 16 low ++ newline ∷ []) b at → Prepended b at (numeral 16 16 high) c high-at
    → Prepended c high-at (numeral 16 8 emitted ++ space ∷ []) d from → Prepended a end (sets_of emitted (two_words word_labels low high)) d from
sets-put {a} {d = d} {end} {from = from} emitted low high fits p q r =
    subst (λ (t : List ℕ). Prepended a end t d from) (sets_text emitted low high fits) (before (before p q) r)
