-- The reader accepts exactly what the writer writes, within 01's limits and with offsets as places.
use mathlib.Core.Path.{◌≡◌, refl, sym, ap, ◌∙◌}
use mathlib.Core.Logic.{◌↔◌}
use mathlib.Core.List.{List, [], ◌∷◌, ◌++◌, append-nil}
use Prim.Native.Nat.{ℕ}
use native.Mathlib.Omega.{arith}
use lib.ListN.{length, length-append}
use Rattle.spec_language.specs.Statement.{Statement}
use Rattle.spec_base.specs.Limits.{max_depth, max_signals}
use Rattle.spec_sequence.specs.Reader.{accepted, read}
use Rattle.spec_sequence.specs.Writer.{bytes_of, Within, PlacedAt, Written}
use Rattle.theory_sequence.proofs.Sound.{sound}
use Rattle.theory_sequence.proofs.Complete.{complete}

-- the reader accepts p at the front of the bytes exactly if they begin as the writer writes it
pub reader_writer : (d g a : ℕ) (bs : List ℕ) (p : Statement) (n : ℕ) → (read d g a bs ≡ accepted p n) ↔ Written d g a bs p n
reader_writer d g a bs p n = (
  sound d g a bs p n,
  λ w. ap (read d g a) w.bytes ∙ complete d g a p w.within w.placed w.rest ∙ ap (accepted p) (sym w.count),
)

nothing_left : (l : List ℕ) → length l ≡ 0 → l ≡ []
nothing_left [] e = refl
nothing_left (x ∷ l) e = absurd (omega arith)

-- 01: the reader accepts all bytes as p exactly if they are those of p, p is within the limits and its places are offsets
pub reads_what_is-written : (bs : List ℕ) (p : Statement)
    → (read max_depth max_signals 0 bs ≡ accepted p (length bs)) ↔ ((bs ≡ bytes_of p) × Within max_depth max_signals p × PlacedAt 0 p)
reads_what_is-written bs p = (forth, back)
  where
    forth : read max_depth max_signals 0 bs ≡ accepted p (length bs) → (bs ≡ bytes_of p) × Within max_depth max_signals p × PlacedAt 0 p
    forth e =
        let w = sound max_depth max_signals 0 bs p (length bs) e in
        let z : w.rest ≡ [] = nothing_left w.rest (omega (arith, w.count, ap length w.bytes ∙ length-append (bytes_of p) w.rest)) in
        (w.bytes ∙ ap (λ (l : List ℕ). bytes_of p ++ l) z ∙ append-nil (bytes_of p), w.within, w.placed)

    back : (bs ≡ bytes_of p) × Within max_depth max_signals p × PlacedAt 0 p → read max_depth max_signals 0 bs ≡ accepted p (length bs)
    back w =
        ap (read max_depth max_signals 0) (w.0 ∙ sym (append-nil (bytes_of p)))
        ∙ complete max_depth max_signals 0 p w.1 w.2 [] ∙ ap (λ (l : List ℕ). accepted p (length l)) (sym w.0)
