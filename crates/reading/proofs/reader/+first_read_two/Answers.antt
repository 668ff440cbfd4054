use Prim.Native.Nat.{ℕ, ◌+◌, ◌-◌, ◌≤◌, ◌<◌}
use mathlib.Core.Path.{◌≡◌, refl, sym, ap, ◌∙◌, subst, subst₂}
use mathlib.Core.Bool.{Bool, true, false}
use lib.Dec.{eqb}
use Rattle.commands.specs.Counts.{parts_at, is_leaf}
use mathlib.Core.List.{List}
use lib.ListN.{length, get_or, drop, set, length-set}
use native.Mathlib.Omega.{arith}
use borrow.Author.Tests.{eqb-true, eqb-false}
use Rattle.spec_sequence.specs.Commands.{command_of, partCount, head_length, declares}
use Rattle.spec_sequence.specs.Reader.{read as reads}
use Rattle.layout.specs.Layout.{rest}
use Rattle.layout.specs.Walk.{row_unit}
use Rattle.layout.specs.Walk.{Readable, Done}
use Rattle.theory_sequence.proofs.Table.{byte_of, byte_is}
use Rattle.commands.proofs.Counts.{with_parts}
use Rattle.layout.proofs.Parts.{rest-is}
use Rattle.layout.proofs.Walk.{Heading, heading, narrow, byte, head-fits, onward, forward, within, again, fitting, done_empty, done_bad, done-deep, done-signals, done-one, done-signal, done-pair, Firsts, firsts, first_refused, both}
use Rattle.reading.proofs.Parting.{two_bare, choice, one_part, declaration, plain}
use Rattle.reading.specs.Steps.{isChoice, is_declaration}
use Rattle.reading.proofs.reader.+first_read_two.Goals as goal

-- ---- what is known once the command is seen to have parts and a level
level : {d : ℕ} {b : Bool} → b ≡ eqb d 0 → b ≡ false → (d ≡ 0 → ⊥)
level {d} e f = eqb-false d 0 (sym e ∙ f)

module _ {s : List ℕ} {w : ℕ} (h : Heading s w) where
  parted : {b : Bool} → b ≡ is_leaf (parts_at (get_or s 0 0)) → b ≡ false → (partCount h.of ≡ 0 → ⊥)
  parted e f = with_parts h.of (byte h) (sym e ∙ f)

  byte_at : get_or s 0 0 ≡ byte_of h.of
  byte_at = byte_is (get_or s 0 0) h.of (byte h)

  fits_in : 1 ≤ length s
  fits_in = omega (arith, head-fits h)

  -- the command of two bytes
  wide_fits : 2 ≡ head_length h.of → 2 ≤ length s
  wide_fits e = omega (arith, e, h.wide, head-fits h)

  module _ (n : partCount h.of ≡ 0 → ⊥) {b : Bool} where
    chosen : b ≡ isChoice (command_of (get_or s 0 0)) → b ≡ true → (partCount h.of ≡ 2) × (2 ≡ head_length h.of)
    chosen e f = choice h.of n (sym (e ∙ ap isChoice (byte h)) ∙ f)

    declared : b ≡ is_declaration (command_of (get_or s 0 0)) → b ≡ true
        → (partCount h.of ≡ 1) × (2 ≡ head_length h.of) × (declares h.of ≡ 1)
    declared e f = declaration h.of n (sym (e ∙ ap is_declaration (byte h)) ∙ f)

-- ---- the first part, of the bytes behind the command
module _ (d g b : ℕ) (s t u m n : List ℕ) (r : ℕ) where
  first-told : Done g b t u m n (reads d g b (rest 0 s)) r → Done g b t u m n (reads d g b s) r
  first-told h = subst (λ (l : List ℕ). Done g b t u m n (reads d g b l) r) (rest-is 0 s) h

  first-is : Readable g b s t m → Done g b t u m n (reads d g b (rest 0 s)) r → r < row_unit → Firsts d g b s t u m n r
  first-is can h small = firsts d g b s t u m n r can (first-told h) small

pub first-ahead-requires : goal.first-ahead-requires
first-ahead-requires t c = fitting c.requires

pub first-returns-in-Some : goal.first-returns-in-Some
first-returns-in-Some t c = c.in-Some.ensures c.args.signals c.args.second.now

pub first-read-requires : goal.first-read-requires
first-read-requires t c = (
  omega (arith, c.decreases),
  subst (λ (m : List ℕ). Readable c.args.signals c.args.at (rest 0 c.args.s.now) c.args.second.now m)
      (sym c.in_default.ensures) (again c.requires),
)

pub first-returns : goal.first-returns
first-returns t c =
    subst₂ (λ (m l : List ℕ). Done c.args.signals c.args.at c.args.second.now c.read.new.second m c.read.new.notes
    (reads c.args.depth c.args.signals c.args.at l) c.read.result)
    c.in_default.ensures (rest-is 0 c.args.s.now) c.read.ensures

pub read-returns-then-s-eq0 : goal.read-returns-then-s-eq0
read-returns-then-s-eq0 t c = done_empty c.args.depth c.args.signals c.args.at c.args.s.now c.args.second.now c.args.second.now c.args.notes.now c.args.notes.now c.if-s-eq0.true

pub read-leaf-requires : goal.read-leaf-requires
read-leaf-requires t c =
    let n : 0 < length c.args.s.now = omega (arith, c.if-s-eq0.false) in
    record { s_nonzero = (n, refl); b_value = sym c.is_leaf.ensures ∙ c.if-is_leaf.true; fitting = fitting c.requires }

pub read-returns-then-is_leaf : goal.read-returns-then-is_leaf
read-returns-then-is_leaf t c = c.leaf.ensures c.args.signals c.args.second.now

pub read-width-w-requires : goal.read-width-w-requires
read-width-w-requires t c =
    let n : 0 < length c.args.s.now = omega (arith, c.if-s-eq0.false) in
    record { s_nonzero = (n, refl); b_value = sym c.is_leaf.ensures ∙ c.if-is_leaf.false }

pub read-returns-then-w-ge-ROW_UNIT : goal.read-returns-then-w-ge-ROW_UNIT
read-returns-then-w-ge-ROW_UNIT t c = done_bad c.args.depth c.args.signals c.args.at c.args.s.now c.args.second.now c.args.second.now c.args.notes.now c.args.notes.now c.width-w.result c.requires.fits c.width-w.ensures c.if-w-ge-ROW_UNIT.true

pub read-returns-then-is_deep : goal.read-returns-then-is_deep
read-returns-then-is_deep t c = done-deep (heading c.args.s.now c.width-w.result c.width-w.ensures c.if-w-ge-ROW_UNIT.false) c.args.depth c.args.signals c.args.at c.args.second.now c.args.second.now c.args.notes.now c.args.notes.now (eqb-true _ 0 (sym c.is_deep.ensures ∙ c.if-is_deep.true))

pub read-slice_bounds-two-count : goal.read-slice_bounds-two-count
read-slice_bounds-two-count t c =
    let h = heading c.args.s.now c.width-w.result c.width-w.ensures c.if-w-ge-ROW_UNIT.false in
    omega (arith, fits_in h)

pub read-slice_bounds-two-start : goal.read-slice_bounds-two-start
read-slice_bounds-two-start t c =
    let h = heading c.args.s.now c.width-w.result c.width-w.ensures c.if-w-ge-ROW_UNIT.false in
    omega (arith, fits_in h)

pub read-overflow_sub-depth : goal.read-overflow_sub-depth
read-overflow_sub-depth t c = let n = level c.is_deep.ensures c.if-is_deep.false in omega (arith, n)

pub read-two-requires : goal.read-two-requires
read-two-requires t c =
    let h = heading c.args.s.now c.width-w.result c.width-w.ensures c.if-w-ge-ROW_UNIT.false in
    (omega (arith, c.decreases, level c.is_deep.ensures c.if-is_deep.false), (omega arith, forward 1 (fits_in h) c.requires))

pub read-returns-then-b-lt6 : goal.read-returns-then-b-lt6
read-returns-then-b-lt6 t c =
    let h = heading c.args.s.now c.width-w.result c.width-w.ensures c.if-w-ge-ROW_UNIT.false in
    let k = two_bare h.of (parted h c.is_leaf.ensures c.if-is_leaf.false) (omega (arith, byte_at h, c.if-b-lt6.true)) in
    done-pair (narrow h k.1) c.args.depth c.args.signals c.args.at (level c.is_deep.ensures c.if-is_deep.false) k.0 _ (rest-is 1 c.args.s.now) c.args.second.now c.two.new.second c.args.notes.now c.two.new.notes c.two.result c.two.ensures

pub read-slice_bounds-two-count-then-choice : goal.read-slice_bounds-two-count-then-choice
read-slice_bounds-two-count-then-choice t c =
    let h = heading c.args.s.now c.width-w.result c.width-w.ensures c.if-w-ge-ROW_UNIT.false in
    omega (arith, wide_fits h (chosen h (parted h c.is_leaf.ensures c.if-is_leaf.false) c.is_choice-choice.ensures c.if-choice.true).1)

pub read-slice_bounds-two-start-then-choice : goal.read-slice_bounds-two-start-then-choice
read-slice_bounds-two-start-then-choice t c =
    let h = heading c.args.s.now c.width-w.result c.width-w.ensures c.if-w-ge-ROW_UNIT.false in
    omega (arith, wide_fits h (chosen h (parted h c.is_leaf.ensures c.if-is_leaf.false) c.is_choice-choice.ensures c.if-choice.true).1)

pub read-overflow_sub-depth-then-choice : goal.read-overflow_sub-depth-then-choice
read-overflow_sub-depth-then-choice t c = let n = level c.is_deep.ensures c.if-is_deep.false in omega (arith, n)

pub read-two-requires-then-choice : goal.read-two-requires-then-choice
read-two-requires-then-choice t c =
    let h = heading c.args.s.now c.width-w.result c.width-w.ensures c.if-w-ge-ROW_UNIT.false in
    (omega (arith, c.decreases, level c.is_deep.ensures c.if-is_deep.false), (omega arith, forward 2 (wide_fits h (chosen h (parted h c.is_leaf.ensures c.if-is_leaf.false) c.is_choice-choice.ensures c.if-choice.true).1) c.requires))

pub read-returns-then-choice : goal.read-returns-then-choice
read-returns-then-choice t c =
    let h = heading c.args.s.now c.width-w.result c.width-w.ensures c.if-w-ge-ROW_UNIT.false in
    let k = chosen h (parted h c.is_leaf.ensures c.if-is_leaf.false) c.is_choice-choice.ensures c.if-choice.true in
    done-pair (narrow h k.1) c.args.depth c.args.signals c.args.at (level c.is_deep.ensures c.if-is_deep.false) k.0 _ (rest-is 2 c.args.s.now) c.args.second.now c.two-then-choice.new.second c.args.notes.now c.two-then-choice.new.notes c.two-then-choice.result c.two-then-choice.ensures

pub read-declare-requires : goal.read-declare-requires
read-declare-requires t c = c.requires.allowed

pub read-returns-in_default : goal.read-returns-in_default
read-returns-in_default t c =
    let h = heading c.args.s.now c.width-w.result c.width-w.ensures c.if-w-ge-ROW_UNIT.false in
    done-signals h c.args.depth c.args.signals c.args.at (level c.is_deep.ensures c.if-is_deep.false) c.args.second.now c.args.second.now c.args.notes.now c.declare.new.notes 1 (sym (declared h (parted h c.is_leaf.ensures c.if-is_leaf.false) c.declares-declaring.ensures c.if-declaring.true).2) (omega (arith, c.in_default.ensures))

pub read-slice_bounds-read-count : goal.read-slice_bounds-read-count
read-slice_bounds-read-count t c =
    let h = heading c.args.s.now c.width-w.result c.width-w.ensures c.if-w-ge-ROW_UNIT.false in
    omega (arith, wide_fits h (declared h (parted h c.is_leaf.ensures c.if-is_leaf.false) c.declares-declaring.ensures c.if-declaring.true).1)

pub read-slice_bounds-read-start : goal.read-slice_bounds-read-start
read-slice_bounds-read-start t c =
    let h = heading c.args.s.now c.width-w.result c.width-w.ensures c.if-w-ge-ROW_UNIT.false in
    omega (arith, wide_fits h (declared h (parted h c.is_leaf.ensures c.if-is_leaf.false) c.declares-declaring.ensures c.if-declaring.true).1)

pub read-overflow_sub-depth-then-declaring : goal.read-overflow_sub-depth-then-declaring
read-overflow_sub-depth-then-declaring t c = let n = level c.is_deep.ensures c.if-is_deep.false in omega (arith, n)

pub read-read-requires : goal.read-read-requires
read-read-requires t c =
    let h = heading c.args.s.now c.width-w.result c.width-w.ensures c.if-w-ge-ROW_UNIT.false in
    let l = c.in-Some.ensures in
    (omega (arith, c.decreases, level c.is_deep.ensures c.if-is_deep.false), within 2 _ _ (wide_fits h (declared h (parted h c.is_leaf.ensures c.if-is_leaf.false) c.declares-declaring.ensures c.if-declaring.true).1) (omega (arith, l.0, l.1)) l.2 c.requires)

pub read-returns-then-declaring : goal.read-returns-then-declaring
read-returns-then-declaring t c =
    let h = heading c.args.s.now c.width-w.result c.width-w.ensures c.if-w-ge-ROW_UNIT.false in
    let k = declared h (parted h c.is_leaf.ensures c.if-is_leaf.false) c.declares-declaring.ensures c.if-declaring.true in
    let l = c.in-Some.ensures in
    done-signal (narrow h k.1) c.args.depth c.args.signals c.args.at (level c.is_deep.ensures c.if-is_deep.false) k.0 k.2 l.0 c.requires.allowed _
    (rest-is 2 c.args.s.now) c.args.second.now c.read.new.second c.args.notes.now c.declare.new.notes c.read.new.notes c.read.result l.2 (rw l.1 at c.read.ensures)

pub read-slice_bounds-read-count-2 : goal.read-slice_bounds-read-count-2
read-slice_bounds-read-count-2 t c =
    let h = heading c.args.s.now c.width-w.result c.width-w.ensures c.if-w-ge-ROW_UNIT.false in
    omega (arith, head-fits h)

pub read-slice_bounds-read-start-2 : goal.read-slice_bounds-read-start-2
read-slice_bounds-read-start-2 t c =
    let h = heading c.args.s.now c.width-w.result c.width-w.ensures c.if-w-ge-ROW_UNIT.false in
    omega (arith, head-fits h)

pub read-overflow_sub-depth-2 : goal.read-overflow_sub-depth-2
read-overflow_sub-depth-2 t c = let n = level c.is_deep.ensures c.if-is_deep.false in omega (arith, n)

pub read-read-requires-2 : goal.read-read-requires-2
read-read-requires-2 t c =
    let h = heading c.args.s.now c.width-w.result c.width-w.ensures c.if-w-ge-ROW_UNIT.false in
    (omega (arith, c.decreases, level c.is_deep.ensures c.if-is_deep.false), forward _ (head-fits h).1 c.requires)

pub read-returns : goal.read-returns
read-returns t c =
    let h = heading c.args.s.now c.width-w.result c.width-w.ensures c.if-w-ge-ROW_UNIT.false in
    let k = h.of in
    done-one h c.args.depth c.args.signals c.args.at (level c.is_deep.ensures c.if-is_deep.false) (one_part k (parted h c.is_leaf.ensures c.if-is_leaf.false) (omega (arith, byte_at h, c.if-b-lt6.false)) (sym (c.is_choice-choice.ensures ∙ ap isChoice (byte h)) ∙ c.if-choice.false))
    (plain k (parted h c.is_leaf.ensures c.if-is_leaf.false) (sym (c.declares-declaring.ensures ∙ ap is_declaration (byte h)) ∙ c.if-declaring.false)) _ (rest-is _ c.args.s.now) c.args.second.now c.read-2.new.second c.args.notes.now c.read-2.new.notes c.read-2.result c.read-2.ensures

pub two-first-m-requires : goal.two-first-m-requires
two-first-m-requires t c =
    (omega (arith, c.decreases), again c.requires.readable)

pub two-returns-then-m-ge-ROW_UNIT : goal.two-returns-then-m-ge-ROW_UNIT
two-returns-then-m-ge-ROW_UNIT t c k x p e =
    first_refused c.args.depth c.args.signals (c.args.at + c.args.w) c.args.s.now c.args.second.now c.first-m.new.second c.args.notes.now c.first-m.new.notes c.first-m.result c.requires.readable (first-told c.args.depth c.args.signals (c.args.at + c.args.w) c.args.s.now c.args.second.now c.first-m.new.second c.args.notes.now c.first-m.new.notes c.first-m.result c.first-m.ensures) c.args.at x k (ap (λ (w : ℕ). c.args.at + w) e) c.if-m-ge-ROW_UNIT.true

pub two-mark-requires : goal.two-mark-requires
two-mark-requires t c =
    let f = first-is c.args.depth c.args.signals (c.args.at + c.args.w) c.args.s.now c.args.second.now c.first-m.new.second c.args.notes.now c.first-m.new.notes c.first-m.result c.requires.readable c.first-m.ensures c.if-m-ge-ROW_UNIT.false in
    (omega (arith, c.requires.w_nonzero, c.requires.readable.fits), omega (arith, f.place, c.requires.w_nonzero), omega (arith, f.place, f.within, c.requires.readable.fits), omega (arith, f.place, f.within, f.few, c.requires.readable.fits))

pub two-overflow_sub-n : goal.two-overflow_sub-n
two-overflow_sub-n t c = let f = first-is c.args.depth c.args.signals (c.args.at + c.args.w) c.args.s.now c.args.second.now c.first-m.new.second c.args.notes.now c.first-m.new.notes c.first-m.result c.requires.readable c.first-m.ensures c.if-m-ge-ROW_UNIT.false in omega (arith, f.place, f.within)

pub two-overflow_sub-n-2 : goal.two-overflow_sub-n-2
two-overflow_sub-n-2 t c = let f = first-is c.args.depth c.args.signals (c.args.at + c.args.w) c.args.s.now c.args.second.now c.first-m.new.second c.args.notes.now c.first-m.new.notes c.first-m.result c.requires.readable c.first-m.ensures c.if-m-ge-ROW_UNIT.false in omega (arith, f.place, f.within)

pub two-slice_bounds-read-count : goal.two-slice_bounds-read-count
two-slice_bounds-read-count t c = let f = first-is c.args.depth c.args.signals (c.args.at + c.args.w) c.args.s.now c.args.second.now c.first-m.new.second c.args.notes.now c.first-m.new.notes c.first-m.result c.requires.readable c.first-m.ensures c.if-m-ge-ROW_UNIT.false in omega (arith, f.place, f.within)

pub two-slice_bounds-read-start : goal.two-slice_bounds-read-start
two-slice_bounds-read-start t c = let f = first-is c.args.depth c.args.signals (c.args.at + c.args.w) c.args.s.now c.args.second.now c.first-m.new.second c.args.notes.now c.first-m.new.notes c.first-m.result c.requires.readable c.first-m.ensures c.if-m-ge-ROW_UNIT.false in omega (arith, f.place, f.within)

pub two-read-requires : goal.two-read-requires
two-read-requires t c =
    let f = first-is c.args.depth c.args.signals (c.args.at + c.args.w) c.args.s.now c.args.second.now c.first-m.new.second c.args.notes.now c.first-m.new.notes c.first-m.result c.requires.readable c.first-m.ensures c.if-m-ge-ROW_UNIT.false in
    let x = c.first-m.result in
    let u = c.first-m.new.second in
    (omega (arith, c.decreases), onward _ (c.args.at + c.args.w) x (x - c.args.at - c.args.w) c.args.s.now _ _ (omega (arith, f.place)) (omega (arith, f.place, f.within)) c.requires.readable.fits f.few (ap length c.mark.ensures ∙ length-set (set u c.args.at x) (x - 1) _ ∙ length-set u c.args.at x ∙ f.entered.long ∙ c.requires.readable.long) f.noted c.requires.readable.allowed)

pub two-returns : goal.two-returns
two-returns t c k x p e =
    let f = first-is c.args.depth c.args.signals (c.args.at + c.args.w) c.args.s.now c.args.second.now c.first-m.new.second c.args.notes.now c.first-m.new.notes c.first-m.result c.requires.readable c.first-m.ensures c.if-m-ge-ROW_UNIT.false in
    let m = c.first-m.result in
    let n = m - c.args.at - c.args.w in
    let skipped : n ≡ m - (c.args.at + c.args.w) = omega arith in
    both c.args.depth c.args.signals (c.args.at + c.args.w) c.args.s.now c.args.second.now c.first-m.new.second c.args.notes.now c.first-m.new.notes c.first-m.result c.requires.readable (first-told c.args.depth c.args.signals (c.args.at + c.args.w) c.args.s.now c.args.second.now c.first-m.new.second c.args.notes.now c.first-m.new.notes c.first-m.result c.first-m.ensures) c.args.at x k (ap (λ (w : ℕ). c.args.at + w) e) p f
    (omega (arith, f.place, f.within, c.requires.readable.fits, c.requires.readable.long, f.entered.long))
    _ (rest-is n c.args.s.now ∙ ap (λ (j : ℕ). drop j c.args.s.now) skipped) c.read.new.second c.read.new.notes c.read.result (rw c.mark.ensures at c.read.ensures)
