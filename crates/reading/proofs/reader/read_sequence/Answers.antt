use Prim.Native.Nat.{ℕ}
use mathlib.Core.Path.{subst}
use mathlib.Core.List.{List}
use native.Mathlib.Omega.{arith}
use Rattle.spec_base.specs.Limits.{max_depth, max_signals}
use Rattle.spec_sequence.specs.Reader.{read}
use Rattle.layout.specs.Layout.{rest}
use Rattle.layout.specs.Walk.{Done}
use Rattle.layout.proofs.Parts.{rest-is}
use Rattle.reading.proofs.Reading.{beginning, packs, reads-refused, most-fits, reads-accepted}
use Rattle.reading.proofs.reader.read_sequence.Goals as goal

-- what was read, of the bytes themselves
told : (s t u m n : List ℕ) (r : ℕ) → Done max_signals 0 t u m n (read max_depth max_signals 0 (rest 0 s)) r
    → Done max_signals 0 t u m n (read max_depth max_signals 0 s) r
told s t u m n r h = subst (λ (l : List ℕ). Done max_signals 0 t u m n (read max_depth max_signals 0 l) r) (rest-is 0 s) h

pub read-m-requires : goal.read-m-requires
read-m-requires c =
    beginning c.args.s.now _ _ c.requires.s_len_bound c.requires.second_len c.requires.notes_value

pub refusal_in-requires : goal.refusal_in-requires
refusal_in-requires c =
    packs _ _ _ _ _ _ c.requires.s_len_bound c.requires.second_len c.requires.notes_value (told c.args.s.now c.args.second.now c.read-m.new.second c.args.notes.now c.read-m.new.notes c.read-m.result c.read-m.ensures) c.if-m-ge-ROW_UNIT.true

pub returns-then-m-ge-ROW_UNIT : goal.returns-then-m-ge-ROW_UNIT
returns-then-m-ge-ROW_UNIT c =
    reads-refused _ _ _ _ _ _ c.requires.s_len_bound c.requires.second_len c.requires.notes_value (told c.args.s.now c.args.second.now c.read-m.new.second c.args.notes.now c.read-m.new.notes c.read-m.result c.read-m.ensures) c.if-m-ge-ROW_UNIT.true _ c.refusal_in.ensures

pub most-requires : goal.most-requires
most-requires c =
    most-fits _ _ _ _ _ _ c.requires.s_len_bound c.requires.second_len c.requires.notes_value (told c.args.s.now c.args.second.now c.read-m.new.second c.args.notes.now c.read-m.new.notes c.read-m.result c.read-m.ensures) c.if-m-ge-ROW_UNIT.false

pub overflow_sub-result : goal.overflow_sub-result
overflow_sub-result c =
    omega (arith, most-fits _ _ _ _ _ _ c.requires.s_len_bound c.requires.second_len c.requires.notes_value (told c.args.s.now c.args.second.now c.read-m.new.second c.args.notes.now c.read-m.new.notes c.read-m.result c.read-m.ensures) c.if-m-ge-ROW_UNIT.false, c.most.ensures)

pub returns : goal.returns
returns c =
    rw c.most.ensures (reads-accepted _ _ _ _ _ _ c.requires.s_len_bound c.requires.second_len c.requires.notes_value (told c.args.s.now c.args.second.now c.read-m.new.second c.args.notes.now c.read-m.new.notes c.read-m.result c.read-m.ensures) c.if-m-ge-ROW_UNIT.false)
