use Prim.Native.Nat.{ℕ, ◌+◌}
use native.Mathlib.Omega.{arith}
use mathlib.Core.Path.{◌≡◌, ap, ◌∙◌, subst}
use Rattle.spec_tick.specs.Tick.{outcome}
use Rattle.spec_programs.specs.File.{sequence_in, read_back_in}
use Rattle.spec_programs.specs.Listing.{ticked}
use Rattle.spec_programs.specs.Stages as Listing
use Rattle.limits.specs.Rows.{call_number}
use Rattle.files.proofs.Files.{input_within}
use Rattle.listing.specs.declared.Stage.{Stage}
use Rattle.listing.specs.Stages.{stage_by, stage_after}
use Rattle.listing.specs.declared.Piece.{Piece}
use Rattle.listing.specs.Pieces.{Prints}
use Rattle.listing.proofs.Pieces.{printed, ticked_at, instant-turn}
use Rattle.listing.proofs.instant.Goals as goal

pub line_behind-line-requires : goal.line_behind-line-requires
line_behind-line-requires c =
    let a = c.args in
    omega (arith, input_within a.file.now a.i a.e c.requires)

pub overflow_add-i : goal.overflow_add-i
overflow_add-i c =
    let a = c.args in
    omega (arith, input_within a.file.now a.i a.e c.requires)

pub returns : goal.returns
returns c =
    let t = c.tick in
    let a = c.args in
    let f = a.file.now in
    let o : outcome (call_number t.result) t.new.state t.new.answer ≡ ticked (sequence_in f) (read_back_in f) a.state a.e
    = ticked_at a.state a.e t.ensures c.sequence.ensures c.read_back-read_back.ensures in
    let piece : Piece
    = record { line = c.line_behind-line.result; run = record { stage = c.following.result; state = t.new.state } } in
    subst (λ (u : Listing.Turn). Prints f u piece) (instant-turn f a.state t.new.state t.new.answer a.i a.e (call_number t.result) c.requires o)
    (printed f piece _ c.line_behind-line.ensures (ap (λ (g : Stage). stage_by f g t.new.state) (c.following.ensures ∙ ap (λ (n : ℕ). stage_after n (a.i + 1)) c.phase.ensures)))
