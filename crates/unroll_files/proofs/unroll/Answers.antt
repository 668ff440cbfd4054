use Prim.Native.Nat.{ℕ}
use mathlib.Core.List.{List}
use mathlib.Core.Path.{sym, ap₂, ◌∙◌}
use Rattle.std.proofs.lemmas.Result.{err_from_is_err_and}
use Rattle.spec_unroll.specs.Call.{unroll_of}
use Rattle.limits.proofs.Refusals.{row_not_0}
use Rattle.unroll_files.proofs.Outputs.{cut-output, written-output, refused-output}
use Rattle.unroll_files.proofs.unroll.Goals as goal

pub returns-then-not-is_whole : goal.returns-then-not-is_whole
returns-then-not-is_whole c =
    let a = c.args in
    cut-output a.file.now a.buffer.now (sym c.is_whole.ensures ∙ c.if-not-is_whole.true)

pub returns-in_err-unroll : goal.returns-in_err-unroll
returns-in_err-unroll c =
    let a = c.args in
    let p = err_from_is_err_and c.from_residual.result c.from_residual.ensures.1 in
    rw (p.1, p.2)
    (refused-output a.file.now a.buffer.now (sym c.is_whole.ensures ∙ c.if-not-is_whole.false)
    (c.in_err-unroll.ensures ∙ ap₂ (λ (s : List ℕ) (r : ℕ). unroll_of s r a.buffer.now) c.sequence.ensures c.read_back.ensures) (row_not_0 _))

pub returns : goal.returns
returns c =
    let a = c.args in
    written-output a.file.now a.buffer.now (sym c.is_whole.ensures ∙ c.if-not-is_whole.false)
    (c.in_ok-unroll.ensures ∙ ap₂ (λ (s : List ℕ) (r : ℕ). unroll_of s r a.buffer.now) c.sequence.ensures c.read_back.ensures)
