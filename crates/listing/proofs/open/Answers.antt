use mathlib.Core.Path.{refl, sym, ap₂, ◌∙◌}
use Rattle.std.proofs.lemmas.Result.{err_from_is_err_and}
use Rattle.spec_sequence.specs.Check.{check_of}
use Rattle.files.proofs.Files.{file_cut, file_runs, file_refused}
use Rattle.listing.proofs.open.Goals as goal
use Rattle.limits.proofs.Refusals.{row_not_0}

pub returns-then-not-is_whole : goal.returns-then-not-is_whole
returns-then-not-is_whole c = file_cut c.args.file.now (sym c.is_whole.ensures ∙ c.if-not-is_whole.true)

-- past the test for a whole file: the check's verdict on the sequence with the read-back set
pub returns-in_err-verdict : goal.returns-in_err-verdict
returns-in_err-verdict c =
    let p = err_from_is_err_and c.from_residual.result c.from_residual.ensures.1 in
    rw (p.1, p.2) (file_refused c.args.file.now _ (sym c.is_whole.ensures ∙ c.if-not-is_whole.false)
    (c.in_err-verdict.ensures ∙ ap₂ check_of c.sequence.ensures c.read_back.ensures) (row_not_0 _))

pub returns : goal.returns
returns c =
    file_runs c.args.file.now 0 (sym c.is_whole.ensures ∙ c.if-not-is_whole.false)
    (c.in_ok-verdict.ensures ∙ ap₂ check_of c.sequence.ensures c.read_back.ensures) refl
