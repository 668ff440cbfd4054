use native.Mathlib.Omega.{arith}
use Rattle.files.proofs.Files.{no_input, an_input}
use Rattle.files.proofs.input_at.Goals as goal

pub returns-then-bytes-i : goal.returns-then-bytes-i
returns-then-bytes-i c =
    let a = c.args in
    let b = c.inputs_begin-at in
    no_input a.file.now a.i b.result b.ensures.value (omega arith)

pub returns : goal.returns
returns c =
    let a = c.args in
    let b = c.inputs_begin-at in
    an_input a.file.now a.i b.result c.get_le.result b.ensures.value c.get_le.ensures.value (omega arith)

pub returns-in_err-bytes : goal.returns-in_err-bytes
returns-in_err-bytes c =
    let a = c.args in
    let b = c.inputs_begin-at in
    rw c.from_residual.ensures (no_input a.file.now a.i b.result b.ensures.value (omega arith))
