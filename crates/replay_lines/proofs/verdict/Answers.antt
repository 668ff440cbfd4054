use mathlib.Core.Path.{refl, subst}
use Rattle.lines.specs.Shown.{Displays}
use Rattle.replay_lines.proofs.Verdicts.{cut_file, refused, accepted, differs}
use Rattle.replay_lines.proofs.verdict.Goals as goal

pub returns-then-n-gt-MAX_FILE : goal.returns-then-n-gt-MAX_FILE
returns-then-n-gt-MAX_FILE c =
    subst (Displays _) (cut_file c.args.file.now _ c.inputs_begin-at.ensures.value c.then-n-gt-MAX_FILE.either) c.cut.ensures

pub returns-in-Err : goal.returns-in-Err
returns-in-Err c =
    subst (Displays _)
    (refused c.args.file.now _ c.inputs_begin-at.ensures.value c.if-n-gt-MAX_FILE.false c.if-n-at.false _ _ _ refl c.sequence.ensures c.read_back.ensures
    c.in-Err.refusal c.in-Err.ensures)
    (rw (← c.row_number.ensures) c.refusal.ensures)

pub returns-in-Ok-eq0 : goal.returns-in-Ok-eq0
returns-in-Ok-eq0 c =
    subst (Displays _)
    (accepted c.args.file.now _ c.inputs_begin-at.ensures.value c.if-n-gt-MAX_FILE.false c.if-n-at.false _ _ _ refl c.sequence.ensures c.read_back.ensures
    c.in-Ok-eq0.field-0-test c.in-Ok-eq0.ensures)
    c.numbered.ensures

pub returns-in-Ok : goal.returns-in-Ok
returns-in-Ok c =
    subst (Displays _)
    (differs c.args.file.now _ c.inputs_begin-at.ensures.value c.if-n-gt-MAX_FILE.false c.if-n-at.false _ _ _ refl c.sequence.ensures c.read_back.ensures
    c.in-Ok.place-test.1 c.in-Ok.ensures)
    c.numbered-in-Ok.ensures
