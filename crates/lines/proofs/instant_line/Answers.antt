use mathlib.Core.Path.{refl, ap₂, ◌∙◌}
use Rattle.spec_base.specs.Limits.{word_labels}
use Rattle.spec_base.specs.Widths.{two_words}
use Rattle.sets.proofs.Words.{words_of}
use Rattle.labels.specs.Labels.{label_set}
use Rattle.lines.proofs.Fields.{Fields, shown_row}
use Rattle.lines.proofs.instant_line.Goals as goal

pub returns : goal.returns
returns c =
    let n = c.put_numbers-from in
    let s = c.put_sets-at in
    let a = c.args in
    let fields : Fields a.state.now a.answer.now (two_words word_labels c.low_word-low.result c.high_word-high.result) c.emitted-emitted.result c.place-place.result c.kind-kind.result c.code-code.result
    = record {
      labels_are =
          ap₂ (two_words word_labels) c.low_word-low.ensures c.high_word-high.ensures
          ∙ words_of word_labels (label_set c.labels-labels.result) ∙ c.labels-labels.ensures;
      emitted_are = c.emitted-emitted.ensures;
      place_is = c.place-place.ensures;
      kind_is = c.kind-kind.ensures;
      code_is = c.code-code.ensures;
    } in
    shown_row a.instant fields _ refl (n.auto.line ∙ s.auto.line) s.ensures.prepended n.ensures
