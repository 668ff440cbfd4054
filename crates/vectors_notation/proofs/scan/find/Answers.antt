use Rattle.std.proofs.Common.{◌≡◌, ◌∙◌, ap, ℕ, ◌+◌, rules, tests, slice_range}
use Rattle.std.specs.List.{position}
use Rattle.std.specs.Prelude.{◌==◌}
use Rattle.std.proofs.lemmas.Iterator.{YieldsList-from_slice}
use Rattle.std.proofs.lemmas.Iterator.Search.{position_from_yields_List}
use Rattle.vectors_notation.proofs.Scanning.{found}
use Rattle.vectors_notation.proofs.scan.find.Goals as goal

pub returns-clause-place : goal.returns-clause-place
returns-clause-place c =
    let part = slice_range c.args.bytes.now c.args.from c.args.end in
    let p : c.position.result ≡ position (λ (x : ℕ). x == c.args.byte) part =
    position_from_yields_List (λ (x : ℕ). x == c.args.byte) _ _ c.position.result c.position.ensures.ran (YieldsList-from_slice _ c.iter.ensures.rest)
    (λ x b q k. search (rules, tests)) in
    ap (λ (n : ℕ). c.args.from + n) (c.unwrap_or.ensures ∙ rw p (found c.args.byte part))
