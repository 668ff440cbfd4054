-- An instant's records by its completion: what each arm of the code writes.
use Prim.Native.Nat.{ℕ}
use mathlib.Core.Path.{◌≡◌, sym, ap, ◌∙◌}
use Rattle.reaction.specs.declared.Completion.{Completion}
use Rattle.spec_tick.specs.Tick.{Outcome}
use Rattle.instants.specs.Written.{written_by}

pub arm : (k c : Completion) (o L m : ℕ) (result : Outcome) → k ≡ c → result ≡ written_by c o L m → result ≡ written_by k o L m
arm k c o L m result e h = h ∙ ap (λ (x : Completion). written_by x o L m) (sym e)
