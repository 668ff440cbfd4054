-- What the record of an instant is compared with, and where the machine stands after it: the form for the code.
use Rattle.std.specs.Prelude.{ℕ, ◌≡◌, true, false, List, Option, Some, None, Result, Ok, Err}
use Rattle.labels.specs.Labels.{label_set}
use Rattle.labels.specs.declared.Labels.{Labels}
use Rattle.reaction.specs.declared.Completion.{Completion}
use Rattle.reaction.specs.declared.Completion.TheVariants.{Ended, Waiting, Leaving, Wrong}
use Rattle.reaction.specs.declared.Reaction.{Reaction}
use Rattle.validity.specs.Activity.{Ranked, Masked}
use Rattle.instants.specs.Written.{writtenFrom}
use Rattle.limits.specs.declared.rows.Refusal.{Refusal}
use Rattle.limits.specs.declared.rows.Refusal.TheVariants.{Over}
use Rattle.program.specs.declared.Start.{Start}
use Rattle.program.specs.declared.Start.TheVariants as starts
use Rattle.spec_tick.specs.Recording.{record_from}
use Rattle.spec_replay.specs.Replay.{same}

-- ---- where the machine stands after an instant
-- the labels at which it waits have ranks
abbrev pub RankedAfter : (notes : List ℕ) → Completion → (L : ℕ) → Type 0
RankedAfter notes Ended L = Unit {0}
RankedAfter notes Waiting L = Ranked notes L
RankedAfter notes (Leaving n) L = Unit {0}
RankedAfter notes (Wrong kind place) L = Unit {0}

abbrev pub StandsAfter : (notes : List ℕ) → Completion → (L : ℕ) → Result Start Refusal → Type 0
StandsAfter notes Ended L s = s ≡ Err Over
StandsAfter notes Waiting L s = (m : Labels) × (s ≡ Ok (starts.Waiting m)) × Masked notes L (label_set m)
StandsAfter notes (Leaving n) L s = s ≡ Err Over
StandsAfter notes (Wrong kind place) L s = s ≡ Err Over

-- the record r against that of instant n on e, and where the machine then stands
abbrev pub Compared : (notes : List ℕ) (n e : ℕ) (r : List ℕ) (i : Reaction) → Option (Result Start Refusal) → Type 0
Compared notes n e r i None = same r (record_from n e (writtenFrom i)) ≡ false
Compared notes n e r i (Some s) =
    (same r (record_from n e (writtenFrom i)) ≡ true) × StandsAfter notes i.completion (label_set i.labels) s
