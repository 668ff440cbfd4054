-- The values by which the code answers, case by case, from the terms of the language. The residual is forgotten, and so is an error
-- beside a code that is not wrong: there is none (theory_language, wrong_is_error).
use Rattle.std.specs.Prelude.{ℕ, ◌+◌, ◌%◌, ◌≤◌, ◌<◌, min, ◌≡◌, false, List, length, get_or}
use Rattle.std.proofs.Math.Option.{none, some}
use Rattle.spec_base.specs.Limits.{reactions_count, litres_limit}
use Rattle.spec_base.specs.Sets.{join}
use Rattle.labels.specs.Labels.{labels_with}
use Rattle.spec_language.specs.Reaction.{is_wrong, emitted, code, labels, failed}
use Rattle.spec_language.specs.Errors.{Error}
use Rattle.spec_language.specs.Statement.{Statement}
use Rattle.spec_language.specs.Instants as Instants
use Rattle.theory_language.specs.InstantRules.{code_told, present_instant}
use Rattle.theory_language.specs.Traced as Traces
use Rattle.spec_language.specs.Reaction as rules
use Rattle.reaction.specs.Completions.{completion_of}
use Rattle.reaction.specs.declared.Reaction.{Reaction}

-- what 32 bits keep of a number: no accepted program takes more reactions (spec_tick, Shows.counted)
abbrev pub kept_of : ℕ → ℕ
kept_of n = n % reactions_count

-- litres up to the limit, and one more for all above it
abbrev pub capped_of : ℕ → ℕ
capped_of n = min n (litres_limit + 1)

abbrev pub reaction_of : Traces.Traced → Reaction
reaction_of (Traces.traced (Instants.instant r x n) a y) =
    record {
      emitted = emitted r;
      labels = labels_with (labels r);
      completion = completion_of (code r) x;
      reactions = kept_of n;
      asked = a;
    }

-- the reaction of p in an instant; it holds no litres, so any farm will do
abbrev pub reaction_to : Statement → (e : ℕ) → Reaction
reaction_to p e = reaction_of (Traces.start_traced 0 p e)

-- the reaction of a command without parts, which asks for the signals a and delivers y litres
abbrev pub alone : rules.Reaction → (a y : ℕ) → Traces.Traced
alone r a y = Traces.traced (Instants.instant r none 1) a y

-- the reaction of a command that fails, with its error
abbrev pub failed_with : Error → (reactions asked : ℕ) → Reaction
failed_with x n a =
    record {
      emitted = emitted failed;
      labels = labels_with (labels failed);
      completion = completion_of (code failed) (some x);
      reactions = n;
      asked = a;
    }

-- a command that changes nothing of its part but the number of reactions, and the signals asked for by b
abbrev pub counted_around : (b : ℕ) → Traces.Traced → Traces.Traced
counted_around b (Traces.traced i a y) = Traces.traced (present_instant i) (join a b) y

-- r is f of whatever trees the values stand for
abbrev pub FromOne : (f : Traces.Traced → Traces.Traced) (p r : Reaction) → Type 0
FromOne f p r = (t : Traces.Traced) → p ≡ reaction_of t → r ≡ reaction_of (f t)

abbrev pub FromTwo : (f : Traces.Traced → Traces.Traced → Traces.Traced) (p q r : Reaction) → Type 0
FromTwo f p q r = (t u : Traces.Traced) → p ≡ reaction_of t → q ≡ reaction_of u → r ≡ reaction_of (f t u)

-- ---- the litres of a farm, b before a tree reacts and a behind it
-- they stay within what is kept of litres; where the tree is not wrong, they are the sum with what it delivers, so kept
pub record Accumulates (b a : ℕ) (t : Traces.Traced) : Type 0 where
  pub bounded : b ≤ litres_limit + 1 → a ≤ litres_limit + 1
  pub summed : b ≤ litres_limit + 1 → is_wrong (code_told (Traces.instant_of t)) ≡ false → a ≡ capped_of (b + Traces.delivered_of t)

-- the same of the farm f in the lists of all farms' litres
pub record AccumulatesAt (f : ℕ) (b a : List ℕ) (t : Traces.Traced) : Type 0 where
  pub long : length a ≡ length b
  pub accumulates : f < length b → Accumulates (get_or b f 0) (get_or a f 0) t

-- r is the tree t, and the litres of the farm f go with it
abbrev pub Realizes : (f : ℕ) (b a : List ℕ) (r : Reaction) (t : Traces.Traced) → Type 0
Realizes f b a r t = (r ≡ reaction_of t) × AccumulatesAt f b a t
