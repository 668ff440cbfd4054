-- The shared ceiling (02, item 8) over lists of calls: which arguments a host can pass, and the reactions of one tick of each bay.
use Rattle.std.specs.Prelude.{ℕ, ◌+◌, ◌^◌, ◌<◌, ◌≡◌, Bool, true, false, cond, List, [], ◌∷◌, eqb}
use Rattle.spec_base.specs.Limits.{signal_bytes, name_bytes}
use Rattle.spec_tick.specs.AnswerRecord.{reactions_in}
use Rattle.spec_bay.specs.Called.{Called, number, lent_after, first}
use Rattle.spec_box.specs.Box.{Call, tick, on_admit, on_save}
use Rattle.spec_box.specs.Lists.{Calling, Request, after_call}

-- sets are of 32 signals and a name has 32 bits, as the types of the arguments have it
abbrev pub Sendable : Call → Type 0
Sendable c =
    on_admit (on_save (Unit {0}) (λ name. name < 256 ^ name_bytes) c) (λ t. (t.read_back < 256 ^ signal_bytes) × (t.service_only < 256 ^ signal_bytes)) c

pub data AllSendable : List Request → Type 0 where
  none : AllSendable []
  each : {x : Request} {xs : List Request} → Sendable x.call → AllSendable xs → AllSendable (x ∷ xs)

-- the reactions of a tick; none of one that is turned down
abbrev pub reactions_of : Called → ℕ
reactions_of o = cond (eqb (number o) 0) (reactions_in (first (lent_after o))) 0

-- the reactions of a list of calls in all
unfoldable pub sum_of_reactions : Calling → List ℕ → List Request → ℕ
sum_of_reactions call box [] = 0
sum_of_reactions call box (x ∷ xs) = reactions_of (call box x.bay x.call) + sum_of_reactions call (after_call call box x) xs

-- a round: ticks alone, in any order, at most one of each bay that is left
abbrev pub without : ℕ → (ℕ → Bool) → ℕ → Bool
without bay left i = cond (eqb i bay) false (left i)

pub data Round : (left : ℕ → Bool) → List Request → Type 0 where
  done : {left : ℕ → Bool} → Round left []
  more : {left : ℕ → Bool} {bay e : ℕ} {answer trace : List ℕ} {xs : List Request} → left bay ≡ true → Round (without bay left) xs
      → Round left (record { bay = bay; call = tick e answer trace } ∷ xs)

abbrev pub OneTickEach : List Request → Type 0
OneTickEach = Round (λ bay. true)
