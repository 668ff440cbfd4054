-- What the code's answers stand for: where a call stands before it reacts, and its reply.
use Rattle.std.specs.Prelude.{ℕ, ◌≡◌, true, List, Result, Ok, Err}
use Rattle.layout.specs.Known.{Known}
use Rattle.spec_language.specs.Statement.{Statement}
use Rattle.spec_language.specs.LabelTests.{valid}
use Rattle.spec_language.specs.Reaction.{inheritanceFirst}
use Rattle.theory_language.specs.Ranks.{mask}
use Rattle.theory_language.specs.Traced.{Traced, instant_of}
use Rattle.spec_language.specs.Machines.{State}
use Rattle.labels.specs.Labels.{label_set}
use Rattle.checks.specs.Verdict.{Passed}
use Rattle.program.specs.declared.Start.{Start}
use Rattle.program.specs.declared.Start.TheVariants.{Fresh, Waiting}
use Rattle.limits.specs.declared.rows.Refusal.{Refusal}
use Rattle.limits.specs.Rows.{row_number}
use Rattle.reaction.specs.declared.Reaction.{Reaction}
use Rattle.reaction.specs.Reactions.{reaction_of}
use Rattle.instants.specs.Written.{Writable, writtenFrom}
use Rattle.spec_tick.specs.StateRecord.{labels_in, holds, decode_state}
use Rattle.spec_tick.specs.Tick as tick
use Rattle.spec_tick.specs.Tick.{Outcome, outcome, refused, reacts, byState, reply_of}

-- where the sequence of p starts from the record; the ranks of a waiting machine are those of its active pauses
abbrev pub StartsAt : Statement → List ℕ → Start → Type 0
StartsAt p state Fresh = decode_state p state ≡ holds State.fresh
StartsAt p state (Waiting m) =
    (decode_state p state ≡ holds (State.waits (labels_in state))) × (valid p (labels_in state) ≡ true) × (label_set m ≡ mask 0 p (labels_in state))

-- what the record holds for p: one that is turned down is so whatever the program around p and its input
abbrev pub Decodes : Statement → List ℕ → Result Start Refusal → Type 0
Decodes p state (Err r) = (q : Statement) (e : ℕ) → byState inheritanceFirst q (decode_state p state) e ≡ refused (row_number r)
Decodes p state (Ok start) = StartsAt p state start

-- the same for the statement that was read
abbrev pub DecodesRead : (t notes sequence state : List ℕ) → Result Start Refusal → Type 0
DecodesRead t notes sequence state r = (p : Statement) → Known t notes sequence p → Decodes p state r

-- a call before it reacts: turned down whatever its input, or the sequence passed the check and starts from the record
abbrev pub CallStands : (sequence state : List ℕ) (read_back : ℕ) (t notes : List ℕ) → Result Start Refusal → Type 0
CallStands sequence state read_back t notes (Err r) = (e : ℕ) → reply_of sequence state e read_back ≡ refused (row_number r)
CallStands sequence state read_back t notes (Ok start) = (h : Passed sequence read_back t notes) × StartsAt h.p state start

-- ---- the reply by value: the code's instant is that of a tree, whose signals asked for are not told
abbrev pub StandsFor : Result Reaction Refusal → tick.Reply → Type 0
StandsFor (Err row) r = r ≡ refused (row_number row)
StandsFor (Ok i) r = (t : Traced) × (i ≡ reaction_of t) × (r ≡ reacts (instant_of t))

abbrev pub WritableReply : Result Reaction Refusal → Type 0
WritableReply (Err row) = Unit {0}
WritableReply (Ok r) = Writable r

-- what is written from it
abbrev pub replied_from : Result Reaction Refusal → (state answer : List ℕ) → Outcome
replied_from (Err row) state answer = outcome (row_number row) state answer
replied_from (Ok r) state answer = writtenFrom r

-- r is the reply of the sequence in the state of the record
pub record Replies (sequence state : List ℕ) (e read_back : ℕ) (r : Result Reaction Refusal) : Type 0 where
  pub writable : WritableReply r
  pub is : StandsFor r (reply_of sequence state e read_back)
