-- A slot of the box and a place of the box on paper that are alike: the same bay or none, the machine in a state whose term the
-- paper has, positions whose terms it has, and the same totals.
use Prim.Native.Nat.{ℕ, ◌≤◌, ◌<◌}
use mathlib.Core.Path.{◌≡◌, refl, sym, ap, ◌∙◌, subst}
use mathlib.Core.Bool.{Bool, true, false, ◌&&◌, cond}
use mathlib.Core.Logic.{◌≢◌}
use mathlib.Core.Option.{some, none}
use mathlib.Core.List.{List}
use lib.ListN.{length}
use borrow.Author.Tests.{ne_eqb}
use Rattle.spec_base.specs.Limits.{last_number, farm_count}
use Rattle.spec_language.specs.Machines.{State}
use Rattle.spec_sequence.specs.Program.{program}
use Rattle.spec_tick.specs.StateRecord.{encode_state, Recorded}
use Rattle.theory_tick.proofs.Sequence.{Accepted}
use Rattle.spec_bay.specs.Names.{Position}
use Rattle.box_positions.specs.Places.{Agrees}
use Rattle.spec_bay.specs.Ledgers.{total_in}
use Rattle.spec_bay.specs.Called.{Called, called, number, memory_after, first}
use Rattle.spec_bay.specs.Stretch.{stretch_length, length_in, state_in, last_number_in, positions_in, ledger_in, Terms}
use Rattle.spec_box.specs.Box.{Call, bay_call}
use Rattle.spec_box.specs.Instants.{second}
use Rattle.spec_box.specs.Years.{delivered_after}
use Rattle.theory_bay.proofs.Fields.{Holds}
use Rattle.theory_box.proofs.Bays.{ceiling_for}
use Rattle.theory_box.proofs.Standing.{Standing}
use Rattle.theory_box.proofs.Positions.{Positioned}
use Rattle.theory_box.proofs.Years.{ledger-after, total-by}
use Rattle.spec_box.specs.PaperBox.{PaperBay, PaperPlace, Reported, ticked, replies, PaperReply, down}
use Rattle.spec_box.specs.Reports.{is_tick, reported}
use Rattle.theory_box.proofs.PaperMachines.{Follows}
use Rattle.theory_box.proofs.PaperNames.{mapped}

abbrev pub SameTotals : List ℕ → (ℕ → ℕ) → Type 0
SameTotals s t = (f : ℕ) → f < farm_count → total_in f (ledger_in s) ≡ t f

-- a call that is turned down is no instant
pub refusal_reported : {R : Type 0} (reads : List ℕ → List ℕ → R) (c : Call) (n : ℕ) → n ≢ 0 → (s : List ℕ) (lent : List (List ℕ))
    → reported reads c (called n s lent) ≡ replies n lent
refusal_reported {R = R} reads c n y s lent = rw (ne_eqb n 0 y) (go (is_tick c) (ticked (reads (first lent) (second lent))) (replies n lent))
  where
    go : (b : Bool) (x w : Reported R) → cond (b && false) x w ≡ w
    go true x w = refl
    go false x w = refl

module _ {S T R : Type 0} (m : Follows S T R) where
  pub record Present (s : List ℕ) : Type 0 where
    pub terms : Terms
    pub accepted : Accepted terms.sequence terms.read_back
    pub holds : Holds terms (ceiling_for terms) s
    pub fine : m.For accepted.statement
    -- the state of the machine, and that of the machine on paper
    pub state : State
    pub bytes : state_in s ≡ encode_state state
    pub recorded : Recorded accepted.statement state
    pub machine : S
    pub at : m.At (program terms.read_back accepted.statement) state machine
    -- the number of the last instant
    pub last : ℕ
    pub count : last_number_in s ≡ last
    pub fits : last ≤ last_number
    -- the positions
    pub positioned : Positioned terms (positions_in s)
    pub names : List (Position ℕ)
    pub agrees : Agrees (positions_in s) names
    pub positions : List (Position T)
    pub saved : positions ≡ mapped (m.kept_of (program terms.read_back accepted.statement)) names

  abbrev pub standing : {s : List ℕ} → (h : Present s) → Standing h.terms s
  standing h = record { accepted = h.accepted; holds = h.holds; state = h.state; bytes = h.bytes; recorded = h.recorded }

  -- the bay of the paper
  abbrev pub bay_of : {s : List ℕ} → Present s → PaperBay S T
  bay_of h =
      record {
        statement = h.accepted.statement;
        read_back = h.terms.read_back;
        service_only = h.terms.service_only;
        machine = h.machine;
        last = h.last;
        positions = h.positions;
      }

  pub data Alike (s : List ℕ) (z : PaperPlace S T) : Type 0 where
    vacant : length s ≡ stretch_length → length_in s ≡ 0 → z.bay ≡ none → SameTotals s z.totals → Alike s z
    present : (h : Present s) → z.bay ≡ some (bay_of h) → SameTotals s z.totals → Alike s z

  -- what a call on the slot comes to is what it comes to on paper
  pub record Same (c : Call) (o : Called) (told : PaperReply S T R) : Type 0 where
    pub report : reported m.kind.reads c o ≡ told.0
    pub alike : Alike (memory_after o) told.1

  -- turned down, on both
  pub same-down : (c : Call) (s : List ℕ) (z : PaperPlace S T) → Alike s z → (n : ℕ) → n ≢ 0 → (lent : List (List ℕ)) → {o : Called} → o ≡ called n s lent
      → {told : PaperReply S T R} → told ≡ down n lent z → Same c o told
  same-down c s z a n y lent {o} e {told} f =
      subst (λ (o : Called). Same c o told) (sym e)
      (subst (λ (t : PaperReply S T R). Same c (called n s lent) t) (sym f) (record { report = refusal_reported m.kind.reads c n y s lent; alike = a }))

  -- answered 0, on both
  pub same-answered : (c : Call) (s : List ℕ) (z : PaperPlace S T) (lent : List (List ℕ)) (r : Reported R)
      → reported m.kind.reads c (called 0 s lent) ≡ r → Alike s z
      → {o : Called} → o ≡ called 0 s lent → {told : PaperReply S T R} → told ≡ (r, z) → Same c o told
  same-answered c s z lent r shown a {o} e {told} f =
      subst (λ (o : Called). Same c o told) (sym e)
      (subst (λ (t : PaperReply S T R). Same c (called 0 s lent) t) (sym f) (record { report = shown; alike = a }))

-- the totals after a call answered 0
pub totals_after : (k : ℕ) (s : List ℕ) → length s ≡ stretch_length → (t : ℕ → ℕ) → SameTotals s t → (c : Call) → number (bay_call k c s) ≡ 0
    → (f : ℕ) → f < farm_count → total_in f (ledger_in (memory_after (bay_call k c s))) ≡ delivered_after f c s (t f)
totals_after k s z t h c n f l =
    ap (total_in f) (ledger-after k s z c n) ∙ total-by k s z f l c n ∙ ap (delivered_after f c s) (h f l)
