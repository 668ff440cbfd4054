-- THE NUMBERS of the 16 calls: the table is exact, for boxes that calls reach from the empty one and for every box.
use Prim.Native.Nat.{ℕ, ◌<◌}
use native.Mathlib.Omega.{arith}
use native.Mathlib.Decide.{ℕ_discrete}
use native.Mathlib.Nat.{mul-pos}
use mathlib.Core.Path.{◌≡◌, refl, sym, ap, ◌∙◌, subst}
use mathlib.Core.Logic.{◌≢◌, ◌↔◌, ◌⊎◌, inl, inr, ⊎_elim}
use mathlib.Core.Bool.{Bool, true, false, ◌||◌, true≢false}
use mathlib.Core.Option.{Option, some, none}
use mathlib.Core.List.{List, [], ◌∷◌, ◌++◌, map}
use lib.Dec.{eqb}
use lib.Pow.{pow_pos}
use borrow.Author.Tests.{eqb-true}
use Rattle.spec_language.specs.Statement.{Statement}
use Rattle.spec_language.specs.Sizes.{signal_nesting}
use Rattle.spec_language.specs.Ceiling.{ceiling}
use Rattle.ceilings.proofs.Sizes.{nested}
use Rattle.spec_sequence.specs.Program.{program}
use Rattle.spec_sequence.specs.Check.{Checked, sound, bad, checked, number_of, check_of}
use Rattle.spec_sequence.specs.Ceilings.{ceiling_of}
use Rattle.theory_sequence.proofs.Rows.{Decides, decided, row-range}
use Rattle.spec_tick.specs.Tick.{tick_of}
use Rattle.spec_tick.specs.Demands as demands
use Rattle.spec_box.specs.Box.{admit, release, tick, save, restore, forget, service, panel, preview, ledger, new_year}
use Rattle.spec_calls.specs.Numbers.{CallName, intake_check, intake_tick, intake_unroll, intake_replay, HostCall, checks, measures, ticks, unrolls, replays, admits, releases, ticks_bay, saves, restores, forgets, shows_service, shows_panel, previews, reads_ledger, begins_year, call_gives, passable, row_for, also_anywhere, row_anywhere, one_of, ReachedBox, reached_bytes, GivesOnly, GivesEach, RowsExact, CeilingRefuses, TableExact}
use Rattle.theory_calls.proofs.NumberLists.{all}
use Rattle.theory_calls.proofs.NumberTable.{check-in, own_in, unroll-in, replay_in, numbered, numbered_anywhere}
use Rattle.spec_calls.proofs.Witnesses.{witnesses, all_given, all-passable, any_witnesses, any_given, any_passable}

-- ---- a number that is given is in the row
-- the number of a call, if it gives one, is in a list
abbrev OneIn : List ℕ → Option ℕ → Type 0
OneIn l none = Unit {0}
OneIn l (some n) = one_of n l ≡ true

reached_in : {name : CallName} (c : HostCall ReachedBox name) → OneIn (row_for name) (call_gives reached_bytes c)
unfolding all one_of
reached_in (checks sequence read_back) = check-in (row_for intake_check) refl refl sequence read_back
reached_in (measures sequence read_back) = tt
reached_in (ticks sequence state e read_back answer) = own_in (row_for intake_tick) refl refl refl refl refl sequence state e read_back answer
reached_in (unrolls sequence read_back buffer) = unroll-in (row_for intake_unroll) refl refl refl refl refl sequence read_back buffer
reached_in (replays sequence read_back recording) = replay_in (row_for intake_replay) refl refl refl sequence read_back recording
reached_in (admits box bay t) = numbered box.before box.sendable bay (admit t)
reached_in (releases box bay) = numbered box.before box.sendable bay release
reached_in (ticks_bay box bay e answer trace) = numbered box.before box.sendable bay (tick e answer trace)
reached_in (saves box bay n) = numbered box.before box.sendable bay (save n)
reached_in (restores box bay n) = numbered box.before box.sendable bay (restore n)
reached_in (forgets box bay n) = numbered box.before box.sendable bay (forget n)
reached_in (shows_service box bay trace view) = numbered box.before box.sendable bay (service trace view)
reached_in (shows_panel box bay trace view) = numbered box.before box.sendable bay (panel trace view)
reached_in (previews box bay e u buffer) = numbered box.before box.sendable bay (preview e u buffer)
reached_in (reads_ledger box bay totals) = numbered box.before box.sendable bay (ledger totals)
reached_in (begins_year box bay) = numbered box.before box.sendable bay new_year

anywhere_in : {name : CallName} (c : HostCall (List ℕ) name) → OneIn (row_anywhere name) (call_gives (λ (box : List ℕ). box) c)
unfolding all one_of
anywhere_in (checks sequence read_back) = check-in (row_anywhere intake_check) refl refl sequence read_back
anywhere_in (measures sequence read_back) = tt
anywhere_in (ticks sequence state e read_back answer) = own_in (row_anywhere intake_tick) refl refl refl refl refl sequence state e read_back answer
anywhere_in (unrolls sequence read_back buffer) = unroll-in (row_anywhere intake_unroll) refl refl refl refl refl sequence read_back buffer
anywhere_in (replays sequence read_back recording) = replay_in (row_anywhere intake_replay) refl refl refl sequence read_back recording
anywhere_in (admits box bay t) = numbered_anywhere box bay (admit t)
anywhere_in (releases box bay) = numbered_anywhere box bay release
anywhere_in (ticks_bay box bay e answer trace) = numbered_anywhere box bay (tick e answer trace)
anywhere_in (saves box bay n) = numbered_anywhere box bay (save n)
anywhere_in (restores box bay n) = numbered_anywhere box bay (restore n)
anywhere_in (forgets box bay n) = numbered_anywhere box bay (forget n)
anywhere_in (shows_service box bay trace view) = numbered_anywhere box bay (service trace view)
anywhere_in (shows_panel box bay trace view) = numbered_anywhere box bay (panel trace view)
anywhere_in (previews box bay e u buffer) = numbered_anywhere box bay (preview e u buffer)
anywhere_in (reads_ledger box bay totals) = numbered_anywhere box bay (ledger totals)
anywhere_in (begins_year box bay) = numbered_anywhere box bay new_year

-- ---- a number of the row is given
head_of : {A : Type 0} (a : A) → List A → A
head_of a [] = a
head_of a (x ∷ xs) = x

tail_of : {A : Type 0} → List A → List A
tail_of [] = []
tail_of (x ∷ xs) = xs

is_nil : {A : Type 0} → List A → ℕ
is_nil [] = 0
is_nil (x ∷ xs) = 1

-- of witnesses whose numbers are those of a list, one for each number
module _ {A : Type 0} (f : A → Option ℕ) (g : A → Bool) where
  picked : (ws : List A) (l : List ℕ) → map f ws ≡ map some l → map g ws ≡ map (λ (n : ℕ). true) l → (n : ℕ) → one_of n l ≡ true
      → (a : A) × (g a ≡ true) × (f a ≡ some n)
  unfolding one_of head_of tail_of is_nil
  picked ws [] e p n h = absurd (let z : ◌≡◌ {A = ℕ} 0 1 = cc in omega arith)
  picked [] (k ∷ ks) e p n h = absurd (let z : ◌≡◌ {A = ℕ} 0 1 = ap is_nil e in omega arith)
  picked (w ∷ ws) (k ∷ ks) e p n h =
      elim (ℕ_discrete n k) [
        | yes q ↦ (w, ap (head_of true) p, ap (head_of none) e ∙ ap some (sym q))
        | no q ↦ picked ws ks (ap tail_of e) (ap tail_of p) n (other (eqb n k) refl h q)
      ]
    where
      other : (b : Bool) → eqb n k ≡ b → (b || one_of n ks) ≡ true → n ≢ k → one_of n ks ≡ true
      other true i h q = absurd (q (eqb-true n k i))
      other false i h q = h

-- ---- THE TABLE IS EXACT
exact : {Box : Type 0} (bytes : Box → List ℕ) (row : CallName → List ℕ) → GivesOnly bytes row → GivesEach bytes row → RowsExact bytes row
exact bytes row only each =
    record {
      gives_only = only;
      gives_each = each;
      number_given = λ name n. (λ h. let r = each name n h in (r.0, r.2), λ r. only name r.0 n r.1);
    }

-- in the boxes that calls reach from the empty one
pub each_given : GivesEach reached_bytes row_for
each_given name = picked (call_gives reached_bytes) (passable reached_bytes) (witnesses name) (row_for name) (all_given name) (all-passable name)

pub from_empty : RowsExact reached_bytes row_for
from_empty = exact reached_bytes row_for (λ name c n e. subst (OneIn (row_for name)) e (reached_in c)) each_given

-- such a box is one of any bytes
in_bytes : {name : CallName} → HostCall ReachedBox name → HostCall (List ℕ) name
in_bytes (checks sequence read_back) = checks sequence read_back
in_bytes (measures sequence read_back) = measures sequence read_back
in_bytes (ticks sequence state e read_back answer) = ticks sequence state e read_back answer
in_bytes (unrolls sequence read_back buffer) = unrolls sequence read_back buffer
in_bytes (replays sequence read_back recording) = replays sequence read_back recording
in_bytes (admits box bay t) = admits (reached_bytes box) bay t
in_bytes (releases box bay) = releases (reached_bytes box) bay
in_bytes (ticks_bay box bay e answer trace) = ticks_bay (reached_bytes box) bay e answer trace
in_bytes (saves box bay n) = saves (reached_bytes box) bay n
in_bytes (restores box bay n) = restores (reached_bytes box) bay n
in_bytes (forgets box bay n) = forgets (reached_bytes box) bay n
in_bytes (shows_service box bay trace view) = shows_service (reached_bytes box) bay trace view
in_bytes (shows_panel box bay trace view) = shows_panel (reached_bytes box) bay trace view
in_bytes (previews box bay e u buffer) = previews (reached_bytes box) bay e u buffer
in_bytes (reads_ledger box bay totals) = reads_ledger (reached_bytes box) bay totals
in_bytes (begins_year box bay) = begins_year (reached_bytes box) bay

same_given : {name : CallName} (c : HostCall ReachedBox name) → call_gives (λ (box : List ℕ). box) (in_bytes c) ≡ call_gives reached_bytes c
unfolding in_bytes
same_given (checks sequence read_back) = refl
same_given (measures sequence read_back) = refl
same_given (ticks sequence state e read_back answer) = refl
same_given (unrolls sequence read_back buffer) = refl
same_given (replays sequence read_back recording) = refl
same_given (admits box bay t) = refl
same_given (releases box bay) = refl
same_given (ticks_bay box bay e answer trace) = refl
same_given (saves box bay n) = refl
same_given (restores box bay n) = refl
same_given (forgets box bay n) = refl
same_given (shows_service box bay trace view) = refl
same_given (shows_panel box bay trace view) = refl
same_given (previews box bay e u buffer) = refl
same_given (reads_ledger box bay totals) = refl
same_given (begins_year box bay) = refl

same_passable : {name : CallName} (c : HostCall ReachedBox name) → passable (λ (box : List ℕ). box) (in_bytes c) ≡ passable reached_bytes c
unfolding in_bytes
same_passable (checks sequence read_back) = refl
same_passable (measures sequence read_back) = refl
same_passable (ticks sequence state e read_back answer) = refl
same_passable (unrolls sequence read_back buffer) = refl
same_passable (replays sequence read_back recording) = refl
same_passable (admits box bay t) = refl
same_passable (releases box bay) = refl
same_passable (ticks_bay box bay e answer trace) = refl
same_passable (saves box bay n) = refl
same_passable (restores box bay n) = refl
same_passable (forgets box bay n) = refl
same_passable (shows_service box bay trace view) = refl
same_passable (shows_panel box bay trace view) = refl
same_passable (previews box bay e u buffer) = refl
same_passable (reads_ledger box bay totals) = refl
same_passable (begins_year box bay) = refl

either : (n : ℕ) (a b : List ℕ) → one_of n (a ++ b) ≡ true → (one_of n a ≡ true) ⊎ (one_of n b ≡ true)
unfolding one_of
either n [] b h = inr h
either n (k ∷ a) b h = go (eqb n k) h (either n a b)
  where
    go : (x : Bool) → (x || one_of n (a ++ b)) ≡ true → (one_of n (a ++ b) ≡ true → (one_of n a ≡ true) ⊎ (one_of n b ≡ true))
        → ((x || one_of n a) ≡ true) ⊎ (one_of n b ≡ true)
    go true h k = inl refl
    go false h k = k h

-- and in every box, whatever its bytes
pub each_given_anywhere : GivesEach (λ (box : List ℕ). box) row_anywhere
each_given_anywhere name n h =
    ⊎_elim
    (picked (call_gives (λ (box : List ℕ). box)) (passable (λ (box : List ℕ). box)) (any_witnesses name) (also_anywhere name) (any_given name) (any_passable name) n)
    (λ i. let r = each_given name n i in (in_bytes r.0, same_passable r.0 ∙ r.1, same_given r.0 ∙ r.2))
    (either n (also_anywhere name) (row_for name) h)

pub anywhere : RowsExact (λ (box : List ℕ). box) row_anywhere
anywhere =
    exact (λ (box : List ℕ). box) row_anywhere (λ name c n e. subst (OneIn (row_anywhere name)) e (anywhere_in c)) each_given_anywhere

-- ---- the ceiling
ceiling_positive : (p : Statement) → 0 < ceiling p
unfolding ceiling
ceiling_positive p = mul-pos (mul-pos (omega (arith, nested p)) (omega arith)) (pow_pos (signal_nesting p))

pub ceiling_refuses : CeilingRefuses
unfolding check_of
ceiling_refuses sequence read_back = go (checked sequence read_back) (decided sequence read_back)
  where
    go : (c : Checked) → Decides sequence read_back c → (ceiling_of read_back c ≡ 0) ↔ (number_of c ≢ 0)
    go (bad n) d = (λ h z. omega (arith, row-range sequence read_back n d.0, z), λ h. refl)
    go (sound p) d = (λ h. absurd (omega (arith, ceiling_positive (program read_back p), h)), λ h. absurd (h refl))

-- ALL OF IT
pub table_exact : TableExact
table_exact = record { from_empty = from_empty; anywhere = anywhere; ceiling_refuses = ceiling_refuses }

-- ---- corollaries
-- 'The tick on its own knows no ledger and never gives 19'
pub tick_never_nineteen : (sequence state : List ℕ) (e read_back : ℕ) (answer : List ℕ) → demands.number (tick_of sequence state e read_back answer) ≢ 19
unfolding one_of
tick_never_nineteen sequence state e read_back answer h =
    true≢false (sym (anywhere.gives_only intake_tick (ticks sequence state e read_back answer) 19 (ap some h)))
