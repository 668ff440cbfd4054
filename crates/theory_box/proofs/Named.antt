-- The positions of a bay in the boxes that calls reach: the table is what was saved by name, and the numbers of the three calls.
use Prim.Native.Nat.{ℕ, ◌<◌}
use native.Mathlib.Omega.{arith}
use native.Mathlib.Decide.{ℕ_discrete}
use mathlib.Core.Path.{◌≡◌, refl, sym, ap, ◌∙◌, subst}
use mathlib.Core.Logic.{◌≢◌, ◌↔◌, ⊎_elim}
use mathlib.Core.Bool.{Bool, true, false, cond, true≢false}
use mathlib.Core.Option.{some, none}
use mathlib.Core.List.{List, [], ◌∷◌}
use lib.ListN.{length}
use borrow.Author.Tests.{eq-eqb, ne_eqb}
use Rattle.spec_base.specs.Limits.{bay_count}
use Rattle.spec_language.specs.Statement.{Statement}
use Rattle.spec_language.specs.States.{Valid}
use Rattle.spec_language.specs.Machines.{State}
use Rattle.spec_sequence.specs.Rows.{Spells}
use Rattle.spec_tick.specs.StateRecord.{state_length, phase_in, labels_in, encode_state}
use Rattle.spec_base.specs.Parts.{put, zeros}
use Rattle.spec_bay.specs.Names.{Position}
use Rattle.spec_bay.specs.Table.{table_length, lookup, number_kept, save_of, forget_of, SixteenKnown}
use Rattle.box_positions.specs.Places.{Agrees}
use Rattle.box_positions.proofs.Theorems as table
use Rattle.box_positions.proofs.Theorems.{cleared-agrees, save_agrees, forget_agrees, lookup-zeros}
use Rattle.spec_bay.specs.Called.{called, number, memory_after}
use Rattle.spec_bay.specs.Stretch.{state_at, length_in, is_empty, sequence_in, state_in, positions_in, Terms}
use Rattle.spec_box.specs.Box.{box_length, empty_box, stretch_of, present, Call, admit, release, tick, save, restore, forget, service, panel, preview, ledger, new_year, buffers, bay_call, is_for, call_of}
use Rattle.spec_box.specs.Lists.{Request, after_call, box_after, CallIn, calls_to, in_turn}
use Rattle.spec_box.specs.Shares.{Sendable, AllSendable, none, each}
use Rattle.spec_box.specs.Positions.{changed_by, saved_in, NoneKnown}
use Rattle.theory_box.proofs.Standing.{not-empty, sequence-held}
use Rattle.theory_box.proofs.Positions.{table_by, table-after, save-waiting, save-otherwise, save-waits, forget_number, restore-known, restore-unknown, Known, unknown, known, is_known, none-some, labels_recorded}
use Rattle.theory_box.proofs.Stretches.{result, answered-inside, refused-stretch, number-there, stretch_sized, own, own_stretch, others_stay}
use Rattle.theory_box.proofs.Reached.{Sound, vacant, held, filled-bay, Kept, zeros-positions, empty_stretch_lem, kept_empty, kept_call}

-- ---- a call answered 0
module _ (box : List ℕ) (bay : ℕ) (c : Call) (n : number (call_of box bay c) ≡ 0) where
  abbrev s : List ℕ
  s = stretch_of bay box

  abbrev k : ℕ
  k = present bay_count box

  b : bay < bay_count
  b = (answered-inside box bay c n).0

  z : length box ≡ box_length
  z = (answered-inside box bay c n).1

  -- the bay is there for it, and it is the call on the slot
  pub answered-there : (is_for c s ≡ true) × (result box bay c ≡ bay_call k c s)
  answered-there = go (is_for c s) refl (sym (ap number (own box bay c b z)) ∙ n)
    where
      go : (f : Bool) → is_for c s ≡ f → number (cond f (bay_call k c s) (called 13 s (buffers c))) ≡ 0
          → (is_for c s ≡ true) × (cond f (bay_call k c s) (called 13 s (buffers c)) ≡ bay_call k c s)
      go true i m = (i, refl)
      go false i m = absurd (omega arith)

  pub bay-answered : number (bay_call k c s) ≡ 0
  bay-answered = sym (ap number (own box bay c b z) ∙ ap number answered-there.1) ∙ n

  pub stretch-after : stretch_of bay (memory_after (call_of box bay c)) ≡ memory_after (bay_call k c s)
  stretch-after = own_stretch box bay c b z ∙ ap memory_after answered-there.1

  pub positions-after : positions_in (stretch_of bay (memory_after (call_of box bay c))) ≡ table_by c s
  positions-after = ap positions_in stretch-after ∙ table-after k s (stretch_sized box bay c b z) c bay-answered

-- a bay taken out loses its positions, and one admitted knows none
pub none_known : (box : List ℕ) (bay : ℕ) (c : Call) → table_by c (stretch_of bay box) ≡ zeros table_length → number (call_of box bay c) ≡ 0
    → NoneKnown bay (memory_after (call_of box bay c))
none_known box bay c e n name = ap (lookup name) (positions-after box bay c n ∙ e) ∙ lookup-zeros name

-- coming back
pub comes_back : (box : List ℕ) (bay name : ℕ) → number (call_of box bay (restore name)) ≡ 0
    → (labels : ℕ) × (lookup name (positions_in (stretch_of bay box)) ≡ some labels)
    × (stretch_of bay (memory_after (call_of box bay (restore name)))
    ≡ put state_at state_length (encode_state (State.waits labels)) (stretch_of bay box))
comes_back box bay name n = go (is_known (stretch_of bay box) name)
  where
    r : List ℕ
    r = stretch_of bay box

    go : Known (stretch_of bay box) name → (labels : ℕ) × (lookup name (positions_in (stretch_of bay box)) ≡ some labels)
        × (stretch_of bay (memory_after (call_of box bay (restore name)))
        ≡ put state_at state_length (encode_state (State.waits labels)) (stretch_of bay box))
    go (unknown e) = absurd (omega (arith, bay-answered box bay (restore name) n, ap number (restore-unknown r name e)))
    go (known labels e) =
        (labels, e, stretch-after box bay (restore name) n ∙ ap memory_after (restore-known r name labels e))

-- ---- the calls to a bay: the first of a list, if it is one of them
module _ {Box : Type 0} (after : Box → Request → Box) (bay : ℕ) (box : Box) (c : Call) (xs : List Request) where
  abbrev asks : Request
  asks = record { bay = bay; call = c }

  pub own-call : calls_to after bay box (record { bay = bay; call = c } ∷ xs) ≡ record { box = box; call = c } ∷ calls_to after bay (after box asks) xs
  unfolding calls_to
  own-call = rw (eq-eqb bay bay refl)

  pub own_turn : {A : Type 0} (makes : CallIn Box → A → A) (there : A)
      → in_turn makes there (calls_to after bay box (record { bay = bay; call = c } ∷ xs))
      ≡ in_turn makes (makes (record { box = box; call = c }) there) (calls_to after bay (after box asks) xs)
  own_turn makes there = ap (in_turn makes there) own-call

-- ---- by name
agrees_empty : (s : List ℕ) → Sound s → is_empty s ≡ true → (ps : List (Position ℕ)) → Agrees (positions_in s) ps → Agrees (zeros table_length) ps
agrees_empty s (vacant z e c) i ps a = subst (λ (t : List ℕ). Agrees t ps) c a
agrees_empty s (held t h v) i ps a = absurd (true≢false (sym i ∙ not-empty t s h))

agrees_by : (k : ℕ) (s : List ℕ) → Sound s → (c : Call) → Sendable c → is_for c s ≡ true → number (bay_call k c s) ≡ 0
    → (ps : List (Position ℕ)) → Agrees (positions_in s) ps → Agrees (table_by c s) (changed_by c (labels_in (state_in s)) ps)
agrees_by k s v (admit t) r i n ps a = agrees_empty s v i ps a
agrees_by k s v release r i n ps a = cleared-agrees
agrees_by k s v (tick e answer trace) r i n ps a = a
agrees_by k s v (save name) r i n ps a =
    let f = filled-bay s v i in
    let w = f.1.accepted in
    let l = labels_recorded f.0 s f.1 (save-waits s name n) w.statement w.spelled in
    (save_agrees (positions_in s) ps a name (labels_in (state_in s)) r l.1).1
agrees_by k s v (restore name) r i n ps a = a
agrees_by k s v (forget name) r i n ps a = (forget_agrees (positions_in s) ps a name).1
agrees_by k s v (service trace view) r i n ps a = a
agrees_by k s v (panel trace view) r i n ps a = a
agrees_by k s v (preview e u buffer) r i n ps a = a
agrees_by k s v (ledger totals) r i n ps a = a
agrees_by k s v new_year r i n ps a = a

module _ (bay : ℕ) (b : bay < bay_count) where
  abbrev Same : List ℕ → List (Position ℕ) → Type 0
  Same box ps = Agrees (positions_in (stretch_of bay box)) ps

  abbrev Over : (box : List ℕ) (ps : List (Position ℕ)) (xs : List Request) → Type 0
  Over box ps xs = Same (box_after call_of box xs) (saved_in call_of bay box ps xs)

  -- a call that leaves the slot
  same_after : (box box' : List ℕ) (ps : List (Position ℕ)) → stretch_of bay box' ≡ stretch_of bay box → Same box ps → Same box' ps
  same_after box box' ps e a = subst (λ (s : List ℕ). Agrees (positions_in s) ps) (sym e) a

  own-step : (box : List ℕ) → Kept box → (ps : List (Position ℕ)) → Same box ps → (c : Call) → Sendable c → (xs : List Request)
      → ((qs : List (Position ℕ)) → Same (memory_after (call_of box bay c)) qs → Over (memory_after (call_of box bay c)) qs xs)
      → Over box ps (record { bay = bay; call = c } ∷ xs)
  unfolding box_after saved_in
  own-step box h ps a c r xs f =
      elim (ℕ_discrete (number (call_of box bay c)) 0) [
        | yes n ↦ rw (own_turn, eq-eqb (number (call_of box bay c)) 0 n)
            (f (changed_by c (labels_in (state_in (stretch_of bay box))) ps)
            (subst (λ (t : List ℕ). Agrees t (changed_by c (labels_in (state_in (stretch_of bay box))) ps)) (sym (positions-after box bay c n))
            (agrees_by (present bay_count box) (stretch_of bay box) (h.sound bay b) c r (answered-there box bay c n).0
            (bay-answered box bay c n) ps a)))
        | no n ↦ rw (own_turn, ne_eqb (number (call_of box bay c)) 0 n)
            (f ps (same_after box (memory_after (call_of box bay c)) ps
            (refused-stretch box bay c n) a))
      ]

  by_name : (box : List ℕ) → Kept box → (ps : List (Position ℕ)) → Same box ps → (xs : List Request) → AllSendable xs → Over box ps xs
  unfolding box_after saved_in calls_to
  by_name box h ps a [] none = a
  by_name box h ps a (x ∷ xs) (each r k) =
      let after : List ℕ = after_call call_of box x in
      let g = kept_call box h x.bay x.call r in
      elim (ℕ_discrete x.bay bay) [
        | yes q ↦ subst (λ (j : ℕ). Over box ps (record { bay = j; call = x.call } ∷ xs)) (sym q)
            (own-step box h ps a x.call r xs
            (λ qs w. by_name (memory_after (call_of box bay x.call)) (kept_call box h bay x.call r) qs w xs k))
        | no q ↦ rw (ne_eqb x.bay bay q)
            (by_name after g ps (same_after box after ps (others_stay box x.bay x.call bay (λ y. q (sym y)) b) a) xs k)
      ]

  -- from an admission on: it leaves none
  pub named-from-admission : (box : List ℕ) → Kept box → (t : Terms) → Sendable (admit t) → number (call_of box bay (admit t)) ≡ 0
      → (ys : List Request) → AllSendable ys → Over (memory_after (call_of box bay (admit t))) [] ys
  named-from-admission box h t small n =
      by_name (memory_after (call_of box bay (admit t))) (kept_call box h bay (admit t) small) []
      (subst (λ (s : List ℕ). Agrees s []) (sym (positions-after box bay (admit t) n)) cleared-agrees)

  pub positions-named : (xs : List Request) → AllSendable xs → Over empty_box [] xs
  positions-named =
      by_name empty_box kept_empty []
      (subst (λ (t : List ℕ). Agrees t []) (sym (ap positions_in (empty_stretch_lem bay b) ∙ zeros-positions)) cleared-agrees)

-- ---- in a slot that calls have written
pub positions_valid : (s : List ℕ) → Sound s → (p : Statement) → Spells (sequence_in s) p
    → (name labels : ℕ) → lookup name (positions_in s) ≡ some labels → Valid p labels
positions_valid s (vacant z e c) p q name labels i = absurd (none-some (sym (ap (lookup name) c ∙ lookup-zeros name) ∙ i))
positions_valid s (held t h v) p q name labels i =
    (v.saved name labels i p (subst (λ (x : List ℕ). Spells x p) (sequence-held t s h) q)).0

-- ---- the numbers, of a filled bay
module _ (box : List ℕ) (h : Kept box) (bay : ℕ) (b : bay < bay_count) (f : length_in (stretch_of bay box) ≢ 0) (name : ℕ) where
  abbrev r : List ℕ
  r = stretch_of bay box

  there : is_for release r ≡ true
  there = rw (ne_eqb (length_in r) 0 f)

  pub save_numbers : ((number (call_of box bay (save name)) ≡ 15) ↔ (phase_in (state_in r) ≢ 1))
      × ((number (call_of box bay (save name)) ≡ 16)
      ↔ ((phase_in (state_in r) ≡ 1) × (lookup name (positions_in r) ≡ none) × SixteenKnown (positions_in r)))
      × (number (call_of box bay (save name)) ≢ 15 → number (call_of box bay (save name)) ≢ 16 → number (call_of box bay (save name)) ≡ 0)
  save_numbers =
      let l = labels_in (state_in r) in
      let v = (filled-bay r (h.sound bay b) there).2 in
      let full = table.sixteen_others name l (positions_in r) v.formed in
      elim (ℕ_discrete (phase_in (state_in r)) 1) [
        | yes w ↦
            let e : number (call_of box bay (save name)) ≡ number_kept (save_of name l (positions_in r)) = number-there box bay (save name) b h.sized_box there ∙ save-waiting r name w in
            let two = table.save_number name l (positions_in r) in (
              (λ n. absurd (⊎_elim (λ x. omega arith) (λ x. omega arith) two), λ n. absurd (n w)),
              (λ n. let x = full.0 (sym e ∙ n) in (w, x.0, x.1), λ x. e ∙ full.1 (x.1, x.2)),
              λ n m. ⊎_elim (λ x. e ∙ x) (λ x. absurd (m (e ∙ x))) two,
            )
        | no w ↦
            let e : number (call_of box bay (save name)) ≡ 15 = number-there box bay (save name) b h.sized_box there ∙ save-otherwise r name w in (
              (λ n. w, λ n. e),
              (λ n. absurd (omega arith), λ x. absurd (w x.0)),
              λ n m. absurd (n e),
            )
      ]

  pub restore_numbers : ((number (call_of box bay (restore name)) ≡ 15) ↔ (lookup name (positions_in r) ≡ none))
      × (number (call_of box bay (restore name)) ≢ 15 → number (call_of box bay (restore name)) ≡ 0)
  restore_numbers = go (is_known r name)
    where
      go : Known r name → ((number (call_of box bay (restore name)) ≡ 15) ↔ (lookup name (positions_in r) ≡ none))
          × (number (call_of box bay (restore name)) ≢ 15 → number (call_of box bay (restore name)) ≡ 0)
      go (unknown e) =
          let n : number (call_of box bay (restore name)) ≡ 15 = number-there box bay (restore name) b h.sized_box there ∙ ap number (restore-unknown r name e) in
          ((λ x. e, λ x. n), λ m. absurd (m n))
      go (known labels e) =
          let n : number (call_of box bay (restore name)) ≡ 0 = number-there box bay (restore name) b h.sized_box there ∙ ap number (restore-known r name labels e) in
          ((λ x. absurd (omega arith), λ x. absurd (none-some (sym x ∙ e))), λ m. n)

  pub forget_numbers : ((number (call_of box bay (forget name)) ≡ 15) ↔ (lookup name (positions_in r) ≡ none))
      × (number (call_of box bay (forget name)) ≢ 15 → number (call_of box bay (forget name)) ≡ 0)
  forget_numbers =
      let e : number (call_of box bay (forget name)) ≡ number_kept (forget_of name (positions_in r)) =
      number-there box bay (forget name) b h.sized_box there ∙ forget_number r name in
      let u = table.unknown_forgotten name (positions_in r) in (
        (λ n. u.0 (sym e ∙ n), λ x. e ∙ u.1 x),
        λ n. ⊎_elim (λ x. e ∙ x) (λ x. absurd (n (e ∙ x))) (table.forget_number name (positions_in r)),
      )
