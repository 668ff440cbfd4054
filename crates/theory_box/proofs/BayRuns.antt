-- The ticks of a bay that stands in a state of its sequence are those of the tick on that sequence, whatever other calls come in
-- between: so the three demands carry over to it, from any such state on, and from an admission on.
use Prim.Native.Nat.{ℕ, ◌<◌}
use native.Mathlib.Omega.{arith}
use native.Mathlib.Decide.{ℕ_discrete}
use mathlib.Core.Path.{◌≡◌, refl, sym, ap, ap₂, ◌∙◌, subst}
use mathlib.Core.Logic.{◌≢◌, ⊎_elim}
use mathlib.Core.Bool.{Bool, true, false, ◌&&◌, cond}
use mathlib.Core.List.Memᴰ
use mathlib.Core.List.{List, [], ◌∷◌, map, Memᴰ}
use lib.ListN.{length}
use lib.Dec.{eqb}
use borrow.Author.Tests.{eq-eqb, ne_eqb}
use Rattle.spec_base.specs.Limits.{bay_count}
use Rattle.spec_language.specs.Statement.{Statement}
use Rattle.spec_language.specs.Reaction.{Code, gives, inheritanceFirst}
use Rattle.spec_language.specs.Rules.{Reacts}
use Rattle.spec_language.specs.States.{NoSetpause}
use Rattle.spec_language.specs.Machines.{State, Rewriting}
use Rattle.theory_language.proofs.Agreement.{TermOf}
use Rattle.spec_sequence.specs.Program.{program}
use Rattle.spec_sequence.specs.Rows.{ByRows}
use Rattle.spec_sequence.specs.Check.{Checked, sound, bad, checked}
use Rattle.spec_tick.specs.StateRecord.{state_length, Decoded, holds, malformed, decode_state}
use Rattle.spec_tick.specs.AnswerRecord.{answer_length}
use Rattle.spec_tick.specs.Recording.{blank, tick_on, call_on}
use Rattle.spec_tick.specs.Tick as Tick
use Rattle.spec_tick.specs.Tick.{Outcome, outcome, tick_by, tick_of}
use Rattle.spec_tick.specs.Deliveries as Deliveries
use Rattle.spec_tick.specs.Deliveries.{delivered_if, deliveries, call_delivers, delivered}
use Rattle.spec_tick.specs.TickRows.{TickRow}
use Rattle.spec_tick.specs.Demands as demands
use Rattle.spec_tick.specs.Demands.{state_afterwards, answer_afterwards, outcomes, cleared, report, StandsAt, Derived, Shows}
use Rattle.spec_tick.specs.Paper as Paper
use Rattle.spec_tick.specs.Paper.{paper}
use Rattle.theory_tick.proofs.Sequence.{accepted, same_statement, tick_at}
use Rattle.theory_tick.proofs.Agreement.{all-ticks, all-deliveries}
use Rattle.theory_tick.proofs.Demand2.{passed-check, state_sized, answer_sized}
use Rattle.theory_tick.proofs.Demand1.{demand_1}
use Rattle.theory_tick.proofs.Calls.{demand_2_call}
use Rattle.spec_bay.specs.Called.{Called, called, number, memory_after, lent_after, first}
use Rattle.spec_bay.specs.Stretch.{positions_at, stretch_length, is_empty, state_in, Terms}
use Rattle.spec_bay.specs.BayCalls.{delivering, bay_tick_of, bay_admit_of}
use Rattle.spec_box.specs.Box.{box_length, stretch_of, present, Call, admit, release, tick, save, restore, forget, service, panel, preview, ledger, new_year, on_tick, call_of}
use Rattle.spec_box.specs.Lists.{Request, after_call, box_after, calls_to}
use Rattle.spec_box.specs.Shares.{Sendable}
use Rattle.spec_box.specs.BayRuns.{paper_buffer, ticks_to, outcome_of, tick_outcomes, tick_litres, instants_in, inputs_in, Onward, Onwards, done, more, RunOf, RewritesAs, Rewrites}
use Rattle.theory_bay.proofs.Fields.{Holds}
use Rattle.theory_box.proofs.Ticks.{tick-number, tick-answer}
use Rattle.theory_box.proofs.Readers.{service_reads, panel_reads, ledger_reads}
use Rattle.theory_box.proofs.Previews.{preview-stays}
use Rattle.theory_box.proofs.Moves.{Moved, save-moved, forget-moved, year_moved, further}
use Rattle.theory_box.proofs.Bays.{ceiling_for, Admission, turned_down, admits, admission}
use Rattle.theory_box.proofs.Standing.{Standing, not-empty, sequence-held, behind-stands, inner, inner-is, tick-told, tick-stands, fresh-state, filled-stands, cleared_fresh}
use Rattle.theory_box.proofs.Stretches.{result, answered-inside, refused-stretch, filled_already, stretch_sized, own, own_stretch, same_length, others_stay}

eta : (o : Outcome) → outcome (demands.number o) (state_afterwards o) (answer_afterwards o) ≡ o
eta (outcome n state answer) = refl

-- ---- the tick on its own
-- one that is turned down delivers nothing
none-delivered : (sequence state : List ℕ) (e read_back : ℕ) (answer : List ℕ) → demands.number (tick_of sequence state e read_back answer) ≢ 0
    → (f : ℕ) → call_delivers sequence read_back state (record { input = e; buffer = answer }) f ≡ 0
unfolding tick_by
none-delivered sequence state e read_back answer n f =
    go (eqb (length state) state_length && eqb (length answer) answer_length) (checked sequence read_back) n
  where
    held : (p : Statement) (d : Decoded) → demands.number (Tick.replied (Tick.byState inheritanceFirst p d e) state answer) ≢ 0
        → Deliveries.delivered_by p d e f ≡ 0
    held p malformed m = refl
    held p (holds State.fresh) m = absurd (m refl)
    held p (holds (State.waits L)) m = absurd (m refl)
    held p (holds State.over) m = refl

    go : (b : Bool) (c : Checked)
        → demands.number (cond b (Tick.replied (Tick.by_check inheritanceFirst read_back c state e) state answer) (outcome 1 state answer)) ≢ 0
        → cond b (delivered_if read_back c state e f) 0 ≡ 0
    go false c m = refl
    go true (bad k) m = refl
    go true (sound p) m = held (program read_back p) (decode_state p state) m

-- one answered 0 comes to the same with every buffer of its length
pub blank_alike : (sequence st : List ℕ) (e read_back : ℕ) (answer : List ℕ) → demands.number (tick_of sequence st e read_back answer) ≡ 0
    → tick_on sequence read_back st e ≡ tick_of sequence st e read_back answer
blank_alike sequence st e read_back answer n =
    let a = accepted sequence read_back (passed-check sequence st e read_back answer n) in
    let p = a.statement in
    let l = state_sized sequence st e read_back answer n in
    let w = tick_at inheritanceFirst sequence st e read_back answer p (decode_state p st) a.is_checked l (answer_sized sequence st e read_back answer n) refl in
    tick_at inheritanceFirst sequence st e read_back blank p (decode_state p st) a.is_checked l refl refl
    ∙ go (program read_back p) (decode_state p st) (sym (ap demands.number w) ∙ n)
    ∙ sym w
  where
    go : (p : Statement) (d : Decoded) → demands.number (Tick.replied (Tick.byState inheritanceFirst p d e) st answer) ≡ 0
        → Tick.replied (Tick.byState inheritanceFirst p d e) st blank ≡ Tick.replied (Tick.byState inheritanceFirst p d e) st answer
    go p malformed m = absurd (omega arith)
    go p (holds State.fresh) m = refl
    go p (holds (State.waits L)) m = refl
    go p (holds State.over) m = absurd (omega arith)

module _ (bay : ℕ) (b : bay < bay_count) (t : Terms) where
  -- the bay of the box stands in a state of the sequence
  abbrev pub Here : List ℕ → Type 0
  Here box = (length box ≡ box_length) × Standing t (stretch_of bay box)

  -- ---- one call to it
  module _ (box : List ℕ) (h : Here box) where
    abbrev s : List ℕ
    s = stretch_of bay box

    module _ (e : ℕ) (answer trace : List ℕ) where
      abbrev pub told : Outcome
      told = inner t s h.1 e answer trace

      result-is : result box bay (tick e answer trace) ≡ bay_tick_of s e answer trace
      result-is = rw (not-empty t s h.1)

      own_is : stretch_of bay (memory_after (call_of box bay (tick e answer trace))) ≡ memory_after (bay_tick_of s e answer trace)
      own_is = own_stretch box bay (tick e answer trace) b h.0 ∙ ap memory_after result-is

      number_of : number (call_of box bay (tick e answer trace)) ≡ number (bay_tick_of s e answer trace)
      number_of = ap number (own box bay (tick e answer trace) b h.0) ∙ ap number result-is

      tick-here : Here (memory_after (call_of box bay (tick e answer trace)))
      tick-here = (
        same_length box bay (tick e answer trace) ∙ h.0,
        subst (Standing t) (sym own_is) (tick-stands t s h.1 e answer trace).0,
      )

      -- unless the ledger is full
      module _ (d : number (call_of box bay (tick e answer trace)) ≢ 19) where
        not_full : number (bay_tick_of s e answer trace) ≢ 19
        not_full y = d (number_of ∙ y)

        pub number_is : number (call_of box bay (tick e answer trace)) ≡ demands.number told
        number_is = number_of ∙ tick-number s h.1.holds.sized e answer trace not_full ∙ ap demands.number (inner-is t s h.1 e answer trace)

        answer-is : paper_buffer trace (first (lent_after (call_of box bay (tick e answer trace)))) ≡ answer_afterwards told
        answer-is =
            ap (λ (o : Called). paper_buffer trace (first (lent_after o))) (own box bay (tick e answer trace) b h.0)
            ∙ ap (λ (o : Called). paper_buffer trace (first (lent_after o))) result-is
            ∙ tick-answer s h.1.holds.sized e answer trace not_full ∙ ap answer_afterwards (inner-is t s h.1 e answer trace)

        state-is : state_in (stretch_of bay (memory_after (call_of box bay (tick e answer trace)))) ≡ state_afterwards told
        state-is = ap state_in own_is ∙ (tick-stands t s h.1 e answer trace).1 not_full

        pub as-told : outcome_of bay trace (call_of box bay (tick e answer trace)) ≡ told
        as-told =
            ap₂ (λ (n : ℕ) (state : List ℕ). outcome n state (paper_buffer trace (first (lent_after (call_of box bay (tick e answer trace))))))
            number_is state-is
            ∙ ap (outcome (demands.number told) (state_afterwards told)) answer-is
            ∙ eta told

        -- demand 1 of this tick: its number is by the rows
        pub by_rows : ByRows (number (call_of box bay (tick e answer trace))) (TickRow t.sequence t.read_back (state_in s) (paper_buffer trace answer))
        by_rows =
            subst (λ (n : ℕ). ByRows n (TickRow t.sequence t.read_back (state_in s) (paper_buffer trace answer))) (sym number_is)
            (demand_1.tick_by_rows t.sequence (state_in s) e t.read_back (paper_buffer trace answer))

        -- its litres
        pub litres-are : (f : ℕ) → cond (eqb (number (call_of box bay (tick e answer trace))) 0) (delivering s e f) 0
            ≡ call_delivers t.sequence t.read_back (state_in s) (record { input = e; buffer = paper_buffer trace answer }) f
        litres-are f =
            elim (ℕ_discrete (number (call_of box bay (tick e answer trace))) 0) [
              | yes n ↦
                  let m = sym number_is ∙ n in
                  let l = state_sized t.sequence (state_in s) e t.read_back (paper_buffer trace answer) m in
                  let k = answer_sized t.sequence (state_in s) e t.read_back (paper_buffer trace answer) m in
                  rw (
                    eq-eqb (number (call_of box bay (tick e answer trace))) 0 n,
                    eq-eqb (length (state_in s)) state_length l,
                    eq-eqb (length (paper_buffer trace answer)) answer_length k,
                  )
                  (ap₂ (λ (q : List ℕ) (r : ℕ). deliveries q r (state_in s) e f) (sequence-held t s h.1) h.1.holds.set)
              | no n ↦ rw (ne_eqb (number (call_of box bay (tick e answer trace))) 0 n)
                  (sym (none-delivered t.sequence (state_in s) e t.read_back (paper_buffer trace answer) (λ m. n (number_is ∙ m)) f))
            ]

      -- an instant
      module _ (n : number (call_of box bay (tick e answer trace)) ≡ 0) where
        pub moves : number (call_of box bay (tick e answer trace)) ≢ 19
        moves y = omega arith

        -- demand 2
        pub shows-rules : (p : Statement) × StandsAt t.sequence t.read_back (state_in s) p × Derived p e
            × ((o : ℕ) (k : Code) (l : ℕ) (p' : Statement) → Reacts p e (gives o k l p')
            → Shows p e o k l p' (outcome_of bay trace (call_of box bay (tick e answer trace))))
        shows-rules = demand_2_call t.sequence (state_in s) e t.read_back (paper_buffer trace answer) (as-told moves) n

        pub on-input : outcome_of bay trace (call_of box bay (tick e answer trace)) ≡ tick_on t.sequence t.read_back (state_in s) e
        on-input =
            as-told moves
            ∙ sym (blank_alike t.sequence (state_in s) e t.read_back (paper_buffer trace answer) (sym (number_is moves) ∙ n))

  -- ---- a list of calls that neither takes it out nor comes back to a position
  pub record Run (box : List ℕ) (xs : List Request) : Type 0 where
    pub told : RunOf call_of bay t (state_in (stretch_of bay box)) box xs
    pub never_11 : (o : Outcome) → Memᴰ o (tick_outcomes call_of bay box xs) → demands.number o ≢ 11
    pub stands : Here (box_after call_of box xs)

  abbrev From : List ℕ → List Paper.Call → List Outcome
  From state = outcomes tick_of t.sequence t.read_back state

  abbrev Brings : ℕ → List ℕ → List Paper.Call → List ℕ
  Brings f state = delivered t.sequence t.read_back f state

  -- a call that is no tick of the bay: none of the lists has it
  record Aside (box : List ℕ) (x : Request) (xs : List Request) : Type 0 where
    pub outcome : tick_outcomes call_of bay box (x ∷ xs) ≡ tick_outcomes call_of bay (after_call call_of box x) xs
    pub tick : ticks_to call_of bay box (x ∷ xs) ≡ ticks_to call_of bay (after_call call_of box x) xs
    pub litres : (f : ℕ) → tick_litres call_of bay f box (x ∷ xs) ≡ tick_litres call_of bay f (after_call call_of box x) xs
    pub instant : instants_in call_of bay box (x ∷ xs) ≡ instants_in call_of bay (after_call call_of box x) xs
    pub input : inputs_in call_of bay box (x ∷ xs) ≡ inputs_in call_of bay (after_call call_of box x) xs

  other-aside : (box : List ℕ) (x : Request) (xs : List Request) → x.bay ≢ bay → Aside box x xs
  unfolding calls_to
  other-aside box x xs q =
      let e = ne_eqb x.bay bay q in record { outcome = rw e; tick = rw e; litres = λ f. rw e; instant = rw e; input = rw e }

  -- a call to the bay that is no tick
  abbrev NoTick : Call → Type 1
  NoTick c = (A : Type 0) (rest : A) (made : (e : ℕ) (answer trace : List ℕ) → A) → on_tick rest made c ≡ rest

  own-aside : (box : List ℕ) (c : Call) (xs : List Request) → NoTick c → Aside box (record { bay = bay; call = c }) xs
  unfolding calls_to
  own-aside box c xs q =
      let e = eq-eqb bay bay refl in
      record {
        outcome = rw e (q _ _ _);
        tick = rw e (q _ _ _);
        litres = λ f. rw e (q _ _ _);
        instant = rw e (q _ _ _);
        input = rw e (q _ _ _);
      }

  -- a tick that the ledger turns down
  full-aside : (box : List ℕ) (e : ℕ) (answer trace : List ℕ) (xs : List Request) → number (call_of box bay (tick e answer trace)) ≡ 19
      → Aside box (record { bay = bay; call = tick e answer trace }) xs
  unfolding calls_to
  full-aside box e answer trace xs n =
      let same = eq-eqb bay bay refl in
      let full = eq-eqb (number (call_of box bay (tick e answer trace))) 19 n in
      let none = ne_eqb (number (call_of box bay (tick e answer trace))) 0 (λ y. omega arith) in
      record { outcome = rw (same, full); tick = rw (same, full); litres = λ f. rw (same, full); instant = rw (same, none); input = rw (same, none) }

  -- one that leaves the state record
  steady-run : (box : List ℕ) → Here box → (x : Request) (xs : List Request) → Standing t (stretch_of bay (after_call call_of box x))
      → state_in (stretch_of bay (after_call call_of box x)) ≡ state_in (stretch_of bay box) → Aside box x xs
      → (Here (after_call call_of box x) → Run (after_call call_of box x) xs) → Run box (x ∷ xs)
  unfolding box_after
  steady-run box h x xs v e a r =
      let k = r (same_length box x.bay x.call ∙ h.0, v) in
      record {
        told = record {
          ticks = a.outcome ∙ k.told.ticks ∙ ap₂ From e (sym a.tick);
          litres = λ f. a.litres f ∙ k.told.litres f ∙ ap₂ (Brings f) e (sym a.tick);
          instants = a.instant ∙ k.told.instants ∙ ap₂ (λ (state es : List ℕ). From state (map call_on es)) e (sym a.input);
        };
        never_11 = λ y m. k.never_11 y (subst (Memᴰ y) a.outcome m);
        stands = k.stands;
      }

  -- one that leaves the slot
  stays-run : (box : List ℕ) → Here box → (x : Request) (xs : List Request) → stretch_of bay (after_call call_of box x) ≡ stretch_of bay box
      → Aside box x xs → (Here (after_call call_of box x) → Run (after_call call_of box x) xs) → Run box (x ∷ xs)
  stays-run box h x xs e = steady-run box h x xs (subst (Standing t) (sym e) h.1) (ap state_in e)

  -- one to the bay that writes behind the state
  behind-run : (box : List ℕ) → Here box → (c : Call) (xs : List Request) → Moved positions_at (stretch_of bay box) (result box bay c)
      → NoTick c
      → (Here (memory_after (call_of box bay c)) → Run (memory_after (call_of box bay c)) xs) → Run box (record { bay = bay; call = c } ∷ xs)
  behind-run box h c xs m q =
      let own = own_stretch box bay c b h.0 in
      let k = behind-stands t (stretch_of bay box) h.1 m in
      steady-run box h (record { bay = bay; call = c }) xs (subst (Standing t) (sym own) k.0) (ap state_in own ∙ k.1) (own-aside box c xs q)

  -- ---- a tick that the ledger does not turn down
  module _ (box : List ℕ) (h : Here box) (e : ℕ) (answer trace : List ℕ) (xs : List Request) (d : number (call_of box bay (tick e answer trace)) ≢ 19) where
    abbrev c : Request
    c = record { bay = bay; call = tick e answer trace }

    abbrev after : List ℕ
    after = memory_after (call_of box bay (tick e answer trace))

    -- its instant, if it is one, and those behind it
    instants-from : Run after xs
        → instants_in call_of bay box (c ∷ xs) ≡ From (state_in (stretch_of bay box)) (map call_on (inputs_in call_of bay box (c ∷ xs)))
    unfolding calls_to outcomes
    instants-from k =
        elim (ℕ_discrete (number (call_of box bay (tick e answer trace))) 0) [
          | yes n ↦
              let first = on-input box h e answer trace n in
              rw (eq-eqb bay bay refl, eq-eqb (number (call_of box bay (tick e answer trace))) 0 n)
              (ap₂ (λ (y : Outcome) (ys : List Outcome). y ∷ ys) first
              (k.told.instants ∙ ap (λ (state : List ℕ). From state (map call_on (inputs_in call_of bay after xs))) (ap state_afterwards first)))
          | no n ↦ rw (eq-eqb bay bay refl, ne_eqb (number (call_of box bay (tick e answer trace))) 0 n)
              (k.told.instants ∙ ap (λ (s : List ℕ). From (state_in s) (map call_on (inputs_in call_of bay after xs)))
              (refused-stretch box bay (tick e answer trace) n))
        ]

    tick-run : (Here after → Run after xs) → Run box (c ∷ xs)
    unfolding box_after calls_to outcomes delivered
    tick-run r =
        let k = r (tick-here box h e answer trace) in
        let first = as-told box h e answer trace d in
        let same = eq-eqb bay bay refl in
        let taken = ne_eqb (number (call_of box bay (tick e answer trace))) 19 d in
        record {
          told = record {
            ticks = rw (same, taken) (ap₂ (λ (y : Outcome) (ys : List Outcome). y ∷ ys) first
                (k.told.ticks ∙ ap (λ (state : List ℕ). From state (ticks_to call_of bay after xs)) (ap state_afterwards first)));
            litres = λ f. rw (same, taken) (ap₂ (λ (y : ℕ) (ys : List ℕ). y ∷ ys) (litres-are box h e answer trace d f)
                (k.told.litres f ∙ ap (λ (state : List ℕ). Brings f state (ticks_to call_of bay after xs)) (ap state_afterwards first)));
            instants = instants-from k;
          };
          never_11 = rw (same, taken) (λ y m. ⊎_elim
              (λ i. subst (λ (w : Outcome). demands.number w ≢ 11) (sym (i ∙ first))
              (tick-told t (stretch_of bay box) h.1 e answer trace).not-11)
              (λ i. k.never_11 y i)
              (Memᴰ.cases_cons m));
          stands = k.stands;
        }

  own-run : (box : List ℕ) → Here box → (c : Call) (xs : List Request) → Onward c (call_of box bay c)
      → (Here (memory_after (call_of box bay c)) → Run (memory_after (call_of box bay c)) xs) → Run box (record { bay = bay; call = c } ∷ xs)
  own-run box h (admit t') xs n r =
      stays-run box h (record { bay = bay; call = admit t' }) xs (refused-stretch box bay (admit t') (filled_already box bay b h.0 (not-empty t (stretch_of bay box) h.1) t'))
      (own-aside box (admit t') xs (λ A rest made. refl)) r
  own-run box h release xs n r =
      stays-run box h (record { bay = bay; call = release }) xs (refused-stretch box bay release (n.0 refl))
      (own-aside box release xs (λ A rest made. refl)) r
  own-run box h (tick e answer trace) xs n r =
      elim (ℕ_discrete (number (call_of box bay (tick e answer trace))) 19) [
        | yes y ↦ stays-run box h (record { bay = bay; call = tick e answer trace }) xs
            (refused-stretch box bay (tick e answer trace) (λ z. omega arith)) (full-aside box e answer trace xs y) r
        | no y ↦ tick-run box h e answer trace xs y r
      ]
  own-run box h (save name) xs n r =
      behind-run box h (save name) xs (rw (not-empty t (stretch_of bay box) h.1) (save-moved (stretch_of bay box) name))
      (λ A rest made. refl) r
  own-run box h (restore name) xs n r =
      stays-run box h (record { bay = bay; call = restore name }) xs (refused-stretch box bay (restore name) (n.1 name refl))
      (own-aside box (restore name) xs (λ A rest made. refl)) r
  own-run box h (forget name) xs n r =
      behind-run box h (forget name) xs (rw (not-empty t (stretch_of bay box) h.1) (forget-moved (stretch_of bay box) name))
      (λ A rest made. refl) r
  own-run box h (service trace view) xs n r =
      stays-run box h (record { bay = bay; call = service trace view }) xs
      (own_stretch box bay (service trace view) b h.0
      ∙ rw (not-empty t (stretch_of bay box) h.1) (service_reads (stretch_of bay box) trace view).left)
      (own-aside box (service trace view) xs (λ A rest made. refl)) r
  own-run box h (panel trace view) xs n r =
      stays-run box h (record { bay = bay; call = panel trace view }) xs
      (own_stretch box bay (panel trace view) b h.0
      ∙ rw (not-empty t (stretch_of bay box) h.1) (panel_reads (stretch_of bay box) trace view).left)
      (own-aside box (panel trace view) xs (λ A rest made. refl)) r
  own-run box h (preview e u buffer) xs n r =
      stays-run box h (record { bay = bay; call = preview e u buffer }) xs
      (own_stretch box bay (preview e u buffer) b h.0
      ∙ rw (not-empty t (stretch_of bay box) h.1) (preview-stays (stretch_of bay box) e u buffer))
      (own-aside box (preview e u buffer) xs (λ A rest made. refl)) r
  own-run box h (ledger totals) xs n r =
      stays-run box h (record { bay = bay; call = ledger totals }) xs
      (own_stretch box bay (ledger totals) b h.0 ∙ (ledger_reads (stretch_of bay box) totals).left)
      (own-aside box (ledger totals) xs (λ A rest made. refl)) r
  own-run box h new_year xs n r =
      behind-run box h new_year xs (further (omega arith) (year_moved (stretch_of bay box)))
      (λ A rest made. refl) r

  pub runs : (box : List ℕ) → Here box → (xs : List Request) → Onwards call_of bay box xs → Run box xs
  unfolding calls_to outcomes delivered box_after
  runs box h [] done =
      record { told = record { ticks = refl; litres = λ f. refl; instants = refl }; never_11 = λ o m. absurd (Memᴰ.not-nil m); stands = h }
  runs box h (x ∷ xs) (more n k) =
      elim (ℕ_discrete x.bay bay) [
        | yes q ↦ subst (λ (j : ℕ). Run box (record { bay = j; call = x.call } ∷ xs)) (sym q)
            (own-run box h x.call xs (n q)
            (λ i. runs (memory_after (call_of box bay x.call)) i xs
            (subst (λ (j : ℕ). Onwards call_of bay (memory_after (call_of box j x.call)) xs) q k)))
        | no q ↦ stays-run box h x xs (others_stay box x.bay x.call bay (λ y. q (sym y)) b)
            (other-aside box x xs q) (λ i. runs (after_call call_of box x) i xs k)
      ]

  -- ---- demand 3 from any state: the paper that starts with the term of the state
  module _ (box : List ℕ) (h : Here box) (xs : List Request) (k : Onwards call_of bay box xs) (plain : NoSetpause h.1.accepted.statement)
      (w : Rewriting) (i : TermOf (program t.read_back h.1.accepted.statement) h.1.state w) where
    reports : (calls : List Paper.Call) → map report (From (state_in (stretch_of bay box)) calls) ≡ paper w calls
    reports calls =
        ap (λ (state : List ℕ). map report (From state calls)) h.1.bytes
        ∙ all-ticks t.sequence t.read_back h.1.accepted plain calls h.1.state w i h.1.recorded

    pub agrees_from : RewritesAs call_of bay w box xs
    agrees_from =
        let r = (runs box h xs k).told in
        record {
          ticks = ap (map report) r.ticks ∙ reports (ticks_to call_of bay box xs);
          instants = ap (map report) r.instants ∙ reports (map call_on (inputs_in call_of bay box xs));
          litres = λ f. r.litres f ∙ ap (λ (state : List ℕ). Brings f state (ticks_to call_of bay box xs)) h.1.bytes
              ∙ all-deliveries t.sequence t.read_back h.1.accepted plain f (ticks_to call_of bay box xs) h.1.state w i h.1.recorded;
        }

-- ---- from an admission on
module _ (box : List ℕ) (bay : ℕ) (t : Terms) (small : Sendable (admit t)) (admitted : number (call_of box bay (admit t)) ≡ 0) where
  abbrev begins : List ℕ
  begins = memory_after (call_of box bay (admit t))

  pub is-bay : bay < bay_count
  is-bay = (answered-inside box bay (admit t) admitted).0

  sized_box : length box ≡ box_length
  sized_box = (answered-inside box bay (admit t) admitted).1

  pub record Begun : Type 0 where
    pub here : Here bay is-bay t begins
    pub fresh : state_in (stretch_of bay begins) ≡ cleared
    pub from-fresh : here.1.state ≡ State.fresh

  pub begun : Begun
  begun =
      go (is_empty s) (own_stretch box bay (admit t) is-bay sized_box)
      (sym (ap number (own box bay (admit t) is-bay sized_box)) ∙ admitted)
    where
      k : ℕ
      k = present bay_count box

      s : List ℕ
      s = stretch_of bay box

      z : length s ≡ stretch_length
      z = stretch_sized box bay (admit t) is-bay sized_box

      of-bay : Admission k s t (bay_admit_of k s t) → stretch_of bay begins ≡ memory_after (bay_admit_of k s t)
          → number (bay_admit_of k s t) ≡ 0 → Begun
      of-bay (turned_down n y e) w h = absurd (y (sym (ap number e) ∙ h))
      of-bay (admits c room e) w h =
          let a = accepted t.sequence t.read_back c in
          let whole = w ∙ ap memory_after e in
          record {
            here = (
              same_length box bay (admit t) ∙ sized_box,
              record {
                accepted = a;
                holds = subst (Holds t (ceiling_for t)) (sym whole) (filled-stands t a s z small).holds;
                state = State.fresh;
                bytes = ap state_in whole ∙ fresh-state t a s z ∙ cleared_fresh;
                recorded = tt;
              },
            );
            fresh = ap state_in whole ∙ fresh-state t a s z;
            from-fresh = refl;
          }

      go : (i : Bool) → stretch_of bay begins ≡ memory_after (cond i (bay_admit_of k s t) (called 13 s []))
          → number (cond i (bay_admit_of k s t) (called 13 s [])) ≡ 0 → Begun
      go true w h = of-bay (admission k s t) w h
      go false w h = absurd (omega arith)

  module _ (xs : List Request) (k : Onwards call_of bay begins xs) where
    pub run : Run bay is-bay t begins xs
    run = runs bay is-bay t begins begun.here xs k

    -- by the tick on its own, from a cleared record; and by rewriting, from the program of the sequence
    pub ticks_in_bay : RunOf call_of bay t cleared begins xs × Rewrites call_of bay t Rewriting.fresh begins xs
    ticks_in_bay = (subst (λ (state : List ℕ). RunOf call_of bay t state begins xs) begun.fresh run.told, rewrites)
      where
        rewrites : Rewrites call_of bay t Rewriting.fresh begins xs
        rewrites p q plain =
            let a = begun.here.1.accepted in
            let same = same_statement t.sequence p a.statement q a.spelled in
            agrees_from bay is-bay t begins begun.here xs k (subst NoSetpause same plain) (Rewriting.fresh (program t.read_back p))
            (subst (λ (st : State). TermOf (program t.read_back a.statement) st (Rewriting.fresh (program t.read_back p))) (sym begun.from-fresh)
            (ap (program t.read_back) same))
