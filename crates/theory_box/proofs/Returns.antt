-- A bay from a coming back to a position on, in the boxes that calls reach: it stands at the labels that were saved.
use Prim.Native.Nat.{ℕ, ◌<◌}
use mathlib.Core.Path.{◌≡◌, refl, sym, ap, ap₂, ◌∙◌, subst}
use mathlib.Core.Option.{some}
use mathlib.Core.List.{List}
use Rattle.spec_base.specs.Limits.{bay_count}
use Rattle.spec_language.specs.Statement.{Statement}
use Rattle.spec_language.specs.States.{NoSetpause}
use Rattle.spec_language.specs.Expansion.{expand}
use Rattle.spec_language.specs.Machines.{State, Rewriting}
use Rattle.theory_language.proofs.Agreement.{TermOf}
use Rattle.spec_sequence.specs.Program.{program}
use Rattle.spec_tick.specs.StateRecord.{encode_state}
use Rattle.records.proofs.StateLaws.{length_state}
use Rattle.theory_tick.proofs.Sequence.{same_statement}
use Rattle.spec_bay.specs.Table.{lookup}
use Rattle.spec_bay.specs.Called.{number, memory_after}
use Rattle.spec_bay.specs.Stretch.{sequence_in, read_back_in, state_in, positions_in, Terms, terms}
use Rattle.spec_box.specs.Box.{empty_box, stretch_of, admit, restore, call_of}
use Rattle.spec_box.specs.Lists.{Request, box_after}
use Rattle.spec_box.specs.BayRuns.{Onwards, terms_in, RunOf, Rewrites}
use Rattle.spec_box.specs.Positions.{TicksFromPosition}
use Rattle.theory_bay.proofs.Fields.{Holds, moved-state}
use Rattle.theory_box.proofs.Bays.{ceiling_for, bounds}
use Rattle.theory_box.proofs.Standing.{Standing, sequence-held, put-stands}
use Rattle.theory_box.proofs.Positions.{Positioned}
use Rattle.theory_box.proofs.Stretches.{answered-inside, same_length}
use Rattle.theory_box.proofs.Reached.{filled-bay, Kept, kept, kept_call, kept_list}
use Rattle.theory_box.proofs.Named.{answered-there, comes_back, named-from-admission}
use Rattle.theory_box.proofs.Instants.{terms_fixed}
use Rattle.theory_box.proofs.BayRuns.{Here, Run, runs, agrees_from}

as_held : (t : Terms) (s : List ℕ) → Standing t s → Positioned t (positions_in s) → Standing (terms_in s) s × Positioned (terms_in s) (positions_in s)
as_held t s h v =
    subst (λ (t : Terms). Standing t s × Positioned t (positions_in s))
    (ap₂ (λ (sequence : List ℕ) (read_back : ℕ). terms sequence read_back t.service_only) (sym (sequence-held t s h)) (sym h.holds.set)
    ∙ ap (terms (sequence_in s) (read_back_in s)) (sym h.holds.service))
    (h, v)

module _ (box : List ℕ) (h : Kept box) (bay name : ℕ) (back : number (call_of box bay (restore name)) ≡ 0) where
  abbrev s : List ℕ
  s = stretch_of bay box

  abbrev again : List ℕ
  again = memory_after (call_of box bay (restore name))

  pub is-bay : bay < bay_count
  is-bay = (answered-inside box bay (restore name) back).0

  pub record Returned : Type 0 where
    pub labels : ℕ
    pub found : lookup name (positions_in s) ≡ some labels
    pub here : Here bay is-bay (terms_in s) again
    pub at_labels : here.1.state ≡ State.waits labels

  pub returned : Returned
  returned =
      let f = filled-bay s (h.sound bay is-bay) (answered-there box bay (restore name) back).0 in
      let g = as_held f.0 s f.1 f.2 in
      let a = g.0.accepted in
      let c = comes_back box bay name back in
      let r = g.1.saved name c.0 c.1 a.statement a.spelled in
      let p = put-stands (terms_in s) s g.0 (State.waits c.0) r (encode_state (State.waits c.0)) refl in
      record {
        labels = c.0;
        found = c.1;
        here = (
          same_length box bay (restore name) ∙ h.sized_box,
          record {
            accepted = a;
            holds = subst (Holds (terms_in s) (ceiling_for (terms_in s))) (sym c.2) p.holds;
            state = State.waits c.0;
            bytes = ap state_in c.2
                ∙ moved-state (terms_in s) (ceiling_for (terms_in s)) (bounds (terms_in s) a).1 s g.0.holds (encode_state (State.waits c.0))
                (length_state (State.waits c.0));
            recorded = r;
          },
        );
        at_labels = refl;
      }

  -- by the tick on its own, from the labels found; and by rewriting, from their expansion
  module _ (xs : List Request) (k : Onwards call_of bay again xs) where
    pub run : Run bay is-bay (terms_in s) again xs
    run = runs bay is-bay (terms_in s) again returned.here xs k

    pub run-from : RunOf call_of bay (terms_in s) (encode_state (State.waits returned.labels)) again xs
    run-from =
        subst (λ (state : List ℕ). RunOf call_of bay (terms_in s) state again xs) (returned.here.1.bytes ∙ ap encode_state returned.at_labels) run.told

    pub rewrites : Rewrites call_of bay (terms_in s) (λ p. Rewriting.waits (expand p returned.labels)) again xs
    rewrites p q plain =
        let a = returned.here.1.accepted in
        let same = same_statement (sequence_in s) p a.statement q a.spelled in
        let w : Rewriting = Rewriting.waits (expand (program (read_back_in s) p) returned.labels) in
        agrees_from bay is-bay (terms_in s) again returned.here xs k (subst NoSetpause same plain) w
        (subst (λ (st : State). TermOf (program (read_back_in s) a.statement) st w) (sym returned.at_labels)
        (ap (λ (r : Statement). expand (program (read_back_in s) r) returned.labels) same))

-- ---- in a box that calls reach, an admission, calls that do not take the bay out, and a coming back
pub ticks_from_position : TicksFromPosition call_of
ticks_from_position zs sent bay t small admitted ys sent' stays name back =
    let box = box_after call_of empty_box zs in
    let opened = memory_after (call_of box bay (admit t)) in
    let left = box_after call_of opened ys in
    let come = memory_after (call_of left bay (restore name)) in
    let h = kept_list opened (kept_call box (kept zs sent) bay (admit t) small) ys sent' in
    let r = returned left h bay name back in
    let fixed : terms_in (stretch_of bay left) ≡ t = terms_fixed box bay t small admitted ys stays in
    let saved = (named-from-admission bay (is-bay left h bay name back) box (kept zs sent) t small admitted ys sent').alike name in (
      r.labels,
      sym saved ∙ r.found,
      λ xs k. (
        subst (λ (u : Terms). RunOf call_of bay u (encode_state (State.waits r.labels)) come xs) fixed (run-from left h bay name back xs k),
        subst (λ (u : Terms). Rewrites call_of bay u (λ p. Rewriting.waits (expand p r.labels)) come xs) fixed (rewrites left h bay name back xs k),
      ),
    )
