-- A table and the positions by name stay the same over a save and a forget, with the same numbers.
use Prim.Native.Nat.{ℕ, suc, ◌^◌, ◌≤◌, ◌<◌}
use native.Mathlib.Omega.{arith}
use native.Mathlib.Decide.{ℕ_discrete}
use mathlib.Core.Path.{◌≡◌, refl, sym, ap, ◌∙◌, subst}
use mathlib.Core.Bool.{cond}
use mathlib.Core.Logic.{◌≢◌, ⊎_elim}
use mathlib.Core.Option.{some, none, none-ne-some}
use mathlib.Core.List.Memᴰ
use mathlib.Core.List.{List, [], ◌∷◌, Memᴰ}
use lib.ListN.{length}
use lib.Dec.{eqb}
use borrow.Author.Tests.{eq-eqb, ne_eqb, lt-ltb, le-ltb}
use Rattle.spec_base.specs.Limits.{label_bytes, max_positions, name_bytes}
use Rattle.spec_base.specs.Parts.{zeros}
use Rattle.spec_bay.specs.Names.{Position, position, find, without, Answered, answered, save_named, forget_named, number_answered, positions_after, names_of, Once}
use Rattle.spec_bay.specs.Table.{table_length, key_in, lookup, number_kept, table_kept, save_of, forget_of}
use Rattle.box_positions.specs.Places.{place_of, names, Agrees}
use Rattle.box_positions.proofs.Lookups.{lookup-at, lookup-none, present}
use Rattle.box_positions.proofs.TableLaws.{Place, Saving, placed, full, saving, lookup-saved, lookup_others_saved, formed_saved, Forgetting, known, unknown, forgetting, lookup-forgotten, lookup_others_forgotten, formed_forgotten, formed_zeros, lookup-zeros}
use Rattle.box_positions.proofs.Once.{fewer}
use Rattle.box_positions.proofs.Known.{names_known, names-once, all-used, one_free}

-- ---- what is found without a name
module _ (name : ℕ) where
  pub find-without : (ps : List (Position ℕ)) → find name (without name ps) ≡ none
  unfolding find without
  find-without [] = refl
  find-without (position n labels ∷ ps) =
      elim (ℕ_discrete n name) [
        | yes e ↦ rw (eq-eqb n name e) (find-without ps)
        | no e ↦
            let w : cond (eqb n name) (some labels) (find name (without name ps)) ≡ none = rw (ne_eqb n name e) (find-without ps) in
            rw (ne_eqb n name e) w
      ]

  pub find-others : (other : ℕ) → other ≢ name → (ps : List (Position ℕ)) → find other (without name ps) ≡ find other ps
  unfolding find without
  find-others other d [] = refl
  find-others other d (position n labels ∷ ps) =
      elim (ℕ_discrete n name) [
        | yes e ↦ rw (eq-eqb n name e, ne_eqb n other (λ x. d (sym x ∙ e))) (find-others other d ps)
        | no e ↦ rw (ne_eqb n name e) (ap (cond (eqb n other) (some labels)) (find-others other d ps))
      ]

-- ---- the names
module _ (name : ℕ) where
  pub found-named : (ps : List (Position ℕ)) (labels : ℕ) → find name ps ≡ some labels → Memᴰ name (names_of ps)
  unfolding find names_of
  found-named [] labels h = absurd (none-ne-some labels h)
  found-named (position n l ∷ ps) labels h =
      let w : cond (eqb n name) (some l) (find name ps) ≡ some labels = h in
      elim (ℕ_discrete n name) [
        | yes e ↦ Memᴰ.head (sym e)
        | no e ↦ Memᴰ.tail (found-named ps labels (rw (ne_eqb n name e) at w))
      ]

  pub named-found : (ps : List (Position ℕ)) → Memᴰ name (names_of ps) → (labels : ℕ) × (find name ps ≡ some labels)
  unfolding find names_of
  named-found [] h = absurd (Memᴰ.not-nil h)
  named-found (position n l ∷ ps) h =
      elim (ℕ_discrete n name) [
        | yes e ↦ (l, rw (eq-eqb n name e))
        | no e ↦
            let r = named-found ps (⊎_elim (λ q. absurd (e (sym q))) (λ q. q) (Memᴰ.cases_cons h)) in
            (r.0, rw (ne_eqb n name e) r.1)
      ]

module _ (name : ℕ) where
  not_left : (ps : List (Position ℕ)) → ¬ Memᴰ name (names_of (without name ps))
  not_left ps h =
      let r = named-found name (without name ps) h in
      none-ne-some r.0 (sym (find-without name ps) ∙ r.1)

  left_in : (ps : List (Position ℕ)) (m : ℕ) → Memᴰ m (names_of (without name ps)) → Memᴰ m (names_of ps)
  left_in ps m h =
      let r = named-found m (without name ps) h in
      elim (ℕ_discrete m name) [
        | yes e ↦ absurd (not_left ps (Memᴰ.cast (sym e) h))
        | no e ↦ found-named m ps r.0 (sym (find-others name m e ps) ∙ r.1)
      ]

  pub once-without : (ps : List (Position ℕ)) → Once (names_of ps) → Once (names_of (without name ps))
  unfolding without names_of
  once-without [] h = tt
  once-without (position n labels ∷ ps) h =
      elim (ℕ_discrete n name) [
        | yes e ↦ rw (eq-eqb n name e) (once-without ps h.1)
        | no e ↦ rw (ne_eqb n name e) (λ m. h.0 (left_in ps n m), once-without ps h.1)
      ]

length-names : (ps : List (Position ℕ)) → length (names_of ps) ≡ length ps
unfolding names_of
length-names [] = refl
length-names (position n labels ∷ ps) = ap suc (length-names ps)

-- ---- a table that agrees
module _ (t : List ℕ) (ps : List (Position ℕ)) (a : Agrees t ps) where
  pub as_many : length (names t) ≡ length ps
  as_many =
      let x = fewer (names t) (names_of ps) (names-once t a.formed)
      (λ n m. let r = (names_known t a.formed n).0 m in found-named n ps r.0 (sym (a.alike n) ∙ r.1)) in
      let y = fewer (names_of ps) (names t) a.once
      (λ n m. let r = named-found n ps m in (names_known t a.formed n).1 (r.0, a.alike n ∙ r.1)) in
      omega (arith, x, y, length-names ps)

  find_none : (name : ℕ) → max_positions ≤ place_of name t → find name ps ≡ none
  find_none name u = sym (a.alike name) ∙ lookup-none name t u

  module _ (name labels : ℕ) (small : name < 256 ^ name_bytes) (fits : labels < 256 ^ label_bytes) where
    abbrev more : List (Position ℕ)
    more = position name labels ∷ without name ps

    room : (i : ℕ) → i < max_positions → Place name t i → save_named name labels ps ≡ answered 0 more
    unfolding save_named
    room i l p =
        ⊎_elim
        (λ e. let r = present name t i l e in rw (sym (a.alike name) ∙ r.1))
        (λ q.
        let k : length ps < max_positions = omega (arith, as_many, one_free max_positions t i l q.1) in
        rw (find_none name q.0, lt-ltb (length ps) max_positions k)) p

    no_room : max_positions ≤ place_of name t → ((j : ℕ) → j < max_positions → key_in j t ≢ 0) → save_named name labels ps ≡ answered 16 ps
    unfolding save_named
    no_room u e =
        let k : max_positions ≤ length ps = omega (arith, as_many, all-used max_positions t e) in
        rw (find_none name u, le-ltb (length ps) max_positions k)

    find-more : (n : ℕ) → n ≢ name → find n more ≡ find n ps
    unfolding find
    find-more n d = rw (ne_eqb name n (λ e. d (sym e))) (find-others name n d ps)

    find-saved : find name more ≡ some labels
    unfolding find
    find-saved = rw (eq-eqb name name refl)

    once_more : Once (names_of more)
    unfolding names_of
    once_more = (not_left name ps, once-without name ps a.once)

    saved-agrees : number_kept (save_of name labels t) ≡ 0 → Agrees (table_kept (save_of name labels t)) more
    saved-agrees z = record {
      formed = formed_saved name labels t a.formed small;
      alike = λ n. elim (ℕ_discrete n name) [
        | yes e ↦ subst (λ (m : ℕ). lookup m (table_kept (save_of name labels t)) ≡ find m more) (sym e)
            (lookup-saved name labels t a.formed small z fits ∙ sym find-saved)
        | no e ↦ lookup_others_saved name labels t a.formed small n e ∙ a.alike n ∙ sym (find-more n e)
      ];
      once = once_more;
    }

    pub save_agrees : (number_kept (save_of name labels t) ≡ number_answered (save_named name labels ps))
        × Agrees (table_kept (save_of name labels t)) (positions_after (save_named name labels ps))
    save_agrees = go (saving name labels t)
      where
        go : Saving name labels t → (number_kept (save_of name labels t) ≡ number_answered (save_named name labels ps))
            × Agrees (table_kept (save_of name labels t)) (positions_after (save_named name labels ps))
        go (placed i l p w) =
            let r = room i l p in (
              ap number_kept w ∙ sym (ap number_answered r),
              subst (λ (o : Answered ℕ). Agrees (table_kept (save_of name labels t)) (positions_after o)) (sym r) (saved-agrees (ap number_kept w)),
            )
        go (full u e w) =
            let r = no_room u e in (
              ap number_kept w ∙ sym (ap number_answered r),
              subst (λ (o : Answered ℕ). Agrees (table_kept (save_of name labels t)) (positions_after o)) (sym r)
                  (subst (λ (s : List ℕ). Agrees s ps) (sym (ap table_kept w)) a),
            )

  module _ (name : ℕ) where
    forgotten-agrees : Agrees (table_kept (forget_of name t)) (without name ps)
    forgotten-agrees = record {
      formed = formed_forgotten name t a.formed;
      alike = λ n. elim (ℕ_discrete n name) [
        | yes e ↦ subst (λ (m : ℕ). lookup m (table_kept (forget_of name t)) ≡ find m (without name ps)) (sym e)
            (lookup-forgotten name t a.formed ∙ sym (find-without name ps))
        | no e ↦ lookup_others_forgotten name t a.formed n e ∙ a.alike n ∙ sym (find-others name n e ps)
      ];
      once = once-without name ps a.once;
    }

    is_known : place_of name t < max_positions → forget_named name ps ≡ answered 0 (without name ps)
    unfolding forget_named
    is_known l = rw (sym (a.alike name) ∙ lookup-at name t (place_of name t) refl l)

    is-unknown : max_positions ≤ place_of name t → forget_named name ps ≡ answered 15 ps
    unfolding forget_named
    is-unknown u = rw (find_none name u)

    pub forget_agrees : (number_kept (forget_of name t) ≡ number_answered (forget_named name ps))
        × Agrees (table_kept (forget_of name t)) (positions_after (forget_named name ps))
    forget_agrees = go (forgetting name t)
      where
        go : Forgetting name t → (number_kept (forget_of name t) ≡ number_answered (forget_named name ps))
            × Agrees (table_kept (forget_of name t)) (positions_after (forget_named name ps))
        go (known l w) =
            let r = is_known l in (
              ap number_kept w ∙ sym (ap number_answered r),
              subst (λ (o : Answered ℕ). Agrees (table_kept (forget_of name t)) (positions_after o)) (sym r) forgotten-agrees,
            )
        go (unknown u w) =
            let r = is-unknown u in (
              ap number_kept w ∙ sym (ap number_answered r),
              subst (λ (o : Answered ℕ). Agrees (table_kept (forget_of name t)) (positions_after o)) (sym r)
                  (subst (λ (s : List ℕ). Agrees s ps) (sym (ap table_kept w)) a),
            )

-- ---- a cleared table
pub cleared-agrees : Agrees (zeros table_length) []
unfolding find names_of
cleared-agrees = record {
  formed = formed_zeros;
  alike = lookup-zeros;
  once = tt;
}
