-- The tree under the read-back declarations, one declaration at a time.
use Prim.Native.Nat.{ℕ, ◌^◌, ◌<◌}
use native.Mathlib.Omega.{arith}
use mathlib.Core.Path.{◌≡◌, ap, ◌∙◌}
use mathlib.Core.Bool.{Bool, true, false, cond}
use mathlib.Core.List.{List, ◌∷◌}
use borrow.Author.Tests.{eqb-true, eqb-false, lt-ltb}
use Rattle.spec_base.specs.Limits.{signal_count, read_back_place}
use Rattle.spec_base.specs.Sets.{member, none, empty, insert, remove, members_from}
use Rattle.spec_base.specs.Widths.{insert_below, Lowest}
use Rattle.sets.proofs.Members.{member_lt}
use Rattle.sets.proofs.Lists.{members_none, members_lowest}
use Rattle.spec_language.specs.Statement.{Statement, reported, signal}
use Rattle.theory_language.specs.Traced.{start_traced, signal_traced, signal_once}
use Rattle.spec_language.specs.ReadBack.{declared_by, declared}
use Rattle.spec_sequence.specs.Program.{read_back_signals, program}
use Rattle.reaction.specs.declared.Reaction.{Reaction}
use Rattle.reaction.specs.Reactions.{FromOne, FromTwo, Realizes}
use Rattle.reaction.proofs.Accumulating.{farms-reported, farms-reported-once}
use Rattle.react.proofs.Steps.{here, of_tree}
use Rattle.theory_language.proofs.Trees.{start-traced-signal}
use Rattle.theory_language.proofs.Asked.{one_run_signal}

none-declared : (read_back : ℕ) (t : Statement) → empty read_back ≡ true → program read_back t ≡ t
unfolding declared_by
none-declared read_back t z =
    ap (λ (ss : List ℕ). declared read_back_place ss t) (ap (members_from signal_count 0) (eqb-true read_back none z) ∙ members_none signal_count 0)

pub none_left : (f read_back : ℕ) (t : Statement) (e : ℕ) {b a : List ℕ} {r : Reaction} → empty read_back ≡ true → Realizes f b a r (start_traced f t e)
    → Realizes f b a r (start_traced f (program read_back t) e)
none_left f read_back t e z = here f t (program read_back t) e (none-declared read_back t z)

-- ---- a read-back signal x at place pl, whose run without it is p
module _ (f e : ℕ) (pl x : ℕ) (t : Statement) (small : x < signal_count) {b m : List ℕ} {p r : Reaction} {e− : ℕ} (less : e− ≡ remove x e)
    (p-is : Realizes f b m p (start_traced f t e−)) where
  signal-step : {q : Reaction} {n a : List ℕ} {e+ : ℕ} {c : Bool} → e+ ≡ insert_below signal_count x e → Realizes f b n q (start_traced f t e+)
      → c ≡ member x q.emitted → a ≡ cond c n m
      → FromTwo (signal_traced f reported pl x) p q r → Realizes f b a r (start_traced f (signal reported pl x t) e)
  signal-step {q} {e+ = e+} more g c-is a-is w =
      let more' : e+ ≡ insert x e = more ∙ rw (lt-ltb x signal_count small) in
      let h− = rw less at p-is in
      let h+ = rw more' at g in
      of_tree (start-traced-signal f reported pl x t e) (
        w (start_traced f t (remove x e)) (start_traced f t (insert x e)) h−.0 h+.0,
        farms-reported f pl x (start_traced f t (remove x e)) (start_traced f t (insert x e)) h−.1 h+.1 (rw h+.0 at c-is) a-is,
      )

  -- it was not asked for
  signal-once-step : member x p.asked ≡ false → FromOne (signal_once f reported pl x) p r → Realizes f b m r (start_traced f (signal reported pl x t) e)
  signal-once-step n k =
      let h = rw less at p-is in
      of_tree (one_run_signal f x t e (rw h.0 at n) reported pl)
      (k (start_traced f t (remove x e)) h.0, farms-reported-once f pl x (start_traced f t (remove x e)) h.1)

module _ (read_back x : ℕ) (fits : read_back < 2 ^ signal_count) (some : empty read_back ≡ false) (low : Lowest signal_count read_back x) where
  pub found : member x read_back ≡ true
  found = low.found (eqb-false read_back none some)

  pub small : x < signal_count
  small = member_lt {w = signal_count} x fits found

  first : read_back_signals read_back ≡ x ∷ read_back_signals (remove x read_back)
  first = members_lowest signal_count 0 read_back x (omega arith) (omega (arith, small)) found low.least

  declared-first : (t : Statement) → program read_back t ≡ signal reported read_back_place x (program (remove x read_back) t)
  unfolding declared_by
  declared-first t = ap (λ (ss : List ℕ). declared read_back_place ss t) first

  module _ (f : ℕ) (t : Statement) (e : ℕ) {o e− : ℕ} {b m : List ℕ} {p r : Reaction} (ho : o ≡ remove x read_back) (less : e− ≡ remove x e)
      (p-is : Realizes f b m p (start_traced f (program o t) e−)) where
    pub one_more : {q : Reaction} {n a : List ℕ} {e+ : ℕ} {c : Bool} → e+ ≡ insert_below signal_count x e → Realizes f b n q (start_traced f (program o t) e+)
        → c ≡ member x q.emitted → a ≡ cond c n m
        → FromTwo (signal_traced f reported read_back_place x) p q r → Realizes f b a r (start_traced f (program read_back t) e)
    one_more more q-is c-is a-is k =
        let u = program (remove x read_back) t in
        here f (signal reported read_back_place x u) (program read_back t) e (declared-first t)
        (signal-step f e read_back_place x u small less (rw ho at p-is) more (rw ho at q-is) c-is a-is k)

    pub one-more-once : member x p.asked ≡ false → FromOne (signal_once f reported read_back_place x) p r
        → Realizes f b m r (start_traced f (program read_back t) e)
    one-more-once n k =
        let u = program (remove x read_back) t in
        here f (signal reported read_back_place x u) (program read_back t) e (declared-first t)
        (signal-once-step f e read_back_place x u small less (rw ho at p-is) n k)
