-- Laws for the code: what one filling comes to, and the fillings by the signals asked for.
use Prim.Native.Nat.{ℕ, ◌+◌, ◌^◌, ◌<◌}
use native.Mathlib.Omega.{arith}
use mathlib.Core.Path.{◌≡◌, refl, sym, ap, ap₂, ◌∙◌, subst}
use mathlib.Core.Bool.{Bool, true, false, ◌&&◌, and-eq-true_iff, or-false}
use mathlib.Core.List.{List, []}
use borrow.Author.Tests.{lt-ltb}
use Rattle.spec_base.specs.Limits.{signal_count, signal_bytes}
use Rattle.spec_base.specs.Sets.{member, none, join, common, insert, remove, Subset, Disjoint}
use Rattle.spec_base.specs.Widths.{insert_below, Lowest}
use Rattle.sets.proofs.Booleans.{clash}
use Rattle.sets.proofs.Members.{member-none, member-join, member-common, member_lt}
use Rattle.spec_language.specs.Statement.{Statement}
use Rattle.theory_language.specs.Asked as Asked
use Rattle.theory_language.specs.Traced.{Traced, instant_of, start_traced}
use Rattle.spec_language.specs.Instants.{start}
use Rattle.spec_sequence.specs.Program.{program}
use Rattle.reaction.specs.declared.Completion.{Completion}
use Rattle.reaction.specs.declared.Completion.TheVariants.{Ended, Waiting, Leaving, Wrong}
use Rattle.reaction.specs.declared.Reaction.{Reaction}
use Rattle.reaction.specs.Reactions.{reaction_of}
use Rattle.instants.specs.Written.{written_by, writtenFrom}
use Rattle.spec_base.specs.Bytes.{le_bytes}
use Rattle.numbers.proofs.Bytes.{le_round_trip}
use Rattle.spec_tick.specs.AnswerRecord.{answer_record, encode_answer}
use Rattle.spec_tick.specs.Tick.{Outcome}
use Rattle.spec_tick.specs.Demands.{answer_afterwards}
use Rattle.program.specs.declared.Start.{Start}
use Rattle.program.specs.Program.{term_at}
use Rattle.instants.proofs.Replying.{written_from}
use Rattle.spec_bay.specs.declared.Findings.{Findings}
use Rattle.spec_bay.specs.Preview.{alone, found_in, both, findings}
use Rattle.box_previews.specs.Standing.{answers_at}
use Rattle.theory_bay.proofs.Numbers.{written-answer}
use Rattle.theory_language.proofs.Asked.{unasked_traced}
use Rattle.box_previews.proofs.Splitting.{one-for-all, apart-without, apart-with, split_at}

-- ---- one filling
alone_in : (k kind place o m : ℕ) → o < 256 ^ signal_bytes → alone o k ≡ found_in (answer_record k kind place o m)
unfolding le_bytes
alone_in k kind place o m h = ap (λ (x : ℕ). alone x k) (sym (le_round_trip signal_bytes o h))

module _ (o L m : ℕ) (h : o < 256 ^ signal_bytes) where
  abbrev In : Completion → Findings → Type 0
  In c x = x ≡ found_in (answer_afterwards (written_by c o L m))

  pub ended-found : {c : Completion} {x : Findings} → c ≡ Ended → x ≡ alone o 0 → In c x
  ended-found {c} {x} e q = subst (λ (k : Completion). In k x) (sym e) (q ∙ alone_in 0 0 0 o m h)

  pub waiting-found : {c : Completion} {x : Findings} → c ≡ Waiting → x ≡ alone o 1 → In c x
  waiting-found {c} {x} e q = subst (λ (k : Completion). In k x) (sym e) (q ∙ alone_in 1 0 0 o m h)

  pub leaving-found : {c : Completion} {x : Findings} {n : ℕ} → c ≡ Leaving n → x ≡ alone o (n + 1) → In c x
  leaving-found {c} {x} {n} e q = subst (λ (k : Completion). In k x) (sym e) (q ∙ alone_in (n + 1) 0 0 o m h)

  pub wrong-found : {c : Completion} {x : Findings} {kind place : ℕ} → c ≡ Wrong kind place → x ≡ alone 0 255 → In c x
  wrong-found {c} {x} {kind} {place} e q = subst (λ (k : Completion). In k x) (sym e) (q ∙ alone_in 255 kind place 0 m (omega arith))

-- a reaction of the program from a origin
pub tried_is : (origin : Start) (p : Statement) (read_back e : ℕ) (r : Reaction) (x : Findings)
    → r ≡ reaction_of (start_traced 0 (program read_back (term_at origin p)) e) → x ≡ found_in (answer_afterwards (writtenFrom r))
    → x ≡ found_in (answers_at origin p read_back e)
tried_is origin p read_back e r x h q =
    let t = program read_back (term_at origin p) in
    q ∙ ap (λ (w : Reaction). found_in (answer_afterwards (writtenFrom w))) h
    ∙ ap (λ (o : Outcome). found_in (answer_afterwards o)) (written_from (start_traced 0 t e))
    ∙ ap found_in (written-answer (start t e))

-- ---- the fillings of the unknown signals `free`, by those of them that the instant of e asked for
not_in : (a b : Bool) → (a ≡ true → b ≡ true) → b ≡ false → a ≡ false
not_in true b h e = clash b (h refl) e
not_in false b h e = refl

and_in : (a b c : Bool) → c ≡ (a && b) → c ≡ false → a ≡ true → b ≡ false
and_in true b c e z h = sym e ∙ z
and_in false b c e z h = clash false h refl

-- where it asked for none, the instant stands for every filling
pub stands_for_all : (origin : Start) (p : Statement) (read_back e free : ℕ) {r : Reaction} {x : Findings} {asked : ℕ} → Disjoint e free
    → r ≡ reaction_of (start_traced 0 (program read_back (term_at origin p)) e) → asked ≡ common r.asked free → asked ≡ none
    → x ≡ found_in (answer_afterwards (writtenFrom r)) → x ≡ findings (answers_at origin p read_back) e free
stands_for_all origin p read_back e free {r} {x} {asked} d h a z q =
    tried_is origin p read_back e r x h q
    ∙ sym (one-for-all (answers_at origin p read_back) e free d
    (λ f m. ap (λ (t : Traced). encode_answer (instant_of t))
    (unasked_traced 0 (program read_back (term_at origin p)) e (join e f) (agree f m))))
  where
    agree : (f : ℕ) → Subset f free → (i : ℕ) → member i (Asked.asked (program read_back (term_at origin p)) e) ≡ true → member i e ≡ member i (join e f)
    agree f m i k =
        let u : member i free ≡ false =
        and_in (member i r.asked) (member i free) (member i (common r.asked free)) (member-common i r.asked free)
        (ap (member i) (sym a ∙ z) ∙ member-none i) (ap (λ (y : Reaction). member i y.asked) h ∙ k) in
        sym (member-join i e f ∙ rw (not_in (member i f) (member i free) (m i) u) (or-false (member i e)))

-- else they are those without one that it asked for, and those with it
module _ (asks free : ℕ) {asked x : ℕ} (a : asked ≡ common asks free) (some : asked ≡ none → ⊥) (low : Lowest signal_count asked x) where
  pub hit : member x free ≡ true
  hit = ((and-eq-true_iff (member x asks) (member x free)).0 (sym (ap (member x) a ∙ member-common x asks free) ∙ low.found some)).1

  module _ (few : free < 2 ^ signal_count) (e : ℕ) {others present : ℕ} (o : others ≡ remove x free) (w : present ≡ insert_below signal_count x e) where
    inserted : present ≡ insert x e
    inserted = w ∙ rw (lt-ltb x signal_count (member_lt {w = signal_count} x few hit))

    pub still-apart : Disjoint e free → Disjoint e others × Disjoint present others
    still-apart d = (
      subst (Disjoint e) (sym o) (apart-without (λ i. []) e free d x hit),
      subst (λ (k : ℕ). Disjoint k others) (sym inserted) (subst (Disjoint (insert x e)) (sym o) (apart-with (λ i. []) e free d x hit)),
    )

    pub together : (answers : ℕ → List ℕ) {y z t : Findings} → Disjoint e free → y ≡ findings answers e others → z ≡ findings answers present others → t ≡ both y z
        → t ≡ findings answers e free
    together answers d hy hz ht =
        ht
        ∙ ap₂ both (hy ∙ ap (findings answers e) o) (hz ∙ ap₂ (findings answers) inserted o)
        ∙ sym (split_at answers e free d x hit)
