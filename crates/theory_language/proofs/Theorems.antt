-- The theorems of this crate in the words of the papers, each a line or two over the files beside it.
use Prim.Native.Nat.{ℕ, ◌+◌, ◌-◌, ◌*◌, ◌^◌, ◌≤◌, min}
use mathlib.Core.Path.{◌≡◌, refl, ap, ◌∙◌}
use mathlib.Core.Logic.{◌↔◌, ◌≢◌}
use mathlib.Core.Bool.{true, false}
use mathlib.Core.Option.{Option}
use mathlib.Core.List.{List, [], ◌∷◌, map, head?}
use native.Mathlib.Omega.{arith}
use Rattle.spec_base.specs.Sets.{member, none, insert, remove, without}
use Rattle.sets.proofs.Booleans.{never, clash, Tested, tested}
use Rattle.spec_language.specs.Statement.{Scope, local, reported, Statement, pause, signal, suspend}
use Rattle.spec_language.specs.Reaction.{ended, waiting, leaving, wrong, Reaction, gives, emitted, code, labels, residual, is_wrong, Order, printed, inheritanceFirst, react_by, react}
use Rattle.spec_language.specs.Errors.{errors_by, errors, first_error_by, first_error, uses}
use Rattle.spec_language.specs.Reactions.{reactions_by, reactions, rules_used}
use Rattle.theory_language.specs.Asked.{asked_by, asked, asks}
use Rattle.spec_language.specs.Litres.{AtMost, delivered_by, delivered, delivers}
use Rattle.spec_language.specs.SignalOrders.{overlap}
use Rattle.spec_language.specs.Rules.{ReactsBy, Reacts}
use Rattle.spec_language.specs.Sizes.{commands, signal_nesting}
use Rattle.spec_language.specs.Ceiling.{ceiling, LoopFree, dearest}
use Rattle.spec_language.specs.States.{Holds, active, Awake, Stops, Valid, Distinct, Targeted, NoSetpause, Source, WellFormed}
use Rattle.spec_language.specs.Expansion.{expand, Expands, clause}
use Rattle.spec_language.specs.LabelTests.{active_labels}
use Rattle.theory_language.specs.Ranks.{mask, labels_by}
use Rattle.spec_language.specs.Instants.{instant, start}
use Rattle.theory_language.specs.InstantRules.{suspend_instant}
use Rattle.theory_language.specs.Traced.{asked_of, start_traced, signal_once}
use Rattle.theory_language.specs.RankedExpansion.{expand_by, resume, resume_traced}
use Rattle.spec_language.specs.ReadBack.{declared_by, declared, AgreeOutside, RemainsUnder}
use Rattle.spec_language.specs.Machines.{seen_without, run, reached, State, by_labels, ValidState, ReactionOf, of_statement, of_expansion, FromValid, Rewriting, by_rewriting, adds_by_labels, adds_by_rewriting, added, erase}
use Rattle.theory_language.proofs.Rules as rules
use Rattle.theory_language.proofs.Rules.{wrong_is}
use Rattle.theory_language.proofs.Derivations as derivations
use Rattle.theory_language.proofs.Figure5 as figure
use Rattle.theory_language.proofs.SignalOrders.{kept, wrong_iff_error, same_first, unchanged, overlap_wrong}
use Rattle.theory_language.proofs.Reactions.{rules-used, reactions_kept}
use Rattle.theory_language.proofs.Ceiling as ceilings
use Rattle.theory_language.proofs.Dearest as dearests
use Rattle.theory_language.proofs.Activity.{active-is, active_labels-is, expand_suspend}
use Rattle.theory_language.proofs.Invariant.{Fits}
use Rattle.theory_language.proofs.Residual.{Remains, residual_fresh, residual_resumed}
use Rattle.theory_language.proofs.Places.{Together}
use Rattle.theory_language.proofs.Stability.{SoundLabels, labels_fresh, labels_resumed, together_none, sound-valid}
use Rattle.theory_language.proofs.Ranks.{none_is, labels-by}
use Rattle.theory_language.proofs.Trees.{start_held}
use Rattle.theory_language.proofs.Resume.{expand_by_lem}
use Rattle.theory_language.proofs.ReadBack.{expand_declared_by, remains_declared, declared_unread}
use Rattle.theory_language.proofs.Scopes.{hides_is, reported_local, run-hides}
use Rattle.theory_language.proofs.Asked.{unasked, one_run, one_run_signal, asks-is}
use Rattle.theory_language.proofs.Agreement.{agree, valid-reached}
use Rattle.theory_language.proofs.Erasure.{erased_reaction, erased_errors, erased_reactions, erased_delivered, erased_run}
use Rattle.theory_language.proofs.Litres.{delivers-is, not-emitted, delivered-most, expand-most, agree-added}

-- what one induction shows of a reaction of p and of one of an expansion
both_fit : (K : Statement → ℕ → Statement → Type 0) (p : Statement) (e : ℕ) {r : Reaction}
    → Fits K p (react p e) → ((L : ℕ) → Fits K p (react (expand p L) e)) → ReactionOf p e r → Fits K p r
both_fit K p e f g of_statement = f
both_fit K p e f g (of_expansion L) = g L

-- the label set that was resumed
abbrev resumed_from : (p : Statement) (e : ℕ) {r : Reaction} → ReactionOf p e r → ℕ
resumed_from p e of_statement = none
resumed_from p e (of_expansion L) = L

sound_labels : (p : Statement) (e : ℕ) {r : Reaction} (x : ReactionOf p e r) → Fits (SoundLabels (resumed_from p e x)) p r
sound_labels p e of_statement = labels_fresh none p e
sound_labels p e (of_expansion L) = labels_resumed p L e

were_together : (p : Statement) (e : ℕ) {r : Reaction} (x : ReactionOf p e r) → FromValid p e x → Together p (resumed_from p e x)
were_together p e of_statement v = together_none p
were_together p e (of_expansion L) v = v.together

-- 0. RULES (003, corollary 11): the relation is the function, so that there is a derivation, and of one answer; and by 01's printed
-- order of the signal rules
pub reacts_is : (p : Statement) (e : ℕ) (r : Reaction) → Reacts p e r ↔ (r ≡ react p e)
reacts_is = rules.reacts_is

pub printed_is : (p : Statement) (e : ℕ) (r : Reaction) → ReactsBy printed p e r ↔ (r ≡ react_by printed p e)
printed_is = rules.reacts_by_is printed

-- by either order, the errors are the uses of kinds 1, 2 and 3 in any derivation, and the first error is the first use
pub uses-is : {ord : Order} {p : Statement} {e : ℕ} {r : Reaction} (d : ReactsBy ord p e r) → uses d ≡ errors_by ord p e
uses-is = derivations.uses-is

pub first_use : {ord : Order} {p : Statement} {e : ℕ} {r : Reaction} (d : ReactsBy ord p e r) → head? (uses d) ≡ first_error_by ord p e
first_use = derivations.first_use

-- 002, figure 5: of a valid set it gives the expansion and nothing else, by one clause at each command
pub figure_5 : (p : Statement) (L : ℕ) → Valid p L → (t : Statement) → Expands L p t ↔ (t ≡ expand p L)
figure_5 = figure.figure_5

pub figure_5_clause : {L : ℕ} {p t u : Statement} (d : Expands L p t) (d₂ : Expands L p u) → clause d ≡ clause d₂
figure_5_clause = figure.figure_5_clause

-- 1. RESIDUAL IS EXPANSION (002, theorem 6)
pub residual-is_expansion : (p : Statement) → Source p → Distinct p → NoSetpause p → (e o l : ℕ) (t : Statement)
    → ReactionOf p e (gives o waiting l t) → t ≡ expand p l
residual-is_expansion p c d n e o l t x =
    (both_fit Remains p e (residual_fresh p e) (λ L. residual_resumed p L e) x c d n).equal

-- 2. RESUME. Where a pause is active, the expansion by the ranks of the active pauses is the expansion, and so is its instant, its
-- first error and number of reactions included; else there are no such ranks
pub ranks_expand : (base : ℕ) (p : Statement) (L : ℕ) → Awake p L → expand_by base p (mask base p L) ≡ expand p L
ranks_expand base p L w = expand_by_lem base p L ((active-is p L).1 w)

pub resume_reacts : (base : ℕ) (p : Statement) (L e : ℕ) → Awake p L → resume base p (mask base p L) e ≡ start (expand p L) e
resume_reacts base p L e w = ap (λ (t : Statement). start t e) (ranks_expand base p L w)

pub mask_inactive : (base : ℕ) (p : Statement) (L : ℕ) → (mask base p L ≡ none) ↔ (¬ Awake p L)
mask_inactive base p L = (
  λ h w. clash (active p L) ((active-is p L).1 w) ((none_is base p L).0 h),
  λ n. (none_is base p L).1 (never (active p L) (λ h. n ((active-is p L).0 h))),
)

-- and the labels of those ranks are the active labels inside p, in 02's words
pub labels_by_ranks : (base : ℕ) (p : Statement) (L : ℕ) → labels_by base p (mask base p L) ≡ active_labels p L
labels_by_ranks base p L = labels-by L base p

pub active_labels_lem : (p : Statement) (L l : ℕ) → (member l (active_labels p L) ≡ true) ↔ ((member l L ≡ true) × Holds p (pause l))
active_labels_lem = active_labels-is

-- 3. STABILITY (002, theorem 8), setpause and suspend included. What is resumed is valid: of a set that is not, a stopped
-- suspend keeps one that is not (`kept` of specs/Examples)
pub stable : (p : Statement) → Source p → Distinct p → Targeted p → WellFormed p → (e o l : ℕ) (t : Statement)
    → (x : ReactionOf p e (gives o waiting l t)) → FromValid p e x → Valid p l
stable p c d g w e o l t x v = sound-valid p d w g (resumed_from p e x) (were_together p e x v) l (sound_labels p e x c)

pub always_valid : (p : Statement) → Source p → Distinct p → Targeted p → WellFormed p → (s : State) → ValidState p s
    → (es : List ℕ) → ValidState p (reached (by_labels p) s es)
always_valid = valid-reached

-- 4. AGREEMENT: from fresh, and from any set of labels, valid or not, against its expansion
pub agreement : (p : Statement) → Source p → Distinct p → NoSetpause p → (es : List ℕ)
    → run (by_labels p) State.fresh es ≡ run by_rewriting (Rewriting.fresh p) es
agreement p c d n es = agree p c d n State.fresh (Rewriting.fresh p) refl es

pub agreement_from : (p : Statement) → Source p → Distinct p → NoSetpause p → (L : ℕ) (es : List ℕ)
    → run (by_labels p) (State.waits L) es ≡ run by_rewriting (Rewriting.waits (expand p L)) es
agreement_from p c d n L es = agree p c d n (State.waits L) (Rewriting.waits (expand p L)) refl es

-- 5. LABELS exist only with code 1 (002, theorem 4), are not empty then, and are those of pauses and setpauses of p
no_labels : (K : Statement → ℕ → Statement → Type 0) (p : Statement) (r : Reaction) → Fits K p r → code r ≢ waiting → labels r ≡ none
no_labels K p (gives o ended l t) h n = h
no_labels K p (gives o waiting l t) h n = absurd (n refl)
no_labels K p (gives o (leaving m) l t) h n = h
no_labels K p (gives o wrong l t) h n = h

pub labels_only-waiting : (p : Statement) (e : ℕ) (r : Reaction) → ReactionOf p e r → code r ≢ waiting → labels r ≡ none
labels_only-waiting p e r x = no_labels (SoundLabels (resumed_from p e x)) p r (sound_labels p e x)

pub labels_of_stops : (p : Statement) → Source p → (e o l : ℕ) (t : Statement) → ReactionOf p e (gives o waiting l t)
    → ((k : ℕ) × (member k l ≡ true)) × ((k : ℕ) → member k l ≡ true → Stops p k)
labels_of_stops p c e o l t x = let s = sound_labels p e x c in (s.some, s.stops)

-- 6. SUSPEND (02, item 1; Berry 1999), a pause inside being active: while its signal is present it emits nothing, waits with
-- the active labels inside it and stays as it is, with no error, in one reaction; else its part resumes
pub suspend_stops : (s : ℕ) (p : Statement) (L e : ℕ) → Awake p L → member s e ≡ true
    → start (expand (suspend s p) L) e ≡ instant (gives none waiting (active_labels p L) (expand (suspend s p) L)) Option.none 1
suspend_stops s p L e w i =
    rw (expand_suspend s p L ((active-is p L).1 w)) (start_held s (active_labels p L) (expand p L) e ∙ rw i)

pub suspend_resumes : (s : ℕ) (p : Statement) (L e : ℕ) → Awake p L → member s e ≡ false
    → start (expand (suspend s p) L) e ≡ suspend_instant s (start (expand p L) e)
suspend_resumes s p L e w i =
    rw (expand_suspend s p L ((active-is p L).1 w)) (start_held s (active_labels p L) (expand p L) e ∙ rw i)

-- 7. HELD LABELS never matter: statements that differ only in them have one code, one emitted set, one list of errors, one
-- number of reactions and for each farm the same litres, what remains of them differs only in them, and so by rewriting they show the same for ever
pub held_labels_unseen : (t u : Statement) (e : ℕ) → erase t ≡ erase u
    → (code (react t e) ≡ code (react u e)) × (emitted (react t e) ≡ emitted (react u e)) × (errors t e ≡ errors u e)
    × (reactions t e ≡ reactions u e) × (erase (residual (react t e)) ≡ erase (residual (react u e)))
held_labels_unseen t u e h = let r = erased_reaction t u e h in (r.0, r.1, erased_errors t u e h, erased_reactions t u e h, r.2)

pub held_labels_undelivered : (f : ℕ) (t u : Statement) (e : ℕ) → erase t ≡ erase u → delivered f t e ≡ delivered f u e
held_labels_undelivered = erased_delivered

pub held_labels_unseen_run : (t u : Statement) → erase t ≡ erase u → (es : List ℕ)
    → run by_rewriting (Rewriting.waits t) es ≡ run by_rewriting (Rewriting.waits u) es
held_labels_unseen_run = erased_run

-- 8. ORDERS of the signal rules (02, item 4). An instant that is not wrong is as it was by the printed order: code, emitted set,
-- labels and residual, in as many reactions, with no error in either tree
pub not_wrong_kept : (p : Statement) (e : ℕ) → code (react p e) ≢ wrong
    → (react_by printed p e ≡ react p e) × (reactions_by printed p e ≡ reactions p e) × (errors_by printed p e ≡ []) × (errors p e ≡ [])
not_wrong_kept p e n =
    let w = never (is_wrong (code (react p e))) (λ h. n (wrong_is (code (react p e)) h)) in
    let k = kept p e w in (k.0, reactions_kept p e w, k.1, k.2)

-- it is wrong exactly if its tree has an error (003, lemma 12)
pub wrong_is_error : (p : Statement) (e : ℕ) → (code (react p e) ≡ wrong) ↔ (errors p e ≢ [])
wrong_is_error = wrong_iff_error

-- the same first error by both, or none, whatever the codes
pub first_stays : (p : Statement) (e : ℕ) → first_error_by printed p e ≡ first_error p e
first_stays = same_first

-- where no signal is used whose body emitted in both runs with a run wrong, nothing changes; where one is, the instant is wrong
pub changed_only : (p : Statement) (e : ℕ) → react_by printed p e ≢ react p e → (overlap p e ≡ true) × (code (react p e) ≡ wrong)
changed_only p e n = go (tested (overlap p e))
  where
    go : Tested (overlap p e) → (overlap p e ≡ true) × (code (react p e) ≡ wrong)
    go (Tested.yes x) = (x, overlap_wrong p e x)
    go (Tested.no x) = absurd (n (unchanged p e x))

pub overlap-is_wrong : (p : Statement) (e : ℕ) → overlap p e ≡ true → code (react p e) ≡ wrong
overlap-is_wrong = overlap_wrong

-- 9. READ-BACK declarations (02, item 5) stay in place: expansion goes on inside them, and what remains by rewriting after code 1
-- is a residual of the statement inside, under the same declarations
pub expansion_inside : (sc : Scope) (a : ℕ) (ss : List ℕ) (p : Statement) (L : ℕ)
    → expand (declared_by sc a ss p) L ≡ declared_by sc a ss (expand p L)
expansion_inside = expand_declared_by

pub rewriting_inside : (a : ℕ) (ss : List ℕ) (p : Statement) (e : ℕ) → code (react (declared a ss p) e) ≡ waiting
    → RemainsUnder a ss p (residual (react (declared a ss p) e))
rewriting_inside = remains_declared

-- the host's status of a declared signal is not read
pub declared-not-read : (a : ℕ) (ss : List ℕ) (p : Statement) (e e' : ℕ) → AgreeOutside ss e e'
    → start (declared a ss p) e ≡ start (declared a ss p) e'
declared-not-read = declared_unread

-- 'as if each were declared around it .. except that an emitted one is still reported': the same declarations with scope `local`
-- emit the same without the declared signals, and all else of the instant is the same; so over any list of inputs, by labels
pub reported_against_local : (a : ℕ) (ss : List ℕ) (p : Statement) (e : ℕ) → let r = declared a ss p in let l = declared_by local a ss p in
    (code (react l e) ≡ code (react r e)) × (labels (react l e) ≡ labels (react r e))
    × (emitted (react l e) ≡ without ss (emitted (react r e)))
    × (errors l e ≡ errors r e) × (first_error l e ≡ first_error r e) × (reactions l e ≡ reactions r e) × (asked l e ≡ asked r e)
reported_against_local a ss p e =
    let x = reported_local a ss p e in let h = hides_is x.0 in (h.0, h.1, h.2, x.1, ap head? x.1, x.2, x.3)

pub reported_against_local_run : (a : ℕ) (ss : List ℕ) (p : Statement) (s : State) (es : List ℕ)
    → (run (by_labels (declared_by local a ss p)) s es ≡ map (seen_without ss) (run (by_labels (declared a ss p)) s es))
    × (reached (by_labels (declared_by local a ss p)) s es ≡ reached (by_labels (declared a ss p)) s es)
reported_against_local_run = run-hides

-- 10. THE NUMBER OF REACTIONS (02, item 6) is that of the rules used in any derivation
pub number_of_rules : {ord : Order} {p : Statement} {e : ℕ} {r : Reaction} (d : ReactsBy ord p e r) → rules_used d ≡ reactions_by ord p e
number_of_rules = rules-used

-- it never exceeds the ceiling, fresh or resumed with any label set
pub ceiling-holds : (p : Statement) (e : ℕ) → (reactions p e ≤ ceiling p) × ((L : ℕ) → reactions (expand p L) e ≤ ceiling p)
ceiling-holds p e = (ceilings.fresh_below p e, λ L. ceilings.resumed_below p L e)

-- what no loop-free statement exceeds, by its commands and the signals around one; as a product
pub dearest-holds : (g : ℕ) (p : Statement) (e : ℕ) → signal_nesting p ≤ g
    → (1 + reactions p e ≤ dearest g (commands p)) × (LoopFree p → (L : ℕ) → 1 + reactions (expand p L) e ≤ dearest g (commands p))
dearest-holds g p e h = (dearests.fresh_dearest g p e h, λ f L. dearests.resumed_dearest g p L e f h)

pub dearest-product : (g n : ℕ) → let k = min g (n - 1) in dearest g n ≡ 2 ^ k * (n - k + 1)
dearest-product = dearests.dearest-is

-- 11. THE SIGNALS ASKED FOR are those that the rules used in any derivation test, a declaration hiding its own
pub asked-is-tested : {ord : Order} {p : Statement} {e : ℕ} {r : Reaction} (d : ReactsBy ord p e r) → asks d ≡ asked_by ord p e
asked-is-tested = asks-is

-- two present sets that agree on them give the same reaction, errors, number of reactions, signals asked for and litres of any farm
pub not-asked : (f : ℕ) (p : Statement) (e e' : ℕ) → ((s : ℕ) → member s (asked p e) ≡ true → member s e ≡ member s e')
    → (react p e' ≡ react p e) × (errors p e' ≡ errors p e) × (reactions p e' ≡ reactions p e) × (asked p e' ≡ asked p e)
    × (delivered f p e' ≡ delivered f p e)
not-asked = unasked inheritanceFirst

-- So where the run of a signal's body without the signal does not ask for it, that run is the run with it, and stands for both: of a
-- statement,
pub one_run_for_both : (f : ℕ) (sc : Scope) (a s : ℕ) (p : Statement) (e : ℕ) → member s (asked p (remove s e)) ≡ false
    → (start_traced f p (insert s e) ≡ start_traced f p (remove s e)) × (start_traced f (signal sc a s p) e ≡ signal_once f sc a s (start_traced f p (remove s e)))
one_run_for_both f sc a s p e h = (one_run f s p e h, one_run_signal f s p e h sc a)

-- of one that resumes by any ranks, and under read-back declarations
pub one_run_resumed : (f : ℕ) (sc : Scope) (a s base : ℕ) (p : Statement) (m e : ℕ) → member s (asked_of (resume_traced f base p m (remove s e))) ≡ false
    → (resume_traced f base p m (insert s e) ≡ resume_traced f base p m (remove s e))
    × (resume_traced f base (signal sc a s p) m e ≡ signal_once f sc a s (resume_traced f base p m (remove s e)))
unfolding expand_by
one_run_resumed f sc a s base p m e h = one_run_for_both f sc a s (expand_by base p m) e h

pub one_run-declared : (f a s : ℕ) (ss : List ℕ) (p : Statement) (e : ℕ) → member s (asked (declared a ss p) (remove s e)) ≡ false
    → (start_traced f (declared a ss p) (insert s e) ≡ start_traced f (declared a ss p) (remove s e))
    × (start_traced f (declared a (s ∷ ss) p) e ≡ signal_once f reported a s (start_traced f (declared a ss p) (remove s e)))
unfolding declared_by
one_run-declared f a s ss p e h = one_run_for_both f reported a s (declared a ss p) e h

-- 12. LITRES (02, item 12). Those of a farm are what the emissions of any derivation bring, a run not chosen left out, and what a
-- declaration drops
pub litres_of_rules : (f : ℕ) {ord : Order} {p : Statement} {e : ℕ} {r : Reaction} (d : ReactsBy ord p e r)
    → delivers f d ≡ delivered_by ord f p e
litres_of_rules = delivers-is

-- rewriting gives the same litres, instant by instant: from fresh, and from any set of labels against its expansion
pub same_litres : (f : ℕ) (p : Statement) → Source p → Distinct p → NoSetpause p → (es : List ℕ)
    → added (by_labels p) (adds_by_labels f p) State.fresh es ≡ added by_rewriting (adds_by_rewriting f) (Rewriting.fresh p) es
same_litres f p c d n es = agree-added f p c d n State.fresh (Rewriting.fresh p) refl es

pub same_litres_from : (f : ℕ) (p : Statement) → Source p → Distinct p → NoSetpause p → (L : ℕ) (es : List ℕ)
    → added (by_labels p) (adds_by_labels f p) (State.waits L) es ≡ added by_rewriting (adds_by_rewriting f) (Rewriting.waits (expand p L)) es
same_litres_from f p c d n L es = agree-added f p c d n (State.waits L) (Rewriting.waits (expand p L)) refl es

-- a farm whose signal is not emitted has none, so the ledger asks for emitted farms only
pub no_litres : (f : ℕ) (p : Statement) (e : ℕ) → member f (emitted (react p e)) ≡ false → delivered f p e ≡ 0
no_litres = not-emitted

-- where no emission brings the farm more than c, an instant brings no more than c for each of its reactions, fresh or resumed
pub litres_bounded : (f c : ℕ) (p : Statement) (e : ℕ) → AtMost f c p
    → (delivered f p e ≤ c * reactions p e) × ((L : ℕ) → delivered f (expand p L) e ≤ c * reactions (expand p L) e)
litres_bounded f c p e h = (delivered-most f c p e h, λ L. delivered-most f c (expand p L) e (expand-most f c p L h))

-- so a farm that no emission with litres names has none, fresh or resumed, and the ledger asks for named farms only
pub unnamed_no_litres : (f : ℕ) (p : Statement) (e : ℕ) → AtMost f 0 p → (delivered f p e ≡ 0) × ((L : ℕ) → delivered f (expand p L) e ≡ 0)
unnamed_no_litres f p e h =
    let b = litres_bounded f 0 p e h in
    (omega (arith, b.0), λ L. let x = b.1 L in omega arith)
