-- One law for each return of the code of a bay's step with its litres, and of the ledger's calls, over plain lists.
use Prim.Native.Nat.{ℕ, zero, suc, ◌-◌}
use native.Mathlib.Omega.{arith}
use mathlib.Core.Path.{◌≡◌, refl, sym, ap, ◌∙◌}
use mathlib.Core.Logic.{◌≢◌}
use mathlib.Core.Bool.{Bool, true, false, cond}
use mathlib.Core.List.{List, [], ◌∷◌, ◌++◌}
use lib.ListN.{length, get_or, take, drop}
use lib.Dec.{eqb}
use borrow.Author.Tests.{eq-eqb, ne_eqb, eqb-true, eqb-false}
use Rattle.spec_tick.specs.StateRecord.{state_length}
use Rattle.spec_tick.specs.AnswerRecord.{answer_length}
use Rattle.reaction.specs.declared.Reaction.{Reaction}
use Rattle.instants.specs.Written.{writtenFrom}
use Rattle.instants.proofs.Lengths.{writes}
use Rattle.spec_tick.specs.Tick.{Outcome, outcome}
use Rattle.spec_tick.specs.Demands as demands
use Rattle.spec_tick.specs.Demands.{state_afterwards}
use Rattle.std.specs.Prelude.{Ok, Err}
use Rattle.limits.specs.declared.rows.Refusal.{Refusal}
use Rattle.limits.specs.Rows.{row_number}
use Rattle.instants.specs.Replies.{Replies}
use Rattle.spec_bay.specs.Ledgers.{ledger_length, reading_length, passes, added, reading_of, cleared}
use Rattle.instants.specs.Delivering.{Delivers}
use Rattle.box_bays.proofs.Capped.{passes-exactly, adds-exactly}
use Rattle.spec_base.specs.Parts.{slot, put}
use Rattle.numbers.proofs.Putting.{put-behind}
use Rattle.spec_bay.specs.Called.{Called, called, number}
use Rattle.spec_bay.specs.Stretch.{state_at, count_at, bay_length, stretch_length, sequence_in, read_back_in, state_in, ledger_in, with_ledger}
use Rattle.spec_bay.specs.BayCalls.{delivering, bay_ledger_of, bay_new_year_of}
use Rattle.box_bays.specs.Layers.{state_kept, charged, bay_step_of, bay_charged_of}
use Rattle.theory_bay.proofs.Fields.{ledger_sized}
use Rattle.limits.proofs.Refusals.{row_not_0}
use Rattle.box_bays.proofs.Ticking.{short-step, refused-step, kept-written}

-- ---- an instant
pub written_0 : (r : Reaction) → demands.number (writtenFrom r) ≡ 0
written_0 r = ap demands.number (writes r).is

-- ---- its litres x: 19, or the ledger is written behind the state that was written
module _ (s : List ℕ) (x : ℕ → ℕ) where
  pub passing : {l : List ℕ} {b c : Bool} → l ≡ ledger_in s → b ≡ passes l x → b ≡ c → passes (ledger_in s) x ≡ c
  passing e h t = ap (λ (r : List ℕ). passes r x) (sym e) ∙ sym h ∙ t

  pub gives-19 : (answer : List ℕ) (o : Outcome) → demands.number o ≡ 0 → passes (ledger_in s) x ≡ true
      → called 19 s (answer ∷ []) ≡ charged s x answer (state_kept s o)
  gives-19 answer (outcome zero state left) n h = rw h
  gives-19 answer (outcome (suc k) state left) n h = absurd (omega arith)

  enters : (answer : List ℕ) (o : Outcome) → demands.number o ≡ 0 → passes (ledger_in s) x ≡ false → {l : List ℕ} → l ≡ added x (ledger_in s)
      → called (demands.number o) (with_ledger l (put state_at state_length (state_afterwards o) s)) (demands.answer_afterwards o ∷ [])
      ≡ charged s x answer (state_kept s o)
  enters answer (outcome zero state left) n h e =
      rw h (ap (λ (l : List ℕ). called 0 (with_ledger l (put state_at state_length state s)) (left ∷ [])) e)
  enters answer (outcome (suc k) state left) n h e = absurd (omega arith)

  module _ (z : length s ≡ stretch_length) (h : passes (ledger_in s) x ≡ false) (r : Reaction) {n : ℕ} {state answer : List ℕ}
      (w : outcome n state answer ≡ writtenFrom r) where
    abbrev moved : List ℕ
    moved = take state_at s ++ (state ++ drop (count_at - state_at) (drop state_at s))

    same-ledger : slot bay_length (stretch_length - bay_length) moved ≡ ledger_in s
    unfolding put
    same-ledger =
        let y : length state ≡ state_length = ap (λ (o : Outcome). length (state_afterwards o)) (w ∙ (writes r).is) ∙ (writes r).state_sized in
        put-behind state_at state_length state s (omega arith) y bay_length ledger_length (omega arith)

    pub still-below : passes (slot bay_length (stretch_length - bay_length) (take state_at s ++ (state ++ drop (count_at - state_at) (drop state_at s)))) x ≡ false
    still-below = ap (λ (l : List ℕ). passes l x) same-ledger ∙ h

    pub settled : (lent l : List ℕ)
        → l ≡ added x (slot bay_length (stretch_length - bay_length) (take state_at s ++ (state ++ drop (count_at - state_at) (drop state_at s))))
        → called n (take bay_length (take state_at s ++ (state ++ drop (count_at - state_at) (drop state_at s)))
        ++ (l ++ drop (stretch_length - bay_length) (drop bay_length (take state_at s ++ (state ++ drop (count_at - state_at) (drop state_at s)))))) (answer ∷ [])
        ≡ charged s x lent (state_kept s (writtenFrom r))
    unfolding put
    settled lent l e =
        enters lent (outcome n state answer) (ap demands.number w ∙ written_0 r) h (e ∙ ap (added x) same-ledger)
        ∙ ap (λ (o : Outcome). charged s x lent (state_kept s o)) w

-- ---- litres that come capped are charged as the exact ones
charged_exactly : (s : List ℕ) → length s ≡ stretch_length → (e farms : ℕ) (litres : List ℕ)
    → Delivers (sequence_in s) (state_in s) e (read_back_in s) farms litres → (answer : List ℕ) (o : Called)
    → charged s (λ f. get_or litres f 0) answer o ≡ charged s (delivering s e) answer o
charged_exactly s z e farms litres d answer (called zero after lent) =
    rw (passes-exactly (sequence_in s) (state_in s) e (read_back_in s) farms litres (ledger_in s) d) (go (passes (ledger_in s) (delivering s e)) refl)
  where
    go : (b : Bool) → passes (ledger_in s) (delivering s e) ≡ b
        → cond b (called 19 s (answer ∷ [])) (called 0 (with_ledger (added (λ f. get_or litres f 0) (ledger_in s)) after) lent)
        ≡ cond b (called 19 s (answer ∷ [])) (called 0 (with_ledger (added (delivering s e) (ledger_in s)) after) lent)
    go true h = refl
    go false h =
        ap (λ (l : List ℕ). called 0 (with_ledger l after) lent)
        (adds-exactly (sequence_in s) (state_in s) e (read_back_in s) farms litres (ledger_in s) d (ledger_sized s z) h)
charged_exactly s z e farms litres d answer (called (suc n) after lent) = refl

-- ---- the returns of the step with its litres
module _ (s : List ℕ) (e : ℕ) (answer : List ℕ) where
  abbrev to : Called → Called
  to = charged s (delivering s e) answer

  as-charged : to (bay_step_of s e answer) ≡ bay_charged_of s e answer
  unfolding bay_charged_of
  as-charged = refl

  pub charged-short : length answer ≢ answer_length → called 1 s (answer ∷ []) ≡ bay_charged_of s e answer
  charged-short n = ap to (short-step s e answer n) ∙ as-charged

  -- a step that is not turned down was lent an answer of its length
  pub lent-answer : {s' : List ℕ} {lent : List (List ℕ)} → called 0 s' lent ≡ bay_charged_of s e answer → length answer ≡ answer_length
  lent-answer w = go (eqb (length answer) answer_length) refl
    where
      go : (b : Bool) → eqb (length answer) answer_length ≡ b → length answer ≡ answer_length
      go true p = eqb-true (length answer) answer_length p
      go false p =
          let x : ◌≡◌ {A = ℕ} 1 0 = ap number (charged-short (eqb-false (length answer) answer_length p) ∙ sym w) in
          absurd (omega arith)

  module _ (z : length s ≡ stretch_length) (j : length answer ≡ answer_length) where
    pub charged-refusal : (row : Refusal) → Replies (sequence_in s) (state_in s) e (read_back_in s) (Err row)
        → called (row_number row) s (answer ∷ []) ≡ bay_charged_of s e answer
    charged-refusal row h =
        go (row_number row) (row_not_0 row)
        ∙ ap to (refused-step s e answer z j row h) ∙ as-charged
      where
        go : (n : ℕ) → n ≢ 0 → called n s (answer ∷ []) ≡ to (called n s (answer ∷ []))
        go zero d = absurd (d refl)
        go (suc n) d = refl

    pub charged-settled : (r : Reaction) → Replies (sequence_in s) (state_in s) e (read_back_in s) (Ok r) → (farms : ℕ) (litres : List ℕ)
        → Delivers (sequence_in s) (state_in s) e (read_back_in s) farms litres
        → {o : Called} → o ≡ charged s (λ f. get_or litres f 0) answer (state_kept s (writtenFrom r)) → o ≡ bay_charged_of s e answer
    charged-settled r h farms litres d w =
        w ∙ charged_exactly s z e farms litres d answer (state_kept s (writtenFrom r))
        ∙ ap to (kept-written s e answer z j r h) ∙ as-charged

-- ---- the ledger's own calls
module _ (s totals : List ℕ) where
  pub ledger-short : length totals ≢ reading_length → called 1 s (totals ∷ []) ≡ bay_ledger_of s totals
  unfolding bay_ledger_of
  ledger-short n = rw (ne_eqb (length totals) reading_length n)

  pub ledger-read : length totals ≡ reading_length → {l totals' : List ℕ} → l ≡ ledger_in s → totals' ≡ reading_of l
      → called 0 s (totals' ∷ []) ≡ bay_ledger_of s totals
  unfolding bay_ledger_of
  ledger-read n e h = rw (eq-eqb (length totals) reading_length n) (ap (λ (r : List ℕ). called 0 s (r ∷ [])) (h ∙ ap reading_of e))

pub year_turned : (s : List ℕ) {l : List ℕ} → l ≡ cleared
    → called 0 (take bay_length s ++ (l ++ drop (stretch_length - bay_length) (drop bay_length s))) [] ≡ bay_new_year_of s
unfolding bay_new_year_of put
year_turned s e = ap (λ (l : List ℕ). called 0 (with_ledger l s) []) e
