-- The litres of each farm in an instant.
use Prim.Native.Nat.{ℕ, zero, suc, ◌<◌}
use mathlib.Core.Path.{◌≡◌, refl, sym, ap, ◌∙◌}
use mathlib.Core.Bool.{Bool, true, false, cond}
use mathlib.Core.List.{List, [], ◌∷◌}
use native.Mathlib.Omega.{arith}
use lib.ListN.{length, get_or, replicate, length-replicate}
use Rattle.spec_base.specs.Limits.{max_depth, farm_count, read_back_place}
use Rattle.spec_base.specs.Sets.{empty, below, from}
use Rattle.spec_language.specs.Statement.{Statement, nothing, pause, emit, exit, seq, par, loop, present, signal, try, setpause, suspend, held}
use Rattle.spec_language.specs.Reaction.{code, react, is_wrong}
use Rattle.theory_language.specs.Ranks.{middle}
use Rattle.theory_language.specs.RankedExpansion.{expand_by}
use Rattle.spec_language.specs.ReadBack.{declared_by, declared}
use Rattle.spec_language.specs.Litres.{AtMost, delivered}
use Rattle.spec_language.specs.Machines.{adds}
use Rattle.theory_language.proofs.Ceiling.{chosen}
use Rattle.theory_language.proofs.Theorems.{unnamed_no_litres}
use Rattle.labels.specs.Labels.{label_set}
use Rattle.spec_sequence.specs.Program.{read_back_signals}
use Rattle.layout.specs.Layout.{Lies}
use Rattle.reaction.specs.declared.Reaction.{Reaction}
use Rattle.reaction.specs.Reactions.{capped_of}
use Rattle.program.specs.declared.Start.{Start}
use Rattle.program.specs.declared.Start.TheVariants.{Fresh, Waiting}
use Rattle.program.specs.Program.{Reacted}
use Rattle.spec_language.specs.Errors.{first_error}
use Rattle.reaction.specs.Completions.{code_of}
use Rattle.reaction.proofs.Completions.{code_of_lem}
use Rattle.program.specs.Deliveries.{term_of, Instant}

-- ---- a term has the emissions of its statement
module _ (f c : ℕ) where
  expand-most : (base : ℕ) (p : Statement) (m : ℕ) → AtMost f c p → AtMost f c (expand_by base p m)
  unfolding AtMost expand_by
  expand-most base nothing m h = tt
  expand-most base (pause l) m h = tt
  expand-most base (emit s v) m h = tt
  expand-most base (exit n) m h = tt
  expand-most base (seq p q) m h =
      chosen (AtMost f c) (empty (below (middle base p) m)) (expand_by (middle base p) q (from (middle base p) m)) (seq (expand_by base p (below (middle base p) m)) q)
      (expand-most (middle base p) q (from (middle base p) m) h.1) (expand-most base p (below (middle base p) m) h.0, h.1)
  expand-most base (par p q) m h = (
    chosen (AtMost f c) (empty (below (middle base p) m)) nothing (expand_by base p (below (middle base p) m)) tt (expand-most base p (below (middle base p) m) h.0),
    chosen (AtMost f c) (empty (from (middle base p) m)) nothing (expand_by (middle base p) q (from (middle base p) m)) tt
        (expand-most (middle base p) q (from (middle base p) m) h.1),
  )
  expand-most base (loop a p) m h = (expand-most base p m h, h)
  expand-most base (present s p q) m h =
      chosen (AtMost f c) (empty (below (middle base p) m)) (expand_by (middle base p) q (from (middle base p) m)) (expand_by base p (below (middle base p) m))
      (expand-most (middle base p) q (from (middle base p) m) h.1) (expand-most base p (below (middle base p) m) h.0)
  expand-most base (signal sc a s p) m h = expand-most base p m h
  expand-most base (try p) m h = expand-most base p m h
  expand-most base (setpause l) m h = tt
  expand-most base (suspend s p) m h = expand-most base p m h
  expand-most base (held s K p) m h = tt

  declared-most : (a : ℕ) (ss : List ℕ) (p : Statement) → AtMost f c p → AtMost f c (declared a ss p)
  unfolding AtMost declared_by
  declared-most a [] p h = h
  declared-most a (s ∷ ss) p h = declared-most a ss p h

  term-most : (origin : Start) (read_back : ℕ) (p : Statement) → AtMost f c p → AtMost f c (term_of origin read_back p)
  term-most Fresh read_back p h = declared-most read_back_place (read_back_signals read_back) p h
  term-most (Waiting m) read_back p h =
      declared-most read_back_place (read_back_signals read_back) (expand_by 0 p (label_set m)) (expand-most 0 p (label_set m) h)

pub none_capped : {n : ℕ} → n ≡ 0 → 0 ≡ capped_of n
none_capped h = rw h

-- ---- an instant
zeros : (n f : ℕ) → ◌≡◌ {A = ℕ} (get_or (replicate n 0) f 0) 0
zeros zero f = refl
zeros (suc n) zero = refl
zeros (suc n) (suc f) = zeros n f

none-either : (x : Bool) → capped_of (cond x 0 0) ≡ 0
none-either true = refl
none-either false = refl

pub none_held : {litres : List ℕ} → litres ≡ replicate farm_count 0 → (f : ℕ) → get_or litres f 0 ≡ 0
none_held z f = ap (λ (x : List ℕ). get_or x f 0) z ∙ zeros farm_count f

-- a tree's litres, in lists that were clear before it
module _ (t bs : List ℕ) (origin : Start) (e read_back : ℕ) {litres after : List ℕ} (clear : litres ≡ replicate farm_count 0)
    {r : Reaction} (h : Reacted t bs origin e read_back litres after r) {b : Bool} (tested : b ≡ is_wrong (code_of r.completion)) where
  code_is : (p : Statement) → Lies t max_depth 0 0 bs p → is_wrong (code (react (term_of origin read_back p) e)) ≡ b
  code_is p l =
      sym (tested ∙ ap (λ (x : Reaction). is_wrong (code_of x.completion)) (h p l 0).0
      ∙ ap is_wrong (code_of_lem (code (react (term_of origin read_back p) e)) (first_error (term_of origin read_back p) e)))

  -- what each farm is told is none where the statement does not name it
  whole : (told : List ℕ) → ((p : Statement) → Lies t max_depth 0 0 bs p → (f : ℕ) → f < farm_count → get_or told f 0 ≡ capped_of (adds f (term_of origin read_back p) e))
      → Instant t bs origin e read_back r told
  whole told w p l = (
    (h p l 0).0,
    w p l,
    λ farms named f small n. w p l f small
        ∙ ap (λ (x : ℕ). capped_of (cond (is_wrong (code (react (term_of origin read_back p) e))) 0 x))
        (unnamed_no_litres f (term_of origin read_back p) e (term-most f 0 origin read_back p (named f small n))).0
        ∙ none-either (is_wrong (code (react (term_of origin read_back p) e))),
  )

  pub wrong-instant : b ≡ true → {told : List ℕ} → told ≡ replicate farm_count 0 → Instant t bs origin e read_back r told
  wrong-instant w {told} z =
      whole told (λ p l f small. none_held z f ∙ none_capped (ap (λ (x : Bool). cond x 0 (delivered f (term_of origin read_back p) e)) (code_is p l ∙ w)))

  pub right-instant : b ≡ false → Instant t bs origin e read_back r after
  right-instant w = whole after each
    where
      each : (p : Statement) → Lies t max_depth 0 0 bs p → (f : ℕ) → f < farm_count → get_or after f 0 ≡ capped_of (adds f (term_of origin read_back p) e)
      each p l f small =
          let zero-before = none_held clear f in
          let k = ap length clear ∙ length-replicate {A = ℕ} farm_count 0 in
          let one = (h p l f).1.accumulates (omega (arith, k, small)) in
          let sum = one.summed (omega (arith, zero-before)) (code_is p l ∙ w) in
          let told : get_or after f 0 ≡ capped_of (delivered f (term_of origin read_back p) e) = omega (arith, sum, zero-before) in
          told
          ∙ ap (λ (x : Bool). capped_of (cond x 0 (delivered f (term_of origin read_back p) e))) (sym (code_is p l ∙ w))
