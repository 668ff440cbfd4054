-- Read-back declarations (02, item 5): 'as if each were declared around it, lowest outermost, except that an emitted one is
-- still reported'.
use Rattle.std.specs.Prelude.{ℕ, ◌≡◌, refl}
use mathlib.Core.List.{List, [], ◌∷◌, Memᴰ}
use Rattle.spec_base.specs.Sets.{member, none, only, join, insert, remove, without}
use Rattle.spec_language.specs.Statement.{Scope, local, reported, pure, litres, Statement, nothing, emit, seq, present, signal}
use Rattle.spec_language.specs.Reaction.{ended, waiting, gives, emitted, code, residual, failed, react_by, react}
use Rattle.spec_language.specs.Errors.{errors_by, errors, not_reactive, not_deterministic}
use Rattle.spec_language.specs.Reactions.{reactions_by}
use Rattle.spec_language.specs.Litres.{delivered_by, delivered}
use Rattle.spec_language.specs.Instants.{start}

-- p under a declaration at place a for each signal of the list, the first outermost; a read-back set's are reported
unfoldable pub declared_by : Scope → (a : ℕ) → List ℕ → Statement → Statement
declared_by sc a [] p = p
declared_by sc a (s ∷ ss) p = signal sc a s (declared_by sc a ss p)

abbrev pub declared : (a : ℕ) → List ℕ → Statement → Statement
declared = declared_by reported

-- two present sets that agree on every signal that is not in the list
abbrev pub AgreeOutside : List ℕ → (e e' : ℕ) → Type 0
AgreeOutside ss e e' = (i : ℕ) → ¬ Memᴰ i ss → member i e ≡ member i e'

-- t is what remains of p after code 1, under the same declarations
abbrev pub RemainsUnder : (a : ℕ) → List ℕ → Statement → Statement → Type 0
RemainsUnder a ss p t =
    (e : ℕ) × (code (react p e) ≡ waiting) × (t ≡ declared a ss (residual (react p e)))

-- ---- by computation
-- emit 0; present 0 then emit 1: both are reported, and the test sees what was emitted
seen-and-reported : react (declared 9 (0 ∷ []) (seq (emit 0 pure) (present 0 (emit 1 pure) nothing))) 0 ≡ gives 3 ended 0 (signal reported 9 0 nothing)
unfolding declared_by react_by member none only join insert remove
seen-and-reported = refl

-- the declarations err as every signal does, at their place
emitted_if_absent : (react (declared 9 (0 ∷ []) (present 0 nothing (emit 0 pure))) 0 ≡ failed)
    × (errors (declared 9 (0 ∷ []) (present 0 nothing (emit 0 pure))) 0 ≡ not_reactive 9 ∷ [])
    × (errors (declared 9 (0 ∷ []) (present 0 (emit 0 pure) nothing)) 0 ≡ not_deterministic 9 ∷ [])
unfolding declared_by react_by errors_by member none only join insert remove
emitted_if_absent = (refl, refl, refl)

-- 003, section 6.4: the order of two declarations matters
order_matters : (react (declared 9 (0 ∷ 1 ∷ []) (present 0 (present 1 (emit 0 pure) nothing) nothing)) 0
    ≡ gives 0 ended 0 (signal reported 9 0 (signal reported 9 1 nothing)))
    × (errors (declared 9 (0 ∷ 1 ∷ []) (present 1 (present 0 (emit 1 pure) nothing) nothing)) 0 ≡ not_deterministic 9 ∷ [])
unfolding declared_by react_by errors_by member none only join insert remove
order_matters = (refl, refl)

-- the host says that 0 is present: the test does not see it
not_believed : (start (declared 9 (0 ∷ []) (present 0 (emit 1 (litres 5)) nothing)) 1 ≡ start (declared 9 (0 ∷ []) (present 0 (emit 1 (litres 5)) nothing)) 0)
    × (delivered 1 (declared 9 (0 ∷ []) (present 0 (emit 1 (litres 5)) nothing)) 1 ≡ 0)
unfolding declared_by react_by errors_by reactions_by delivered_by member none only join insert remove
not_believed = (refl, refl)

-- The same declarations with scope `local`: the same tree but for what is emitted outside, one signal declared twice included.
reported-and_local : (react (declared 9 (0 ∷ 1 ∷ []) (seq (emit 0 pure) (seq (emit 2 pure) (emit 1 pure)))) 0
    ≡ gives 7 ended 0 (signal reported 9 0 (signal reported 9 1 nothing)))
    × (react (declared_by local 9 (0 ∷ 1 ∷ []) (seq (emit 0 pure) (seq (emit 2 pure) (emit 1 pure)))) 0
    ≡ gives 4 ended 0 (signal local 9 0 (signal local 9 1 nothing)))
    × (without (0 ∷ 1 ∷ []) 7 ≡ 4)
    × (emitted (react (declared 9 (0 ∷ 0 ∷ []) (seq (emit 0 pure) (emit 2 pure))) 0) ≡ 5)
    × (emitted (react (declared_by local 9 (0 ∷ 0 ∷ []) (seq (emit 0 pure) (emit 2 pure))) 0) ≡ 4)
unfolding declared_by without react_by member none only join insert remove
reported-and_local = (refl, refl, refl, refl, refl)
