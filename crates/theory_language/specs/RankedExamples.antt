-- Instants by the ranks of the active pauses, by computation.
use Rattle.std.specs.Prelude.{◌≡◌, refl, true, false}
use Rattle.std.proofs.Math.Option.{Option, some}
use Rattle.spec_base.specs.Sets.{member, none, only, join, insert, remove, below, from}
use Rattle.spec_language.specs.Statement.{pure, nothing, pause, emit, seq, par, loop, present, suspend, held}
use Rattle.spec_language.specs.Reaction.{ended, waiting, wrong, gives, react_by}
use Rattle.spec_language.specs.Errors.{errors_by, instantaneous}
use Rattle.spec_language.specs.Reactions.{reactions_by}
use Rattle.theory_language.specs.Asked.{asked_by}
use Rattle.spec_language.specs.States.{active}
use Rattle.spec_language.specs.Expansion.{expand}
use Rattle.spec_language.specs.LabelTests.{labels_of, active_labels}
use Rattle.theory_language.specs.Ranks.{pause_count, mask, rank, labels_by, compatible}
use Rattle.spec_language.specs.Instants.{Instant}
use Rattle.theory_language.specs.Traced.{asked_of}
use Rattle.theory_language.specs.RankedExpansion.{expand_by, resume, resume_traced}
use Rattle.spec_language.specs.Machines.{instant}
use Rattle.spec_language.specs.Examples.{errs_later, frozen, three}

-- labels 5 and 4 have ranks 0 and 2; the second part begins with rank 1, the second side of the parallel with rank 2
ranks : (mask 0 three 48 ≡ 5)
    × (mask 7 three 48 ≡ 640)
    × (mask 0 three 8 ≡ 2)
    × (below 1 5 ≡ 1)
    × (from 1 5 ≡ 4)
    × (rank 0 three 3 ≡ 1)
    × (rank 0 three 4 ≡ 2)
    × (pause_count three ≡ 3)
unfolding pause_count mask rank labels_of below from member none only join
ranks = (refl, refl, refl, refl, refl, refl, refl, refl)

-- Only active sides of the parallel are entered: by rank 2 the loop is not, and the parallel ends; by rank 1, and by
-- both, the loop waits again. By rank 0 the sequence starts the parallel. What ends goes on with the command behind it.
resumed : (resume 0 three 4 0 ≡ Instant.instant (gives 0 ended 0 (par nothing nothing)) Option.none 3)
    × (resume 0 three 2 0 ≡ Instant.instant (gives 0 waiting 8 (par (seq nothing (loop 3 (pause 3))) nothing)) Option.none 6)
    × (resume 0 three 6 0 ≡ resume 0 three 2 0)
    × (resume 0 three 1 0 ≡ Instant.instant (gives 0 waiting 24 (par (seq nothing (loop 3 (pause 3))) nothing)) Option.none 6)
    × (resume 0 (seq three (emit 1 pure)) 2 0
    ≡ Instant.instant (gives 0 waiting 8 (seq (par (seq nothing (loop 3 (pause 3))) nothing) (emit 1 pure))) Option.none 7)
    × (resume 0 (seq three (emit 1 pure)) 4 0 ≡ Instant.instant (gives 2 ended 0 nothing) Option.none 5)
unfolding expand_by pause_count below from react_by errors_by reactions_by member none only join insert remove
resumed = (refl, refl, refl, refl, refl, refl)

-- The second side of a parallel has ended too where none of its pauses is active.
second-side : resume 0 (par (pause 0) (loop 2 (pause 1))) 1 0 ≡ Instant.instant (gives 0 ended 0 (par nothing nothing)) Option.none 3
unfolding expand_by pause_count below from react_by errors_by reactions_by member none only join insert remove
second-side = refl

-- of two wrong sides the first is named
both_wrong : resume 0 (par (seq (pause 0) (loop 4 nothing)) (seq (pause 1) (loop 9 nothing))) 3 0
    ≡ Instant.instant (gives 0 wrong 0 (par nothing nothing)) (some (instantaneous 4)) 9
unfolding expand_by pause_count below from react_by errors_by reactions_by member none only join insert remove
both_wrong = refl

-- the pauses of the parallel are compatible, those of the sequence and of a test, also within a suspend, are not
together : (compatible 0 three 6 ≡ true) × (compatible 0 three 5 ≡ false) × (compatible 0 three 3 ≡ false)
    × (compatible 0 (present 0 (pause 1) (pause 2)) 3 ≡ false) × (compatible 0 (present 0 (pause 1) (pause 2)) 2 ≡ true)
    × (compatible 0 (suspend 0 (present 0 (pause 1) (pause 2))) 3 ≡ false)
unfolding compatible pause_count below from none
together = (refl, refl, refl, refl, refl, refl)

-- Ranks 0 and 2 of `frozen` are labels 0 and 2; ranks 8 and 9 of `three`, from base 7, are labels 3 and 4. A stopped
-- suspend keeps the labels inside it, and nothing inside errs.
kept_by_ranks : (labels_by 0 frozen 5 ≡ 5)
    × (labels_by 7 three 768 ≡ 24)
    × (resume 0 frozen 5 1 ≡ Instant.instant (gives 0 waiting 9 (par (held 0 1 (seq nothing (pause 1))) nothing)) Option.none 5)
    × (resume 0 frozen 5 0 ≡ Instant.instant (gives 0 waiting 10 (par (held 0 2 nothing) nothing)) Option.none 8)
    × (resume 0 (suspend 0 (seq (pause 0) (loop 5 nothing))) 1 1
    ≡ Instant.instant (gives 0 waiting 1 (held 0 1 (seq nothing (loop 5 nothing)))) Option.none 1)
unfolding reactions_by labels_by expand_by pause_count below from active active_labels labels_of expand react_by errors_by member none only join insert remove
kept_by_ranks = (refl, refl, refl, refl, refl)

-- A present whose branch is resumed asks for nothing; the round that begins after it does. A resumed suspend asks first, and what
-- is inside it only where it is not stopped.
asked_by_ranks : (asked_of (resume_traced 32 0 (present 0 (pause 0) nothing) 1 0) ≡ 0)
    × (asked_of (resume_traced 32 0 errs_later 1 0) ≡ 1)
    × (asked_of (resume_traced 32 0 (suspend 3 errs_later) 1 8) ≡ 8)
    × (asked_of (resume_traced 32 0 (suspend 3 errs_later) 1 0) ≡ 9)
unfolding expand_by asked_by pause_count below from labels_by react_by errors_by reactions_by member none only join insert remove
asked_by_ranks = (refl, refl, refl, refl)
