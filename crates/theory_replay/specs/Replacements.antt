-- A wrong replay, for which proofs/Replacements refutes a claim: it stops where the machine is over, and accepts what comes after.
use Rattle.std.specs.Prelude.{ℕ, ◌+◌, cond, List, [], ◌∷◌}
use Rattle.spec_sequence.specs.Check.{check_of}
use Rattle.spec_tick.specs.Recording.{recording_of}
use Rattle.spec_replay.specs.Replay.{records_in, inputs_in, same, by_length, by_check}
use Rattle.spec_replay.specs.ReplayClaims.{Replay}

-- the first record that differs from the one made for it, among those that one was made for
unfoldable pub first_up_to_the_end : (k : ℕ) → (given made : List (List ℕ)) → ℕ
first_up_to_the_end k [] made = 0
first_up_to_the_end k (r ∷ given) [] = 0
first_up_to_the_end k (r ∷ given) (m ∷ made) = cond (same r m) (first_up_to_the_end (k + 1) given made) k

abbrev pub accepts_after_the_end : Replay
accepts_after_the_end sequence read_back recording =
    by_check (check_of sequence read_back)
    (by_length recording (first_up_to_the_end 1 (records_in recording) (recording_of sequence read_back (inputs_in recording))))
