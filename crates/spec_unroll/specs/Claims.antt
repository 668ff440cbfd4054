-- What 02, item 13, says of the call that writes loops out, and what is said of one that gave 0.
use Rattle.std.specs.Prelude.{ℕ, ◌≡◌, ◌≢◌, false, List, take, drop}
use Rattle.spec_language.specs.Statement.{Statement}
use Rattle.spec_language.specs.Machines.{State, by_labels}
use Rattle.spec_sequence.specs.Writer.{bytes_of, size}
use Rattle.spec_sequence.specs.Program.{program}
use Rattle.spec_sequence.specs.Check.{check_of}
use Rattle.spec_sequence.specs.Rows.{Spells, ByRows}
use Rattle.spec_tick.specs.Tick.{tick_of}
use Rattle.spec_unroll.specs.Unrolled.{unrolled, result_of}
use Rattle.spec_unroll.specs.Call.{Unrolling, unrolling, number, refused}
use Rattle.spec_unroll.specs.Rows.{UnrollRow}
use Rattle.spec_unroll.specs.Runs.{SameUntilWrong, SameLitresUntilWrong, shows_wrong}
use Rattle.spec_unroll.specs.Entries.{Counting, OneRun, AtMostOnce}

-- the result's length is n, and the buffer `out` afterwards
pub record Written (sequence : List ℕ) (read_back : ℕ) (buffer : List ℕ) (n : ℕ) (out : List ℕ) : Type 0 where
  -- the buffer begins with the bytes of p worked through, and the length is theirs
  pub bytes : (p : Statement) → Spells sequence p → (take n out ≡ bytes_of (unrolled p)) × (n ≡ size (unrolled p))
  -- 'those after it .. keep their values'
  pub behind : drop n out ≡ drop n buffer
  -- the result is accepted with the original's read-back set, and its places are its own offsets
  pub accepted : check_of (take n out) read_back ≡ 0
  pub spelled : (p : Statement) → Spells sequence p → Spells (take n out) (result_of p)
  -- 'up to the last instant before its run is wrong, both .. emit the same and have the same codes and labels'
  pub same : SameUntilWrong tick_of sequence (take n out) read_back
  pub same_litres : SameLitresUntilWrong sequence (take n out) read_back
  -- 'can't enter a body twice in an instant': from any state, in an instant that is not wrong, one run of each signal counted; of a
  -- loop and of its body as a whole only the beginnings count (Entries)
  pub once : (q : Statement) → Spells (take n out) q → (c : Counting) → OneRun c → (s : State) (e : ℕ)
      → shows_wrong (by_labels (program read_back q) s e).0 ≡ false → AtMostOnce c (program read_back q) s e

-- ---- what decides a call: its numbers, and what it leaves
-- sequence, read-back set, lent buffer
abbrev pub Unroll : Type 0
Unroll = List ℕ → ℕ → List ℕ → Unrolling

pub record DecidesUnroll (unroll : Unroll) : Type 0 where
  -- each number exactly if its row holds and no row before it does
  pub by_rows : (sequence : List ℕ) (read_back : ℕ) (buffer : List ℕ)
      → ByRows (number (unroll sequence read_back buffer)) (UnrollRow sequence read_back buffer)
  -- after an error the length is 0 and every byte keeps its value
  pub refusal_writes_nothing : (sequence : List ℕ) (read_back : ℕ) (buffer : List ℕ) → number (unroll sequence read_back buffer) ≢ 0
      → unroll sequence read_back buffer ≡ refused (number (unroll sequence read_back buffer)) buffer
  -- with number 0, the result
  pub result_written : (sequence : List ℕ) (read_back : ℕ) (buffer : List ℕ) (n : ℕ) (out : List ℕ)
      → unroll sequence read_back buffer ≡ unrolling 0 n out → Written sequence read_back buffer n out
