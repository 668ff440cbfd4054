-- The listing in pieces: each turn gives the next piece of text, and the stage that the run is then in.
use Rattle.std.specs.Prelude.{ℕ, zero, suc, ◌+◌, Bool, true, false, cond, List, [], ◌∷◌, ◌++◌}
use Rattle.spec_tick.specs.Demands.{state_afterwards, cleared}
use Rattle.spec_programs.specs.Text.{heading, ending, input_cut, refusal}
use Rattle.spec_programs.specs.File.{File, cut, refused, runs, file_of}
use Rattle.spec_programs.specs.Listing.{line_of, entry_from, ticked, is_over}

pub data Stage : Type 0 where
  opening : (file : List ℕ) → Stage
  running : (sequence : List ℕ) (read_back : ℕ) (state : List ℕ) (instant : ℕ) (inputs : List ℕ) → Stage
  closing : Stage
  finished : Stage

abbrev pub isFinished : Stage → Bool
isFinished (opening file) = false
isFinished (running sequence read_back state i inputs) = false
isFinished closing = false
isFinished finished = true

pub record Turn : Type 0 where
  pub text : List ℕ
  pub next : Stage

abbrev pub turn : List ℕ → Stage → Turn
turn text next = record { text = text; next = next }

abbrev pub opened : File → Turn
opened cut = turn input_cut finished
opened (refused number) = turn (refusal number) finished
opened (runs sequence read_back inputs) = turn heading (running sequence read_back cleared 1 inputs)

unfoldable pub turn_of : Stage → Turn
turn_of (opening file) = opened (file_of file)
turn_of (running sequence read_back state i []) = turn ending finished
turn_of (running sequence read_back state i (e ∷ es)) =
    let o = ticked sequence read_back state e in
    turn (line_of (entry_from i o)) (cond (is_over (state_afterwards o)) closing (running sequence read_back (state_afterwards o) (suc i) es))
turn_of closing = turn ending finished
turn_of finished = turn [] finished

-- the text of n turns
unfoldable pub turns : ℕ → Stage → List ℕ
turns zero g = []
turns (suc n) g = (turn_of g).text ++ turns n (turn_of g).next
