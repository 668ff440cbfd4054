-- Laws of the turns: the one that each stage takes.
use Prim.Native.Nat.{ℕ}
use native.Mathlib.Omega.{arith}
use mathlib.Core.Option.{none}
use mathlib.Core.Path.{◌≡◌, refl, sym, ap}
use mathlib.Core.List.{List, [], ◌∷◌}
use Rattle.spec_programs.specs.Text.{ending}
use Rattle.spec_programs.specs.File.{file_of, first}
use Rattle.spec_programs.specs.Stages as Listing
use Rattle.listing.specs.declared.Stage.{Stage}
use Rattle.listing.specs.declared.Run.{Run}
use Rattle.listing.specs.Stages.{stage_by, stage_in}
use Rattle.std.specs.Prelude.{Err}
use Rattle.files.specs.declared.FileError.{FileError}
use Rattle.files.specs.declared.FileError.TheVariants.{Cut, Refused}
use Rattle.lines.specs.Shown.{failure_of}
use Rattle.listing.specs.Opened.{file_by}

pub no_turn : (s : List ℕ) (b : ℕ) (state : List ℕ) (j : ℕ) (es : List ℕ) → first es ≡ none
    → Listing.turn ending Listing.finished ≡ Listing.turn_of (Listing.running s b state j es)
unfolding Listing.turn_of
no_turn s b state j [] h = refl
no_turn s b state j (e ∷ es) h = absurd (let z : ◌≡◌ {A = ℕ} 0 1 = cc in omega arith)

-- ---- the arms of a match
pub opened_failure : (file : List ℕ) (error : FileError) → Listing.turn (failure_of error) Listing.finished ≡ Listing.opened (file_by file (Err error))
opened_failure file Cut = refl
opened_failure file (Refused row) = refl

pub turn_by : (file : List ℕ) (run : Run) (g : Stage) → run.stage ≡ g
    → Listing.turn_of (stage_by file g run.state) ≡ Listing.turn_of (stage_in file run)
turn_by file run g e = ap (λ (h : Stage). Listing.turn_of (stage_by file h run.state)) (sym e)

pub turn_opening : (file : List ℕ) → Listing.opened (file_of file) ≡ Listing.turn_of (Listing.opening file)
unfolding Listing.turn_of
turn_opening file = refl

pub turn_closing : Listing.turn ending Listing.finished ≡ Listing.turn_of Listing.closing
unfolding Listing.turn_of
turn_closing = refl

pub turn_finished : Listing.turn [] Listing.finished ≡ Listing.turn_of Listing.finished
unfolding Listing.turn_of
turn_finished = refl
