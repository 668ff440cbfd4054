-- Laws of the pieces: what a piece prints, and the turn of an instant.
use Prim.Native.Nat.{ℕ, suc, ◌+◌}
use native.Mathlib.Numerals.{add-one}
use mathlib.Core.Bool.{Bool, true, false, cond}
use mathlib.Core.Option.{some}
use mathlib.Core.Path.{◌≡◌, refl, sym, ap, ap₂, ◌∙◌}
use mathlib.Core.List.{List, ◌∷◌}
use lib.ListN.{get_or, drop}
use lib.Dec.{eqb}
use Rattle.spec_tick.specs.Tick.{Outcome, outcome}
use Rattle.spec_tick.specs.Demands.{state_afterwards}
use Rattle.spec_programs.specs.File.{sequence_in, read_back_in, inputs_in, first}
use Rattle.spec_programs.specs.Listing.{line_of, entry_read, entry_from, ticked, is_over}
use Rattle.spec_programs.specs.Stages as Listing
use Rattle.files.proofs.Files.{input_next}
use Rattle.listing.specs.declared.Stage.TheVariants as stages
use Rattle.listing.specs.Stages.{stage_by, stage_in, stage_after}
use Rattle.listing.specs.declared.Piece.{Piece}
use Rattle.lines.specs.Shown.{Displays}
use Rattle.listing.specs.Pieces.{Prints}

-- a line with the text, and a run at the next stage
pub printed : {text : List ℕ} (file : List ℕ) (piece : Piece) (next : Listing.Stage) → Displays piece.line text → stage_in file piece.run ≡ next
    → Prints file (Listing.turn text next) piece
printed file piece next s e = record { result = ap₂ Listing.turn s.told e; sized = s.sized }

-- ---- an instant
stage_after_lem : (b : Bool) (file after : List ℕ) (i : ℕ)
    → cond b Listing.closing (Listing.running (sequence_in file) (read_back_in file) after (suc (suc i)) (drop (suc i) (inputs_in file)))
    ≡ stage_by file (cond b stages.Closing (stages.Running (suc i))) after
stage_after_lem true file after i = refl
stage_after_lem false file after i = refl

turn_on : (s : List ℕ) (b : ℕ) (state : List ℕ) (j e : ℕ) (es : List ℕ) (o : Outcome) → o ≡ ticked s b state e
    → Listing.turn_of (Listing.running s b state j (e ∷ es))
    ≡ Listing.turn (line_of (entry_from j o)) (cond (is_over (state_afterwards o)) Listing.closing (Listing.running s b (state_afterwards o) (suc j) es))
unfolding Listing.turn_of
turn_on s b state j e es o h =
    ap
    (λ (r : Outcome).
    Listing.turn (line_of (entry_from j r)) (cond (is_over (state_afterwards r)) Listing.closing (Listing.running s b (state_afterwards r) (suc j) es)))
    (sym h)

-- the tick of a sequence and a read-back set that are the file's
pub ticked_at : {o : Outcome} {s s' : List ℕ} {b b' : ℕ} (state : List ℕ) (e : ℕ) → o ≡ ticked s b state e → s ≡ s' → b ≡ b'
    → o ≡ ticked s' b' state e
ticked_at state e h k l = h ∙ ap₂ (λ (x : List ℕ) (y : ℕ). ticked x y state e) k l

pub instant-turn : (file state after answer : List ℕ) (i e n : ℕ) → first (drop i (inputs_in file)) ≡ some e
    → outcome n after answer ≡ ticked (sequence_in file) (read_back_in file) state e
    → Listing.turn (line_of (entry_read (i + 1) after answer)) (stage_by file (stage_after (get_or after 0 0) (i + 1)) after)
    ≡ Listing.turn_of (Listing.running (sequence_in file) (read_back_in file) state (suc i) (drop i (inputs_in file)))
instant-turn file state after answer i e n h o =
    let b : Bool = eqb (get_or after 0 0) 2 in
    ap₂ Listing.turn (ap (λ (j : ℕ). line_of (entry_read j after answer)) (add-one i))
    (ap (λ (j : ℕ). stage_by file (cond b stages.Closing (stages.Running j)) after) (add-one i) ∙ sym (stage_after_lem b file after i))
    ∙ sym
    (ap (λ (es : List ℕ). Listing.turn_of (Listing.running (sequence_in file) (read_back_in file) state (suc i) es)) (input_next i e (inputs_in file) h)
    ∙ turn_on (sequence_in file) (read_back_in file) state (suc i) e (drop (suc i) (inputs_in file)) (outcome n after answer) o)
