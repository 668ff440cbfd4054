-- What a wrong instant of this sequence and set names by kind and place (01, 'One reaction'; 02, item 5).
use Rattle.std.specs.Prelude.{ℕ, ◌<◌, ◌≡◌, ◌≢◌, ◌⊎◌, List, length, get_or}
use Rattle.spec_base.specs.Limits.{read_back_place}
use Rattle.spec_base.specs.Sets.{none}
use Rattle.spec_language.specs.Statement.{local, Statement, loop, signal}
use Rattle.spec_language.specs.Places.{Place, At}
use Rattle.spec_sequence.specs.Rows.{Spells}

pub data PlaceNamed (sequence : List ℕ) (read_back kind place : ℕ) : Type 0 where
  -- a loop or a signal of the statement, by the offset of its command byte
  of_loop : {p q : Statement} {x : Place} → kind ≡ 1 → Spells sequence p → At (loop place q) x p
      → place < length sequence → get_or sequence place 0 ≡ 0x06 → PlaceNamed sequence read_back kind place
  of_signal : {p q : Statement} {x : Place} {s : ℕ} → (kind ≡ 2) ⊎ (kind ≡ 3) → Spells sequence p → At (signal local place s q) x p
      → place < length sequence → get_or sequence place 0 ≡ 0x08 → PlaceNamed sequence read_back kind place
  -- a read-back declaration
  of_declaration : (kind ≡ 2) ⊎ (kind ≡ 3) → read_back ≢ none → place ≡ read_back_place → PlaceNamed sequence read_back kind place
