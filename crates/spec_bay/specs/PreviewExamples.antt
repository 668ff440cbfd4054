-- Previews worked by hand (02, item 11).
use Rattle.std.specs.Prelude.{ℕ, List, [], ◌∷◌, replicate}
use Rattle.spec_base.specs.Sets.{none}
use Rattle.spec_tick.specs.StateRecord.{state_record}
use Rattle.spec_tick.specs.Demands.{cleared}
use Rattle.spec_bay.specs.Preview.{preview_length, Previewed, previewed}

pub record Case : Type 0 where
  pub sequence : List ℕ
  pub state : List ℕ
  pub input : ℕ
  pub unknown : ℕ
  pub lent : List ℕ
  pub shows : Previewed

-- present 0: emit 1, else a loop that errs
abbrev choice : List ℕ
choice = 0x07 ∷ 0x00 ∷ 0x02 ∷ 0x01 ∷ 0x06 ∷ 0x00 ∷ []

-- a machine that is over
abbrev over : List ℕ
over = state_record 2 none

-- bytes lent
abbrev ten : List ℕ
ten = replicate preview_length 0xAA

-- no signal for every filling, for none all but signal 1; one filling is wrong, so the code is open
abbrev open_choice : Previewed
open_choice = previewed 0 (0 ∷ 0 ∷ 0 ∷ 0 ∷ 0xFD ∷ 0xFF ∷ 0xFF ∷ 0xFF ∷ 1 ∷ 254 ∷ [])

unfoldable pub cases : List Case
cases =
    -- signal 0 unknown, of which the host says 'absent', or 'present'
    record { sequence = choice; state = cleared; input = 0; unknown = 1; lent = ten; shows = open_choice }
    ∷ record { sequence = choice; state = cleared; input = 1; unknown = 1; lent = ten; shows = open_choice }
    -- nothing unknown: what the tick answers
    ∷ record {
      sequence = choice;
      state = cleared;
      input = 1;
      unknown = 0;
      lent = ten;
      shows = previewed 0 (2 ∷ 0 ∷ 0 ∷ 0 ∷ 0xFD ∷ 0xFF ∷ 0xFF ∷ 0xFF ∷ 0 ∷ 0 ∷ []);
    }
    -- all four fillings wrong: they share code 255
    ∷ record {
      sequence = 0x06 ∷ 0x00 ∷ [];
      state = cleared;
      input = 0;
      unknown = 3;
      lent = ten;
      shows = previewed 0 (0 ∷ 0 ∷ 0 ∷ 0 ∷ 0xFF ∷ 0xFF ∷ 0xFF ∷ 0xFF ∷ 1 ∷ 255 ∷ []);
    }
    -- a sixth unknown, a seventh; 12 before 17, and 1 before 12
    ∷ record { sequence = choice; state = cleared; input = 0; unknown = 63; lent = ten; shows = open_choice }
    ∷ record { sequence = choice; state = cleared; input = 0; unknown = 127; lent = ten; shows = previewed 17 ten }
    ∷ record { sequence = choice; state = over; input = 0; unknown = 127; lent = ten; shows = previewed 12 ten }
    ∷ record { sequence = choice; state = over; input = 0; unknown = 127; lent = 0 ∷ ten; shows = previewed 1 (0 ∷ ten) }
    ∷ []
