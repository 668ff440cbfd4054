-- Bays with suspend (02, item 1), worked by hand. Signal 0 stops each of them: input 1 has it, input 0 has not, and the last one
-- declares it.
use Rattle.std.specs.Prelude.{List, [], ◌∷◌}
use Rattle.spec_tick.specs.Bays.{quiet}
use Rattle.spec_tick.specs.Worked.{Run, waits, ends}

unfoldable pub suspend_runs : List Run
suspend_runs =
    -- fresh it is not stopped; stopped it emits nothing and keeps label 5
    record {
      bytes = 0x0B ∷ 0x00 ∷ 0x04 ∷ 0x02 ∷ 0x01 ∷ 0x04 ∷ 0x01 ∷ 0x05 ∷ 0x02 ∷ 0x02 ∷ [];
      read_back = 0;
      inputs = 1 ∷ 1 ∷ 1 ∷ 0 ∷ [];
      shows = waits 2 32 ∷ waits 0 32 ∷ waits 0 32 ∷ ends 4 ∷ [];
    }
    -- each round of a loop begins fresh and is stopped once resumed
    ∷ record {
      bytes = 0x06 ∷ 0x0B ∷ 0x00 ∷ 0x04 ∷ 0x02 ∷ 0x01 ∷ 0x01 ∷ 0x00 ∷ [];
      read_back = 0;
      inputs = 1 ∷ 1 ∷ 0 ∷ 1 ∷ [];
      shows = waits 2 1 ∷ waits 0 1 ∷ waits 2 1 ∷ waits 0 1 ∷ [];
    }
    -- labels 0 and 2, then 0 and 3, then 0: it keeps what is active inside, and the other side goes on
    ∷ record {
      bytes = 0x05 ∷ 0x0B ∷ 0x00 ∷ 0x04 ∷ 0x01 ∷ 0x00 ∷ 0x01 ∷ 0x01 ∷ 0x04 ∷ 0x01 ∷ 0x02 ∷ 0x01 ∷ 0x03 ∷ [];
      read_back = 0;
      inputs = 0 ∷ 1 ∷ 1 ∷ [];
      shows = waits 0 5 ∷ waits 0 9 ∷ waits 0 1 ∷ [];
    }
    -- an exit beside it drops what it keeps
    ∷ record {
      bytes = 0x09 ∷ 0x05 ∷ 0x0B ∷ 0x00 ∷ 0x01 ∷ 0x00 ∷ 0x04 ∷ 0x01 ∷ 0x01 ∷ 0x03 ∷ 0x01 ∷ [];
      read_back = 0;
      inputs = 0 ∷ 1 ∷ [];
      shows = waits 0 3 ∷ ends 0 ∷ [];
    }
    -- its own signal stops it in the run with it, and is emitted in the run without it: not reactive
    ∷ record {
      bytes = 0x08 ∷ 0x00 ∷ 0x0B ∷ 0x00 ∷ 0x04 ∷ 0x01 ∷ 0x00 ∷ 0x02 ∷ 0x00 ∷ [];
      read_back = 0;
      inputs = 0 ∷ 0 ∷ [];
      shows = waits 0 1 ∷ quiet 255 2 0 0 ∷ [];
    }
    ∷ []
