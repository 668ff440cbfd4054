-- Bays whose wrong instant has more errors than one, or has one in a run of a signal (02, items 3 and 4), worked by hand. The kind
-- and place are the first error's.
use Rattle.std.specs.Prelude.{List, [], ◌∷◌}
use Rattle.spec_tick.specs.Bays.{quiet}
use Rattle.spec_tick.specs.Worked.{Run, waits}

unfoldable pub first_error_runs : List Run
first_error_runs =
    -- an error in the run without the signal, in the run with it, in both
    record {
      bytes = 0x08 ∷ 0x00 ∷ 0x07 ∷ 0x00 ∷ 0x00 ∷ 0x06 ∷ 0x00 ∷ [];
      read_back = 0;
      inputs = 0 ∷ [];
      shows = quiet 255 1 5 0 ∷ [];
    }
    ∷ record {
      bytes = 0x08 ∷ 0x00 ∷ 0x07 ∷ 0x00 ∷ 0x06 ∷ 0x00 ∷ 0x00 ∷ [];
      read_back = 0;
      inputs = 0 ∷ [];
      shows = quiet 255 1 4 0 ∷ [];
    }
    ∷ record {
      bytes = 0x08 ∷ 0x00 ∷ 0x07 ∷ 0x00 ∷ 0x06 ∷ 0x00 ∷ 0x06 ∷ 0x00 ∷ [];
      read_back = 0;
      inputs = 0 ∷ [];
      shows = quiet 255 1 6 0 ∷ [];
    }
    -- 02, item 4: the signal is emitted in both runs, one of which is wrong
    ∷ record {
      bytes = 0x08 ∷ 0x00 ∷ 0x04 ∷ 0x02 ∷ 0x00 ∷ 0x07 ∷ 0x00 ∷ 0x00 ∷ 0x06 ∷ 0x00 ∷ [];
      read_back = 0;
      inputs = 0 ∷ [];
      shows = quiet 255 1 8 0 ∷ [];
    }
    -- that signal, with its error at 9, before a loop at 11 that errs too: in parallel, and in a sequence
    ∷ record {
      bytes = 0x05 ∷ 0x08 ∷ 0x00 ∷ 0x04 ∷ 0x02 ∷ 0x00 ∷ 0x07 ∷ 0x00 ∷ 0x00 ∷ 0x06 ∷ 0x00 ∷ 0x06 ∷ 0x00 ∷ [];
      read_back = 0;
      inputs = 0 ∷ [];
      shows = quiet 255 1 9 0 ∷ [];
    }
    ∷ record {
      bytes = 0x04 ∷ 0x08 ∷ 0x00 ∷ 0x04 ∷ 0x02 ∷ 0x00 ∷ 0x07 ∷ 0x00 ∷ 0x00 ∷ 0x06 ∷ 0x00 ∷ 0x06 ∷ 0x00 ∷ [];
      read_back = 0;
      inputs = 0 ∷ [];
      shows = quiet 255 1 9 0 ∷ [];
    }
    -- the same in a loop at 0, with its error at 9, and in a signal at 0, with its error at 11
    ∷ record {
      bytes = 0x06 ∷ 0x08 ∷ 0x00 ∷ 0x04 ∷ 0x02 ∷ 0x00 ∷ 0x07 ∷ 0x00 ∷ 0x00 ∷ 0x06 ∷ 0x00 ∷ [];
      read_back = 0;
      inputs = 0 ∷ [];
      shows = quiet 255 1 9 0 ∷ [];
    }
    ∷ record {
      bytes = 0x08 ∷ 0x00 ∷ 0x04 ∷ 0x08 ∷ 0x01 ∷ 0x04 ∷ 0x02 ∷ 0x01 ∷ 0x07 ∷ 0x01 ∷ 0x00 ∷ 0x06 ∷ 0x00 ∷ 0x07 ∷ 0x00 ∷ 0x00 ∷ 0x02 ∷ 0x00 ∷ [];
      read_back = 0;
      inputs = 0 ∷ [];
      shows = quiet 255 1 11 0 ∷ [];
    }
    -- two errors of the signal at 2: kind 3 in the run without the signal around it, kind 2 in the run with it
    ∷ record {
      bytes = 0x08 ∷ 0x01 ∷ 0x08 ∷ 0x00 ∷ 0x07 ∷ 0x01 ∷ 0x07 ∷ 0x00 ∷ 0x00 ∷ 0x02 ∷ 0x00 ∷ 0x07 ∷ 0x00 ∷ 0x02 ∷ 0x00 ∷ 0x00 ∷ [];
      read_back = 0;
      inputs = 0 ∷ [];
      shows = quiet 255 3 2 0 ∷ [];
    }
    -- a loop's next round: its body's loop at 3, and the loop itself at 2, which resuming copies
    ∷ record {
      bytes = 0x06 ∷ 0x07 ∷ 0x00 ∷ 0x06 ∷ 0x00 ∷ 0x01 ∷ 0x00 ∷ [];
      read_back = 0;
      inputs = 0 ∷ 1 ∷ [];
      shows = waits 0 1 ∷ quiet 255 1 3 0 ∷ [];
    }
    ∷ record {
      bytes = 0x04 ∷ 0x00 ∷ 0x06 ∷ 0x07 ∷ 0x00 ∷ 0x00 ∷ 0x01 ∷ 0x00 ∷ [];
      read_back = 0;
      inputs = 0 ∷ 1 ∷ [];
      shows = waits 0 1 ∷ quiet 255 1 2 0 ∷ [];
    }
    -- 02, item 4, and a suspend: in the second instant the run with the signal is stopped, the run without it goes on and is wrong
    ∷ record {
      bytes = 0x08 ∷ 0x00 ∷ 0x05 ∷ 0x0B ∷ 0x00 ∷ 0x04 ∷ 0x01 ∷ 0x00 ∷ 0x06 ∷ 0x00 ∷ 0x04 ∷ 0x01 ∷ 0x01 ∷ 0x02 ∷ 0x00 ∷ [];
      read_back = 0;
      inputs = 0 ∷ 0 ∷ [];
      shows = waits 0 3 ∷ quiet 255 1 8 0 ∷ [];
    }
    -- 02, item 4: the signal at 0 hung on what a wrong signal at 2 emitted
    ∷ record {
      bytes = 0x08 ∷ 0x01 ∷ 0x08 ∷ 0x00 ∷ 0x04 ∷ 0x02 ∷ 0x00 ∷ 0x04 ∷ 0x02 ∷ 0x01 ∷ 0x07 ∷ 0x01 ∷ 0x00 ∷ 0x06 ∷ 0x00 ∷ [];
      read_back = 0;
      inputs = 0 ∷ [];
      shows = quiet 255 1 13 0 ∷ [];
    }
    ∷ []
