-- Bays with a read-back set (02, item 5), worked by hand. An error of a declaration has place 65535.
use Rattle.std.specs.Prelude.{List, [], ◌∷◌}
use Rattle.spec_tick.specs.Bays.{quiet}
use Rattle.spec_tick.specs.Worked.{Run, waits, ends}

unfoldable pub read_back_runs : List Run
read_back_runs =
    -- signal 0 is emitted, and the test after it sees it; both are reported
    record {
      bytes = 0x04 ∷ 0x02 ∷ 0x00 ∷ 0x07 ∷ 0x00 ∷ 0x02 ∷ 0x01 ∷ 0x00 ∷ [];
      read_back = 1;
      inputs = 0 ∷ [];
      shows = ends 3 ∷ [];
    }
    -- the same with no signal read back: the test reads the host's input
    ∷ record {
      bytes = 0x04 ∷ 0x02 ∷ 0x00 ∷ 0x07 ∷ 0x00 ∷ 0x02 ∷ 0x01 ∷ 0x00 ∷ [];
      read_back = 0;
      inputs = 0 ∷ [];
      shows = ends 1 ∷ [];
    }
    -- the host's status of a read-back signal is ignored
    ∷ record {
      bytes = 0x07 ∷ 0x00 ∷ 0x02 ∷ 0x01 ∷ 0x00 ∷ [];
      read_back = 1;
      inputs = 1 ∷ [];
      shows = ends 0 ∷ [];
    }
    -- emitted only if absent, and only if present
    ∷ record {
      bytes = 0x07 ∷ 0x00 ∷ 0x00 ∷ 0x02 ∷ 0x00 ∷ [];
      read_back = 1;
      inputs = 0 ∷ [];
      shows = quiet 255 2 65535 0 ∷ [];
    }
    ∷ record {
      bytes = 0x07 ∷ 0x00 ∷ 0x02 ∷ 0x00 ∷ 0x00 ∷ [];
      read_back = 1;
      inputs = 0 ∷ [];
      shows = quiet 255 3 65535 0 ∷ [];
    }
    -- 003, section 6.4: the lowest outermost, so that the order of two declarations matters
    ∷ record {
      bytes = 0x07 ∷ 0x00 ∷ 0x07 ∷ 0x01 ∷ 0x02 ∷ 0x00 ∷ 0x00 ∷ 0x00 ∷ [];
      read_back = 3;
      inputs = 0 ∷ [];
      shows = ends 0 ∷ [];
    }
    ∷ record {
      bytes = 0x07 ∷ 0x01 ∷ 0x07 ∷ 0x00 ∷ 0x02 ∷ 0x01 ∷ 0x00 ∷ 0x00 ∷ [];
      read_back = 3;
      inputs = 0 ∷ [];
      shows = quiet 255 3 65535 0 ∷ [];
    }
    -- a declaration inside hides it: signal 0 is local, and is not reported
    ∷ record {
      bytes = 0x08 ∷ 0x00 ∷ 0x04 ∷ 0x02 ∷ 0x00 ∷ 0x07 ∷ 0x00 ∷ 0x02 ∷ 0x01 ∷ 0x00 ∷ [];
      read_back = 1;
      inputs = 0 ∷ [];
      shows = ends 2 ∷ [];
    }
    -- an error of the sequence itself keeps its place
    ∷ record {
      bytes = 0x06 ∷ 0x00 ∷ [];
      read_back = 1;
      inputs = 0 ∷ [];
      shows = quiet 255 1 0 0 ∷ [];
    }
    -- a suspend whose body emits the read-back signal that stops it
    ∷ record {
      bytes = 0x0B ∷ 0x00 ∷ 0x04 ∷ 0x01 ∷ 0x00 ∷ 0x02 ∷ 0x00 ∷ [];
      read_back = 1;
      inputs = 0 ∷ 0 ∷ [];
      shows = waits 0 1 ∷ quiet 255 2 65535 0 ∷ [];
    }
    -- a valve is opened and, in the same instant, its lamp is lit; the next instant reads it anew
    ∷ record {
      bytes = 0x05 ∷ 0x04 ∷ 0x02 ∷ 0x00 ∷ 0x01 ∷ 0x00 ∷ 0x06 ∷ 0x04 ∷ 0x07 ∷ 0x00 ∷ 0x02 ∷ 0x01 ∷ 0x00 ∷ 0x01 ∷ 0x01 ∷ [];
      read_back = 1;
      inputs = 0 ∷ 1 ∷ [];
      shows = waits 3 3 ∷ waits 0 2 ∷ [];
    }
    ∷ []
