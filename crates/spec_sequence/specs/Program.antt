-- The program of a host (02, item 5): the statement of its sequence under the read-back declarations.
use Rattle.std.specs.Prelude.{ℕ, List}
use Rattle.spec_base.specs.Limits.{signal_count, read_back_place}
use Rattle.spec_base.specs.Sets.{members_from}
use Rattle.spec_language.specs.Statement.{Statement}
use Rattle.spec_language.specs.ReadBack.{declared}

-- the signals of a read-back set, lowest first
abbrev pub read_back_signals : (read_back : ℕ) → List ℕ
read_back_signals read_back = members_from signal_count 0 read_back

-- the term of the program; no declaration counts to depth or offsets, which are the sequence's
abbrev pub program : (read_back : ℕ) → Statement → Statement
program read_back p = declared read_back_place (read_back_signals read_back) p
