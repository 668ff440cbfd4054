-- A preview from an origin of the statement that the bytes encode (program, specs/Program): the form for the code.
use Rattle.std.specs.Prelude.{ℕ, List}
use Rattle.spec_base.specs.Limits.{max_depth}
use Rattle.spec_language.specs.Statement.{Statement}
use Rattle.spec_language.specs.Instants.{start}
use Rattle.spec_sequence.specs.Program.{program}
use Rattle.layout.specs.Layout.{Lies, Ready}
use Rattle.program.specs.declared.Start.{Start}
use Rattle.program.specs.Program.{term_at}
use Rattle.reaction.specs.Reactions.{reaction_to}
use Rattle.instants.specs.Written.{Writable}
use Rattle.spec_tick.specs.AnswerRecord.{encode_answer}

abbrev pub answers_at : Start → Statement → (read_back e : ℕ) → List ℕ
answers_at origin p read_back e = encode_answer (start (program read_back (term_at origin p)) e)

-- the statement can react from the origin, and its instants fit the answer record
pub record Stands (t bs : List ℕ) (origin : Start) (read_back : ℕ) : Type 0 where
  pub p : Statement
  pub lies : Lies t max_depth 0 0 bs p
  pub ready : Ready t max_depth 0 bs
  pub writable : (e : ℕ) → Writable (reaction_to (program read_back (term_at origin p)) e)

-- something of every statement encoded there
abbrev pub OfEach : (t bs : List ℕ) → (Statement → Type 0) → Type 0
OfEach t bs P = (p : Statement) → Lies t max_depth 0 0 bs p → P p
