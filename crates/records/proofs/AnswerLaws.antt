-- What an answer record holds: its length, and each field is what was put there.
use Prim.Native.Nat.{ℕ, ◌^◌, ◌<◌}
use mathlib.Core.Path.{◌≡◌, refl}
use mathlib.Core.Logic.{◌≢◌}
use mathlib.Core.Option.{Option, some}
use lib.ListN.{length}
use Rattle.spec_language.specs.Statement.{Statement}
use Rattle.spec_language.specs.Reaction.{Code, ended, waiting, leaving, wrong, gives}
use Rattle.spec_language.specs.Errors.{Error, no_error, blame}
use Rattle.spec_language.specs.Instants.{instant}
use Rattle.spec_language.specs.Machines.{shown}
use Rattle.spec_base.specs.Limits.{place_bytes, signal_bytes, reactions_bytes}
use Rattle.spec_base.specs.Bytes.{le_bytes}
use Rattle.numbers.proofs.Bytes.{le_round_trip}
use Rattle.spec_tick.specs.AnswerRecord.{answer_length, code_byte, answer_record, code_in, kind_in, place_in, emitted_in, reactions_in, encode_answer}

pub answer_sized : (code kind place emitted reactions : ℕ) → length (answer_record code kind place emitted reactions) ≡ answer_length
unfolding le_bytes
answer_sized code kind place emitted reactions = refl

-- ---- what an instant answers: no kind and place unless it is wrong, and then those of its first error
pub blameless : (k : Code) (x : Option Error) → k ≢ wrong → blame k x ≡ no_error
blameless ended x h = refl
blameless waiting x h = refl
blameless (leaving m) x h = refl
blameless wrong x h = absurd (h refl)

pub wrong_blame : (k : Code) (x : Option Error) (y : Error) → k ≡ wrong → x ≡ some y → blame k x ≡ y
wrong_blame k x y i h = rw (i, h)

-- ---- an answer, whole and by its fields
module _ (o : ℕ) (k : Code) (l : ℕ) (t : Statement) (x : Option Error) (n : ℕ) where
  pub answer-is : encode_answer (instant (gives o k l t) x n)
      ≡ answer_record (code_byte k) (blame k x).kind (blame k x).place (shown k o) n
  unfolding encode_answer
  answer-is = refl

  pub length-answer : length (encode_answer (instant (gives o k l t) x n)) ≡ answer_length
  unfolding encode_answer
  length-answer = answer_sized (code_byte k) (blame k x).kind (blame k x).place (shown k o) n

  pub code-field : code_in (encode_answer (instant (gives o k l t) x n)) ≡ code_byte k
  unfolding encode_answer
  code-field = refl

  pub kind-field : kind_in (encode_answer (instant (gives o k l t) x n)) ≡ (blame k x).kind
  unfolding encode_answer
  kind-field = refl

  pub place-field : (blame k x).place < 256 ^ place_bytes → place_in (encode_answer (instant (gives o k l t) x n)) ≡ (blame k x).place
  unfolding encode_answer le_bytes
  place-field h = le_round_trip place_bytes (blame k x).place h

  pub emitted-field : shown k o < 256 ^ signal_bytes → emitted_in (encode_answer (instant (gives o k l t) x n)) ≡ shown k o
  unfolding encode_answer le_bytes
  emitted-field h = le_round_trip signal_bytes (shown k o) h

  pub reactions-field : n < 256 ^ reactions_bytes → reactions_in (encode_answer (instant (gives o k l t) x n)) ≡ n
  unfolding encode_answer le_bytes
  reactions-field h = le_round_trip reactions_bytes n h
