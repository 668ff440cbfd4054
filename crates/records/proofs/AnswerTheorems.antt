-- The theorems of this crate: the length and the fields of an instant's answer.
use Prim.Native.Nat.{ℕ, ◌^◌, ◌<◌}
use mathlib.Core.Path.{◌≡◌}
use mathlib.Core.Option.{Option}
use lib.ListN.{length}
use Rattle.spec_language.specs.Statement.{Statement}
use Rattle.spec_language.specs.Reaction.{Code, gives}
use Rattle.spec_language.specs.Errors.{Error, blame}
use Rattle.spec_language.specs.Instants.{instant}
use Rattle.spec_language.specs.Machines.{shown}
use Rattle.spec_base.specs.Limits.{place_bytes, signal_bytes, reactions_bytes}
use Rattle.spec_tick.specs.AnswerRecord.{answer_length, code_byte, code_in, kind_in, place_in, emitted_in, reactions_in, encode_answer}
use Rattle.records.proofs.AnswerLaws as laws

pub length-answer : (o : ℕ) (k : Code) (l : ℕ) (t : Statement) (x : Option Error) (n : ℕ)
    → length (encode_answer (instant (gives o k l t) x n)) ≡ answer_length
length-answer = laws.length-answer

pub fields : (o : ℕ) (k : Code) (l : ℕ) (t : Statement) (x : Option Error) (n : ℕ)
    → (code_in (encode_answer (instant (gives o k l t) x n)) ≡ code_byte k)
    × (kind_in (encode_answer (instant (gives o k l t) x n)) ≡ (blame k x).kind)
    × ((blame k x).place < 256 ^ place_bytes → place_in (encode_answer (instant (gives o k l t) x n)) ≡ (blame k x).place)
    × (shown k o < 256 ^ signal_bytes → emitted_in (encode_answer (instant (gives o k l t) x n)) ≡ shown k o)
    × (n < 256 ^ reactions_bytes → reactions_in (encode_answer (instant (gives o k l t) x n)) ≡ n)
fields o k l t x n = (
  laws.code-field o k l t x n,
  laws.kind-field o k l t x n,
  laws.place-field o k l t x n,
  laws.emitted-field o k l t x n,
  laws.reactions-field o k l t x n,
)
