-- The code of an instant: at most 16, or 255 for wrong; so it is never 254, which a preview has for "open".
use Prim.Native.Nat.{ℕ, ◌≤◌}
use native.Mathlib.Omega.{arith}
use mathlib.Core.Path.{◌≡◌, refl, sym, ap, ◌∙◌, subst}
use mathlib.Core.Logic.{◌≢◌, ◌⊎◌, inl, inr, ⊎_elim}
use mathlib.Core.Option.{Option}
use mathlib.Core.List.{List}
use Rattle.spec_language.specs.Reaction.{Code, ended, waiting, leaving, wrong, Reaction, gives, code, react_by, inheritanceFirst}
use Rattle.spec_language.specs.Errors.{Error}
use Rattle.spec_language.specs.Instants.{instant}
use Rattle.spec_tick.specs.AnswerRecord.{code_byte, code_in, encode_answer}
use Rattle.records.proofs.AnswerLaws.{code-field}
use Rattle.spec_tick.specs.Tick.{Outcome, tick_of}
use Rattle.spec_tick.specs.Demands.{number, answer_afterwards}
use Rattle.theory_tick.proofs.Bounds.{Exits, code_exits}
use Rattle.theory_tick.proofs.Sequence.{accepted}
use Rattle.theory_tick.proofs.Demand2.{passed-check, state_sized, answer_sized, stands, stands-written}
use Rattle.spec_bay.specs.Preview.{openCode}

byte_of : (k : Code) → Exits k → (code_byte k ≤ 16) ⊎ (code_byte k ≡ 255)
byte_of ended f = inl (omega arith)
byte_of waiting f = inl (omega arith)
byte_of (leaving n) f = inl (omega arith)
byte_of wrong f = inr refl

reported_code : (r : Reaction) (x : Option Error) (n : ℕ) → code_in (encode_answer (instant r x n)) ≡ code_byte (code r)
reported_code (gives o k l t) x n = code-field o k l t x n

module _ (sequence state : List ℕ) (e read_back : ℕ) (answer : List ℕ) (z : number (tick_of sequence state e read_back answer) ≡ 0) where
  pub code-of-instant : (code_in (answer_afterwards (tick_of sequence state e read_back answer)) ≤ 16)
      ⊎ (code_in (answer_afterwards (tick_of sequence state e read_back answer)) ≡ 255)
  code-of-instant =
      let a = accepted sequence read_back (passed-check sequence state e read_back answer z) in
      let s = stands sequence state e read_back answer z in
      let w =
      stands-written sequence read_back a inheritanceFirst state e answer (state_sized sequence state e read_back answer z)
      (answer_sized sequence state e read_back answer z) s.1 in
      let c = ap (λ (o : Outcome). code_in (answer_afterwards o)) w.0 ∙ reported_code (react_by inheritanceFirst s.0 e) _ _ in
      subst (λ (n : ℕ). (n ≤ 16) ⊎ (n ≡ 255)) (sym c) (byte_of (code (react_by inheritanceFirst s.0 e)) (code_exits inheritanceFirst s.0 e w.1.0))

  pub never_open : code_in (answer_afterwards (tick_of sequence state e read_back answer)) ≢ openCode
  never_open h = ⊎_elim (λ l. omega (arith, h, l)) (λ w. omega (arith, h, w)) code-of-instant
