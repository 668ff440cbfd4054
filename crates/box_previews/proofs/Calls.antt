-- One law for each return of the call, over plain lists.
use Prim.Native.Nat.{ℕ, ◌≤◌, ◌<◌}
use native.Mathlib.Omega.{arith}
use mathlib.Core.Path.{◌≡◌, refl, sym, ap, ◌∙◌}
use mathlib.Core.Logic.{◌≢◌}
use mathlib.Core.List.{List}
use lib.ListN.{length}
use borrow.Author.Tests.{le-leb, lt-leb}
use Rattle.spec_base.specs.Limits.{signal_count, max_unknown}
use Rattle.spec_base.specs.Sets.{difference, members_from}
use Rattle.theory_language.specs.Traced.{start_traced, instant_of}
use Rattle.spec_sequence.specs.Program.{program}
use Rattle.checks.specs.Verdict.{Passed}
use Rattle.checks.proofs.Passing.{as-ready}
use Rattle.program.specs.declared.Start.{Start}
use Rattle.program.specs.Program.{term_at}
use Rattle.reaction.specs.Reactions.{reaction_of}
use Rattle.instants.specs.Written.{writtenFrom}
use Rattle.spec_tick.specs.Tick.{refused, reacts, reply_of}
use Rattle.spec_tick.specs.Demands.{answer_afterwards}
use Rattle.std.specs.Prelude.{Ok}
use Rattle.limits.specs.declared.rows.Refusal.{Refusal}
use Rattle.limits.specs.Rows.{row_number}
use Rattle.instants.specs.Replies.{StartsAt, Replies}
use Rattle.instants.proofs.Replying.{written_from, started-reply}
use Rattle.spec_bay.specs.declared.Findings.{Findings}
use Rattle.spec_bay.specs.Preview.{findings, preview_length, preview_bytes, shown_by, Previewed, previewed, answer_in, answers_of, preview_of}
use Rattle.box_previews.specs.Standing.{answers_at, Stands}
use Rattle.theory_bay.proofs.Numbers as numbers
use Rattle.theory_bay.proofs.Numbers.{written-answer, refused-preview}

-- ---- from an origin
module _ (answers : ℕ → List ℕ) (input unknown : ℕ) (buffer : List ℕ) (n : ℕ) (h : n ≡ length (members_from signal_count 0 unknown)) where
  pub too_many : max_unknown < n → previewed 17 buffer ≡ shown_by answers input unknown buffer
  too_many l = rw (lt-leb (length (members_from signal_count 0 unknown)) max_unknown (omega arith))

  pub shown-bytes : n ≤ max_unknown → (x : Findings) (b : List ℕ) → x ≡ findings answers input unknown → b ≡ preview_bytes x
      → previewed 0 b ≡ shown_by answers input unknown buffer
  shown-bytes l x b e w =
      rw (le-leb (length (members_from signal_count 0 unknown)) max_unknown (omega arith)) (ap (previewed 0) (w ∙ ap preview_bytes e))

-- ---- from an origin, whatever the input, the machine reacts
module _ (sequence state : List ℕ) (read_back : ℕ) {second notes : List ℕ} (a : Passed sequence read_back second notes) where
  abbrev pub Reacts : Start → Type 0
  Reacts origin = (e : ℕ) → Replies sequence state e read_back (Ok (reaction_of (start_traced 0 (program read_back (term_at origin a.p)) e)))

  pub from_start : (origin : Start) → StartsAt a.p state origin → Reacts origin
  from_start origin d e = started-reply sequence state e read_back a.p a.is a.ranged 0 _ origin d refl

  pub stands_at : (origin : Start) → Reacts origin → Stands second sequence origin read_back
  stands_at origin r = record { p = a.p; lies = a.known.lies; ready = as-ready a; writable = λ e. (r e).writable }

  module _ (origin : Start) (r : Reacts origin) (e : ℕ) where
    -- what is written from the code's instant and from the reply's is one record
    answers-from : answers_at origin a.p read_back e ≡ answers_of sequence state read_back e
    answers-from =
        let t = start_traced 0 (program read_back (term_at origin a.p)) e in
        let (t', h, k) = (r e).is in
        sym (written-answer (instant_of t)) ∙ ap answer_afterwards (sym (written_from t) ∙ ap writtenFrom h ∙ written_from t')
        ∙ written-answer (instant_of t') ∙ sym (ap answer_in k)

-- ---- the call
module _ (sequence state : List ℕ) (input unknown read_back : ℕ) (buffer : List ℕ) where
  abbrev Represents : Previewed → Type 0
  Represents o = o ≡ preview_of sequence state input unknown read_back buffer

  pub other-buffer : length buffer ≢ preview_length → Represents (previewed 1 buffer)
  other-buffer z = sym (numbers.other-buffer sequence state read_back input unknown buffer z)

  module _ (sized : length buffer ≡ preview_length) where
    pub turned_down : (r : Refusal) → ((e : ℕ) → reply_of sequence state e read_back ≡ refused (row_number r)) → Represents (previewed (row_number r) buffer)
    turned_down r h = sym (refused-preview sequence state read_back input unknown buffer sized (row_number r) (h (difference input unknown)))

    module _ {second notes : List ℕ} (a : Passed sequence read_back second notes) where
      pub shown-preview : (origin : Start) → Reacts sequence state read_back a origin → (o : Previewed)
          → o ≡ shown_by (answers_at origin a.p read_back) input unknown buffer → Represents o
      shown-preview origin r o h =
          let (t, e, k) = (r (difference input unknown)).is in
          h ∙ ap (λ (f : ℕ → List ℕ). shown_by f input unknown buffer) (λ i e. answers-from sequence state read_back a origin r e i)
          ∙ sym (numbers.shown-preview sequence state read_back input unknown buffer sized (instant_of t) k)
