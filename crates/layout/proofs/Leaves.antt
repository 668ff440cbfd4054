-- What a command without parts notes: its label or its farm, if it has one.
use Prim.Native.Nat.{ℕ, ◌<◌}
use mathlib.Core.Path.{◌≡◌, refl, sym, ap, ◌∙◌}
use mathlib.Core.Bool.{true}
use mathlib.Core.List.{List}
use lib.ListN.{get_or}
use borrow.Author.Tests.{ltb-true}
use Rattle.spec_language.specs.Statement.{nothing}
use Rattle.spec_base.specs.Limits.{label_count, signal_count, max_bytes}
use Rattle.spec_sequence.specs.Commands.{Command, operands_of, partCount, in_range, build}
use Rattle.layout.specs.Notes.{pauses_counted, notePause, noteSetpause, noteFarm, note_within}
use Rattle.layout.specs.Walk.{Notable, LeafNoted}
use Rattle.theory_sequence.proofs.Table.{byte_of, byte_is, command_at, leaves}
use Rattle.theory_sequence.proofs.Front.{Fronted}

-- ---- by the byte b and the first operand byte x of the command
module _ (b x : ℕ) (m : List ℕ) where
  pub notes-pause : b ≡ 1 → LeafNoted b x m (notePause x m)
  unfolding note_within
  notes-pause e c a k xs i z f = rw (command_at b c Command.pause i e, f)

  pub notes-setpause : b ≡ 10 → LeafNoted b x m (noteSetpause x m)
  unfolding note_within
  notes-setpause e c a k xs i z f = rw (command_at b c Command.setpause i e, f)

  pub notes-farm : b ≡ 12 → LeafNoted b x m (noteFarm x m)
  unfolding note_within
  notes-farm e c a k xs i z f = rw (command_at b c Command.deliver i e, f)

  silent : (a k : ℕ) (xs : List ℕ) (c : Command) → partCount c ≡ 0 → (byte_of c ≡ 1 → ⊥) → (byte_of c ≡ 10 → ⊥) → (byte_of c ≡ 12 → ⊥)
      → m ≡ note_within k (build c a xs nothing nothing) m
  unfolding note_within
  silent a k xs =
      leaves (λ (c : Command). (byte_of c ≡ 1 → ⊥) → (byte_of c ≡ 10 → ⊥) → (byte_of c ≡ 12 → ⊥) → m ≡ note_within k (build c a xs nothing nothing) m)
      (λ n1 n10 n12. refl) (λ n1 n10 n12. absurd (n1 refl)) (λ n1 n10 n12. refl) (λ n1 n10 n12. refl) (λ n1 n10 n12. absurd (n10 refl))
      (λ n1 n10 n12. absurd (n12 refl))

  pub notes-none : (b ≡ 1 → ⊥) → (b ≡ 10 → ⊥) → (b ≡ 12 → ⊥) → LeafNoted b x m m
  notes-none n1 n10 n12 c a k xs i z f =
      let e : b ≡ byte_of c = byte_is b c i in
      silent a k xs c z (λ o. n1 (e ∙ o)) (λ o. n10 (e ∙ o)) (λ o. n12 (e ∙ o))

-- ---- the command at the front of the bytes
module _ {s : List ℕ} {c : Command} {xs : List ℕ} (f : Fronted s c xs) where
  -- the range of the command d whose byte stands there
  ranged-as : (d : Command) → get_or s 0 0 ≡ byte_of d → in_range d (operands_of d s) ≡ true
  ranged-as d e =
      let q : c ≡ d = command_at (get_or s 0 0) c d f.byte e in
      let o : xs ≡ operands_of d s = rw q at f.operands in
      let r : in_range d xs ≡ true = rw q at f.ranged in
      ap (in_range d) (sym o) ∙ r

  pub notable : (m : List ℕ) → pauses_counted m < max_bytes → Notable (get_or s 0 0) (get_or s 1 0) m
  notable m few =
      record {
        pausing = λ e. ltb-true (get_or s 1 0) label_count (ranged-as Command.pause e);
        targeting = λ e. ltb-true (get_or s 1 0) label_count (ranged-as Command.setpause e);
        naming = λ e. ltb-true (get_or s 1 0) signal_count (ranged-as Command.deliver e);
        few = few;
      }
