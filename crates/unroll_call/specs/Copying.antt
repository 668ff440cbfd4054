-- The copy of a statement command by command (02, item 13), as the code writes it.
use Rattle.std.specs.Prelude.{ℕ, suc, ◌+◌, ◌≤◌, ◌≡◌, List, [], ◌++◌, length, get_or, drop}
use Rattle.std.proofs.Math.Option.{some}
use Rattle.spec_base.specs.Limits.{max_bytes}
use Rattle.spec_sequence.specs.Commands.{Command, command_of, operands_of, partCount, head_length}
use Rattle.unroll_call.specs.Putting.{Put, Room, copied_head}

-- n statements stand at the front of bs, one behind the other, and cs are the bytes of their copies:
-- a command leaves its parts to be copied before the n statements behind its own
pub data Copies : (n : ℕ) (bs cs : List ℕ) → Type 0 where
  done : {bs : List ℕ} → Copies 0 bs []
  next : {n : ℕ} {bs cs : List ℕ} (c : Command) → command_of (get_or bs 0 0) ≡ some c → head_length c ≤ length bs
      → Copies (partCount c + n) (drop (head_length c) bs) cs → Copies (suc n) bs (copied_head (get_or bs 0 0) (operands_of c bs) ++ cs)

-- the copy of the statement at the front of bs can be put from index i on
pub record CopyReady (bs : List ℕ) (i : ℕ) (b : List ℕ) : Type 0 where
  pub cs : List ℕ
  pub copies : Copies 1 bs cs
  pub room : Room i (length cs) b
  pub short : length bs ≤ max_bytes

abbrev pub CopyPut : (bs : List ℕ) (i : ℕ) (b b' : List ℕ) (r : ℕ) → Type 0
CopyPut bs i b b' r = (cs : List ℕ) → Copies 1 bs cs → Put i cs b b' r
