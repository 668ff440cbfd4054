-- One law for each return of the core, over plain lists: what the call delivers.
use Prim.Native.Nat.{ℕ, ◌^◌, ◌<◌}
use native.Mathlib.Omega.{arith}
use mathlib.Core.Path.{◌≡◌, refl, sym, ap, ◌∙◌, subst}
use mathlib.Core.List.{List}
use lib.ListN.{get_or, replicate}
use Rattle.spec_base.specs.Limits.{signal_count, farm_count}
use Rattle.spec_base.specs.Sets.{member}
use Rattle.spec_language.specs.Statement.{Statement}
use Rattle.spec_language.specs.Reaction.{inheritanceFirst}
use Rattle.spec_language.specs.Machines.{adds, State}
use Rattle.labels.specs.Labels.{label_set}
use Rattle.spec_sequence.specs.Program.{program}
use Rattle.reaction.specs.Reactions.{capped_of}
use Rattle.theory_language.proofs.Farms.{unnamed_none}
use Rattle.layout.specs.Notes.{farms_in, Noted}
use Rattle.layout.proofs.Noting.{farms_below}
use Rattle.theory_language.proofs.LabelTests.{valid-is}
use Rattle.spec_sequence.specs.Writer.{Ranged}
use Rattle.spec_sequence.specs.Check.{Checked, sound, bad, checked}
use Rattle.spec_tick.specs.StateRecord.{labels_in, Decoded, holds, malformed, decode_state}
use Rattle.spec_tick.specs.Tick.{refused, byState, by_check, reply_of}
use Rattle.spec_tick.specs.Deliveries.{delivered_by, delivered_if, deliveries}
use Rattle.program.specs.declared.Start.{Start}
use Rattle.program.specs.declared.Start.TheVariants.{Fresh, Waiting}
use Rattle.program.specs.Program.{term_at}
use Rattle.program.specs.Deliveries.{HasNamed, OnlyOf}
use Rattle.program.proofs.Deliveries.{none_capped, none_held}
use Rattle.instants.specs.Replies.{StartsAt}
use Rattle.instants.specs.Delivering.{Delivers}
use Rattle.instants.proofs.Replying.{expanded}

-- the farms noted are those that the statement names
module _ {p : Statement} {notes : List ℕ} (n : Noted p notes) where
  pub has_named : HasNamed (farms_in notes) p
  has_named f small z = unnamed_none f p (ap (member f) (sym n.named) ∙ z)

  pub few-farms : Ranged p → farms_in notes < 2 ^ signal_count
  few-farms r = subst (λ (s : ℕ). s < 2 ^ signal_count) (sym n.named) (farms_below p r)

-- ---- what a call delivers
module _ (sequence state : List ℕ) (e read_back farms : ℕ) (litres : List ℕ) where
  pub refused-delivers : litres ≡ replicate farm_count 0 → (n : ℕ) → reply_of sequence state e read_back ≡ refused n
      → Delivers sequence state e read_back farms litres
  refused-delivers z n h = (λ f small k. none_held z f, λ f small. none_held z f ∙ none_capped (go f (checked sequence read_back) h))
    where
      by : (f : ℕ) (q : Statement) (d : Decoded) → byState inheritanceFirst q d e ≡ refused n → delivered_by q d e f ≡ 0
      by f q malformed k = refl
      by f q (holds State.fresh) k = absurd (let m : ◌≡◌ {A = ℕ} 0 1 = cc in omega arith)
      by f q (holds (State.waits L)) k = absurd (let m : ◌≡◌ {A = ℕ} 0 1 = cc in omega arith)
      by f q (holds State.over) k = refl

      go : (f : ℕ) (c : Checked) → by_check inheritanceFirst read_back c state e ≡ refused n → delivered_if read_back c state e f ≡ 0
      go f (bad m) k = refl
      go f (sound p) k = by f (program read_back p) (decode_state p state) k

  module _ (p : Statement) (is : checked sequence read_back ≡ sound p) (ranged : Ranged p) where
    by-record : (d : Decoded) → decode_state p state ≡ d → (f : ℕ) → deliveries sequence read_back state e f ≡ delivered_by (program read_back p) d e f
    by-record d w f =
        ap (λ (c : Checked). delivered_if read_back c state e f) is ∙ ap (λ (x : Decoded). delivered_by (program read_back p) x e f) w

    -- what the term of an origin adds is what the call delivers
    term-delivers : (origin : Start) → StartsAt p state origin → (f : ℕ)
        → adds f (program read_back (term_at origin p)) e ≡ deliveries sequence read_back state e f
    term-delivers Fresh d f = sym (by-record (holds State.fresh) d f)
    term-delivers (Waiting m) d f =
        ap (λ (t : Statement). adds f t e) (expanded sequence state e read_back p is ranged (label_set m) (labels_in state) ((valid-is p (labels_in state)).0 d.1) d.2)
        ∙ sym (by-record (holds (State.waits (labels_in state))) d.0 f)

    pub started-delivers : (origin : Start) → StartsAt p state origin → OnlyOf farms litres
        → ((f : ℕ) → f < farm_count → get_or litres f 0 ≡ capped_of (adds f (program read_back (term_at origin p)) e))
        → Delivers sequence state e read_back farms litres
    started-delivers origin d n h = (n, λ f small. h f small ∙ ap capped_of (term-delivers origin d f))
