-- The theorems of this crate (02, item 14): every claim of specs/Claims about the definition of a replay, which the code meets for all
-- arguments, and the recordings worked by hand. That the records of a bay, up to its first coming back, are
-- accepted is theory_box's.
use Prim.Native.Nat.{ℕ, zero, suc, ◌+◌, ◌<◌}
use native.Mathlib.Omega.{arith}
use mathlib.Core.Path.{◌≡◌, refl, sym, ap, ap₂, ◌∙◌, subst, fun_ext}
use mathlib.Core.Option.{some, none-ne-some}
use mathlib.Core.List.{List, [], ◌∷◌, map}
use lib.ListN.{length, get_elem?}
use Rattle.spec_tick.specs.Recording.{records_from, recording_of, joined}
use Rattle.spec_replay.specs.Replay.{first_records, records_in, inputs_in, place_of, Replayed, replayed, number, place, replay_of}
use Rattle.spec_replay.specs.ReplayClaims.{Replay, Refuses, TwentyTwo, NoPlace, Accepts, Differs, EmptyAccepted, NothingAfterTheEnd, AcceptsRecordings, ByPaper, DecidesReplay, ReplayDemands}
use Rattle.spec_replay.specs.ReplayExamples.{Case, cases}
use Rattle.theory_replay.proofs.Differences.{first-differs}
use Rattle.theory_replay.proofs.Recordings as recordings
use Rattle.theory_replay.proofs.Numbers as numbers
use Rattle.theory_replay.proofs.Paper as paper
use Rattle.theory_replay.specs.Replacements.{accepts_after_the_end}
use Rattle.theory_replay.proofs.Replacements as wrong
use Rattle.spec_replay.proofs.ReplayExamples as by_hand

-- an index below the length has a record
get_elem?_some : (l : List (List ℕ)) (i : ℕ) → i < length l → (r : List ℕ) × (get_elem? l i ≡ some r)
get_elem?_some [] i h = absurd (omega arith)
get_elem?_some (x ∷ l) zero h = (x, refl)
get_elem?_some (x ∷ l) (suc i) h = get_elem?_some l i (omega arith)

-- NUMBERS: those of the check, then '22, after the sequence's check', then 0; 'a place, 0 after an error'
pub refuses : Refuses replay_of
refuses sequence read_back recording z = numbers.refused-replay sequence read_back recording _ refl z

pub twenty_two : TwentyTwo replay_of
twenty_two = numbers.twenty_two

pub no_place : NoPlace replay_of
no_place = numbers.no_place

-- ACCEPTED, 'if and only if every record is what a fresh machine gives on the inputs recorded'
pub accepts : Accepts replay_of
accepts sequence read_back recording =
    let a = numbers.at_place sequence read_back recording 0 in (
      λ h. let v = a.0 h in (v.0, recordings.place-remade sequence read_back recording v.1 v.2),
      λ p. a.1 (p.0, recordings.remade-sized sequence read_back recording p.1, recordings.remade-place sequence read_back recording p.1),
    )

-- 'else that of the first record that differs, counted from 1'
pub differs : Differs replay_of
unfolding place_of
differs sequence read_back recording j =
    let a = numbers.at_place sequence read_back recording (j + 1) in
    let f = first-differs (records_in recording) (recording_of sequence read_back (inputs_in recording)) j in
    (λ h. let v = a.0 h in (v.0, v.1, f.0 v.2), λ p. a.1 (p.0, p.1, f.1 p.2))

-- WHAT A FRESH MACHINE GIVES is accepted
pub accepts_recordings : AcceptsRecordings replay_of
accepts_recordings sequence read_back h es i =
    (accepts sequence read_back (joined (recording_of sequence read_back es))).1 (h, recordings.made_again sequence read_back es i)

-- 'An empty recording is accepted'
pub empty_accepted : EmptyAccepted replay_of
unfolding joined records_from first_records
empty_accepted sequence read_back h = (accepts sequence read_back []).1 (h, refl)

-- 'and a record after the machine is over differs', and is the first that does
pub nothing_after_the_end : NothingAfterTheEnd replay_of
nothing_after_the_end sequence read_back recording c m i right r h over more =
    let given = records_in recording in
    let made = recording_of sequence read_back (inputs_in recording) in
    let none_made = recordings.made_ends sequence read_back recording i r (sym (right i (omega arith)) ∙ h) over in
    let there = get_elem?_some given (suc i) more in
    let e : suc i + 1 ≡ i + 2 = omega arith in
    (differs sequence read_back recording (suc i)).1 (
      c,
      m,
      record {
        within = more;
        here = λ q. none-ne-some there.0 (sym none_made ∙ sym q ∙ there.1);
        before = λ j l. right j (omega arith);
      },
    )
    ∙ ap (replayed 0) e

-- BY PAPER: without setpause, each record of an accepted recording shows what rewriting reports on its input; labels are not compared
pub by_paper : ByPaper replay_of
by_paper sequence read_back recording h p s plain =
    let a = (accepts sequence read_back recording).0 h in
    paper.by_paper sequence read_back a.0 recording (recordings.remade-records sequence read_back recording a.1) p s plain

-- DECIDED: a replay whose numbers, acceptance and first difference are these is replay_of, for all arguments
pub decides : DecidesReplay replay_of
decides = record { refuses = refuses; twenty_two = twenty_two; no_place = no_place; accepts = accepts; differs = differs }

pub replay_decided : (replay : Replay) → DecidesReplay replay
    → (sequence : List ℕ) (read_back : ℕ) (recording : List ℕ) → replay sequence read_back recording ≡ replay_of sequence read_back recording
replay_decided replay d sequence read_back recording = go (numbers.verdict sequence read_back recording)
  where
    eta : (o : Replayed) → o ≡ replayed (number o) (place o)
    eta (replayed n k) = refl

    compared : (k : ℕ) → replay_of sequence read_back recording ≡ replayed 0 k → replay sequence read_back recording ≡ replayed 0 k
    compared zero e = (d.accepts sequence read_back recording).1 ((accepts sequence read_back recording).0 e)
    compared (suc j) e =
        let q : suc j ≡ j + 1 = omega arith in
        (d.differs sequence read_back recording j).1 ((differs sequence read_back recording j).0 (e ∙ ap (replayed 0) q)) ∙ sym (ap (replayed 0) q)

    go : numbers.Verdict sequence read_back recording → replay sequence read_back recording ≡ replay_of sequence read_back recording
    go (numbers.refused z e) = d.refuses sequence read_back recording z ∙ sym e
    go (numbers.cut c z e) =
        let w : number (replay sequence read_back recording) ≡ 22 = (d.twenty_two sequence read_back recording).1 (c, z) in
        eta (replay sequence read_back recording)
        ∙ ap₂ replayed w (d.no_place sequence read_back recording (λ y. omega (arith, w, y)))
        ∙ sym e
    go (numbers.compared c m e) = compared (place_of sequence read_back recording) e ∙ sym e

-- ITEM 14
pub replay_demands : ReplayDemands replay_of
replay_demands =
    record {
      decides = decides;
      empty_accepted = empty_accepted;
      nothing_after_the_end = nothing_after_the_end;
      accepts_recordings = accepts_recordings;
      by_paper = by_paper;
    }

-- and so has every replay that these claims decide
pub replay_demands_decided : (replay : Replay) → DecidesReplay replay → ReplayDemands replay
replay_demands_decided replay d =
    subst ReplayDemands (sym (fun_ext (λ sequence. fun_ext (λ read_back. fun_ext (λ recording. replay_decided replay d sequence read_back recording)))))
    replay_demands

-- REFUSED: a replay that accepts a record after the machine is over
pub refused_after_the_end : ¬ NothingAfterTheEnd accepts_after_the_end
refused_after_the_end = wrong.not-accepts_after_the_end

-- WORKED by hand
pub worked : map (λ (c : Case). replay_of c.sequence c.read_back c.recording) cases ≡ map (λ (c : Case). c.shows) cases
worked = by_hand.worked
