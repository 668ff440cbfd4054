-- The theorems about a box (02, items 8 to 12 and 14): of the definitions of the calls, which the code meets for all arguments. The first
-- is the box on paper; what follows says the sentences of 02 one by one, also of boxes that no call has written.
use Prim.Native.Nat.{ℕ, ◌+◌, ◌<◌}
use mathlib.Core.Path.{◌≡◌, refl, sym, ap, ◌∙◌}
use mathlib.Core.Logic.{◌≢◌}
use mathlib.Core.Option.{some}
use mathlib.Core.List.{List, [], ◌∷◌, map, Memᴰ}
use lib.ListN.{length}
use Rattle.spec_base.specs.Limits.{farm_count, bay_count}
use Rattle.spec_language.specs.Statement.{Statement}
use Rattle.spec_language.specs.Reaction.{Code, gives}
use Rattle.spec_language.specs.Rules.{Reacts}
use Rattle.spec_language.specs.States.{NoSetpause}
use Rattle.spec_language.specs.Expansion.{expand}
use Rattle.spec_language.specs.Machines.{Rewriting}
use Rattle.spec_sequence.specs.Program.{program}
use Rattle.spec_sequence.specs.Rows.{Spells, ByRows}
use Rattle.spec_tick.specs.Tick.{Outcome, tick_of}
use Rattle.spec_tick.specs.TickRows.{TickRow}
use Rattle.spec_tick.specs.Demands as demands
use Rattle.spec_tick.specs.Demands.{outcomes, cleared, report, StandsAt, Derived, Shows}
use Rattle.spec_tick.specs.Paper.{paper}
use Rattle.spec_tick.specs.Deliveries.{paper_delivered}
use Rattle.spec_tick.specs.Record.{recordLength, panel_length}
use Rattle.spec_tick.specs.Recording.{call_on, recording_of, joined, Inputs}
use Rattle.spec_replay.specs.Replay.{replayed, replay_of}
use Rattle.theory_replay.proofs.Theorems.{accepts_recordings}
use Rattle.spec_bay.specs.Names.{find}
use Rattle.spec_bay.specs.Table.{lookup}
use Rattle.spec_bay.specs.Ledgers.{reading_length, total_in}
use Rattle.spec_bay.specs.Called.{called, number, memory_after}
use Rattle.spec_bay.specs.Stretch.{state_in, positions_in, ledger_in, Terms}
use Rattle.spec_box.specs.Box.{box_length, empty_box, stretch_of, admit, release, tick, restore, forget, service, panel, ledger, call_of}
use Rattle.spec_box.specs.Lists.{Request, box_after, asked, answers}
use Rattle.spec_box.specs.Shares.{Sendable, AllSendable}
use Rattle.spec_box.specs.BayRuns.{paper_buffer, ticks_to, outcome_of, tick_outcomes, tick_litres, instants_in, inputs_in, Onwards, terms_in, TermsFixed, Rewrites, TicksInBay}
use Rattle.spec_box.specs.Claims.{RefusalsLeave, OthersStay, Isolated, BySum, InBoxes, CeilingsStored, WithinCeiling, RoundsWithin, AdmitsBySum, GivesBack, Thirteen, NoBox, Fourteen, BoxDemands}
use Rattle.spec_box.specs.Leaves.{AdmissionLeaves, ReleaseLeaves}
use Rattle.spec_box.specs.Positions.{saved_in, PositionsSaved, PositionsValid, SaveNumbers, KnownOnly, ComesBack, LosesPositions, TicksFromPosition, PositionDemands}
use Rattle.spec_box.specs.Instants.{records_in, RecordIs, NumberedFromOne, ServiceOnlyFixed, ServiceShows, PanelShows, PanelsAlike, ReaderNumbers, RecordLength, RecordDemands}
use Rattle.spec_box.specs.Previews.{PreviewShows, PreviewNumbers}
use Rattle.spec_box.specs.Previews.{MachineStays, TenBytes, LearningStays, PreviewForesees, PreviewDemands}
use Rattle.theory_box.proofs.Foresight as foresight
use Rattle.theory_box.proofs.WrongPreviews as misleading
use Rattle.theory_box.specs.WrongPreviews as foretold
use Rattle.spec_box.specs.Years.{delivered_since, SameYear, sum_of, TotalsExact, LedgerShows, YearBegins, LedgerNumbers, Nineteen, PreviewsNeverNineteen, LedgerDemands}
use Rattle.spec_box.specs.Reports.{OnPaper, ByLabelSets, HeldOnPaper}
use Rattle.spec_box.specs.Certified.{ReadingsCertified, ReadingsCertifiedByLabels, Certificate, CertificateByLabels}
use Rattle.theory_box.proofs.PaperBoxes as paper-boxes
use Rattle.theory_box.proofs.PaperCertified as certificates
use Rattle.theory_box.specs.WrongPaper as papers
use Rattle.theory_box.proofs.WrongPaper as off-paper
use Rattle.theory_box.specs.WrongBoxes as wrong
use Rattle.theory_box.proofs.WrongBoxes as refuted
use Rattle.theory_box.specs.WrongPositions as slips
use Rattle.theory_box.proofs.WrongPositions as refutes
use Rattle.theory_box.specs.WrongLedgers as ledgers
use Rattle.theory_box.proofs.WrongLedgers as wrongs
use Rattle.theory_box.proofs.Stretches as stretches
use Rattle.theory_box.proofs.Numbers as numbers
use Rattle.theory_box.proofs.Isolation as apart
use Rattle.theory_box.proofs.Leaves as leaves
use Rattle.theory_box.proofs.Reached as reached
use Rattle.theory_box.proofs.Rounds as rounds
use Rattle.theory_box.proofs.Bays as bays
use Rattle.theory_box.proofs.BayRuns as runs
use Rattle.theory_box.proofs.Named as named
use Rattle.theory_box.proofs.Returns as returns
use Rattle.theory_box.proofs.Instants as instants
use Rattle.theory_box.proofs.Years as years

-- ---- THE BOX ON PAPER (spec_box/specs/PaperBox): over every list of calls from the empty box, those turned down and those to all bays
-- included
-- what every call reports is what the paper reports that rewrites a term for each bay; sequences that pass the check are without setpause
pub box_on_paper : OnPaper call_of
box_on_paper = paper-boxes.box_on_paper

-- and, with setpause too, what the paper reports that keeps a label set for each bay: every number, and every byte of the lent buffers
pub box_by_labels : ByLabelSets call_of
box_by_labels = paper-boxes.box_by_labels

-- what the box holds is what that paper holds: the statement that was admitted, both sets, its part of the ceiling, the machine, the number of
-- the last instant, the positions by name, and each farm's total
pub held_on_paper : HeldOnPaper call_of
held_on_paper = paper-boxes.held_on_paper

-- every reading of a ledger is certified for what the paper delivered
pub readings_certified : ReadingsCertified call_of
readings_certified = certificates.readings_certified

pub readings_certified_by_labels : ReadingsCertifiedByLabels call_of
readings_certified_by_labels = certificates.readings_certified_by_labels

-- refused: a box whose sequence changes after its admission, one that rewinds its ledger, one that forgets it at a release, and one that reads
-- back what its neighbour does
pub not_on_paper : (¬ OnPaper papers.changes_sequence) × (¬ OnPaper ledgers.rewinds) × (¬ OnPaper papers.forgets_at_release) × (¬ OnPaper papers.reads_back_neighbour)
not_on_paper = ((off-paper.not-changes_sequence).0, (off-paper.not-rewinds_on_paper).0, (off-paper.not-forgets_at_release).0, (off-paper.not-reads_back_neighbour).0)

pub not_by_labels : (¬ ByLabelSets papers.changes_sequence) × (¬ ByLabelSets ledgers.rewinds) × (¬ ByLabelSets papers.forgets_at_release)
    × (¬ ByLabelSets papers.reads_back_neighbour)
not_by_labels = ((off-paper.not-changes_sequence).1, (off-paper.not-rewinds_on_paper).1, (off-paper.not-forgets_at_release).1, (off-paper.not-reads_back_neighbour).1)

pub not_certified : (¬ ReadingsCertified ledgers.rewinds) × (¬ ReadingsCertifiedByLabels ledgers.rewinds)
not_certified = off-paper.not-rewinds_certified

-- THE CERTIFICATE, "tank and ledger agree within limits": the plant is told what the paper tells, a ledger can always be read, and every
-- reading has what the paper delivered; by rewriting where the sequences that pass the check are without setpause, and by labels of every list
pub certificate : Certificate call_of
certificate = certificates.certificate

pub certificate_by_labels : CertificateByLabels call_of
certificate_by_labels = certificates.certificate_by_labels

-- refused: a ledger that nobody can read, and instants that tell the plant nothing
pub no_certificate : (¬ Certificate papers.hides_ledger) × (¬ CertificateByLabels papers.hides_ledger) × (¬ Certificate papers.tells_nothing)
    × (¬ CertificateByLabels papers.tells_nothing)
no_certificate = ((off-paper.not-hides_ledger).0, (off-paper.not-hides_ledger).1, (off-paper.not-tells_nothing).0, (off-paper.not-tells_nothing).1)

-- ---- every box, whatever its bytes
-- 'A refused call changes nothing in the box', nor in the buffers that it was lent
pub refusals_leave : RefusalsLeave call_of
refusals_leave = stretches.refused-leaves

-- a call to a bay leaves the slots of the others, and the length of the box
pub others_stay : OthersStay call_of
others_stay box bay c = (stretches.same_length box bay c, stretches.others_stay box bay c)

-- 'only admission depends on them, through that sum'
pub by_sum : BySum call_of
by_sum box box' bay b z z' e = apart.by_sum bay b box box' z z' e

-- the same calls to one bay, its admissions answered alike, from any two boxes with the same slot of it; of a buffer that a call only
-- writes its length counts, and not what was in it
pub isolated_from : (bay : ℕ) → bay < bay_count → (box box' : List ℕ) → length box ≡ box_length → length box' ≡ box_length
    → stretch_of bay box ≡ stretch_of bay box' → (xs ys : List Request) → asked call_of bay box xs ≡ asked call_of bay box' ys
    → (answers call_of bay box xs ≡ answers call_of bay box' ys)
    × (stretch_of bay (box_after call_of box xs) ≡ stretch_of bay (box_after call_of box' ys))
isolated_from = apart.alike

-- 'Two runs from an empty box, written by its calls only, with the same calls to one bay in the same order and its admissions
-- answered alike, give it the same answers and states, whatever the others get'
pub isolated : Isolated call_of
isolated bay b = let z = (reached.kept_empty).sized_box in isolated_from bay b empty_box empty_box z z refl

-- ---- every box that calls reach from an empty one
-- what a bay present has is the ceiling of the sequence that it holds, which passes the check
pub ceilings_stored : InBoxes call_of CeilingsStored
ceilings_stored xs k bay b =
    let box = box_after call_of empty_box xs in reached.stored (stretch_of bay box) ((reached.kept xs k).sound bay b)

-- 'under a shared ceiling of 65,536 reactions an instant'
pub within_ceiling : InBoxes call_of WithinCeiling
within_ceiling xs k = (reached.kept xs k).under

-- so one tick of each bay, in any order, takes no more reactions than that
pub rounds_within : InBoxes call_of (RoundsWithin call_of)
rounds_within xs k = rounds.rounds_within (box_after call_of empty_box xs) (reached.kept xs k)

-- 'A bay is admitted .. if Item 6's ceilings of those present and its own sum to no more'
pub admits_by_sum : InBoxes call_of (AdmitsBySum call_of)
admits_by_sum xs k bay b i t h = numbers.admitted-iff (box_after call_of empty_box xs) (reached.kept xs k).sized_box bay b i t h

-- 'A bay taken out gives its part back'
pub gives_back : InBoxes call_of (GivesBack call_of)
gives_back xs k = reached.gives_back (box_after call_of empty_box xs) (reached.kept xs k)

-- ---- 'Errors', in every box, whatever its bytes
-- '13, before all others, for a bay number above 7, one already filled on admission, or an empty one otherwise'
pub thirteen : Thirteen call_of
thirteen = numbers.thirteen

-- bytes of another length than a box: 13 for a bay number above 7, and then 1
pub no_box : NoBox call_of
no_box = numbers.no_box

-- '14 for the sum, after the sequence's own check'
pub fourteen : Fourteen call_of
fourteen box z bay b i t = (numbers.by-its-row box z bay b i t, numbers.fourteen-iff box z bay b i t)

-- what an admission leaves: the terms, a fresh machine, no instant and no positions, the ceiling; the ledger stays
pub admission_leaves : AdmissionLeaves call_of
admission_leaves = leaves.admission_leaves

-- a bay taken out is empty
pub release_leaves : ReleaseLeaves call_of
release_leaves = leaves.release_leaves

-- from an admission on, as long as the bay is not taken out, it holds the sequence and both sets that were admitted, across every coming
-- back to a position
pub terms_fixed : TermsFixed call_of
terms_fixed = instants.terms_fixed

-- from an admission up to the first coming back or the taking out, whatever other calls come in between, the ticks and the instants of the
-- bay, and the litres, are those of the tick on its own, and without setpause those of rewriting
pub ticks_in_bay : TicksInBay call_of
ticks_in_bay = runs.ticks_in_bay

-- ITEM 8
pub box_demands : BoxDemands call_of
box_demands =
    record {
      refusals_leave = refusals_leave;
      others_stay = others_stay;
      isolated = isolated;
      by_sum = by_sum;
      admission_leaves = admission_leaves;
      terms_fixed = terms_fixed;
      ticks_in_bay = ticks_in_bay;
      ceilings_stored = ceilings_stored;
      within_ceiling = within_ceiling;
      rounds_within = rounds_within;
      admits_by_sum = admits_by_sum;
      gives_back = gives_back;
      release_leaves = release_leaves;
      thirteen = thirteen;
      no_box = no_box;
      fourteen = fourteen;
    }

-- demand 1: no tick gives 11, whatever calls came before
pub never_11_in_box : (xs : List Request) → AllSendable xs → (bay e : ℕ) (answer trace : List ℕ)
    → number (call_of (box_after call_of empty_box xs) bay (tick e answer trace)) ≢ 11
never_11_in_box xs k = reached.no_11 (box_after call_of empty_box xs) (reached.kept xs k)

-- ---- a bay from its admission up to the first coming back to a position or its taking out (`Onwards`), in any box: whatever other
-- calls come in between, and calls of its own that are turned down, its ticks are those on its sequence
module _ (box : List ℕ) (bay : ℕ) (t : Terms) (small : Sendable (admit t)) (admitted : number (call_of box bay (admit t)) ≡ 0) where
  abbrev from : List ℕ
  from = memory_after (call_of box bay (admit t))

  module _ (xs : List Request) (k : Onwards call_of bay from xs) where
    -- the box after the list
    abbrev afterwards : List ℕ
    afterwards = box_after call_of from xs

    -- 'In a bay a call answered 19 is no instant': the ticks are those of the list that the ledger does not turn down
    pub bay-ticks : tick_outcomes call_of bay from xs ≡ outcomes tick_of t.sequence t.read_back cleared (ticks_to call_of bay from xs)
    bay-ticks = (ticks_in_bay box bay t small admitted xs k).0.ticks

    -- '2 is there over the inputs of the ticks not turned down, in their order': the instants of the bay are those that the tick on its
    -- own gives on these inputs, one after the other, and demand 2 is about each of them
    pub instants-in-bay : instants_in call_of bay from xs
        ≡ outcomes tick_of t.sequence t.read_back cleared (map call_on (inputs_in call_of bay from xs))
    instants-in-bay = (ticks_in_bay box bay t small admitted xs k).0.instants

    -- demand 1: no tick of the list gives 11, and the number of the next, unless it is 19, is by the rows
    pub demand-1-in-bay : (o : Outcome) → Memᴰ o (tick_outcomes call_of bay from xs) → demands.number o ≢ 11
    demand-1-in-bay = (runs.run box bay t small admitted xs k).never_11

    pub rows-in-bay : (e : ℕ) (answer trace : List ℕ) → number (call_of afterwards bay (tick e answer trace)) ≢ 19
        → ByRows (number (call_of afterwards bay (tick e answer trace)))
        (TickRow t.sequence t.read_back (state_in (stretch_of bay afterwards)) (paper_buffer trace answer))
    rows-in-bay = runs.by_rows bay (runs.is-bay box bay t small admitted) t afterwards (runs.run box bay t small admitted xs k).stands

    -- demand 2, of the next tick
    pub demand-2-in-bay : (e : ℕ) (answer trace : List ℕ) → number (call_of afterwards bay (tick e answer trace)) ≡ 0
        → (p : Statement) × StandsAt t.sequence t.read_back (state_in (stretch_of bay afterwards)) p × Derived p e
        × ((o : ℕ) (c : Code) (l : ℕ) (p' : Statement) → Reacts p e (gives o c l p')
        → Shows p e o c l p' (outcome_of bay trace (call_of afterwards bay (tick e answer trace))))
    demand-2-in-bay = runs.shows-rules bay (runs.is-bay box bay t small admitted) t afterwards (runs.run box bay t small admitted xs k).stands

    -- demand 3, 'from an admission up to the first coming back to a position or the taking out': over the ticks, those turned down by
    -- their row included, and over the inputs of the instants
    pub demand-3-in-bay : (p : Statement) → Spells t.sequence p → NoSetpause p
        → map report (tick_outcomes call_of bay from xs) ≡ paper (Rewriting.fresh (program t.read_back p)) (ticks_to call_of bay from xs)
    demand-3-in-bay p q plain = ((ticks_in_bay box bay t small admitted xs k).1 p q plain).ticks

    pub demand-3-on-inputs : (p : Statement) → Spells t.sequence p → NoSetpause p
        → map report (instants_in call_of bay from xs)
        ≡ paper (Rewriting.fresh (program t.read_back p)) (map call_on (inputs_in call_of bay from xs))
    demand-3-on-inputs p q plain = ((ticks_in_bay box bay t small admitted xs k).1 p q plain).instants

    -- 'Rewriting gives the same litres': what each tick brings a farm is what the paper does
    pub litres-in-bay : (p : Statement) → Spells t.sequence p → NoSetpause p → (farm : ℕ)
        → tick_litres call_of bay farm from xs ≡ paper_delivered farm (Rewriting.fresh (program t.read_back p)) (ticks_to call_of bay from xs)
    litres-in-bay p q plain = ((ticks_in_bay box bay t small admitted xs k).1 p q plain).litres

    -- and the ledger has grown by what the paper delivers, tick by tick, if no new year came in between
    pub ledger-by-paper : SameYear bay xs → (p : Statement) → Spells t.sequence p → NoSetpause p → (farm : ℕ) → farm < farm_count
        → total_in farm (ledger_in (stretch_of bay afterwards))
        ≡ total_in farm (ledger_in (stretch_of bay from)) + sum_of (paper_delivered farm (Rewriting.fresh (program t.read_back p)) (ticks_to call_of bay from xs))
    ledger-by-paper y p q plain farm l =
        let b = runs.is-bay box bay t small admitted in
        let before = total_in farm (ledger_in (stretch_of bay from)) in
        years.total-since bay b farm l from (runs.begun box bay t small admitted).here.0 before refl xs
        ∙ years.year-sums bay farm from xs y before
        ∙ ap (λ (ls : List ℕ). before + sum_of ls) (litres-in-bay p q plain farm)

-- ---- positions (02, item 9)
-- 'each a 32-bit name and the label set of a waiting machine. Saving under a known name replaces it; forgetting one frees its place for
-- another': over every list of calls, those turned down and those to other bays included, each position held is the label set that the
-- machine had when it was last saved under that name
pub positions_are_saved : PositionsSaved call_of
positions_are_saved xs k bay b name = (named.positions-named bay b xs k).alike name

-- and valid for the sequence
pub positions_valid : InBoxes call_of PositionsValid
positions_valid xs k bay b =
    let box = box_after call_of empty_box xs in named.positions_valid (stretch_of bay box) ((reached.kept xs k).sound bay b)

-- '15 to save a machine that isn't waiting .. then 16 for a seventeenth name'
pub save_numbers : InBoxes call_of (SaveNumbers call_of)
save_numbers xs k bay b f name = named.save_numbers (box_after call_of empty_box xs) (reached.kept xs k) bay b f name

-- '15 .. for an unknown name to come back to or forget'
pub restore_numbers : InBoxes call_of (KnownOnly call_of restore)
restore_numbers xs k bay b f name = named.restore_numbers (box_after call_of empty_box xs) (reached.kept xs k) bay b f name

pub forget_numbers : InBoxes call_of (KnownOnly call_of forget)
forget_numbers xs k bay b f name = named.forget_numbers (box_after call_of empty_box xs) (reached.kept xs k) bay b f name

-- 'Coming back sets phase and labels', and nothing else
pub comes_back : ComesBack call_of
comes_back = named.comes_back

-- 'A bay taken out loses its positions'
pub loses_positions : LosesPositions call_of
loses_positions box bay = (named.none_known box bay release refl, λ t. named.none_known box bay (admit t) refl)

-- from a coming back on, the ticks, the instants and the litres are those of the tick on its own on the ADMITTED terms, setpause included,
-- from the label set last saved under that name; 'Without setpause' they 'equal rewriting started from the expansion of that set'
pub ticks_from_position : TicksFromPosition call_of
ticks_from_position = returns.ticks_from_position

-- ITEM 9, of the calls
pub position_demands : PositionDemands call_of
position_demands =
    record {
      positions_saved = positions_are_saved;
      positions_valid = positions_valid;
      save_numbers = save_numbers;
      restore_numbers = restore_numbers;
      forget_numbers = forget_numbers;
      comes_back = comes_back;
      loses_positions = loses_positions;
      ticks_from_position = ticks_from_position;
    }

-- ---- a bay from a coming back on, in every box that calls reach from an empty one, up to the next coming back or the taking out; what it
-- holds is what was admitted (terms_fixed)
module _ (zs : List Request) (sent : AllSendable zs) (bay name : ℕ)
    (back : number (call_of (box_after call_of empty_box zs) bay (restore name)) ≡ 0) where
  abbrev there : List ℕ
  there = box_after call_of empty_box zs

  abbrev again : List ℕ
  again = memory_after (call_of there bay (restore name))

  -- what the bay holds
  abbrev held : Terms
  held = terms_in (stretch_of bay there)

  abbrev is-bay : bay < bay_count
  is-bay = returns.is-bay there (reached.kept zs sent) bay name back

  from-there : (xs : List Request) → Onwards call_of bay again xs → runs.Run bay is-bay held again xs
  from-there = returns.run there (reached.kept zs sent) bay name back

  -- 'Without setpause, the answers from there up to the next coming back or the taking out equal rewriting started from the expansion
  -- of that set': number, code, kind, place, emitted set, reactions and phase, over the ticks and over the inputs of the instants; and
  -- the litres to each farm (02, item 12)
  pub agrees-from-position : (labels : ℕ) × (lookup name (positions_in (stretch_of bay there)) ≡ some labels)
      × (find name (saved_in call_of bay empty_box [] zs) ≡ some labels)
      × ((xs : List Request) → Onwards call_of bay again xs → Rewrites call_of bay held (λ p. Rewriting.waits (expand p labels)) again xs)
  agrees-from-position =
      let r = returns.returned there (reached.kept zs sent) bay name back in
      let saved = positions_are_saved zs sent bay is-bay name in
      (r.labels, r.found, sym saved ∙ r.found, returns.rewrites there (reached.kept zs sent) bay name back)

  module _ (xs : List Request) (k : Onwards call_of bay again xs) where
    abbrev then : List ℕ
    then = box_after call_of again xs

    -- demand 1
    pub demand-1-from-position : (o : Outcome) → Memᴰ o (tick_outcomes call_of bay again xs) → demands.number o ≢ 11
    demand-1-from-position = (from-there xs k).never_11

    pub rows-from-position : (e : ℕ) (answer trace : List ℕ) → number (call_of then bay (tick e answer trace)) ≢ 19
        → ByRows (number (call_of then bay (tick e answer trace)))
        (TickRow held.sequence held.read_back (state_in (stretch_of bay then)) (paper_buffer trace answer))
    rows-from-position = runs.by_rows bay is-bay held then (from-there xs k).stands

    -- demand 2, of the next tick
    pub demand-2-from-position : (e : ℕ) (answer trace : List ℕ) → number (call_of then bay (tick e answer trace)) ≡ 0
        → (p : Statement) × StandsAt held.sequence held.read_back (state_in (stretch_of bay then)) p × Derived p e
        × ((o : ℕ) (c : Code) (l : ℕ) (p' : Statement) → Reacts p e (gives o c l p')
        → Shows p e o c l p' (outcome_of bay trace (call_of then bay (tick e answer trace))))
    demand-2-from-position = runs.shows-rules bay is-bay held then (from-there xs k).stands

-- ---- records (02, item 10)
-- 'Each instant of a bay leaves in lent memory a record': the number that follows the bay's, the inputs, the answer and the next state;
-- 'A call turned down leaves no record' is refusals_leave
pub record_is : RecordIs call_of
record_is = instants.record_is

-- 'from 1 at admission, going on after coming back to a position, staying at the greatest'
pub numbered_from_one : NumberedFromOne call_of
numbered_from_one = instants.numbered_from_one

-- 'a set of service-only signals, fixed on admission'
pub service_only_fixed : ServiceOnlyFixed call_of
service_only_fixed box bay t small admitted xs k = ap (λ (u : Terms). u.service_only) (terms_fixed box bay t small admitted xs k)

-- 'The bay's service reader shows the record whole'
pub service_shows : ServiceShows call_of
service_shows = instants.service_shows

-- 'The bay's panel reader shows .. number, code, inputs and emitted set, with service-only signals cleared in both sets'
pub panel_shows : PanelShows call_of
panel_shows = instants.panel_shows

-- 'Two records give one bay's panel the same bytes exactly if they agree in number, code and, service-only signals aside, inputs and
-- emitted set'
pub panels_alike : PanelsAlike call_of
panels_alike = instants.panels_alike

-- 'number 1 for a record or service bytes not of 37, or panel bytes not 13'
pub service_numbers : ReaderNumbers call_of service recordLength
service_numbers = instants.service_numbers

pub panel_numbers : ReaderNumbers call_of panel panel_length
panel_numbers = instants.panel_numbers

pub record_length : RecordLength call_of
record_length = instants.record_length

-- ---- 02, item 11: what a preview shows of every filling against the tick is previews'
-- 'It writes 10 lent bytes .. The machine stays', and the box with it
pub preview_shows : PreviewShows call_of
preview_shows = instants.preview_shows

-- the numbers of a filled bay: 1, then 2 to 12 and 18 of the tick, then 17
pub preview_numbers : PreviewNumbers call_of
preview_numbers = instants.preview_numbers

-- ITEM 11, of the calls
pub preview_demands : PreviewDemands call_of
preview_demands = foresight.preview_demands

-- ---- the year's ledgers (02, item 12)
-- 'Farm totals stay exact whole numbers equal to the sum of that farm's deliveries since the last clearing', across admissions, comings
-- back and takings out, over every list of calls, those turned down and those to other bays included
pub totals_exact : TotalsExact call_of
totals_exact = years.totals_exact

-- 'Reading it writes the 32 totals, then the ledger's total', which 'lies within 496 litres of the exact sum', of every box
pub ledger_shows : LedgerShows call_of
ledger_shows = years.ledger_shows

-- so a reading after a list of calls has the deliveries of each farm, whether the bay is filled or empty
pub year_read : (xs : List Request) (bay : ℕ) → bay < bay_count → (totals : List ℕ) → length totals ≡ reading_length
    → (reading : List ℕ) × (call_of (box_after call_of empty_box xs) bay (ledger totals) ≡ called 0 (box_after call_of empty_box xs) (reading ∷ []))
    × ((farm : ℕ) → farm < farm_count → total_in farm reading ≡ delivered_since call_of bay farm empty_box 0 xs)
year_read xs bay b totals sized =
    let box = box_after call_of empty_box xs in
    let r = years.ledger_shows box bay totals (((years.ledger_numbers box (years.sized_after xs) bay b).1 totals).0.1 sized) in
    (r.0, r.1, λ farm l. r.2.each farm l ∙ (years.totals_exact xs bay b farm l).is_sum)

-- two runs with the same calls to a bay number, its admissions answered alike, deliver the same to each farm (the totals, like the
-- answers, are isolated's)
pub deliveries_isolated : (bay : ℕ) → bay < bay_count → (xs ys : List Request) → asked call_of bay empty_box xs ≡ asked call_of bay empty_box ys
    → (farm : ℕ) → farm < farm_count → delivered_since call_of bay farm empty_box 0 xs ≡ delivered_since call_of bay farm empty_box 0 ys
deliveries_isolated bay b xs ys e farm l =
    sym (totals_exact xs bay b farm l).is_sum
    ∙ ap (λ (s : List ℕ). total_in farm (ledger_in s)) (isolated bay b xs ys e).1
    ∙ (totals_exact ys bay b farm l).is_sum

-- 'cleared only by a call for the new year'; 'The ledger's calls take an empty bay too'
pub year_begins : YearBegins call_of
year_begins = years.year_begins

pub ledger_numbers : LedgerNumbers call_of
ledger_numbers = years.ledger_numbers

-- '19, last of all and writing nothing': that it writes nothing is refusals_leave
pub nineteen : Nineteen call_of
nineteen = years.nineteen

-- 'Previews add nothing and never give 19': that they add nothing is preview_shows
pub previews_never_nineteen : PreviewsNeverNineteen call_of
previews_never_nineteen = years.previews_never_nineteen

-- ITEM 12, of the calls
pub ledger_demands : LedgerDemands call_of
ledger_demands =
    record {
      totals_exact = totals_exact;
      ticks_in_bay = ticks_in_bay;
      ticks_from_position = ticks_from_position;
      ledger_shows = ledger_shows;
      year_begins = year_begins;
      ledger_numbers = ledger_numbers;
      nineteen = nineteen;
      previews_never_nineteen = previews_never_nineteen;
    }

-- ITEM 10, of the calls
pub record_demands : RecordDemands call_of
record_demands =
    record {
      record_is = record_is;
      numbered_from_one = numbered_from_one;
      service_only_fixed = service_only_fixed;
      service_shows = service_shows;
      panel_shows = panel_shows;
      panels_alike = panels_alike;
      service_numbers = service_numbers;
      panel_numbers = panel_numbers;
      record_length = record_length;
    }

-- from an admission up to the first coming back to a position or the taking out, the records are the recording of the sequence on the
-- inputs of the instants: what item 14 checks
pub records_in_bay : (box : List ℕ) (bay : ℕ) (t : Terms) → Sendable (admit t) → number (call_of box bay (admit t)) ≡ 0
    → (xs : List Request) → Onwards call_of bay (memory_after (call_of box bay (admit t))) xs
    → records_in call_of bay (memory_after (call_of box bay (admit t))) xs
    ≡ recording_of t.sequence t.read_back (inputs_in call_of bay (memory_after (call_of box bay (admit t))) xs)
records_in_bay = instants.records-are

-- so the records that a bay leaves from an admission up to its first coming back to a position or its taking out, one after the other,
-- are accepted by a replay (02, item 14), whatever calls come in between and are turned down; inputs are of 32 bits
pub replays_in_bay : (box : List ℕ) (bay : ℕ) (t : Terms) → Sendable (admit t) → number (call_of box bay (admit t)) ≡ 0
    → (xs : List Request) → Onwards call_of bay (memory_after (call_of box bay (admit t))) xs
    → Inputs (inputs_in call_of bay (memory_after (call_of box bay (admit t))) xs)
    → replay_of t.sequence t.read_back (joined (records_in call_of bay (memory_after (call_of box bay (admit t))) xs)) ≡ replayed 0 0
replays_in_bay box bay t small admitted xs k i =
    ap (λ (rs : List (List ℕ)). replay_of t.sequence t.read_back (joined rs)) (records_in_bay box bay t small admitted xs k)
    ∙ accepts_recordings t.sequence t.read_back (bays.passed t (runs.begun box bay t small admitted).here.1.accepted)
    (inputs_in call_of bay (memory_after (call_of box bay (admit t))) xs) i

-- ---- what the claims refuse: a tick that reads the neighbour's state, a sum without the last bay, a part that is not given back, an
-- admission that leaves the state, and a refusal that writes
pub refused_boxes : (¬ Isolated wrong.reads_neighbour) × (¬ TicksInBay wrong.reads_neighbour) × (¬ InBoxes wrong.forgets_bay WithinCeiling)
    × (¬ InBoxes wrong.keeps_part (AdmitsBySum wrong.keeps_part)) × (¬ ReleaseLeaves wrong.keeps_part) × (¬ AdmissionLeaves wrong.keeps_state)
    × (¬ RefusalsLeave wrong.refusal_writes)
refused_boxes = (
  refuted.not-reads_neighbour,
  refuted.no_ticks-reads_neighbour,
  refuted.not-forgets_bay,
  refuted.not-keeps_part,
  refuted.no_release_keeps_part,
  refuted.not-keeps_state,
  refuted.not-refusal_writes,
)

-- positions that a release leaves, a save that leaves what was saved first, 16 before 15, a restore that leaves the phase, and a save that
-- changes the sequence
pub refused_positions : (¬ LosesPositions slips.keeps_positions) × (¬ PositionsSaved slips.keeps_first)
    × (¬ InBoxes slips.full_first (SaveNumbers slips.full_first)) × (¬ ComesBack slips.leaves_phase) × (¬ TermsFixed slips.changes_emission)
    × (¬ TicksFromPosition slips.changes_emission)
refused_positions = (
  refutes.not-keeps_positions,
  refutes.not-keeps_first,
  refutes.not-full_first,
  refutes.not-leaves_phase,
  refutes.not-changes_emission,
  refutes.no_ticks-changes_emission,
)

-- a ledger that a restore takes back, litres of a wrong instant, litres of the run not chosen, 19 tested in single precision, and litres of a
-- tick answered 19
pub refused_ledgers : (¬ TotalsExact ledgers.rewinds) × (¬ TotalsExact ledgers.enters_wrong) × (¬ TotalsExact ledgers.enters_both)
    × (¬ Nineteen ledgers.tests_in_singles) × (¬ TotalsExact ledgers.enters_turned_down)
refused_ledgers = (wrongs.not-rewinds, wrongs.not-enters_wrong, wrongs.not-enters_both, wrongs.not-tests_in_singles, wrongs.not-enters_turned_down)

-- known inputs taken as absent, unknown ones taken as absent only or by the status given, a machine that moves, and 254 for a shared code
pub refused_previews : (¬ PreviewForesees foretold.forgets_status) × (¬ PreviewForesees foretold.takes_absent) × (¬ LearningStays foretold.takes_absent)
    × (¬ PreviewForesees foretold.keeps_status) × (¬ MachineStays foretold.moves_machine) × (¬ TenBytes foretold.says_open)
refused_previews = (
  misleading.not-forgets_status,
  misleading.not-takes_absent,
  misleading.not-takes_absent_learning,
  misleading.not-keeps_status,
  misleading.not-moves_machine,
  misleading.not-says_open,
)
