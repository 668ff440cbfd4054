-- Boxes with a slip each are not the box on paper, and a ledger that is rewound or forgotten is not certified, by computation.
use Prim.Native.Nat.{ℕ, zero, suc}
use native.Mathlib.Omega.{arith}
use mathlib.Core.Path.{◌≡◌, refl, sym, ap, ◌∙◌, subst}
use mathlib.Core.Logic.{⊎_elim}
use mathlib.Core.Bool.{Bool, true, false, true≢false}
use mathlib.Core.List.Memᴰ
use mathlib.Core.List.{List, [], ◌∷◌, Memᴰ}
use lib.ListN.{get_or, replicate}
use lib.Ieee.{Float, of_bits, to_bits, of_int, add, whole, in_unsigned, to_unsigned}
use Rattle.spec_base.specs.Sets as Sets
use Rattle.spec_base.specs.Sets.{member, only, join, insert, remove, subset, disjoint, members_from}
use Rattle.sets.proofs.Members.{member-none}
use Rattle.spec_base.specs.WholeLitres.{ordered}
use Rattle.spec_language.specs.Statement.{Statement, nothing}
use Rattle.spec_language.specs.Reaction.{react_by}
use Rattle.spec_language.specs.Errors.{errors_by}
use Rattle.spec_language.specs.Reactions.{reactions_by}
use Rattle.spec_language.specs.Litres.{delivered_by}
use Rattle.spec_language.specs.LabelTests.{setpauses, labels_of, active_labels, every_label, distinct, before, well_formed, valid}
use Rattle.spec_language.specs.States.{active, NoSetpause}
use Rattle.spec_language.specs.Expansion.{expand}
use Rattle.spec_language.specs.ReadBack.{declared_by}
use Rattle.spec_language.specs.Sizes.{commands, loop_nesting, signal_nesting}
use Rattle.spec_language.specs.Ceiling.{ceiling}
use Rattle.theory_language.proofs.LabelTests.{setpauses_is}
use Rattle.spec_sequence.specs.Commands.{command_of}
use Rattle.spec_sequence.specs.Reader.{front, read}
use Rattle.spec_sequence.specs.Check.{Checked, sound, bad, checked, check_of}
use Rattle.spec_sequence.specs.Rows.{Spells}
use Rattle.spec_base.specs.Bytes.{le_bytes, le_number}
use Rattle.spec_tick.specs.StateRecord.{encode_state, decode_state}
use Rattle.spec_tick.specs.AnswerRecord.{code_in, emitted_in, encode_answer}
use Rattle.spec_base.specs.Parts.{put, zeros}
use Rattle.spec_bay.specs.Names.{find, without, save_named}
use Rattle.spec_bay.specs.Table.{save_of, forget_of, lookup, last_such}
use Rattle.spec_bay.specs.Ledgers.{reading_length, field_in, total_in, totals_bytes, would_pass, added_below}
use Rattle.spec_tick.specs.Tick.{tick_by}
use Rattle.spec_tick.specs.Recording.{following}
use Rattle.spec_tick.specs.Paper.{Report, turned_down, reacted}
use Rattle.theory_tick.proofs.Sequence.{accepted, same_statement}
use Rattle.spec_bay.specs.Called.{lent_after, first}
use Rattle.spec_bay.specs.Stretch.{part_of, vacated, filled, Terms}
use Rattle.spec_bay.specs.BayCalls.{bay_tick_of, bay_release_of, bay_admit_of, bay_save_of, bay_forget_of, bay_restore_of, bay_ledger_of}
use Rattle.spec_box.specs.Box.{empty_box, present, Call, admit, release, save, restore, on_admit, call_of}
use Rattle.spec_box.specs.Lists.{Request, box_after, calls_to}
use Rattle.spec_box.specs.Shares.{AllSendable, none, each}
use Rattle.spec_box.specs.Years.{sum_of}
use Rattle.theory_box.specs.WrongPaper.{to, instant, reading, alone, emits_zero, changes_sequence, back_before, forgets_at_release, delivers_five, taken_out, reads_back_neighbour, waits_if_read, beside_reader, hides_ledger, tells_nothing, delivered, back_behind}
use Rattle.theory_box.specs.WrongLedgers.{rewinds}
use Rattle.spec_box.specs.PaperBox.{InstantTold, told, Reported, ticked, replies, present_on}
use Rattle.spec_box.specs.Reports.{reports, paper_reports, Admitting, OnPaper, ByLabelSets}
use Rattle.spec_box.specs.Certified.{deliveries_over, ReadingsCertified, ReadingsCertifiedByLabels, Certificate, CertificateByLabels}
use Rattle.theory_box.proofs.PaperCertified.{one_number}

-- ---- what is reported of call i: the first buffer that an instant or a reader leaves, and the set that an instant emits by rewriting
abbrev buffer_at : ℕ → List (Reported (List (List ℕ))) → List ℕ
buffer_at i [] = []
buffer_at zero (ticked bs ∷ rs) = first bs
buffer_at zero (replies n lent ∷ rs) = first lent
buffer_at (suc i) (r ∷ rs) = buffer_at i rs

abbrev shown_at : ℕ → List (Reported InstantTold) → List ℕ
shown_at i [] = []
shown_at zero (ticked x ∷ rs) = []
shown_at zero (replies n lent ∷ rs) = first lent
shown_at (suc i) (r ∷ rs) = shown_at i rs

abbrev report_in : InstantTold → Report
report_in (told answer number inputs recorded) = answer

abbrev emitted_of : Report → ℕ
emitted_of (turned_down n phase) = 0
emitted_of (reacted code kind place emitted reactions phase) = emitted

abbrev code_of : Report → ℕ
code_of (turned_down n phase) = 0
code_of (reacted code kind place emitted reactions phase) = code

abbrev report_at : ℕ → List (Reported InstantTold) → Report
report_at i [] = turned_down 0 0
report_at zero (ticked x ∷ rs) = report_in x
report_at zero (replies n lent ∷ rs) = turned_down 0 0
report_at (suc i) (r ∷ rs) = report_at i rs

-- ---- lists whose sequences have no setpause
abbrev statement_of : Checked → Statement
statement_of (sound p) = p
statement_of (bad n) = nothing

plain : (sequence : List ℕ) (read_back : ℕ) → check_of sequence read_back ≡ 0 → setpauses (statement_of (checked sequence read_back)) ≡ Sets.none
    → (p : Statement) → Spells sequence p → NoSetpause p
plain sequence read_back c e p s l n =
    let a = accepted sequence read_back c in
    let same : statement_of (checked sequence read_back) ≡ p = ap statement_of a.is_checked ∙ same_statement sequence a.statement p a.spelled s in
    true≢false (sym ((setpauses_is p l).1 n) ∙ ap (λ (q : Statement). member l (setpauses q)) (sym same) ∙ ap (member l) e ∙ member-none l)

abbrev terms_of : Terms → Call → Terms
terms_of x = on_admit x (λ t. t)

no_call : Admitting NoSetpause []
no_call x i = absurd (Memᴰ.not-nil i)

more : (x : Request) (xs : List Request) → ((t : Terms) → x.call ≡ admit t → (p : Statement) → Spells t.sequence p → NoSetpause p)
    → Admitting NoSetpause xs → Admitting NoSetpause (x ∷ xs)
more x xs f a y i t e c p s =
    ⊎_elim (λ q. f t (ap (λ (z : Request). z.call) (sym q) ∙ e) p s) (λ j. a y j t e c p s) (Memᴰ.cases_cons i)

admitting : (bay : ℕ) (u : Terms) (xs : List Request) → ((p : Statement) → Spells u.sequence p → NoSetpause p)
    → Admitting NoSetpause xs → Admitting NoSetpause (record { bay = bay; call = admit u } ∷ xs)
admitting bay u xs f =
    more (record { bay = bay; call = admit u }) xs (λ t e p s. f p (subst (λ (x : Terms). Spells x.sequence p) (sym (ap (terms_of u) e)) s))

abbrev is_admission : Call → Bool
is_admission = on_admit false (λ t. true)

other : (c : Call) (xs : List Request) → is_admission c ≡ false → Admitting NoSetpause xs → Admitting NoSetpause (to c ∷ xs)
other c xs n = more (to c) xs (λ t e p s. absurd (true≢false (sym (ap is_admission e) ∙ n)))

-- ---- the sequence that is held changes: the instant after the coming back emits 1, where the paper emits 0
zero-plain : (p : Statement) → Spells emits_zero p → NoSetpause p
unfolding check_of checked read front command_of distinct well_formed before every_label labels_of subset disjoint members_from declared_by signal_nesting of_bits whole in_unsigned to_unsigned le_number Sets.none only member join insert remove
zero-plain = plain emits_zero 0 refl refl

sent_back : AllSendable back_before
sent_back =
    each {x = to (admit (alone emits_zero))} (omega arith, omega arith) (each {x = to instant} tt (each {x = to (save 1)} (omega arith) (each {x = to instant} tt
    (each {x = to (save 2)} (omega arith) (each {x = to (restore 1)} tt (each {x = to instant} tt none))))))

plain_back : Admitting NoSetpause back_before
plain_back =
    admitting 0 (alone emits_zero) _ zero-plain
    (other instant _ refl (other (save 1) _ refl (other instant _ refl (other (save 2) _ refl (other (restore 1) _ refl (other instant _ refl no_call))))))

pub not-changes_sequence : (¬ OnPaper changes_sequence) × (¬ ByLabelSets changes_sequence)
unfolding reports paper_reports present_on find without save_named call_of empty_box present part_of vacated filled would_pass total_in added_below delivered_by of_bits whole in_unsigned to_unsigned bay_tick_of following bay_release_of bay_admit_of bay_save_of bay_restore_of bay_ledger_of save_of lookup last_such put zeros totals_bytes ordered add to_bits of_int le_bytes le_number tick_by checked read front command_of distinct well_formed before every_label labels_of subset disjoint valid active active_labels members_from declared_by commands loop_nesting signal_nesting ceiling encode_state decode_state encode_answer expand react_by errors_by reactions_by Sets.none only member join insert remove
not-changes_sequence = (
  λ h. let e : ◌≡◌ {A = ℕ} 2 1 = ap (λ (rs : List (Reported InstantTold)). emitted_of (report_at 6 rs)) (h back_before sent_back plain_back) in omega arith,
  λ h. let e : ◌≡◌ {A = ℕ} 2 1 = ap (λ (rs : List (Reported (List (List ℕ)))). emitted_in (buffer_at 6 rs)) (h back_before sent_back) in omega arith,
)

-- ---- a reading after the taking out has 0 litres of farm 2, where the paper has 5: of 5.0, 0x40A00000, the third byte is 0xA0
delivers-plain : (p : Statement) → Spells delivers_five p → NoSetpause p
unfolding check_of checked read front command_of distinct well_formed before every_label labels_of subset disjoint members_from declared_by signal_nesting of_bits whole in_unsigned to_unsigned le_number Sets.none only member join insert remove
delivers-plain = plain delivers_five 0 refl refl

sent_out : AllSendable taken_out
sent_out =
    each {x = to (admit (alone delivers_five))} (omega arith, omega arith) (each {x = to instant} tt (each {x = to release} tt (each {x = to reading} tt none)))

plain_out : Admitting NoSetpause taken_out
plain_out = admitting 0 (alone delivers_five) _ delivers-plain (other instant _ refl (other release _ refl (other reading _ refl no_call)))

pub not-forgets_at_release : (¬ OnPaper forgets_at_release) × (¬ ByLabelSets forgets_at_release)
unfolding reports paper_reports present_on find without save_named call_of empty_box present part_of vacated filled would_pass total_in added_below delivered_by of_bits whole in_unsigned to_unsigned bay_tick_of following bay_release_of bay_admit_of bay_save_of bay_restore_of bay_ledger_of save_of lookup last_such put zeros totals_bytes ordered add to_bits of_int le_bytes le_number tick_by checked read front command_of distinct well_formed before every_label labels_of subset disjoint valid active active_labels members_from declared_by commands loop_nesting signal_nesting ceiling encode_state decode_state encode_answer expand react_by errors_by reactions_by Sets.none only member join insert remove
not-forgets_at_release = (
  λ h. let e : ◌≡◌ {A = ℕ} 0 0xA0 = ap (λ (rs : List (Reported InstantTold)). get_or (shown_at 3 rs) 10 0) (h taken_out sent_out plain_out) in omega arith,
  λ h. let e : ◌≡◌ {A = ℕ} 0 0xA0 = ap (λ (rs : List (Reported (List (List ℕ)))). get_or (buffer_at 3 rs) 10 0) (h taken_out sent_out) in omega arith,
)

-- ---- a bay that reads nothing back waits, where the paper ends
waits-plain : (read_back : ℕ) → check_of waits_if_read read_back ≡ 0 → setpauses (statement_of (checked waits_if_read read_back)) ≡ Sets.none
    → (p : Statement) → Spells waits_if_read p → NoSetpause p
waits-plain = plain waits_if_read

sent-beside : AllSendable beside_reader
sent-beside =
    each {x = record { bay = 1; call = admit (record { sequence = waits_if_read; read_back = 1; service_only = 0 }) }} (omega arith, omega arith)
    (each {x = to (admit (alone waits_if_read))} (omega arith, omega arith) (each {x = to instant} tt none))

plain-beside : Admitting NoSetpause beside_reader
unfolding check_of checked read front command_of distinct well_formed before every_label labels_of subset disjoint members_from declared_by signal_nesting of_bits whole in_unsigned to_unsigned le_number Sets.none only member join insert remove
plain-beside =
    admitting 1 (record { sequence = waits_if_read; read_back = 1; service_only = 0 }) _ (waits-plain 0 refl refl)
    (admitting 0 (alone waits_if_read) _ (waits-plain 0 refl refl) (other instant _ refl no_call))

pub not-reads_back_neighbour : (¬ OnPaper reads_back_neighbour) × (¬ ByLabelSets reads_back_neighbour)
unfolding reports paper_reports present_on find without save_named call_of empty_box present part_of vacated filled would_pass total_in added_below delivered_by of_bits whole in_unsigned to_unsigned bay_tick_of following bay_release_of bay_admit_of bay_save_of bay_restore_of bay_ledger_of save_of lookup last_such put zeros totals_bytes ordered add to_bits of_int le_bytes le_number tick_by checked read front command_of distinct well_formed before every_label labels_of subset disjoint valid active active_labels members_from declared_by commands loop_nesting signal_nesting ceiling encode_state decode_state encode_answer expand react_by errors_by reactions_by Sets.none only member join insert remove
not-reads_back_neighbour = (
  λ h. let e : ◌≡◌ {A = ℕ} 1 0 = ap (λ (rs : List (Reported InstantTold)). code_of (report_at 2 rs)) (h beside_reader sent-beside plain-beside) in omega arith,
  λ h. let e : ◌≡◌ {A = ℕ} 1 0 = ap (λ (rs : List (Reported (List (List ℕ)))). code_in (buffer_at 2 rs)) (h beside_reader sent-beside) in omega arith,
)

-- ---- a ledger that a restore takes back, and one that is gone with the bay, are not certified
delivered-plain : (p : Statement) → Spells delivered p → NoSetpause p
unfolding check_of checked read front command_of distinct well_formed before every_label labels_of subset disjoint members_from declared_by signal_nesting of_bits whole in_unsigned to_unsigned le_number Sets.none only member join insert remove
delivered-plain = plain delivered 0 refl refl

sent_behind : AllSendable back_behind
sent_behind =
    each {x = to (admit (alone delivered))} (omega arith, omega arith) (each {x = to instant} tt (each {x = to (save 1)} (omega arith) (each {x = to (restore 1)} tt (each {x = to reading} tt none))))

plain_behind : Admitting NoSetpause back_behind
plain_behind = admitting 0 (alone delivered) _ delivered-plain (other instant _ refl (other (save 1) _ refl (other (restore 1) _ refl (other reading _ refl no_call))))

pub not-rewinds_on_paper : (¬ OnPaper rewinds) × (¬ ByLabelSets rewinds)
unfolding reports paper_reports present_on find without save_named call_of empty_box present part_of vacated filled would_pass total_in added_below delivered_by of_bits whole in_unsigned to_unsigned bay_tick_of following bay_release_of bay_admit_of bay_save_of bay_restore_of bay_ledger_of save_of lookup last_such put zeros totals_bytes ordered add to_bits of_int le_bytes le_number tick_by checked read front command_of distinct well_formed before every_label labels_of subset disjoint valid active active_labels members_from declared_by commands loop_nesting signal_nesting ceiling encode_state decode_state encode_answer expand react_by errors_by reactions_by Sets.none only member join insert remove
not-rewinds_on_paper = (
  λ h. let e : ◌≡◌ {A = ℕ} 0 0xA0 = ap (λ (rs : List (Reported InstantTold)). get_or (shown_at 4 rs) 10 0) (h back_behind sent_behind plain_behind) in omega arith,
  λ h. let e : ◌≡◌ {A = ℕ} 0 0xA0 = ap (λ (rs : List (Reported (List (List ℕ)))). get_or (buffer_at 4 rs) 10 0) (h back_behind sent_behind) in omega arith,
)

pub not-rewinds_certified : (¬ ReadingsCertified rewinds) × (¬ ReadingsCertifiedByLabels rewinds)
unfolding reports paper_reports present_on find without save_named call_of empty_box present part_of vacated filled would_pass total_in added_below delivered_by of_bits whole in_unsigned to_unsigned bay_tick_of following bay_release_of bay_admit_of bay_save_of bay_restore_of bay_ledger_of save_of lookup last_such put zeros totals_bytes ordered add to_bits of_int le_bytes le_number tick_by checked read front command_of distinct well_formed before every_label labels_of subset disjoint valid active active_labels members_from declared_by commands loop_nesting signal_nesting ceiling encode_state decode_state encode_answer expand react_by errors_by reactions_by Sets.none only member join insert remove box_after deliveries_over sum_of calls_to
not-rewinds_certified =
    let bytes : List ℕ = first (lent_after (rewinds (box_after rewinds empty_box back_behind) 0 reading)) in
    let x : Float = field_in 2 bytes in (
      λ h.
          let e : ◌≡◌ {A = ℕ} 5 0 = one_number x 5 0 ((h back_behind sent_behind plain_behind 0 (replicate reading_length 0) refl).farm_exact 2 (omega arith)) (refl, refl) in
          omega arith,
      λ h.
          let e : ◌≡◌ {A = ℕ} 5 0 = one_number x 5 0 ((h back_behind sent_behind 0 (replicate reading_length 0) refl).farm_exact 2 (omega arith)) (refl, refl) in
          omega arith,
    )

-- ---- no certificate: a ledger that nobody can read, and instants that tell the plant nothing
pub not-hides_ledger : (¬ Certificate hides_ledger) × (¬ CertificateByLabels hides_ledger)
unfolding reports paper_reports present_on find without save_named call_of empty_box present part_of vacated filled would_pass total_in added_below delivered_by of_bits whole in_unsigned to_unsigned bay_tick_of following bay_release_of bay_admit_of bay_save_of bay_restore_of bay_ledger_of save_of lookup last_such put zeros totals_bytes ordered add to_bits of_int le_bytes le_number tick_by checked read front command_of distinct well_formed before every_label labels_of subset disjoint valid active active_labels members_from declared_by commands loop_nesting signal_nesting ceiling encode_state decode_state encode_answer expand react_by errors_by reactions_by Sets.none only member join insert remove box_after
not-hides_ledger = (
  λ h. let e : ◌≡◌ {A = ℕ} 1 0 = h.readable [] 0 (omega arith) (replicate reading_length 0) refl in omega arith,
  λ h. let e : ◌≡◌ {A = ℕ} 1 0 = h.readable [] 0 (omega arith) (replicate reading_length 0) refl in omega arith,
)

pub not-tells_nothing : (¬ Certificate tells_nothing) × (¬ CertificateByLabels tells_nothing)
unfolding reports paper_reports present_on find without save_named call_of empty_box present part_of vacated filled would_pass total_in added_below delivered_by of_bits whole in_unsigned to_unsigned bay_tick_of following bay_release_of bay_admit_of bay_save_of bay_restore_of bay_ledger_of save_of lookup last_such put zeros totals_bytes ordered add to_bits of_int le_bytes le_number tick_by checked read front command_of distinct well_formed before every_label labels_of subset disjoint valid active active_labels members_from declared_by commands loop_nesting signal_nesting ceiling encode_state decode_state encode_answer expand react_by errors_by reactions_by Sets.none only member join insert remove
not-tells_nothing = (
  λ h. let e : ◌≡◌ {A = ℕ} 0 4 = ap (λ (rs : List (Reported InstantTold)). emitted_of (report_at 1 rs)) (h.on_paper taken_out sent_out plain_out) in omega arith,
  λ h. let e : ◌≡◌ {A = ℕ} 0 4 = ap (λ (rs : List (Reported (List (List ℕ)))). emitted_in (buffer_at 1 rs)) (h.by_labels taken_out sent_out) in omega arith,
)
