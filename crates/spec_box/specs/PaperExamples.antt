-- Lists of calls worked by hand, and what the box on paper reports of them.
use Rattle.std.specs.Prelude.{ℕ, ◌≡◌, refl, List, [], ◌∷◌, ◌++◌, replicate}
use Rattle.spec_box.specs.Years.{sum_of}
use Rattle.std.specs.Float.Ieee.{of_bits, to_bits, of_int, add, whole, in_unsigned, to_unsigned}
use Rattle.spec_base.specs.Sets.{member, none, only, join, common, difference, insert, remove, subset, disjoint, members_from}
use Rattle.spec_base.specs.Widths.{all_below}
use Rattle.spec_base.specs.Subsets.{subsets_below}
use Rattle.spec_language.specs.Reaction.{react_by}
use Rattle.spec_language.specs.Errors.{errors_by}
use Rattle.spec_language.specs.Reactions.{reactions_by}
use Rattle.spec_language.specs.Litres.{delivered_by}
use Rattle.spec_language.specs.States.{active}
use Rattle.spec_language.specs.LabelTests.{labels_of, every_label, distinct, before, well_formed}
use Rattle.spec_language.specs.Expansion.{expand}
use Rattle.spec_language.specs.ReadBack.{declared_by}
use Rattle.spec_language.specs.Sizes.{commands, loop_nesting, signal_nesting}
use Rattle.spec_language.specs.Ceiling.{ceiling}
use Rattle.spec_sequence.specs.Commands.{command_of}
use Rattle.spec_sequence.specs.Reader.{front, read}
use Rattle.spec_sequence.specs.Check.{checked}
use Rattle.spec_tick.specs.StateRecord.{encode_state}
use Rattle.spec_base.specs.Bytes.{le_bytes, le_number}
use Rattle.spec_tick.specs.Record.{recordLength, panel_of}
use Rattle.spec_tick.specs.Recording.{following}
use Rattle.spec_tick.specs.Paper.{Report, reacted}
use Rattle.spec_base.specs.WholeLitres.{ordered}
use Rattle.spec_bay.specs.Names.{find, without, save_named, forget_named}
use Rattle.spec_bay.specs.Ledgers.{reading_length, totals_bytes, would_pass}
use Rattle.spec_bay.specs.Preview.{both, gathered, findings}
use Rattle.spec_box.specs.Box.{Call, admit, release, tick, save, restore, forget, service, panel, preview, ledger, new_year}
use Rattle.spec_box.specs.Lists.{Request, calls_to}
use Rattle.spec_box.specs.PaperBox.{by_terms, by_label_sets, empty_paper, InstantTold, told, Reported, ticked, replies, present_on}
use Rattle.spec_box.specs.Reports.{paper_reports}
use Rattle.spec_box.specs.Certified.{deliveries_over, delivered_on}

abbrev to : (bay : ℕ) → Call → Request
to bay c = record { bay = bay; call = c }

abbrev admitting : (sequence : List ℕ) (read_back service_only : ℕ) → Call
admitting sequence read_back service_only = admit (record { sequence = sequence; read_back = read_back; service_only = service_only })

-- buffers of another byte everywhere
abbrev answer : List ℕ
answer = replicate 12 77

abbrev trace : List ℕ
trace = replicate 37 77

abbrev instant : (input : ℕ) → Call
instant e = tick e answer trace

abbrev reading : Call
reading = ledger (replicate 132 77)

-- ---- what is reported: answered 0 with nothing lent, turned down with nothing lent, and a tick that is turned down
abbrev done : {R : Type 0} → Reported R
done = replies 0 []

abbrev only_number : {R : Type 0} → (number : ℕ) → Reported R
only_number n = replies n []

abbrev no_instant : {R : Type 0} → (number : ℕ) → Reported R
no_instant n = replies n (answer ∷ trace ∷ [])

abbrev shown : {R : Type 0} → (bytes : List ℕ) → Reported R
shown bytes = replies 0 (bytes ∷ [])

-- an instant by rewriting
abbrev runs : (number input : ℕ) → Report → Reported InstantTold
runs n e r = ticked (told r n e r)

-- a reading in which farm 2 and the ledger's total have these bytes
abbrev farm_two : (bytes : List ℕ) → List ℕ
farm_two bytes = replicate 8 0 ++ bytes ++ replicate 116 0 ++ bytes

-- ---- items 9, 10 and 12: loop: 5 litres for farm 2, pause 0, 7 litres for farm 2
abbrev rinse : List ℕ
rinse =
    0x06 ∷ 0x04 ∷ 0x0C ∷ 0x02 ∷ 0x00 ∷ 0x00 ∷ 0xA0 ∷ 0x40 ∷ 0x04 ∷ 0x01 ∷ 0x00 ∷ 0x0C ∷ 0x02 ∷ 0x00 ∷ 0x00 ∷ 0xE0 ∷ 0x40 ∷ []

-- no bay, then no waiting machine to save; "rinse done" (9) saved, left and come back to: the number goes on, and the ledger is not rewound;
-- the name is forgotten and known no more; a bay taken out leaves its 5 + 12 + 12 litres until the new year; there is no bay 8
there_and_back : paper_reports by_terms empty_paper (
    to 3 (instant 0)
    ∷ to 3 (admitting rinse 0 0)
    ∷ to 3 (save 9)
    ∷ to 3 (instant 0)
    ∷ to 3 (save 9)
    ∷ to 3 (instant 0)
    ∷ to 3 (restore 8)
    ∷ to 3 (restore 9)
    ∷ to 3 (instant 1)
    ∷ to 3 (forget 9)
    ∷ to 3 (restore 9)
    ∷ to 3 release
    ∷ to 3 (forget 9)
    ∷ to 3 reading
    ∷ to 2 reading
    ∷ to 2 new_year
    ∷ to 3 reading
    ∷ to 3 new_year
    ∷ to 3 reading
    ∷ to 8 release
    ∷ []
    )
    ≡ no_instant 13
    ∷ done
    ∷ only_number 15
    ∷ runs 1 0 (reacted 1 0 0 4 5 1)
    ∷ done
    ∷ runs 2 0 (reacted 1 0 0 4 9 1)
    ∷ only_number 15
    ∷ done
    ∷ runs 3 1 (reacted 1 0 0 4 9 1)
    ∷ done
    ∷ only_number 15
    ∷ done
    ∷ only_number 13
    ∷ shown (farm_two (0 ∷ 0 ∷ 0xE8 ∷ 0x41 ∷ []))
    ∷ shown (replicate 132 0)
    ∷ done
    ∷ shown (farm_two (0 ∷ 0 ∷ 0xE8 ∷ 0x41 ∷ []))
    ∷ done
    ∷ shown (replicate 132 0)
    ∷ only_number 13
    ∷ []
unfolding paper_reports present_on find without save_named forget_named ordered totals_bytes to_bits of_int add would_pass following delivered_by of_bits whole in_unsigned to_unsigned le_bytes le_number checked read front command_of distinct well_formed before every_label labels_of subset disjoint members_from declared_by commands loop_nesting signal_nesting ceiling react_by errors_by reactions_by none only member join insert remove
there_and_back = refl

-- ---- by labels, with a setpause: pause 1, then setpause 2, then emit 0, then pause 2 (01, 'Bays to run'): both buffers whole
abbrev jumps : List ℕ
jumps = 0x04 ∷ 0x01 ∷ 0x01 ∷ 0x04 ∷ 0x0A ∷ 0x02 ∷ 0x04 ∷ 0x02 ∷ 0x00 ∷ 0x01 ∷ 0x02 ∷ []

-- code 1, no error, no signal, so many reactions
abbrev waiting : (reactions : ℕ) → List ℕ
waiting n = 1 ∷ replicate 7 0 ++ (n ∷ 0 ∷ 0 ∷ 0 ∷ [])

-- code 0 after one reaction
abbrev ended : List ℕ
ended = replicate 8 0 ++ (1 ∷ 0 ∷ 0 ∷ 0 ∷ [])

-- phase 1 and a label set below 256
abbrev stands_at : (labels : ℕ) → List ℕ
stands_at labels = 1 ∷ labels ∷ replicate 15 0

with_setpause : paper_reports by_label_sets empty_paper (
    to 0 (admitting jumps 0 0) ∷ to 0 (instant 5) ∷ to 0 (save 1) ∷ to 0 (instant 0) ∷ to 0 (instant 0) ∷ to 0 (instant 0) ∷ to 0 (restore 1) ∷ to 0 (instant 0) ∷ []
    )
    ≡ done
    ∷ ticked (waiting 2 ∷ ((1 ∷ 0 ∷ 0 ∷ 0 ∷ 5 ∷ 0 ∷ 0 ∷ 0 ∷ []) ++ waiting 2 ++ stands_at 2) ∷ [])
    ∷ done
    ∷ ticked (waiting 4 ∷ ((2 ∷ replicate 7 0) ++ waiting 4 ++ stands_at 4) ∷ [])
    ∷ ticked (ended ∷ ((3 ∷ replicate 7 0) ++ ended ++ (2 ∷ replicate 16 0)) ∷ [])
    ∷ no_instant 12
    ∷ done
    ∷ ticked (waiting 4 ∷ ((4 ∷ replicate 7 0) ++ waiting 4 ++ stands_at 4) ∷ [])
    ∷ []
unfolding paper_reports encode_state expand active present_on find without save_named forget_named ordered totals_bytes to_bits of_int add would_pass following delivered_by of_bits whole in_unsigned to_unsigned le_bytes le_number checked read front command_of distinct well_formed before every_label labels_of subset disjoint members_from declared_by commands loop_nesting signal_nesting ceiling react_by errors_by reactions_by none only member join insert remove
with_setpause = refl

-- ---- items 10 and 11: present 0 then emit 1 else nothing, signal 0 service-only, and unknown in a preview; then the machine is over
abbrev tested : List ℕ
tested = 0x07 ∷ 0x00 ∷ 0x02 ∷ 0x01 ∷ 0x00 ∷ []

abbrev ten_lent : List ℕ
ten_lent = replicate 10 77

previewed_and-shown : paper_reports by_terms empty_paper (
    to 0 (admitting tested 0 1)
    ∷ to 0 (admitting tested 0 1)
    ∷ to 0 (preview 0 1 ten_lent)
    ∷ to 0 (preview 0 1 [])
    ∷ to 0 (preview 0 127 ten_lent)
    ∷ to 0 (preview 1 0 ten_lent)
    ∷ to 0 (panel (1 ∷ 0 ∷ 0 ∷ 0 ∷ 3 ∷ replicate 32 0) (replicate 13 77))
    ∷ to 0 (panel (replicate 37 0) [])
    ∷ to 0 (service (7 ∷ replicate 36 0) (replicate 37 77))
    ∷ to 0 (tick 1 answer [])
    ∷ to 0 (instant 1)
    ∷ to 0 (instant 1)
    ∷ to 0 (preview 0 1 ten_lent)
    ∷ to 0 (preview 0 127 ten_lent)
    ∷ []
    )
    ≡ done
    ∷ only_number 13
    ∷ shown (0 ∷ 0 ∷ 0 ∷ 0 ∷ 0xFD ∷ 0xFF ∷ 0xFF ∷ 0xFF ∷ 0 ∷ 0 ∷ [])
    ∷ replies 1 ([] ∷ [])
    ∷ replies 17 (ten_lent ∷ [])
    ∷ shown (2 ∷ 0 ∷ 0 ∷ 0 ∷ 0xFD ∷ 0xFF ∷ 0xFF ∷ 0xFF ∷ 0 ∷ 0 ∷ [])
    ∷ shown (1 ∷ 0 ∷ 0 ∷ 0 ∷ 0 ∷ 2 ∷ 0 ∷ 0 ∷ 0 ∷ 0 ∷ 0 ∷ 0 ∷ 0 ∷ [])
    ∷ replies 1 ([] ∷ [])
    ∷ shown (7 ∷ replicate 36 0)
    ∷ replies 1 (answer ∷ [] ∷ [])
    ∷ runs 1 1 (reacted 0 0 0 2 2 2)
    ∷ no_instant 12
    ∷ replies 12 (ten_lent ∷ [])
    ∷ replies 12 (ten_lent ∷ [])
    ∷ []
unfolding paper_reports gathered findings both subsets_below all_below difference common panel_of present_on find without save_named forget_named ordered totals_bytes to_bits of_int add would_pass following delivered_by of_bits whole in_unsigned to_unsigned le_bytes le_number checked read front command_of distinct well_formed before every_label labels_of subset disjoint members_from declared_by commands loop_nesting signal_nesting ceiling react_by errors_by reactions_by none only member join insert remove
previewed_and-shown = refl

-- ---- item 12: 16,777,216 litres in every instant, then a pause: the second would pass the limit and is no instant; a preview does not ask the
-- ledger. After the new year the second instant is the bay's number 2
abbrev fills : List ℕ
fills = 0x06 ∷ 0x04 ∷ 0x0C ∷ 0x02 ∷ 0x00 ∷ 0x00 ∷ 0x80 ∷ 0x4B ∷ 0x01 ∷ 0x00 ∷ []

abbrev full : List ℕ
full = farm_two (0 ∷ 0 ∷ 0x80 ∷ 0x4B ∷ [])

at_the_limit : paper_reports by_terms empty_paper (
    to 0 (admitting fills 0 0)
    ∷ to 0 (instant 0)
    ∷ to 0 (instant 0)
    ∷ to 0 (preview 0 0 ten_lent)
    ∷ to 0 reading
    ∷ to 0 new_year
    ∷ to 0 (instant 0)
    ∷ to 0 reading
    ∷ []
    )
    ≡ done
    ∷ runs 1 0 (reacted 1 0 0 4 4 1)
    ∷ no_instant 19
    ∷ shown (4 ∷ 0 ∷ 0 ∷ 0 ∷ 0xFB ∷ 0xFF ∷ 0xFF ∷ 0xFF ∷ 0 ∷ 1 ∷ [])
    ∷ shown full
    ∷ done
    ∷ runs 2 0 (reacted 1 0 0 4 6 1)
    ∷ shown full
    ∷ []
unfolding paper_reports gathered findings both subsets_below all_below difference common panel_of present_on find without save_named forget_named ordered totals_bytes to_bits of_int add would_pass following delivered_by of_bits whole in_unsigned to_unsigned le_bytes le_number checked read front command_of distinct well_formed before every_label labels_of subset disjoint members_from declared_by commands loop_nesting signal_nesting ceiling react_by errors_by reactions_by none only member join insert remove
at_the_limit = refl

-- a wrong instant beside 5 litres adds none, and is the machine's last
abbrev wrong_beside : List ℕ
wrong_beside = 0x05 ∷ 0x0C ∷ 0x02 ∷ 0x00 ∷ 0x00 ∷ 0xA0 ∷ 0x40 ∷ 0x06 ∷ 0x00 ∷ []

wrong_adds_none : paper_reports by_terms empty_paper (to 0 (admitting wrong_beside 0 0) ∷ to 0 (instant 0) ∷ to 0 (instant 0) ∷ to 0 reading ∷ [])
    ≡ done ∷ runs 1 0 (reacted 255 1 7 0 4 2) ∷ no_instant 12 ∷ shown (replicate 132 0) ∷ []
unfolding paper_reports present_on find without save_named forget_named ordered totals_bytes to_bits of_int add would_pass following delivered_by of_bits whole in_unsigned to_unsigned le_bytes le_number checked read front command_of distinct well_formed before every_label labels_of subset disjoint members_from declared_by commands loop_nesting signal_nesting ceiling react_by errors_by reactions_by none only member join insert remove
wrong_adds_none = refl

-- ---- item 8: fifteen loops and six signals around eleven commands have the ceiling (15 + 6 + 11) * (1 + 15) * 2 ^ 6 = 32,768; two bays have all
-- of the 65,536, a third of ceiling 1 gets 14 and a bad one its row, and a bay taken out gives its part back
abbrev half : List ℕ
half =
    replicate 15 0x06
    ++ (0x08 ∷ 0x00 ∷ 0x08 ∷ 0x01 ∷ 0x08 ∷ 0x02 ∷ 0x08 ∷ 0x03 ∷ 0x08 ∷ 0x04 ∷ 0x08 ∷ 0x05 ∷ [])
    ++ replicate 5 0x04
    ++ replicate 6 0x00

shared : paper_reports by_terms empty_paper (
    to 7 (admitting half 0 0)
    ∷ to 0 (admitting half 0 0)
    ∷ to 1 (admitting (0x00 ∷ []) 0 0)
    ∷ to 1 (admitting [] 0 0)
    ∷ to 7 release
    ∷ to 1 (admitting (0x00 ∷ []) 0 0)
    ∷ []
    )
    ≡ done ∷ done ∷ only_number 14 ∷ only_number 2 ∷ done ∷ done ∷ []
unfolding paper_reports present_on find without save_named forget_named ordered totals_bytes to_bits of_int add would_pass following delivered_by of_bits whole in_unsigned to_unsigned le_bytes le_number checked read front command_of distinct well_formed before every_label labels_of subset disjoint members_from declared_by commands loop_nesting signal_nesting ceiling react_by errors_by reactions_by none only member join insert remove
shared = refl

-- ---- the certificate: what was delivered to farm 2 since the last new year, across a coming back, a taking out and an admission; nothing by a
-- tick answered 19 or 13, nothing under another bay number, and nothing of the year before
abbrev since_admission : List Request
since_admission =
    to 3 (instant 0)
    ∷ to 3 (admitting rinse 0 0)
    ∷ to 3 (instant 0)
    ∷ to 3 (save 9)
    ∷ to 3 (instant 0)
    ∷ to 3 (restore 9)
    ∷ to 3 (instant 0)
    ∷ to 3 release
    ∷ to 3 (admitting rinse 0 0)
    ∷ to 3 (instant 0)
    ∷ []

delivered_since_lem : (delivered_on by_terms 3 since_admission 2 ≡ 34) × (delivered_on by_terms 3 since_admission 1 ≡ 0) × (delivered_on by_terms 2 since_admission 2 ≡ 0)
unfolding deliveries_over sum_of paper_reports present_on find without save_named forget_named ordered totals_bytes to_bits of_int add would_pass following delivered_by of_bits whole in_unsigned to_unsigned le_bytes le_number checked read front command_of distinct well_formed before every_label labels_of subset disjoint members_from declared_by commands loop_nesting signal_nesting ceiling react_by errors_by reactions_by none only member join insert remove calls_to
delivered_since_lem = (refl, refl, refl)

limit-delivered : delivered_on by_terms 0 (to 0 (admitting fills 0 0) ∷ to 0 (instant 0) ∷ to 0 (instant 0) ∷ []) 2 ≡ 16777216
unfolding deliveries_over sum_of paper_reports present_on find without save_named forget_named ordered totals_bytes to_bits of_int add would_pass following delivered_by of_bits whole in_unsigned to_unsigned le_bytes le_number checked read front command_of distinct well_formed before every_label labels_of subset disjoint members_from declared_by commands loop_nesting signal_nesting ceiling react_by errors_by reactions_by none only member join insert remove calls_to
limit-delivered = refl

new_year_delivered : delivered_on by_terms 0 (
    to 0 (admitting rinse 0 0) ∷ to 0 (instant 0) ∷ to 1 new_year ∷ to 0 new_year ∷ to 0 (instant 0) ∷ to 1 new_year ∷ []
    ) 2 ≡ 12
unfolding deliveries_over sum_of paper_reports present_on find without save_named forget_named ordered totals_bytes to_bits of_int add would_pass following delivered_by of_bits whole in_unsigned to_unsigned le_bytes le_number checked read front command_of distinct well_formed before every_label labels_of subset disjoint members_from declared_by commands loop_nesting signal_nesting ceiling react_by errors_by reactions_by none only member join insert remove calls_to
new_year_delivered = refl
