-- A call for each number of each row of the table, the calls that reach its box before it, and their numbers by computation.
use Prim.Native.Nat.{ℕ, zero, suc, ◌^◌}
use mathlib.Core.Path.{◌≡◌, refl}
use mathlib.Core.Bool.{Bool, true, ◌&&◌, and-eq-true_iff}
use mathlib.Core.Option.{some, none}
use mathlib.Core.List.{List, [], ◌∷◌, ◌++◌, map}
use lib.ListN.{replicate}
use lib.Dec.{ltb}
use lib.Ieee.{of_bits, of_fields, odd, to_bits, of_int, whole, in_unsigned, to_unsigned}
use borrow.Author.Tests.{ltb-true}
use Rattle.spec_base.specs.Limits.{max_bytes, signal_bytes, name_bytes}
use Rattle.spec_base.specs.Sets as Sets
use Rattle.spec_base.specs.Sets.{member, only, join, common, difference, insert, remove, subset, disjoint, members_from}
use Rattle.spec_base.specs.Widths.{all_below}
use Rattle.spec_base.specs.Subsets.{subsets_below}
use Rattle.spec_language.specs.Reaction.{react_by}
use Rattle.spec_language.specs.Errors.{errors_by}
use Rattle.spec_language.specs.Reactions.{reactions_by}
use Rattle.spec_language.specs.Litres.{delivered_by}
use Rattle.spec_language.specs.LabelTests.{labels_of, active_labels, every_label, distinct, before, well_formed, valid}
use Rattle.spec_language.specs.States.{active}
use Rattle.spec_language.specs.Expansion.{expand}
use Rattle.spec_language.specs.ReadBack.{declared_by}
use Rattle.spec_language.specs.Sizes.{commands, loop_nesting, signal_nesting, depth_of}
use Rattle.spec_language.specs.Ceiling.{ceiling}
use Rattle.spec_sequence.specs.Commands.{command_of}
use Rattle.spec_sequence.specs.Reader.{front, read}
use Rattle.spec_sequence.specs.Writer.{bytes_of}
use Rattle.spec_sequence.specs.Check.{checked, check_of}
use Rattle.spec_base.specs.Bytes.{le_bytes, le_number}
use Rattle.spec_tick.specs.StateRecord.{state_length, state_record, encode_state, decode_state}
use Rattle.spec_tick.specs.AnswerRecord.{answer_length, encode_answer}
use Rattle.spec_tick.specs.Tick.{tick_by}
use Rattle.spec_tick.specs.Demands.{cleared}
use Rattle.spec_tick.specs.Record.{recordLength, panel_length, panel_of}
use Rattle.spec_tick.specs.Recording.{following, records_from}
use Rattle.spec_replay.specs.Replay.{first_records, same, first_difference, place_of, replay_of}
use Rattle.spec_unroll.specs.Unrolled.{copied, unrolled}
use Rattle.spec_unroll.specs.Call.{unroll_of}
use Rattle.spec_base.specs.Parts.{put, zeros}
use Rattle.spec_bay.specs.Table.{last_such, lookup, save_of, forget_of}
use Rattle.spec_bay.specs.Ledgers.{reading_length, total_in, totals_bytes, would_pass, added_below}
use Rattle.spec_bay.specs.Preview.{preview_length, both, gathered, findings, preview_of}
use Rattle.spec_bay.specs.Stretch.{state_at, part_of, vacated, terms, filled}
use Rattle.spec_bay.specs.BayCalls.{bay_tick_of, bay_release_of, bay_admit_of, bay_save_of, bay_forget_of, bay_restore_of, bay_service_of, bay_panel_of, bay_preview_of, bay_ledger_of, bay_new_year_of}
use Rattle.spec_box.specs.Box.{box_length, empty_box, present, Call, admit, release, tick, save, restore, forget, service, panel, preview, ledger, new_year, on_admit, on_save, call_of}
use Rattle.spec_box.specs.Lists.{Request, box_after}
use Rattle.spec_box.specs.Shares as Shares
use Rattle.spec_box.specs.Shares.{Sendable, AllSendable, each}
use Rattle.spec_calls.specs.Numbers.{CallName, intake_check, intake_ceiling, intake_tick, intake_unroll, intake_replay, intake_box_admit, intake_box_release, intake_box_tick, intake_box_save, intake_box_restore, intake_box_forget, intake_box_service, intake_box_panel, intake_box_preview, intake_box_ledger, intake_box_new_year, HostCall, checks, ticks, unrolls, replays, admits, releases, ticks_bay, saves, restores, forgets, shows_service, shows_panel, previews, reads_ledger, begins_year, call_gives, passable, row_for, also_anywhere, ReachedBox, reached_bytes}

-- ---- sequences
abbrev ends : List ℕ
ends = 0x00 ∷ []

abbrev pause : List ℕ
pause = 0x01 ∷ 0x00 ∷ []

-- 01's examples of the rows 2 to 10, with a seventh signal inside six for row 6, and minus zero litres for 18
abbrev bad : List (List ℕ)
bad =
    []
    ∷ (0x0D ∷ [])
    ∷ (0x02 ∷ [])
    ∷ (0x02 ∷ 0x20 ∷ [])
    ∷ (0x08 ∷ 0 ∷ 0x08 ∷ 0 ∷ 0x08 ∷ 0 ∷ 0x08 ∷ 0 ∷ 0x08 ∷ 0 ∷ 0x08 ∷ 0 ∷ 0x08 ∷ 0 ∷ 0x00 ∷ [])
    ∷ (0x00 ∷ 0x00 ∷ [])
    ∷ (0x05 ∷ 0x01 ∷ 0x00 ∷ 0x01 ∷ 0x00 ∷ [])
    ∷ (0x0A ∷ 0x00 ∷ [])
    ∷ (0x04 ∷ 0x01 ∷ 0x01 ∷ 0x04 ∷ 0x05 ∷ 0x0A ∷ 0x02 ∷ 0x01 ∷ 0x03 ∷ 0x01 ∷ 0x02 ∷ [])
    ∷ (0x0C ∷ 0x00 ∷ 0x00 ∷ 0x00 ∷ 0x00 ∷ 0x80 ∷ [])
    ∷ []

-- ceiling (30 + 6 + 1) * (1 + 30) * 2 ^ 6 = 73,408
abbrev too_dear : List ℕ
too_dear = replicate 30 0x06 ++ (0x08 ∷ 0 ∷ 0x08 ∷ 1 ∷ 0x08 ∷ 2 ∷ 0x08 ∷ 3 ∷ 0x08 ∷ 4 ∷ 0x08 ∷ 5 ∷ 0x00 ∷ [])

-- 16,777,216 litres and one more for farm 0
abbrev one_too_many : List ℕ
one_too_many = 0x04 ∷ 0x0C ∷ 0x00 ∷ 0x00 ∷ 0x00 ∷ 0x80 ∷ 0x4B ∷ 0x0C ∷ 0x00 ∷ 0x00 ∷ 0x00 ∷ 0x80 ∷ 0x3F ∷ []

-- ---- buffers
abbrev answer : List ℕ
answer = replicate answer_length 0

abbrev trace : List ℕ
trace = replicate recordLength 0

-- ---- boxes that calls reach
unfoldable pub sent : Call → Bool
sent c =
    on_admit (on_save true (λ name. ltb name (256 ^ name_bytes)) c)
    (λ t. ltb t.read_back (256 ^ signal_bytes) && ltb t.service_only (256 ^ signal_bytes)) c

is-sent : (c : Call) → sent c ≡ true → Sendable c
unfolding sent
is-sent (admit t) h =
    let s = (and-eq-true_iff (ltb t.read_back (256 ^ signal_bytes)) (ltb t.service_only (256 ^ signal_bytes))).0 h in
    (ltb-true t.read_back (256 ^ signal_bytes) s.0, ltb-true t.service_only (256 ^ signal_bytes) s.1)
is-sent release h = tt
is-sent (tick e a b) h = tt
is-sent (save name) h = ltb-true name (256 ^ name_bytes) h
is-sent (restore name) h = tt
is-sent (forget name) h = tt
is-sent (service a view) h = tt
is-sent (panel a view) h = tt
is-sent (preview e u buffer) h = tt
is-sent (ledger totals) h = tt
is-sent new_year h = tt

unfoldable pub all_sent : List Request → Bool
all_sent [] = true
all_sent (x ∷ xs) = sent x.call && all_sent xs

pub are_sent : (xs : List Request) → all_sent xs ≡ true → AllSendable xs
unfolding all_sent
are_sent [] h = Shares.none
are_sent (x ∷ xs) h =
    let s = (and-eq-true_iff (sent x.call) (all_sent xs)).0 h in each (is-sent x.call s.0) (are_sent xs s.1)

-- calls to bay 0, one after the other
abbrev to_first : Call → Request
to_first c = record { bay = 0; call = c }

abbrev admitting : (sequence : List ℕ) → Call
admitting sequence = admit (terms sequence 0 0)

abbrev ticking : Call
ticking = tick 0 answer trace

-- the box after a list of calls
unfoldable pub reached : (xs : List Request) → all_sent xs ≡ true → ReachedBox
reached xs h = record { before = xs; sendable = are_sent xs h }

-- nothing called yet
unfoldable pub from_start : ReachedBox
unfolding all_sent sent
from_start = reached [] refl

-- bay 0 admitted with a sequence that ends, and over; admitted with litres that pass the limit
unfoldable pub fresh : ReachedBox
unfolding all_sent sent
fresh = reached (to_first (admitting ends) ∷ []) refl

unfoldable pub over : ReachedBox
unfolding all_sent sent
over = reached (to_first (admitting ends) ∷ to_first ticking ∷ []) refl

unfoldable pub overfull : ReachedBox
unfolding all_sent sent
overfull = reached (to_first (admitting one_too_many) ∷ []) refl

-- bay 0 waiting, with no name, with one and with sixteen
abbrev waits : List Request
waits = to_first (admitting pause) ∷ to_first ticking ∷ []

abbrev saved : ℕ → List Request
saved zero = []
saved (suc n) = to_first (save n) ∷ saved n

unfoldable pub waiting : ReachedBox
unfolding all_sent sent
waiting = reached waits refl

unfoldable pub named : ReachedBox
unfolding all_sent sent
named = reached (waits ++ saved 1) refl

unfoldable pub full : ReachedBox
unfolding all_sent sent
full = reached (waits ++ saved 16) refl

-- ---- a call for each number of a row, in the order of the row
unfoldable pub witnesses : (name : CallName) → List (HostCall ReachedBox name)
witnesses intake_check = checks ends 0 ∷ map (λ s. checks s 0) bad
witnesses intake_ceiling = []
witnesses intake_tick =
    ticks ends cleared 0 0 answer
    ∷ ticks ends cleared 0 0 []
    ∷ ticks ends (state_record 3 0) 0 0 answer
    ∷ ticks ends (state_record 2 0) 0 0 answer
    ∷ map (λ s. ticks s cleared 0 0 answer) bad
witnesses intake_unroll =
    unrolls ends 0 (zeros max_bytes)
    ∷ unrolls ends 0 []
    ∷ unrolls (0x04 ∷ 0x01 ∷ 0x00 ∷ 0x0A ∷ 0x00 ∷ []) 0 (zeros max_bytes)
    ∷ unrolls (replicate 32 0x06 ++ pause) 0 (zeros max_bytes)
    ∷ map (λ s. unrolls s 0 (zeros max_bytes)) bad
witnesses intake_replay = replays ends 0 [] ∷ replays ends 0 (0 ∷ []) ∷ map (λ s. replays s 0 []) bad
witnesses intake_box_admit =
    admits from_start 0 (terms ends 0 0)
    ∷ admits from_start 8 (terms ends 0 0)
    ∷ admits from_start 0 (terms too_dear 0 0)
    ∷ map (λ s. admits from_start 0 (terms s 0 0)) bad
witnesses intake_box_release = releases fresh 0 ∷ releases from_start 0 ∷ []
witnesses intake_box_tick =
    ticks_bay fresh 0 0 answer trace
    ∷ ticks_bay fresh 0 0 [] trace
    ∷ ticks_bay over 0 0 answer trace
    ∷ ticks_bay from_start 0 0 answer trace
    ∷ ticks_bay overfull 0 0 answer trace
    ∷ []
witnesses intake_box_save = saves waiting 0 1 ∷ saves from_start 0 1 ∷ saves fresh 0 1 ∷ saves full 0 16 ∷ []
witnesses intake_box_restore = restores named 0 0 ∷ restores from_start 0 0 ∷ restores fresh 0 0 ∷ []
witnesses intake_box_forget = forgets named 0 0 ∷ forgets from_start 0 0 ∷ forgets fresh 0 0 ∷ []
witnesses intake_box_service =
    shows_service fresh 0 trace trace ∷ shows_service fresh 0 trace [] ∷ shows_service from_start 0 trace trace ∷ []
witnesses intake_box_panel =
    shows_panel fresh 0 trace (zeros panel_length) ∷ shows_panel fresh 0 trace [] ∷ shows_panel from_start 0 trace (zeros panel_length) ∷ []
witnesses intake_box_preview =
    previews fresh 0 0 1 (zeros preview_length)
    ∷ previews fresh 0 0 1 []
    ∷ previews over 0 0 1 (zeros preview_length)
    ∷ previews from_start 0 0 1 (zeros preview_length)
    ∷ previews fresh 0 0 127 (zeros preview_length)
    ∷ []
witnesses intake_box_ledger =
    reads_ledger from_start 0 (zeros reading_length) ∷ reads_ledger from_start 0 [] ∷ reads_ledger from_start 8 (zeros reading_length) ∷ []
witnesses intake_box_new_year = begins_year from_start 0 ∷ begins_year from_start 8 ∷ []

pub all_given : (name : CallName) → map (call_gives reached_bytes) (witnesses name) ≡ map some (row_for name)
unfolding witnesses from_start fresh over overfull waiting named full reached unroll_of copied unrolled bytes_of depth_of replay_of place_of first_difference same first_records records_from box_after call_of empty_box present part_of vacated filled would_pass total_in added_below delivered_by of_bits of_fields odd whole in_unsigned to_unsigned bay_tick_of following bay_release_of bay_admit_of bay_save_of bay_forget_of bay_restore_of bay_service_of bay_panel_of panel_of bay_preview_of preview_of findings gathered both subsets_below common difference all_below bay_ledger_of bay_new_year_of totals_bytes to_bits of_int save_of forget_of lookup last_such put zeros le_bytes le_number tick_by check_of checked read front command_of distinct well_formed before every_label labels_of subset disjoint valid active active_labels members_from declared_by commands loop_nesting signal_nesting ceiling encode_state decode_state encode_answer expand react_by errors_by reactions_by Sets.none only member join insert remove
all_given intake_check = refl
all_given intake_ceiling = refl
all_given intake_tick = refl
all_given intake_unroll = refl
all_given intake_replay = refl
all_given intake_box_admit = refl
all_given intake_box_release = refl
all_given intake_box_tick = refl
all_given intake_box_save = refl
all_given intake_box_restore = refl
all_given intake_box_forget = refl
all_given intake_box_service = refl
all_given intake_box_panel = refl
all_given intake_box_preview = refl
all_given intake_box_ledger = refl
all_given intake_box_new_year = refl

pub all-passable : (name : CallName) → map (passable reached_bytes) (witnesses name) ≡ map (λ (n : ℕ). true) (row_for name)
unfolding witnesses from_start fresh over overfull waiting named full reached unroll_of copied unrolled bytes_of depth_of replay_of place_of first_difference same first_records records_from box_after call_of empty_box present part_of vacated filled would_pass total_in added_below delivered_by of_bits of_fields odd whole in_unsigned to_unsigned bay_tick_of following bay_release_of bay_admit_of bay_save_of bay_forget_of bay_restore_of bay_service_of bay_panel_of panel_of bay_preview_of preview_of findings gathered both subsets_below common difference all_below bay_ledger_of bay_new_year_of totals_bytes to_bits of_int save_of forget_of lookup last_such put zeros le_bytes le_number tick_by check_of checked read front command_of distinct well_formed before every_label labels_of subset disjoint valid active active_labels members_from declared_by commands loop_nesting signal_nesting ceiling encode_state decode_state encode_answer expand react_by errors_by reactions_by Sets.none only member join insert remove
all-passable intake_check = refl
all-passable intake_ceiling = refl
all-passable intake_tick = refl
all-passable intake_unroll = refl
all-passable intake_replay = refl
all-passable intake_box_admit = refl
all-passable intake_box_release = refl
all-passable intake_box_tick = refl
all-passable intake_box_save = refl
all-passable intake_box_restore = refl
all-passable intake_box_forget = refl
all-passable intake_box_service = refl
all-passable intake_box_panel = refl
all-passable intake_box_preview = refl
all-passable intake_box_ledger = refl
all-passable intake_box_new_year = refl

-- ---- in boxes of any bytes: no bytes at all, and bytes in which bay 0 holds a sequence, at most one byte too long, and a state
unfoldable pub holding : (sequence state : List ℕ) → List ℕ
holding sequence state = put state_at state_length state (filled (terms sequence 0 0) 0 (zeros box_length))

-- sequences for the refusals again; a bay that holds no bytes is empty, so row 2 has 1,025
abbrev bad_held : List (List ℕ)
bad_held =
    zeros 1025
    ∷ (0x0D ∷ [])
    ∷ (0x02 ∷ [])
    ∷ (0x02 ∷ 0x20 ∷ [])
    ∷ (0x08 ∷ 0 ∷ 0x08 ∷ 0 ∷ 0x08 ∷ 0 ∷ 0x08 ∷ 0 ∷ 0x08 ∷ 0 ∷ 0x08 ∷ 0 ∷ 0x08 ∷ 0 ∷ 0x00 ∷ [])
    ∷ (0x00 ∷ 0x00 ∷ [])
    ∷ (0x05 ∷ 0x01 ∷ 0x00 ∷ 0x01 ∷ 0x00 ∷ [])
    ∷ (0x0A ∷ 0x00 ∷ [])
    ∷ (0x04 ∷ 0x01 ∷ 0x01 ∷ 0x04 ∷ 0x05 ∷ 0x0A ∷ 0x02 ∷ 0x01 ∷ 0x03 ∷ 0x01 ∷ 0x02 ∷ [])
    ∷ (0x0C ∷ 0x00 ∷ 0x00 ∷ 0x00 ∷ 0x00 ∷ 0x80 ∷ [])
    ∷ []

unfoldable pub any_witnesses : (name : CallName) → List (HostCall (List ℕ) name)
any_witnesses intake_check = []
any_witnesses intake_ceiling = []
any_witnesses intake_tick = []
any_witnesses intake_unroll = []
any_witnesses intake_replay = []
any_witnesses intake_box_admit = admits [] 0 (terms ends 0 0) ∷ []
any_witnesses intake_box_release = releases [] 0 ∷ []
any_witnesses intake_box_tick =
    ticks_bay (holding ends (state_record 3 0)) 0 0 answer trace ∷ map (λ s. ticks_bay (holding s cleared) 0 0 answer trace) bad_held
any_witnesses intake_box_save = saves [] 0 0 ∷ []
any_witnesses intake_box_restore = restores [] 0 0 ∷ []
any_witnesses intake_box_forget = forgets [] 0 0 ∷ []
any_witnesses intake_box_service = []
any_witnesses intake_box_panel = []
any_witnesses intake_box_preview =
    previews (holding ends (state_record 3 0)) 0 0 0 (zeros preview_length)
    ∷ map (λ s. previews (holding s cleared) 0 0 0 (zeros preview_length)) bad_held
any_witnesses intake_box_ledger = []
any_witnesses intake_box_new_year = begins_year [] 0 ∷ []

pub any_given : (name : CallName) → map (call_gives (λ (box : List ℕ). box)) (any_witnesses name) ≡ map some (also_anywhere name)
unfolding any_witnesses holding unroll_of copied unrolled bytes_of depth_of replay_of place_of first_difference same first_records records_from box_after call_of empty_box present part_of vacated filled would_pass total_in added_below delivered_by of_bits of_fields odd whole in_unsigned to_unsigned bay_tick_of following bay_release_of bay_admit_of bay_save_of bay_forget_of bay_restore_of bay_service_of bay_panel_of panel_of bay_preview_of preview_of findings gathered both subsets_below common difference all_below bay_ledger_of bay_new_year_of totals_bytes to_bits of_int save_of forget_of lookup last_such put zeros le_bytes le_number tick_by check_of checked read front command_of distinct well_formed before every_label labels_of subset disjoint valid active active_labels members_from declared_by commands loop_nesting signal_nesting ceiling encode_state decode_state encode_answer expand react_by errors_by reactions_by Sets.none only member join insert remove
any_given intake_check = refl
any_given intake_ceiling = refl
any_given intake_tick = refl
any_given intake_unroll = refl
any_given intake_replay = refl
any_given intake_box_admit = refl
any_given intake_box_release = refl
any_given intake_box_tick = refl
any_given intake_box_save = refl
any_given intake_box_restore = refl
any_given intake_box_forget = refl
any_given intake_box_service = refl
any_given intake_box_panel = refl
any_given intake_box_preview = refl
any_given intake_box_ledger = refl
any_given intake_box_new_year = refl

pub any_passable : (name : CallName) → map (passable (λ (box : List ℕ). box)) (any_witnesses name) ≡ map (λ (n : ℕ). true) (also_anywhere name)
unfolding any_witnesses holding unroll_of copied unrolled bytes_of depth_of replay_of place_of first_difference same first_records records_from box_after call_of empty_box present part_of vacated filled would_pass total_in added_below delivered_by of_bits of_fields odd whole in_unsigned to_unsigned bay_tick_of following bay_release_of bay_admit_of bay_save_of bay_forget_of bay_restore_of bay_service_of bay_panel_of panel_of bay_preview_of preview_of findings gathered both subsets_below common difference all_below bay_ledger_of bay_new_year_of totals_bytes to_bits of_int save_of forget_of lookup last_such put zeros le_bytes le_number tick_by check_of checked read front command_of distinct well_formed before every_label labels_of subset disjoint valid active active_labels members_from declared_by commands loop_nesting signal_nesting ceiling encode_state decode_state encode_answer expand react_by errors_by reactions_by Sets.none only member join insert remove
any_passable intake_check = refl
any_passable intake_ceiling = refl
any_passable intake_tick = refl
any_passable intake_unroll = refl
any_passable intake_replay = refl
any_passable intake_box_admit = refl
any_passable intake_box_release = refl
any_passable intake_box_tick = refl
any_passable intake_box_save = refl
any_passable intake_box_restore = refl
any_passable intake_box_forget = refl
any_passable intake_box_service = refl
any_passable intake_box_panel = refl
any_passable intake_box_preview = refl
any_passable intake_box_ledger = refl
any_passable intake_box_new_year = refl
