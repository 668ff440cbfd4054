-- The theorems about a preview (02, item 11), of the definition preview_of (fillings, specs/Preview).
use Prim.Native.Nat.{ℕ, ◌^◌, ◌≤◌, ◌<◌}
use native.Mathlib.Omega.{arith}
use native.Mathlib.Decide.{ℕ_discrete}
use mathlib.Core.Path.{◌≡◌, refl, sym, ap, ◌∙◌, subst}
use mathlib.Core.Logic.{◌≢◌, ◌↔◌, ◌⊎◌}
use mathlib.Core.Bool.{Bool, true, false, cond}
use mathlib.Core.List.{List}
use lib.ListN.{length}
use lib.Pow.{pow_mono}
use lib.Count.{ones}
use borrow.Author.Tests.{le-leb, lt-leb}
use Rattle.spec_base.specs.Limits.{signal_count, max_unknown}
use Rattle.spec_base.specs.Sets.{member, none, common, difference, insert, remove, Subset, Disjoint, members_from}
use Rattle.spec_base.specs.Subsets.{subsets_of}
use Rattle.sets.proofs.Algebra.{differences_same}
use Rattle.sets.proofs.Sizes.{size_is}
use Rattle.sets.proofs.Counting.{subsets_few}
use Rattle.spec_language.specs.Instants.{Instant}
use Rattle.spec_base.specs.Bytes.{le_bytes}
use Rattle.spec_tick.specs.StateRecord.{state_length}
use Rattle.spec_tick.specs.AnswerRecord.{answer_length, code_in, emitted_in}
use Rattle.spec_tick.specs.Tick.{Outcome, refused, reacts, reply_of, tick_of}
use Rattle.spec_tick.specs.Demands as demands
use Rattle.spec_tick.specs.Demands.{answer_afterwards}
use Rattle.spec_tick.specs.Plain.{SameOutside}
use Rattle.spec_bay.specs.Preview.{filled, openCode, found_in, findings, preview_length, preview_bytes, every_in, never_in, wrong_in, shared_in, Previewed, previewed, number, buffer_after, shown_by, answers_of, preview_of, Learned}
use Rattle.spec_bay.specs.declared.Findings.{Findings}
use Rattle.spec_bay.specs.PreviewClaims.{EachFilling, PreviewIs, PreviewsAre, GivenOutweighed, knowing, LearningKeeps, PreviewErrors, FillingDemands}
use Rattle.theory_bay.proofs.Gathering.{learned, learned_one, findings_alike, findings-none, as-filled, within, every-filling, emits, misses, shares}
use Rattle.theory_bay.proofs.Alike.{read-back_bytes}
use Rattle.theory_bay.proofs.Codes as codes
use Rattle.theory_bay.proofs.Groups as groups
use Rattle.theory_bay.proofs.Numbers as numbers
use Rattle.theory_bay.proofs.Numbers.{reacting, refused-preview, shown-preview, members_fewer, Given, given, tick-number, tick-answer, tick-turned-down, tick-instant}

-- SIX UNKNOWN: at most 64 fillings
pub sixty_four : (unknown : ℕ) → unknown < 2 ^ signal_count → length (members_from signal_count 0 unknown) ≤ max_unknown
    → length (subsets_of unknown) ≤ 64
sixty_four unknown h l =
    let n : ones unknown ≤ max_unknown = omega (arith, size_is signal_count unknown h) in
    let p : 2 ^ ones unknown ≤ 2 ^ max_unknown = pow_mono n in
    omega (arith, subsets_few signal_count unknown h)

-- ---- the numbers, in order: 1 for another length than 10, those of the reply, 17 for a seventh unknown; the lent bytes are left
module _ (sequence state : List ℕ) (read_back : ℕ) where
  abbrev preview : (input unknown : ℕ) (buffer : List ℕ) → Previewed
  preview input unknown buffer = preview_of sequence state input unknown read_back buffer

  pub other-buffer : (input unknown : ℕ) (buffer : List ℕ) → length buffer ≢ preview_length → preview input unknown buffer ≡ previewed 1 buffer
  other-buffer = numbers.other-buffer sequence state read_back

  pub lent-left : (input unknown : ℕ) (buffer : List ℕ) → number (preview input unknown buffer) ≢ 0
      → preview input unknown buffer ≡ previewed (number (preview input unknown buffer)) buffer
  lent-left = numbers.lent-left sequence state read_back

  -- the reply's number depends on no input
  pub one_number : (e e' n : ℕ) → reply_of sequence state e read_back ≡ refused n → reply_of sequence state e' read_back ≡ refused n
  one_number = numbers.one_number sequence state read_back

  module _ (input unknown : ℕ) (buffer : List ℕ) (sized : length buffer ≡ preview_length) where
    pub turned_down : (e n : ℕ) → reply_of sequence state e read_back ≡ refused n → preview input unknown buffer ≡ previewed n buffer
    turned_down e n h = refused-preview sequence state read_back input unknown buffer sized n (one_number e (difference input unknown) n h)

    -- some input, and so every one, makes an instant
    module _ (e : ℕ) (i : Instant) (h : reply_of sequence state e read_back ≡ reacts i) where
      shown : preview input unknown buffer ≡ shown_by (answers_of sequence state read_back) input unknown buffer
      shown =
          let r = reacting sequence state read_back e (difference input unknown) i h in
          shown-preview sequence state read_back input unknown buffer sized r.0 r.1

      pub seventh_unknown : max_unknown < length (members_from signal_count 0 unknown) → preview input unknown buffer ≡ previewed 17 buffer
      seventh_unknown l = shown ∙ (rw (lt-leb (length (members_from signal_count 0 unknown)) max_unknown l))

      pub at-most-six : length (members_from signal_count 0 unknown) ≤ max_unknown
          → preview input unknown buffer ≡ previewed 0 (preview_bytes (findings (answers_of sequence state read_back) input unknown))
      at-most-six l = shown ∙ (rw (le-leb (length (members_from signal_count 0 unknown)) max_unknown l))

  -- ---- THE STATUS GIVEN for an unknown input does not matter
  pub status_outweighed : (input input' unknown : ℕ) (buffer : List ℕ)
      → ((i : ℕ) → member i unknown ≡ false → member i input ≡ member i input') → preview input unknown buffer ≡ preview input' unknown buffer
  unfolding preview_of
  status_outweighed input input' unknown buffer h =
      let d : difference input unknown ≡ difference input' unknown = (differences_same unknown input input').1 h in
      rw (d, findings_alike (answers_of sequence state read_back) input input' unknown d)

  -- READ BACK: a read-back signal among the unknown inputs changes no byte, nor does the status given for it; it counts as an unknown
  pub read-back-unknown : (input unknown input' unknown' : ℕ) (buffer buffer' : List ℕ)
      → SameOutside read_back input input' → SameOutside read_back unknown unknown'
      → number (preview input unknown buffer) ≡ 0 → number (preview input' unknown' buffer') ≡ 0
      → buffer_after (preview input unknown buffer) ≡ buffer_after (preview input' unknown' buffer')
  read-back-unknown input unknown input' unknown' buffer buffer' hi hu z z' =
      (given sequence state read_back input unknown buffer z).bytes
      ∙ read-back_bytes sequence state read_back input unknown input' unknown' hi hu
      ∙ sym (given sequence state read_back input' unknown' buffer' z').bytes

  -- ---- LEARNING one status or more
  module _ (input unknown input' unknown' : ℕ) (l : Learned input unknown input' unknown') (buffer buffer' : List ℕ)
      (z : number (preview input unknown buffer) ≡ 0) (sized : length buffer' ≡ preview_length) where
    abbrev answers : ℕ → List ℕ
    answers = answers_of sequence state read_back

    abbrev before : List ℕ
    before = buffer_after (preview input unknown buffer)

    abbrev after : List ℕ
    after = buffer_after (preview input' unknown' buffer')

    abbrev b : before ≡ preview_bytes (findings answers input unknown)
    b = (given sequence state read_back input unknown buffer z).bytes

    -- gives a preview
    pub stays-given : number (preview input' unknown' buffer') ≡ 0
    stays-given =
        let g = given sequence state read_back input unknown buffer z in
        ap number (shown-preview sequence state read_back input' unknown' buffer' sized (g.instants (difference input' unknown')) (g.are (difference input' unknown')))
        ∙ (rw (le-leb (length (members_from signal_count 0 unknown')) max_unknown (omega (arith, members_fewer signal_count 0 unknown' unknown l.fewer, g.few))))

    abbrev a : after ≡ preview_bytes (findings answers input' unknown')
    a = (given sequence state read_back input' unknown' buffer' stays-given).bytes

    -- keeps every signal in the first two groups where it was
    pub stays-every : Subset (every_in before) (every_in after)
    stays-every i h =
        let w = (groups.every_group answers input unknown before b i).0 h in
        (groups.every_group answers input' unknown' after a i).1
        (w.0, (every-filling (emits i) answers input' unknown').0 (learned l (emits i) answers ((every-filling (emits i) answers input unknown).1 w.1)))

    pub stays-never : Subset (never_in before) (never_in after)
    stays-never i h =
        let w = (groups.never_group answers input unknown before b i).0 h in
        (groups.never_group answers input' unknown' after a i).1
        (w.0, (every-filling (misses i) answers input' unknown').0 (learned l (misses i) answers ((every-filling (misses i) answers input unknown).1 w.1)))

    -- and a shared code too
    pub stays-shared : shared_in before ≢ openCode → shared_in after ≡ shared_in before
    stays-shared o =
        let k = shared_in before in
        let w = (groups.shared_code answers input unknown before b k o).0 refl in
        (groups.shared_code answers input' unknown' after a k o).1
        ((every-filling (shares k o) answers input' unknown').0 (learned l (shares k o) answers ((every-filling (shares k o) answers input unknown).1 w)))

    -- and that no filling is wrong
    pub stays-right : wrong_in before ≡ 0 → wrong_in after ≡ 0
    stays-right h = groups.still_right l answers before b after a h

  -- ONE MORE STATUS of an unknown input, either one, is such a learning
  pub one-status : (input unknown u : ℕ) (present : Bool) → member u unknown ≡ true
      → Learned input unknown (cond present (insert u input) (remove u input)) (remove u unknown)
  one-status = learned_one

-- ---- against the tick: its number, from a state record of its length and with an answer buffer of its length
pub ticks_number : (sequence state : List ℕ) (read_back : ℕ) (answer : List ℕ) → length state ≡ state_length → length answer ≡ answer_length
    → (e input unknown : ℕ) (buffer : List ℕ) → length buffer ≡ preview_length → demands.number (tick_of sequence state e read_back answer) ≢ 0
    → preview_of sequence state input unknown read_back buffer ≡ previewed (demands.number (tick_of sequence state e read_back answer)) buffer
ticks_number sequence state read_back answer long a e input unknown buffer sized z =
    turned_down sequence state read_back input unknown buffer sized e (demands.number (tick_of sequence state e read_back answer))
    (tick-turned-down sequence state read_back answer long a e z)

-- and its answers, from a state record of its length and with an answer buffer of its length
module _ (sequence state : List ℕ) (read_back : ℕ) (answer : List ℕ) (long : length state ≡ state_length) (a : length answer ≡ answer_length)
    (input unknown : ℕ) (buffer : List ℕ) (z : number (preview_of sequence state input unknown read_back buffer) ≡ 0) where
  abbrev tick : ℕ → Outcome
  tick e = tick_of sequence state e read_back answer

  abbrev shows : ℕ → List ℕ
  shows e = answer_afterwards (tick e)

  abbrev bytes : List ℕ
  bytes = buffer_after (preview_of sequence state input unknown read_back buffer)

  abbrev g : Given sequence state read_back input unknown buffer
  g = given sequence state read_back input unknown buffer z

  -- the tick takes every input
  pub an_instant : (e : ℕ) → demands.number (tick e) ≡ 0
  an_instant e = tick-number sequence state read_back answer long a e (g.instants e) (g.are e)

  ticked : shows ≡ (λ (e : ℕ). answers_of sequence state read_back e)
  ticked = λ i e. tick-answer sequence state read_back answer long a e (g.instants e) (g.are e) i

  are : bytes ≡ preview_bytes (findings shows input unknown)
  are = g.bytes ∙ ap (λ (f : ℕ → List ℕ). preview_bytes (findings f input unknown)) (sym ticked)

  -- something of the tick's answer to each filling
  abbrev Each : (List ℕ → Type 0) → Type 0
  Each P = (f : ℕ) → Subset f unknown → P (answer_afterwards (tick_of sequence state (filled input unknown f) read_back answer))

  -- THE TEN BYTES: emitted for every filling, for none
  pub every_group : (i : ℕ) → (member i (every_in bytes) ≡ true) ↔ ((i < signal_count) × Each (λ x. member i (emitted_in x) ≡ true))
  every_group = groups.every_group shows input unknown bytes are

  pub never_group : (i : ℕ) → (member i (never_in bytes) ≡ true) ↔ ((i < signal_count) × Each (λ x. member i (emitted_in x) ≡ false))
  never_group = groups.never_group shows input unknown bytes are

  -- some filling wrong, 1 or 0
  pub none_wrong : (wrong_in bytes ≡ 0) ↔ Each (λ x. code_in x ≢ 255)
  none_wrong = groups.none_wrong shows input unknown bytes are

  -- the code if all share it
  pub shared_code : (k : ℕ) → k ≢ openCode → (shared_in bytes ≡ k) ↔ Each (λ x. code_in x ≡ k)
  shared_code = groups.shared_code shows input unknown bytes are

  pub some_wrong : (wrong_in bytes ≡ 1) ↔ ((f : ℕ) × Subset f unknown × (code_in (shows (filled input unknown f)) ≡ 255))
  some_wrong = groups.some_wrong shows input unknown bytes are

  pub zero-or-one : (wrong_in bytes ≡ 0) ⊎ (wrong_in bytes ≡ 1)
  zero-or-one = groups.zero-or-one shows input unknown bytes are

  -- no instant has the code 254
  pub never_open : (e : ℕ) → code_in (shows e) ≢ openCode
  never_open e = codes.never_open sequence state e read_back answer (an_instant e)

  -- 'else 254 for "open"': exactly if two fillings have different codes, that is if they share none
  pub open_code : (shared_in bytes ≡ openCode)
      ↔ ((f f' : ℕ) × Subset f unknown × Subset f' unknown × (code_in (shows (filled input unknown f)) ≢ code_in (shows (filled input unknown f'))))
  open_code = groups.open_code shows input unknown bytes are (λ f. never_open (filled input unknown f))

  pub none_shared : (shared_in bytes ≡ openCode) ↔ (¬ ((k : ℕ) × Each (λ x. code_in x ≡ k)))
  none_shared = (
    λ h s. let r = open_code.0 h in r.4 (s.1 r.0 r.2 ∙ sym (s.1 r.1 r.3)),
    λ n. elim (ℕ_discrete (shared_in bytes) openCode) [
      | yes q ↦ q
      | no q ↦ absurd (n (shared_in bytes, (shared_code (shared_in bytes) q).0 refl))
    ],
  )

  -- AS IT COMES: the instant on the statuses that the unknown inputs then have lies within the preview
  module _ (e : ℕ) (h : (i : ℕ) → member i unknown ≡ false → member i input ≡ member i e) where
    one : (P : List ℕ → Type 0) → Each P → P (shows e)
    one P k = subst (λ (x : ℕ). P (shows x)) (as-filled input unknown e h) (k (common e unknown) (within e unknown))

    pub emits_every : Subset (every_in bytes) (emitted_in (shows e))
    emits_every i m = one (λ x. member i (emitted_in x) ≡ true) ((every_group i).0 m).1

    pub emits_never : Disjoint (never_in bytes) (emitted_in (shows e))
    emits_never i m = one (λ x. member i (emitted_in x) ≡ false) ((never_group i).0 m).1

    pub has_code : shared_in bytes ≢ openCode → code_in (shows e) ≡ shared_in bytes
    has_code o = one (λ x. code_in x ≡ shared_in bytes) ((shared_code (shared_in bytes) o).0 refl)

    pub is_right : wrong_in bytes ≡ 0 → code_in (shows e) ≢ 255
    is_right k = one (λ x. code_in x ≢ 255) (none_wrong.0 k)

-- NOTHING UNKNOWN: the preview of the tick's answer on that input
pub nothing_unknown : (sequence state : List ℕ) (read_back : ℕ) (answer : List ℕ) → length state ≡ state_length → length answer ≡ answer_length
    → (input : ℕ) (buffer : List ℕ) → number (preview_of sequence state input none read_back buffer) ≡ 0
    → buffer_after (preview_of sequence state input none read_back buffer)
    ≡ preview_bytes (found_in (answer_afterwards (tick_of sequence state input read_back answer)))
nothing_unknown sequence state read_back answer long a input buffer z =
    are sequence state read_back answer long a input none buffer z
    ∙ ap preview_bytes (findings-none (λ e. answer_afterwards (tick_of sequence state e read_back answer)) input)

-- ---- ITEM 11: the claims of specs/Claims
ten_bytes : (x : Findings) → length (preview_bytes x) ≡ preview_length
unfolding le_bytes
ten_bytes x = refl

pub previews_are : PreviewsAre preview_of
previews_are sequence state read_back answer long a input unknown buffer z =
    record {
      ten = ap length (given sequence state read_back input unknown buffer z).bytes ∙ ten_bytes (findings (answers_of sequence state read_back) input unknown);
      every_group = every_group sequence state read_back answer long a input unknown buffer z;
      never_group = never_group sequence state read_back answer long a input unknown buffer z;
      some_wrong = some_wrong sequence state read_back answer long a input unknown buffer z;
      none_wrong = none_wrong sequence state read_back answer long a input unknown buffer z;
      shared_code = shared_code sequence state read_back answer long a input unknown buffer z;
      none_shared = none_shared sequence state read_back answer long a input unknown buffer z;
      never_open = λ f s. never_open sequence state read_back answer long a input unknown buffer z (filled input unknown f);
    }

-- the claims go by the answers to fillings alone
module _ (answers answers' : ℕ → List ℕ) (input unknown : ℕ) {shown : List ℕ}
    (same : (f : ℕ) → Subset f unknown → answers (filled input unknown f) ≡ answers' (filled input unknown f)) (p : PreviewIs answers input unknown shown) where
  to : (P : List ℕ → Type 0) → EachFilling answers input unknown P → EachFilling answers' input unknown P
  to P k f s = subst P (same f s) (k f s)

  fro : (P : List ℕ → Type 0) → EachFilling answers' input unknown P → EachFilling answers input unknown P
  fro P k f s = subst P (sym (same f s)) (k f s)

  pub shown-alike : PreviewIs answers' input unknown shown
  shown-alike =
      record {
        ten = p.ten;
        every_group = λ i. (
          λ h. let w = (p.every_group i).0 h in (w.0, to (λ x. member i (emitted_in x) ≡ true) w.1),
          λ w. (p.every_group i).1 (w.0, fro (λ x. member i (emitted_in x) ≡ true) w.1),
        );
        never_group = λ i. (
          λ h. let w = (p.never_group i).0 h in (w.0, to (λ x. member i (emitted_in x) ≡ false) w.1),
          λ w. (p.never_group i).1 (w.0, fro (λ x. member i (emitted_in x) ≡ false) w.1),
        );
        some_wrong = (
          λ h. let r = p.some_wrong.0 h in (r.0, r.1, ap code_in (sym (same r.0 r.1)) ∙ r.2),
          λ r. p.some_wrong.1 (r.0, r.1, ap code_in (same r.0 r.1) ∙ r.2),
        );
        none_wrong = (λ h. to (λ x. code_in x ≢ 255) (p.none_wrong.0 h), λ w. p.none_wrong.1 (fro (λ x. code_in x ≢ 255) w));
        shared_code = λ k o. (
          λ h. to (λ x. code_in x ≡ k) ((p.shared_code k o).0 h),
          λ w. (p.shared_code k o).1 (fro (λ x. code_in x ≡ k) w),
        );
        none_shared = (
          λ h s. p.none_shared.0 h (s.0, fro (λ x. code_in x ≡ s.0) s.1),
          λ n. p.none_shared.1 (λ s. n (s.0, to (λ x. code_in x ≡ s.0) s.1)),
        );
        never_open = to (λ x. code_in x ≢ openCode) p.never_open;
      }

pub given_outweighed : GivenOutweighed preview_of
given_outweighed sequence state read_back = status_outweighed sequence state read_back

pub learning_keeps : LearningKeeps preview_of
learning_keeps sequence state read_back input unknown u present buffer buffer' m z sized =
    let l = one-status sequence state read_back input unknown u present m in
    let e = knowing u present input in
    let left = remove u unknown in (
      stays-given sequence state read_back input unknown e left l buffer buffer' z sized,
      record {
        every_stays = stays-every sequence state read_back input unknown e left l buffer buffer' z sized;
        never_stays = stays-never sequence state read_back input unknown e left l buffer buffer' z sized;
        code_stays = stays-shared sequence state read_back input unknown e left l buffer buffer' z sized;
      },
    )

pub preview_errors : PreviewErrors preview_of
preview_errors =
    record {
      other_length = other-buffer;
      ticks_number = ticks_number;
      seventh_unknown = λ sequence state read_back answer long a e input unknown buffer sized z.
          let r = tick-instant sequence state read_back answer long a e z in (
            seventh_unknown sequence state read_back input unknown buffer sized e r.0 r.1,
            λ l. ap number (at-most-six sequence state read_back input unknown buffer sized e r.0 r.1 l),
          );
    }

pub filling_demands : FillingDemands preview_of
filling_demands =
    record { previews_are = previews_are; given_outweighed = given_outweighed; learning_keeps = learning_keeps; preview_errors = preview_errors; no_instant_open = codes.never_open }
