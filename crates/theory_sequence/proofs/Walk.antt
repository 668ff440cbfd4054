-- Reading by recursion (Reader) and command by command from the left (Rows) meet the same commands and the same faults.
use Prim.Native.Nat.{ℕ, zero, suc, ◌+◌, ◌-◌, ◌≤◌, ◌<◌}
use native.Mathlib.Omega.{arith}
use mathlib.Core.Path.{◌≡◌, refl, sym, ap, ◌∙◌, subst}
use mathlib.Core.Bool.{Bool, true, false, ◌&&◌, cond}
use mathlib.Core.Option.{Option, none, some, some-injective}
use mathlib.Core.List.{List, [], ◌∷◌, ◌++◌}
use mathlib.Core.Logic.{◌↔◌}
use lib.ListN.{length, drop, replicate}
use lib.Seq.{drop-drop}
use lib.Dec.{leb, ltb}
use borrow.Author.Tests.{ltb-false, leb-false, le-ltb, lt-ltb, le-leb, lt-leb}
use Rattle.spec_language.specs.Statement.{Statement}
use Rattle.spec_base.specs.Limits.{max_depth, max_signals}
use Rattle.spec_sequence.specs.Amounts.{amount_size, IsAmount, is_amount}
use Rattle.spec_sequence.specs.Commands.{Command, nothing, pause, emit, exit, seq, par, loop, present, signal, try, setpause, suspend, deliver, command_of, operandCount, operands_of, partCount, in_range, litres_fit, head_length, declares}
use Rattle.spec_sequence.specs.Reader.{Read, accepted, refused, Front, command, bad, front, read}
use Rattle.spec_sequence.specs.Rows.{Awaited, awaits, at, Fault, unknown, no_statement, no_operand, out_of_range, no_litres, too_deep, too_many_signals, walk}
use Rattle.theory_sequence.proofs.Amounts.{amount-passes, litres_taken}
use Rattle.theory_sequence.proofs.Front.{Fronts, fronts, front-is}
use Rattle.theory_sequence.proofs.Inversion.{Stops, stops, Allowed, Meets, meets}

true-false : true ≡ false → ⊥
true-false e = let z : ◌≡◌ {A = ℕ} 0 1 = cc in omega arith

-- ---- the fault at one command, from what stands at the front
abbrev pub fault_of : Awaited → Front → Option ℕ
fault_of s (bad number) = some number
fault_of (awaits d g) (command c xs) = cond (ltb d max_depth && leb (g + declares c) max_signals) none (some 6)

-- row 18: only a 0C has litres
litres_fault : (s : Awaited) (b : ℕ) (bs : List ℕ) (c : Command) → command_of b ≡ some c → operandCount c ≤ length bs
    → in_range c (operands_of c (b ∷ bs)) ≡ true → litres_fit c (operands_of c (b ∷ bs)) ≡ false → Fault (b ∷ bs) s 18
litres_fault s b bs nothing e l r i = absurd (true-false i)
litres_fault s b bs pause e l r i = absurd (true-false i)
litres_fault s b bs emit e l r i = absurd (true-false i)
litres_fault s b bs exit e l r i = absurd (true-false i)
litres_fault s b bs seq e l r i = absurd (true-false i)
litres_fault s b bs par e l r i = absurd (true-false i)
litres_fault s b bs loop e l r i = absurd (true-false i)
litres_fault s b bs present e l r i = absurd (true-false i)
litres_fault s b bs signal e l r i = absurd (true-false i)
litres_fault s b bs try e l r i = absurd (true-false i)
litres_fault s b bs setpause e l r i = absurd (true-false i)
litres_fault s b bs suspend e l r i = absurd (true-false i)
litres_fault s b bs deliver e l r i = no_litres {bs = bs} e l r (λ a. true-false (sym (amount-passes (drop 1 (operands_of deliver (b ∷ bs))) a) ∙ i))

no_amount : (xs : List ℕ) → length xs ≡ amount_size → ¬ IsAmount xs → is_amount xs ≡ false
no_amount xs l k = go (is_amount xs) refl
  where
    go : (t : Bool) → is_amount xs ≡ t → is_amount xs ≡ false
    go true e = absurd (k ((litres_taken xs l).0 e))
    go false e = e

-- rows 3, 4, 5 and 18
fronts_fault : (s : Awaited) (bs : List ℕ) (k : ℕ) → Fronts bs (bad k) → Fault bs s k
fronts_fault s [] k (Fronts.empty e) = no_statement
fronts_fault s [] k (Fronts.unknown l h) = absurd (omega arith)
fronts_fault s [] k (Fronts.short c l e h) = absurd (omega arith)
fronts_fault s [] k (Fronts.outside c e l r) = absurd (omega arith)
fronts_fault s [] k (Fronts.unfit c e l r i) = absurd (omega arith)
fronts_fault s (b ∷ bs) k (Fronts.empty e) = absurd (omega arith)
fronts_fault s (b ∷ bs) k (Fronts.unknown l h) = unknown h
fronts_fault s (b ∷ bs) k (Fronts.short c l e h) = no_operand {bs = bs} e (omega arith)
fronts_fault s (b ∷ bs) k (Fronts.outside c e l r) = out_of_range {bs = bs} e (omega arith) r
fronts_fault s (b ∷ bs) k (Fronts.unfit c e l r i) = litres_fault s b bs c e (omega arith) r i

front_fault : (s : Awaited) (bs : List ℕ) (k : ℕ) → front bs ≡ bad k → Fault bs s k
front_fault s bs k e = fronts_fault s bs k (fronts bs (bad k) e)

-- row 6
deep_fault : (d g : ℕ) (bs : List ℕ) (c : Command) (xs : List ℕ) (k : ℕ) → front bs ≡ command c xs
    → cond (ltb d max_depth && leb (g + declares c) max_signals) none (some 6) ≡ some k → Fault bs (awaits d g) k
deep_fault d g bs c xs k f h = go (ltb d max_depth) (leb (g + declares c) max_signals) refl refl h
  where
    go : (y z : Bool) → ltb d max_depth ≡ y → leb (g + declares c) max_signals ≡ z → cond (y && z) none (some 6) ≡ some k
        → Fault bs (awaits d g) k
    go true true i j u = absurd (let z : ◌≡◌ {A = ℕ} 0 1 = cc in omega arith)
    go true false i j u =
        subst (Fault bs (awaits d g)) (some-injective 6 k u) (too_many_signals f (leb-false (g + declares c) max_signals j))
    go false z i j u = subst (Fault bs (awaits d g)) (some-injective 6 k u) (too_deep f (ltb-false d max_depth i))

fault_from : (s : Awaited) (bs : List ℕ) (k : ℕ) → fault_of s (front bs) ≡ some k → Fault bs s k
fault_from (awaits d g) bs k h = go (front bs) refl h
  where
    go : (f : Front) → front bs ≡ f → fault_of (awaits d g) f ≡ some k → Fault bs (awaits d g) k
    go (bad n) i u = front_fault (awaits d g) bs k (i ∙ ap bad (some-injective n k u))
    go (command c xs) i u = deep_fault d g bs c xs k i u

fault_to : {s : Awaited} {bs : List ℕ} {k : ℕ} → Fault bs s k → fault_of s (front bs) ≡ some k
fault_to {s = awaits d g} {bs = bs} (unknown h) = ap (fault_of (awaits d g)) (front-is bs _ (Fronts.unknown (omega arith) h))
fault_to {s = awaits d g} {bs = bs} no_statement = ap (fault_of (awaits d g)) (front-is bs _ (Fronts.empty refl))
fault_to {s = awaits d g} {bs = bs} (no_operand {c = c} e l) =
    ap (fault_of (awaits d g)) (front-is bs _ (Fronts.short c (omega arith) e (omega arith)))
fault_to {s = awaits d g} {bs = bs} (out_of_range {c = c} e l r) =
    ap (fault_of (awaits d g)) (front-is bs _ (Fronts.outside c e (omega arith) r))
fault_to {s = awaits d g} {bs = bs} (no_litres e l r i) =
    ap (fault_of (awaits d g)) (front-is bs _ (Fronts.unfit deliver e (omega arith) r (no_amount (drop 1 (operands_of deliver bs)) refl i)))
fault_to (too_deep {d = d} f h) = rw (f, le-ltb d max_depth h)
fault_to (too_many_signals {d = d} {g = g} {c = c} f h) = rw (f, lt-leb (g + declares c) max_signals h) (go (ltb d max_depth))
  where
    go : (y : Bool) → cond {A = Option ℕ} (y && false) none (some 6) ≡ some 6
    go true = refl
    go false = refl

pub fault_is : (s : Awaited) (bs : List ℕ) (k : ℕ) → Fault bs s k ↔ (fault_of s (front bs) ≡ some k)
fault_is s bs k = (fault_to, fault_from s bs k)

-- ---- where reading a statement ends
-- a command that is met and is not sound
pub record Faulty (bs : List ℕ) (k : ℕ) : Type 0 where
  pub commands : ℕ
  pub offset : ℕ
  pub awaiting : Awaited
  pub awaited : List Awaited
  pub met : walk commands bs ≡ some (at offset (awaiting ∷ awaited))
  pub fault : Fault (drop offset bs) awaiting k

-- what reading the statement that begins at a comes to, where w is awaited after it
abbrev pub Comes : List ℕ → ℕ → List Awaited → Read → Type 0
Comes bs a w (accepted p m) = (n : ℕ) × (walk n bs ≡ some (at (a + m) w))
Comes bs a w (refused k) = Faulty bs k

module _ (bs : List ℕ) where
  stepped : (n a d g : ℕ) (w : List Awaited) (c : Command) (xs : List ℕ) (k : ℕ) → walk n bs ≡ some (at a (awaits d g ∷ w)) → front (drop a bs) ≡ command c xs
      → d < max_depth → g + declares c ≤ max_signals → partCount c ≡ k
      → walk (suc n) bs ≡ some (at (a + head_length c) (replicate k (awaits (suc d) (g + declares c)) ++ w))
  unfolding walk
  stepped n a d g w c xs k h f i j z = rw (h, f, lt-ltb d max_depth i, le-leb (g + declares c) max_signals j, z)

  -- what is met where a statement is awaited inside d commands
  module _ (n a d g : ℕ) (w : List Awaited) (h : walk n bs ≡ some (at a (awaits d g ∷ w))) where
    faulty : (k : ℕ) → Fault (drop a bs) (awaits d g) k → Faulty bs k
    faulty k f = record { commands = n; offset = a; awaiting = awaits d g; awaited = w; met = h; fault = f }

    stop-comes : max_depth ≤ d → (y : Read) → Stops (drop a bs) y → Comes bs a w y
    stop-comes l y (Stops.unsound k e) = faulty k (front_fault (awaits d g) (drop a bs) k e)
    stop-comes l y (Stops.deep c xs e) = faulty 6 (too_deep e l)

    module _ (signals : ℕ) (r : (g a : ℕ) → List ℕ → Read) (level : d < max_depth) (left : signals + g ≡ max_signals)
        (part : (c : Command) → declares c ≤ signals → (n a : ℕ) (w : List Awaited) → walk n bs ≡ some (at a (awaits (suc d) (g + declares c) ∷ w))
        → Comes bs a w (r (signals - declares c) a (drop a bs))) where
      module _ (c : Command) (xs : List ℕ) (l : Allowed signals (drop a bs) c xs) where
        abbrev inner : Awaited
        inner = awaits (suc d) (g + declares c)

        step : (k : ℕ) → partCount c ≡ k → walk (suc n) bs ≡ some (at (a + head_length c) (replicate k inner ++ w))
        step k z = stepped n a d g w c xs k h l.stands level (omega (arith, l.fits)) z

        -- the part that begins k bytes behind a
        part-comes : (m k : ℕ) (v : List Awaited) (y : Read) → walk m bs ≡ some (at (a + k) (inner ∷ v))
            → r (signals - declares c) (a + k) (drop k (drop a bs)) ≡ y → Comes bs (a + k) v y
        part-comes m k v y i e =
            subst (Comes bs (a + k) v) (ap (r (signals - declares c) (a + k)) (sym (drop-drop k a bs)) ∙ e) (part c l.fits m (a + k) v i)

        further : (k m i : ℕ) (v : List Awaited) → walk i bs ≡ some (at (a + k + m) v) → walk i bs ≡ some (at (a + (k + m)) v)
        further k m i v e = e ∙ ap (λ (j : ℕ). some (at j v)) (let j : a + k + m ≡ a + (k + m) = omega arith in j)

        -- behind the first of two parts
        between : partCount c ≡ 2 → (p : Statement) (m : ℕ) → r (signals - declares c) (a + head_length c) (drop (head_length c) (drop a bs)) ≡ accepted p m
            → (i : ℕ) × (walk i bs ≡ some (at (a + (head_length c + m)) (inner ∷ w)))
        between z p m e =
            let i = part-comes (suc n) (head_length c) (inner ∷ w) (accepted p m) (step 2 z) e in
            (i.0, further (head_length c) m i.0 (inner ∷ w) i.1)

      command-comes : (y : Read) → Meets r signals a (drop a bs) y → Comes bs a w y
      command-comes y (Meets.unsound k e) = faulty k (front_fault (awaits d g) (drop a bs) k e)
      command-comes y (Meets.crowded c xs e l) = faulty 6 (too_many_signals e (omega arith))
      command-comes y (Meets.leaf c xs l z) = (suc n, step c xs l 0 z)
      command-comes y (Meets.one c xs l z p m e) =
          let i = part-comes c xs l (suc n) (head_length c) w (accepted p m) (step c xs l 1 z) e in
          (i.0, further c xs l (head_length c) m i.0 w i.1)
      command-comes y (Meets.two c xs l z p m e q k f) =
          let i = between c xs l z p m e in
          let j = part-comes c xs l i.0 (head_length c + m) w (accepted q k) i.1 f in
          (j.0, further c xs l (head_length c + m) k j.0 w j.1)
      command-comes y (Meets.first_refused c xs l i z k e) =
          part-comes c xs l (suc n) (head_length c) (replicate i (inner c xs l) ++ w) (refused k) (step c xs l (suc i) z) e
      command-comes y (Meets.second_refused c xs l z p m e k f) =
          let i = between c xs l z p m e in
          part-comes c xs l i.0 (head_length c + m) w (refused k) i.1 f

  pub comes : (fuel d signals g n a : ℕ) (w : List Awaited) → fuel + d ≡ max_depth → signals + g ≡ max_signals
      → walk n bs ≡ some (at a (awaits d g ∷ w)) → Comes bs a w (read fuel signals a (drop a bs))
  comes zero d signals g n a w e i h = stop-comes n a d g w h (omega arith) (read zero signals a (drop a bs)) (stops signals a (drop a bs))
  comes (suc fuel) d signals g n a w e i h =
      command-comes n a d g w h signals (read fuel) (omega arith) i
      (λ c k m b v. comes fuel (suc d) (signals - declares c) (g + declares c) m b v (omega arith) (omega arith))
      (read (suc fuel) signals a (drop a bs)) (meets fuel signals a (drop a bs))
