use Rattle.std.proofs.Common.{ℕ, ◌≡◌, ◌+◌, ◌-◌, ◌*◌, ◌^◌, ◌<◌, List, ◌∙◌, sym, ap, subst, arith, take, drop}
use Rattle.spec_base.specs.Bytes.{le_number}
use Rattle.std.specs.List.{push}
use borrow.Author.Rules.{rules}
use Rattle.numbers.proofs.Reading.{upon, upon_end, upon_none, upon_last, read_fits, le_number_lt}
use Rattle.numbers.proofs.read_le.Goals as goal

-- the byte that the iterator gave, read
next : (bs rest : List ℕ) (a x n : ℕ) → bs ≡ push rest a → upon bs x ≡ n → upon rest (x * 256 + a) ≡ n
next bs rest a x n e h = sym (upon_last rest a x) ∙ ap (λ (l : List ℕ). upon l x) (sym e) ∙ h

pub loop-byte-init : goal.loop-byte-init
loop-byte-init c =
    let a = c.args in
    let n : a.at + a.n - a.at ≡ a.n = omega arith in
    let e : c.into_iter-byte-iterator.result.iter.rest.now ≡ take (a.at + a.n - a.at) (drop a.at a.b.now) = cc in
    upon_none c.into_iter-byte-iterator.result.iter.rest.now ∙ ap le_number (e ∙ ap (λ (k : ℕ). take k (drop a.at a.b.now)) n)

pub overflow_mul-x : goal.overflow_mul-x
overflow_mul-x c =
    let a = c.args in
    let l = c.loop-byte in
    let h = next l.byte-iterator.iter.rest.now c.next.new.self.iter.rest.now c.in-Some.field-0.now l.x _ c.in-Some.ensures.steps l.invariant in
    let f = read_fits a.b.now a.at a.n (λ i. (c.type_inv.b i).fits) (search rules) c.next.new.self.iter.rest.now (l.x * 256 + c.in-Some.field-0.now) h in
    omega (arith, f)

pub overflow_add-x : goal.overflow_add-x
overflow_add-x c =
    let a = c.args in
    let l = c.loop-byte in
    let h = next l.byte-iterator.iter.rest.now c.next.new.self.iter.rest.now c.in-Some.field-0.now l.x _ c.in-Some.ensures.steps l.invariant in
    let f = read_fits a.b.now a.at a.n (λ i. (c.type_inv.b i).fits) (search rules) c.next.new.self.iter.rest.now (l.x * 256 + c.in-Some.field-0.now) h in
    omega (arith, f, c.from.ensures)

pub loop-byte-preserved : goal.loop-byte-preserved
loop-byte-preserved c =
    let l = c.loop-byte in
    ap (λ (y : ℕ). upon c.next.new.self.iter.rest.now (l.x * 256 + y)) c.from.ensures
    ∙ next l.byte-iterator.iter.rest.now c.next.new.self.iter.rest.now c.in-Some.field-0.now l.x _ c.in-Some.ensures.steps l.invariant

pub returns : goal.returns
returns c =
    let a = c.args in
    let l = c.loop-byte in
    let e : l.x ≡ le_number (take a.n (drop a.at a.b.now)) = upon_end l.byte-iterator.iter.rest.now l.x c.in-None.ensures.steps.0 ∙ l.invariant in
    record { value = e; upper_bound = subst (λ (y : ℕ). y < 256 ^ a.n) (sym e) (le_number_lt a.b.now a.at a.n (λ i. (c.type_inv.b i).fits)) }
