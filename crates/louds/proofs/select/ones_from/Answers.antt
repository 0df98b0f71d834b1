use Rattle.std.proofs.Common.{◌≡◌, ℕ, ◌+◌, ◌-◌, ◌*◌, ◌/◌, ◌%◌, ◌^◌, sym, ap, ◌∙◌, arith}
use lib.Bits.{bit_and}
use Rattle.keymap.specs.Limits.{word_bits}
use Rattle.louds.specs.Taking.{low_bits, cleared, fewer_by}
use Rattle.louds.proofs.Laws.Taking.{cleared-none, cleared-next, cleared-zero, ones_from-is}
use Rattle.louds.proofs.select.ones_from.Goals.{After-wrapping_add_u64-fewer, After-lowest_one}
use Rattle.louds.proofs.select.ones_from.Goals as goal

-- both sums wrap as the definition's
fewer-is : (c : After-wrapping_add_u64-fewer) → c.wrapping_add_u64-fewer.result ≡ fewer_by c.args.sums c.args.j
fewer-is c =
    let a = c.args in
    c.wrapping_add_u64-fewer.ensures.value ∙ ap (λ (s : ℕ). (s + a.j % 256 * low_bits) % 18446744073709551616) c.wrapping_add_u64.ensures.value

-- how many are taken away
abbrev over : After-lowest_one → ℕ
over c = c.wrapping_add_u64-fewer.result / 2 ^ bit_and (c.lowest_one.result + 56) 56 % 128

pub loop-init : goal.loop-init
loop-init c =
    let a = c.args in
    let x : ℕ = a.word / 2 ^ bit_and (c.lowest_one.result + 56) 56 * 2 ^ bit_and (c.lowest_one.result + 56) 56 % 2 ^ word_bits in
    let all : over c - 0 ≡ over c = omega arith in
    ap (λ (n : ℕ). cleared n x) all
    ∙ ones_from-is a.word a.sums a.j c.wrapping_add_u64-fewer.result c.lowest_one.result (fewer-is (goal.at.loop-init c).After-wrapping_add_u64-fewer) c.lowest_one.ensures

pub returns-then-rest-eq0 : goal.returns-then-rest-eq0
returns-then-rest-eq0 c =
    let l = c.loop in
    let left : ℕ = over (goal.at.returns-then-rest-eq0 c).After-lowest_one - l.counter in
    sym (cleared-zero left) ∙ ap (cleared left) (sym c.if-rest-eq0.true) ∙ l.invariant

pub loop-preserved : goal.loop-preserved
loop-preserved c =
    let l = c.loop in
    let all : ℕ = over (goal.at.loop-preserved c).After-lowest_one in
    let one : all - (l.counter + 1) ≡ all - l.counter - 1 = omega arith in
    ap (λ (n : ℕ). cleared n (bit_and l.rest (l.rest - 1))) one
    ∙ sym (cleared-next (all - l.counter) l.rest (omega (arith, c.loop-test.true)))
    ∙ l.invariant

pub returns : goal.returns
returns c =
    let l = c.loop in
    sym (cleared-none (over (goal.at.returns c).After-lowest_one - l.counter) l.rest (omega (arith, c.loop-test.false))) ∙ l.invariant
