use Rattle.std.proofs.Common.{◌≡◌, ℕ, ◌+◌, ◌*◌, ◌%◌, ◌^◌, sym, ap, ◌∙◌, ap₂, mod-lt, arith, lit<}
use Rattle.std.proofs.lemmas.List.{length-take, get_or-take}
use lib.Count.{ones}
use Rattle.keymap.specs.Bits.{bit}
use Rattle.keymap.proofs.Laws.Sums.{sum_below-zero}
use Rattle.keymap.proofs.Laws.Bits.{bit-small}
use Rattle.louds.specs.Rank.{ones_before}
use Rattle.louds.proofs.Laws.Rank.{ones-zeros}
use Rattle.louds.proofs.Laws.Words.{ones-whole, ones-part, ones-passed, masked}
use Rattle.louds.proofs.rank.ones_before.Goals.{After-ones_in, After-ones_in-total}
use Rattle.louds.proofs.rank.ones_before.Goals as goal

pub loop-word-init : goal.loop-word-init
loop-word-init c = sym (sum_below-zero (bit c.args.words.now))

-- one more whole word is counted
step : (c : After-ones_in-total)
    → c.loop-word.total + c.ones_in-total.result ≡ ones_before (bit c.args.words.now) ((c.loop-word.word-index + 1) * 64)
step c =
    let l = c.loop-word in
    let ws = c.args.words.now in
    let own = ap ones (get_or-take c.min.result ws l.word-index 0 (omega (arith, length-take c.min.result ws))) in
    omega (arith, l.invariant, c.ones_in-total.ensures, own, ones-whole ws l.word-index (c.type_inv.words l.word-index).fits)

pub overflow_add-total : goal.overflow_add-total
overflow_add-total c =
    let ws = c.args.words.now in
    omega (arith, step c, length-take c.min.result ws, ones-zeros (bit ws) (bit-small ws) ((c.loop-word.word-index + 1) * 64))

pub loop-word-preserved : goal.loop-word-preserved
loop-word-preserved c = step c

-- with the part of the last word, all
all : (c : After-ones_in)
    → c.loop-word.total + c.ones_in.result ≡ ones_before (bit c.args.words.now) c.args.i
all c =
    let l = c.loop-word in
    let a = c.args in
    let done : l.word-index ≡ c.min.result = omega (arith, length-take c.min.result a.words.now) in
    ap₂ (λ (x y : ℕ). x + y)
    (l.invariant ∙ ap (λ (q : ℕ). ones_before (bit a.words.now) (q * 64)) done ∙ ones-passed a.words.now c.min.result a.i c.min.ensures)
    (c.ones_in.ensures ∙ ap ones (masked c.word_at.result (a.i % 64) (mod-lt a.i (lit< tt))) ∙ ap (λ (x : ℕ). ones (x % 2 ^ (a.i % 64))) c.word_at.ensures)
    ∙ sym (ones-part a.words.now a.i)

pub overflow_add-result : goal.overflow_add-result
overflow_add-result c =
    let a = c.args in
    omega (arith, all c, ones-zeros (bit a.words.now) (bit-small a.words.now) a.i)

pub returns : goal.returns
returns c = all c
