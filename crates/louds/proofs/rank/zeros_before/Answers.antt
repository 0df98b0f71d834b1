-- `louds::rank::zeros_before` meets its contract: a place is as many as the ones and the zeros before it. Assumes nothing.
use Rattle.std.proofs.Common.{arith}
use Rattle.keymap.specs.Bits.{bit}
use Rattle.keymap.proofs.Laws.Bits.{bit-small}
use Rattle.louds.proofs.Laws.Rank.{ones-zeros}
use Rattle.louds.proofs.rank.zeros_before.Goals as goal

pub overflow_sub-result : goal.overflow_sub-result
overflow_sub-result c =
    let a = c.args in
    omega (arith, ones-zeros (bit a.words.now) (bit-small a.words.now) a.i)

pub returns : goal.returns
returns c =
    let a = c.args in
    omega (arith, ones-zeros (bit a.words.now) (bit-small a.words.now) a.i)
