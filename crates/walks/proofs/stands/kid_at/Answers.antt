-- `walks::stands::kid_at` meets its contract: the 0-th zero is missing, so a number below the node's own ends at the end. Assumes nothing.
use mathlib.Core.Path.{sym}
use Rattle.keymap.specs.Bits.{bit}
use Rattle.walks.proofs.Laws.Stands.{kid_from-below}
use Rattle.walks.proofs.stands.kid_at.Goals as goal

pub returns-then-m-k : goal.returns-then-m-k
returns-then-m-k c =
    let a = c.args in
    sym (kid_from-below (bit a.bits.words.now) a.bits.len a.k a.next a.m c.if-m-k.true)
