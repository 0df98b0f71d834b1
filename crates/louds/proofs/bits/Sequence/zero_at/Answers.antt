-- `louds::bits::Sequence::zero_at` meets its contract: the zeros from place 0 on are all of them. Assumes nothing.
use Rattle.std.proofs.Common.{◌∙◌}
use Rattle.keymap.specs.Bits.{bit}
use Rattle.louds.specs.Rank.{gap}
use Rattle.louds.proofs.Laws.Select.{kth-start}
use Rattle.louds.proofs.bits.Sequence.zero_at.Goals as goal

pub returns : goal.returns
returns c =
    let a = c.args in
    c.zero_from.ensures ∙ kth-start (gap (bit a.self.words.now)) a.self.len a.k
