-- `louds::rank::ones_before` meets its contract. The invariant: `total` is the ones of the words passed. Past the slice's end there are no more;
-- at the place's own word the law `ones-part` adds those of its masked part. Assumes nothing.
use Rattle.std.proofs.Common.{◌≡◌, ◌*◌}
use Rattle.keymap.specs.Bits.{bit}
use Rattle.louds.specs.Rank.{ones_before}
use Rattle.louds.proofs.rank.ones_before.Given as goal

abbrev pub invariant-loop-word : goal.invariant-loop-word
invariant-loop-word l = l.total ≡ ones_before (bit l.words) (l.word-index * 64)
