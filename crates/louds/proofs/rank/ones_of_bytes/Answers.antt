-- `louds::rank::ones_of_bytes` meets its contract: each of its three lines counts in fields twice as wide, and none runs over. Assumes nothing.
use Rattle.louds.proofs.Laws.ByteRanks.{lean-count}
use Rattle.louds.proofs.rank.ones_of_bytes.Goals as goal

pub returns : goal.returns
returns c = lean-count c.args.word c.ranges.word.fits
