-- `walks::entries::entry_matches` meets its contract: without the mark an entry is a label exactly if it is below 512 and has that label (`entry-rule`). Assumes nothing.
use Rattle.walks.proofs.Laws.Siblings.{entry-rule}
use Rattle.walks.proofs.entries.entry_matches.Goals as goal

pub returns : goal.returns
returns c = entry-rule c.args.entry c.args.label c.ranges.entry.fits c.ranges.label.fits
