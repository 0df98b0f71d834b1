-- `catalogue_cases::run_cases` is safe and ends: each case is a line, and the next begins behind it. Assumes nothing.
use Rattle.std.proofs.Common.{◌-◌, length}
use Rattle.catalogue_cases.proofs.run_cases.Given as goal

abbrev pub decreases-loop-end : goal.decreases-loop-end
decreases-loop-end g l = length l.cases - l.at
