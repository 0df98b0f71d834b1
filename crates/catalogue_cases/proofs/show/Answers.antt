-- `catalogue_cases::show` is safe: no more is written than is there. Assumes nothing.
use Rattle.std.proofs.Common.{sym, arith}
use lib.Seq.{length-take-le}
use Rattle.catalogue_cases.proofs.show.Goals as goal

pub slice_bounds-text-end-2 : goal.slice_bounds-text-end-2
slice_bounds-text-end-2 g c = sym (length-take-le 24 c.args.out.now (omega arith))
