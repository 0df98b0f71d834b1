-- `catalogue_program::main` is safe and ends, and hands over what is to be written of what was read. Assumes nothing.
use Rattle.std.proofs.Common.{sym, arith}
use lib.Seq.{length-take-le}
use Rattle.catalogue.proofs.Laws.Putting.{put_front}
use Rattle.catalogue_program.proofs.main.Goals as goal

pub slice_bounds-out-end : goal.slice_bounds-out-end
slice_bounds-out-end c = let told = c.answer-length.ensures in omega (arith, (put_front _ _ _ _ (told.answer, told.out)).0)

pub slice_bounds-say-end-2 : goal.slice_bounds-say-end-2
slice_bounds-say-end-2 c =
    let told = c.answer-length.ensures in
    sym (length-take-le _ _ (omega (arith, (put_front _ _ _ _ (told.answer, told.out)).0)))

pub say-requires-clause-whole : goal.say-requires-clause-whole
say-requires-clause-whole c =
    let told = c.answer-length.ensures in
    (put_front _ _ _ _ (told.answer, told.out)).1
