-- `catalogue_cases::run_cases` is safe and ends: each case is a line, and the next begins behind it. Assumes nothing.
use Rattle.std.proofs.Common.{sym, arith}
use Rattle.lines.proofs.Laws.Text.{Cuts, next-cuts}
use Rattle.catalogue_cases.proofs.run_cases.Goals as goal
use Rattle.catalogue_cases.proofs.run_cases.Goals.{In-Some}
use Rattle.catalogue_cases.proofs.run_cases.Given.{Over}

-- the line that was cut
cut : (g : Over) (c : In-Some g) → Cuts c.args.cases.now c.loop-end.at c.in-Some.field-0.end c.in-Some.field-0.next
cut g c = next-cuts _ _ _ _ (sym c.in-Some.ensures)

pub slice_bounds-case-count : goal.slice_bounds-case-count
slice_bounds-case-count g c = (cut g c).begins

pub slice_bounds-case-start : goal.slice_bounds-case-start
slice_bounds-case-start g c = let k = cut g c in omega (arith, k.begins, k.ends, k.within)

pub slice_bounds-case-end : goal.slice_bounds-case-end
slice_bounds-case-end g c = let k = cut g c in omega (arith, k.begins, k.ends, k.within)

pub loop-end-smaller : goal.loop-end-smaller
loop-end-smaller g c =
    let k = cut g (goal.at.loop-end-smaller g c).In-Some in
    omega (arith, k.moves, k.within)
