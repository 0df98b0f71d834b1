-- `example::main` is safe: what it lends on of the image lies within what it lent to the build, and no more records are
-- in use than there are. Assumes nothing.
use Rattle.std.proofs.Common.{length, sym, arith}
use lib.Seq.{length-take-le}
use Rattle.example.proofs.Within.{Within, built-within, used-within}
use Rattle.example.proofs.main.Goals as goal
use Rattle.example.proofs.main.Goals.{After-line}

-- what was built lies within the three buffers, which have the lengths that they had
lies : (c : After-line) → Within c.in_ok-n.field-0 (length c.build.new.labels) (length c.build.new.values) (length c.build.new.words)
lies c =
    let within = built-within _ _ _ _ _ _ c.in_ok-n.ensures.answer (omega arith) in
    (omega (arith, within.0, c.build.auto.labels), omega (arith, within.1, c.build.auto.values), omega (arith, within.2, c.build.auto.words))

pub slice_bounds-labels-end : goal.slice_bounds-labels-end
slice_bounds-labels-end c = (lies c).0

pub slice_bounds-labels-end-2 : goal.slice_bounds-labels-end-2
slice_bounds-labels-end-2 c = sym (length-take-le _ _ (lies (goal.at.slice_bounds-labels-end-2 c).After-line).0)

pub slice_bounds-values-end : goal.slice_bounds-values-end
slice_bounds-values-end c = (lies (goal.at.slice_bounds-values-end c).After-line).1

pub slice_bounds-values-end-2 : goal.slice_bounds-values-end-2
slice_bounds-values-end-2 c = sym (length-take-le _ _ (lies (goal.at.slice_bounds-values-end-2 c).After-line).1)

pub slice_bounds-words-end : goal.slice_bounds-words-end
slice_bounds-words-end c = (lies (goal.at.slice_bounds-words-end c).After-line).2

pub slice_bounds-words-end-2 : goal.slice_bounds-words-end-2
slice_bounds-words-end-2 c = sym (length-take-le _ _ (lies (goal.at.slice_bounds-words-end-2 c).After-line).2)

pub overflow_sub-used : goal.overflow_sub-used
overflow_sub-used c = omega (arith, used-within _ _ c.in_ok-used.ensures.answer)
