-- `louds::select::one_back` meets its contract. The invariant: `w` words are left, `seen` ones are counted of those passed, fewer than k, and of the next word the bits of `kept` stand before the place.
-- Assumes nothing.
use Rattle.louds.proofs.Laws.Descending.{Descended}
use Rattle.louds.proofs.select.one_back.Given as goal

abbrev pub invariant-loop-w : goal.invariant-loop-w
invariant-loop-w l = Descended l.words l.from l.k l.w l.kept l.seen
