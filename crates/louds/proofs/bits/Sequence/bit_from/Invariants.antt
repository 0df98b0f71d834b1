-- `louds::bits::Sequence::bit_from` meets its contract. The invariant: of the k bits sought all but `left` stand before word `w`, whose own are the ones of `x`, as many as `count`. Assumes nothing.
use Rattle.std.proofs.Common.{◌≡◌, ◌-◌, length}
use lib.Count.{ones}
use Rattle.louds.proofs.Laws.Passing.{Passed}
use Rattle.louds.proofs.bits.Sequence.bit_from.Given as goal

abbrev pub invariant-loop-count : goal.invariant-loop-count
invariant-loop-count l = Passed l.self.words.now l.self.len l.v l.from l.k l.w l.x l.left × (l.count ≡ ones l.x)

abbrev pub decreases-loop-count : goal.decreases-loop-count
decreases-loop-count l = length l.self.words.now - l.w
