-- `worked_lines::main` is safe: each array is lent as the slice that it is. The length of the room is told by a lemma: it
-- is too long to be counted out. Assumes nothing.
use Rattle.std.proofs.Common.{ℕ, sym}
use Rattle.std.proofs.lemmas.List.{length-replicate}
use Rattle.worked_lines.proofs.main.Goals as goal

pub slice_bounds-read_lists-end-3 : goal.slice_bounds-read_lists-end-3
slice_bounds-read_lists-end-3 c = sym (length-replicate {A = ℕ} 655360 0)

pub slice_bounds-room-end : goal.slice_bounds-room-end
slice_bounds-room-end c = c.read_lists-n.ensures.0

pub slice_bounds-replay-end : goal.slice_bounds-replay-end
slice_bounds-replay-end c = c.read_lists-n.ensures.1
