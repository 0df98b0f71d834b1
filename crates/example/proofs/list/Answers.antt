-- `example::list` is safe and ends: each turn counts on, and a key that was written lies within the buffer. Assumes nothing.
use Rattle.std.proofs.Common.{sym, arith}
use lib.Seq.{length-take-le}
use Rattle.example.proofs.Within.{key-within}
use Rattle.example.proofs.list.Goals as goal

pub slice_bounds-key-end : goal.slice_bounds-key-end
slice_bounds-key-end g c =
    omega (arith, key-within _ _ _ _ c.in_ok-length.ensures.answer, c.cursor_key.auto.out)

pub slice_bounds-line-end : goal.slice_bounds-line-end
slice_bounds-line-end g c =
    sym
    (length-take-le _ _ (omega (arith, key-within _ _ _ _ c.in_ok-length.ensures.answer, c.cursor_key.auto.out)))
