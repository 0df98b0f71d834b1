-- `lines::decimal::put_decimal` meets its contract. The invariant of its loop: with the last digits of `rest`, as many as are left to be put, before what stands behind them, the buffer is what it is to become.
-- Assumes nothing.
use mathlib.Core.Path.{◌≡◌}
use mathlib.Core.List.{◌++◌}
use lib.ListN.{length, drop}
use Rattle.lines.proofs.Laws.Decimal.{final_digits}
use Rattle.lines.proofs.decimal.put_decimal.Given as goal

abbrev pub invariant-loop-i : goal.invariant-loop-i
invariant-loop-i l =
    (length l.out ≡ length l.initial.out) × (final_digits l.i l.rest ++ drop l.i l.out ≡ final_digits l.count l.number ++ drop l.count l.initial.out)
