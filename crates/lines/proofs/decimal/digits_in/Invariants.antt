-- `lines::decimal::digits_in` meets its contract. The invariant of its loop: no more than so many digits have been read as the index says,
-- all bytes are digits if those from there on are, and what they stand for is what those stand for behind `value`. Assumes nothing.
use mathlib.Core.Path.{◌≡◌}
use Prim.Native.Nat.{◌^◌, ◌<◌}
use lib.ListN.{drop}
use Rattle.lines.specs.Decimal.{are_digits, value_after}
use Rattle.lines.proofs.decimal.digits_in.Given as goal

abbrev pub invariant-loop-b : goal.invariant-loop-b
invariant-loop-b l = record {
  few : l.value < 10 ^ l.b-index;
  digits : are_digits l.text ≡ are_digits (drop l.b-index l.text);
  stands : value_after 0 l.text ≡ value_after l.value (drop l.b-index l.text);
}
