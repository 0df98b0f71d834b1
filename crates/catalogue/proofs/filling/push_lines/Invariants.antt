-- `catalogue::filling::push_lines` meets its contract: what is said of the lines from `at` on, pushed into the pool as it stands, is what is said of all. Assumes nothing.
use Prim.Native.Nat.{◌+◌, ◌-◌, ◌≤◌}
use mathlib.Core.Path.{◌≡◌}
use lib.ListN.{length, drop}
use Rattle.lines.specs.Text.{lines_of}
use Rattle.catalogue.specs.Filling.{fill_from, left_from}
use Rattle.catalogue.proofs.filling.push_lines.Given as goal

abbrev pub invariant-loop-end : goal.invariant-loop-end
invariant-loop-end l = record {
  numbered : l.line ≤ l.at + 1;
  size : length l.pool ≡ length l.initial.pool;
  says : fill_from 1 l.initial.pool (lines_of l.text) ≡ fill_from l.line l.pool (lines_of (drop l.at l.text));
  leaves : left_from l.initial.pool (lines_of l.text) ≡ left_from l.pool (lines_of (drop l.at l.text));
}

abbrev pub decreases-loop-end : goal.decreases-loop-end
decreases-loop-end l = length l.text - l.at
