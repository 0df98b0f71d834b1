-- `walks::siblings::child_among` meets its contract. The invariant: what is answered is what those from `at` on answer. Assumes nothing.
use mathlib.Core.Path.{◌≡◌}
use Prim.Native.Nat.{◌+◌, ◌-◌, ◌≤◌}
use Rattle.walks.specs.Rule.{lowest_by}
use Rattle.walks.proofs.siblings.child_among.Given as goal

abbrev pub invariant-loop-at : goal.invariant-loop-at
invariant-loop-at l = (l.node ≤ l.at) × (1 ≤ l.at) × (lowest_by l.labels l.node (l.to - l.from) (l.from + 1) l.label ≡ lowest_by l.labels l.node (l.at-end - l.at) (l.at + 1) l.label)
