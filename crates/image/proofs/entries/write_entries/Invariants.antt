-- `image::entries::write_entries` meets its contract. The invariant: the first j entries are written over the front of each buffer. Assumes nothing.
use mathlib.Core.Path.{◌≡◌}
use mathlib.Core.List.{map}
use lib.ListN.{length, take}
use Rattle.records.specs.Words.{entry, value}
use Rattle.keymap.specs.Buffers.{over}
use Rattle.image.proofs.entries.write_entries.Given as goal

abbrev pub invariant-loop-j : goal.invariant-loop-j
invariant-loop-j l = (length l.labels ≡ length l.initial.labels) × (length l.values ≡ length l.initial.values) × (l.labels ≡ over (map (entry l.pool) (take l.j l.order)) l.initial.labels) × (l.values ≡ over (map (value l.pool) (take l.j l.order)) l.initial.values)
