-- `climbs::spelling::spell` meets its contract. The invariant: the perch knows its one, and what is still to be written is the climb's from there. Assumes nothing.
use mathlib.Core.Path.{◌≡◌}
use Rattle.std.specs.Prelude.{Some}
use Rattle.keymap.specs.Bits.{bit}
use Rattle.climbs.specs.Perches.{perch_at}
use Rattle.climbs.specs.Spelling.{spelled_from, spelled_by}
use Rattle.climbs.proofs.spelling.spell.Given as goal

abbrev pub invariant-loop-place : goal.invariant-loop-place
invariant-loop-place l =
    (l.at ≡ perch_at (bit l.bits.words.now) l.bits.len l.at.node)
    × (spelled_by l.labels (bit l.bits.words.now) l.bits.len l.node l.count l.initial.out ≡ spelled_from l.labels (bit l.bits.words.now) l.bits.len l.place (Some l.at.node) l.out)
