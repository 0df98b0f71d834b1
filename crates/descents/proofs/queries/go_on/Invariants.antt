-- `descents::queries::go_on` meets its contract. The invariant: what is left of the query, from the stand, ends where the whole of it does. Assumes nothing.
use Rattle.std.specs.Prelude.{Some}
use mathlib.Core.Path.{◌≡◌}
use lib.ListN.{drop}
use Rattle.keymap.specs.Bits.{bit}
use Rattle.walks.specs.Stands.{down_along}
use Rattle.descents.specs.Far.{stand_near}
use Rattle.descents.proofs.queries.go_on.Given as goal

abbrev pub invariant-loop-j : goal.invariant-loop-j
invariant-loop-j l =
    down_along l.labels (bit l.bits.words.now) l.bits.len (drop l.steps l.query) (Some (stand_near (bit l.bits.words.now) l.bits.len l.node l.kept l.left))
    ≡ down_along l.labels (bit l.bits.words.now) l.bits.len (drop l.j l.query) (Some l.s)
