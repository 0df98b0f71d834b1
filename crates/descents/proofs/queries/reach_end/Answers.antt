-- `descents::queries::reach_end` meets its contract: as far as whole words go, and on from there. Assumes nothing.
use Rattle.std.specs.Prelude.{Some}
use mathlib.Core.Path.{sym, ◌∙◌}
use native.Mathlib.Omega.{arith}
use Rattle.keymap.specs.Bits.{bit}
use Rattle.descents.specs.Far.{stand_near}
use Rattle.walks.proofs.Laws.Stands.{down_along-over}
use Rattle.descents.proofs.queries.reach_end.Goals as goal

pub returns-then-query-steps : goal.returns-then-query-steps
returns-then-query-steps c =
    let a = c.args in
    let b = bit a.bits.words.now in
    let g = c.in_ok-node.field-0 in
    sym (down_along-over a.labels.now b a.bits.len a.query.now g.steps (Some (stand_near b a.bits.len g.node g.kept g.left)) (omega (arith, c.if-query-steps.true))) ∙ c.in_ok-node.ensures
