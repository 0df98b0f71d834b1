-- `descents::queries::walk` meets its contract: the stand where the walk ended, looked for if whole words left it open. Assumes nothing.
use Rattle.std.specs.Prelude.{Some}
use mathlib.Core.Path.{sym, ap, ◌∙◌}
use native.Mathlib.Omega.{arith}
use lib.ListN.{length}
use Rattle.keymap.specs.Bits.{bit}
use Rattle.descents.specs.declared.queries.Ended.{Ended}
use Rattle.descents.specs.Far.{stand_near, ended_at}
use Rattle.walks.proofs.Laws.Stands.{down_along-over}
use Rattle.descents.proofs.queries.walk.Goals as goal

pub returns-in-Near : goal.returns-in-Near
returns-in-Near c =
    let a = c.args in
    let b = bit a.bits.words.now in
    let n = c.in-Near in
    c.go_on.ensures
    ∙ down_along-over a.labels.now b a.bits.len a.query.now (length a.query.now) (Some (stand_near b a.bits.len n.node n.kept n.left)) (omega arith)
    ∙ ap (λ (r : Ended). ended_at b a.bits.len (Some r)) (sym n.is)
    ∙ c.in_ok-node.ensures
