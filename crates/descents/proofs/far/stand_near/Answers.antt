-- `descents::far::stand_near` meets its contract: a word behind the end has no zero, and else it begins inside. Assumes nothing.
use mathlib.Core.Path.{sym}
use native.Mathlib.Omega.{arith}
use Rattle.descents.proofs.Laws.Far.{near-beyond}
use Rattle.descents.proofs.far.stand_near.Goals as goal

pub returns-then-bits-last : goal.returns-then-bits-last
returns-then-bits-last c =
    let a = c.args in
    sym (near-beyond a.bits.words.now a.bits.len a.node a.kept a.left (omega (arith, c.saturating_sub-last.ensures, c.if-bits-last.true)))
