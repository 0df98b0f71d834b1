use mathlib.Core.Path.{◌≡◌, sym, ◌∙◌}
use native.Mathlib.Omega.{arith}
use lib.ListN.{length}
use Rattle.pool.proofs.Laws.Path.{reach-of-start, reach-end, reach-none, reach_step}
use Rattle.pool.proofs.path.reach_of.Goals as goal

pub loop-depth-init : goal.loop-depth-init
loop-depth-init c = reach-of-start _ _

pub returns-in_default : goal.returns-in_default
returns-in_default c =
    let e = rw c.from.ensures at c.child_at.ensures in
    sym (c.loop-depth.invariant ∙ reach-none _ _ _ _ c.loop-depth-test.true (sym e ∙ c.in_default.is))

pub loop-depth-preserved : goal.loop-depth-preserved
loop-depth-preserved c =
    let e = rw c.from.ensures at c.child_at.ensures in
    c.loop-depth.invariant ∙ reach_step _ _ _ _ _ c.loop-depth-test.true (sym e ∙ c.in-Some.is)

pub returns : goal.returns
returns c =
    let z : length c.args.key.now ≡ c.loop-depth.depth = omega arith in
    rw z (sym (c.loop-depth.invariant ∙ reach-end _ _ _ _ c.loop-depth-test.false))
