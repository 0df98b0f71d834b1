-- `pool::path::enter` meets its contract: the record taken is the next one, and the steps are those of `entered`. Assumes nothing.
use Prim.Native.Nat.{◌+◌}
use mathlib.Core.Path.{◌≡◌, ◌∙◌}
use native.Mathlib.Omega.{arith}
use Rattle.records.specs.Words.{next_record}
use Rattle.records.proofs.Laws.Words.{next_last}
use Rattle.pool.proofs.Laws.Entering.{next-inside, prev-inside, node-inside, enter-steps}
use Rattle.pool.proofs.path.enter.Goals as goal

pub fill-requires : goal.fill-requires
fill-requires c =
    omega (arith, c.last_record-m.ensures, next_last c.args.pool.now, next-inside _ _ _ c.requires)

pub link-requires : goal.link-requires
link-requires c =
    let k = c.requires in
    (omega (arith, c.fill.auto, node-inside _ _ _ k.sound k.node), omega (arith, c.fill.auto, prev-inside _ _ _ k _ c.slot_of-slot.ensures))

pub shape_of-pool : goal.shape_of-pool
shape_of-pool c = c.take.auto.pool ∙ c.link.auto.pool ∙ c.fill.auto.pool

pub returns : goal.returns
returns c =
    let m : c.last_record-m.result + 1 ≡ next_record c.args.pool.now = omega (arith, c.last_record-m.ensures, next_last c.args.pool.now) in
    (m, enter-steps _ _ _ _ _ m c.slot_of-slot.ensures _ _ _ c.fill.ensures c.link.ensures c.take.ensures)
