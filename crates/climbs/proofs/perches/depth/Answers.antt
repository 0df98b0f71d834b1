use native.Mathlib.Omega.{arith}
use Rattle.keymap.specs.Bits.{bit}
use Rattle.keymap.proofs.Laws.Bits.{bit-small}
use Rattle.climbs.proofs.Laws.Perches.{depth-root, depth-next, RiseTold, rise-to, rise-lost}
use Rattle.climbs.proofs.perches.depth.Goals.{In-Some}
use Rattle.climbs.proofs.perches.depth.Goals as goal

pub returns : goal.returns
returns c =
    let a = c.args in
    let l = c.loop-up in
    let b = bit a.bits.words.now in
    let top = rise-lost b (bit-small a.bits.words.now) a.bits.len l.at l.invariant.0 _ c.parent_of.ensures c.in_default.is in
    omega (arith, l.invariant.2, depth-root b a.bits.len l.at.node top)

-- where the step led
there : (c : In-Some)
    → RiseTold (bit c.args.bits.words.now) c.args.bits.len
    c.loop-up.at.node
    c.in-Some.up
there c =
    let a = c.args in
    let l = c.loop-up in
    rise-to (bit a.bits.words.now) (bit-small a.bits.words.now) a.bits.len l.at l.invariant.0 _ c.parent_of.ensures _ c.in-Some.is

pub overflow_add-count : goal.overflow_add-count
overflow_add-count c = omega (arith, c.loop-up.invariant.1, (there c).lower)

pub loop-up-smaller : goal.loop-up-smaller
loop-up-smaller c = (there c).lower

pub loop-up-preserved : goal.loop-up-preserved
loop-up-preserved c =
    let a = c.args in
    let l = c.loop-up in
    let next = depth-next (bit a.bits.words.now) a.bits.len l.at.node _ (there c).node in
    ((there c).knows, omega (arith, l.invariant.1, (there c).lower), omega (arith, l.invariant.2, next))
