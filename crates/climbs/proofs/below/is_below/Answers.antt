use mathlib.Core.Path.{sym, ◌∙◌}
use native.Mathlib.Omega.{arith}
use Rattle.keymap.specs.Bits.{bit}
use Rattle.keymap.proofs.Laws.Bits.{bit-small}
use Rattle.climbs.proofs.Laws.Perches.{RiseTold, rise-to, rise-lost}
use Rattle.climbs.proofs.Laws.Below.{below_by-here, below_by-lost, below_by-up}
use Rattle.climbs.proofs.below.is_below.Goals.{In-Some}
use Rattle.climbs.proofs.below.is_below.Goals as goal

pub returns-in_default : goal.returns-in_default
returns-in_default c =
    let a = c.args in
    let l = c.loop-at in
    let b = bit a.bits.words.now in
    let top = rise-lost b (bit-small a.bits.words.now) a.bits.len l.at l.invariant.0 _ c.parent_of.ensures c.in_default.is in
    sym (l.invariant.1 ∙ below_by-lost b a.bits.len a.top l.at.node (omega arith) top)

-- where the step led
there : (c : In-Some)
    →
    let a = c.args in
    RiseTold (bit a.bits.words.now) a.bits.len c.loop-at.at.node c.in-Some.up
there c =
    let a = c.args in
    let l = c.loop-at in
    rise-to (bit a.bits.words.now) (bit-small a.bits.words.now) a.bits.len l.at l.invariant.0 _ c.parent_of.ensures _ c.in-Some.is

pub loop-at-smaller : goal.loop-at-smaller
loop-at-smaller c = (there c).lower

pub loop-at-preserved : goal.loop-at-preserved
loop-at-preserved c =
    let a = c.args in
    let l = c.loop-at in
    ((there c).knows, l.invariant.1 ∙ below_by-up (bit a.bits.words.now) a.bits.len a.top l.at.node _ (omega arith) (there c).node)

pub returns : goal.returns
returns c =
    let a = c.args in
    let l = c.loop-at in
    sym (l.invariant.1 ∙ below_by-here (bit a.bits.words.now) a.bits.len a.top l.at.node (omega arith))
