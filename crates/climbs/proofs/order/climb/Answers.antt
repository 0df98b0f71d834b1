use mathlib.Core.Path.{sym, ◌∙◌}
use native.Mathlib.Omega.{arith}
use Rattle.keymap.specs.Bits.{bit}
use Rattle.climbs.proofs.Laws.Moves.{rise-lower, climb_from-top, climb_from-beside, climb_from-lost, climb_from-up}
use Rattle.climbs.proofs.order.climb.Goals as goal

pub returns-in-Some : goal.returns-in-Some
returns-in-Some c =
    let a = c.args in
    let l = c.loop-at in
    sym (l.invariant ∙ climb_from-beside (bit a.bits.words.now) a.bits.len a.last a.top l.at (omega arith) _ (sym c.beside.ensures ∙ c.in-Some.is))

pub returns-in_err-at : goal.returns-in_err-at
returns-in_err-at c =
    let a = c.args in
    let l = c.loop-at in
    c.from_residual.ensures
    ∙ sym
    (l.invariant
    ∙ climb_from-lost (bit a.bits.words.now) a.bits.len a.last a.top l.at (omega arith) (sym c.beside.ensures ∙ c.in_default.is)
    (sym c.parent_of.ensures ∙ c.in_err-at.was))

pub loop-at-smaller : goal.loop-at-smaller
loop-at-smaller c =
    let a = c.args in
    let l = c.loop-at in
    rise-lower (bit a.bits.words.now) a.bits.len l.at _ (sym c.parent_of.ensures ∙ c.in_ok-at.was)

pub loop-at-preserved : goal.loop-at-preserved
loop-at-preserved c =
    let a = c.args in
    let l = c.loop-at in
    l.invariant
    ∙ climb_from-up (bit a.bits.words.now) a.bits.len a.last a.top l.at (omega arith) (sym c.beside.ensures ∙ c.in_default.is) _
    (sym c.parent_of.ensures ∙ c.in_ok-at.was)

pub returns : goal.returns
returns c =
    let a = c.args in
    let l = c.loop-at in
    sym (l.invariant ∙ climb_from-top (bit a.bits.words.now) a.bits.len a.last a.top l.at (omega arith))
