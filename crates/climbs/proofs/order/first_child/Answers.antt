-- `climbs::order::first_child` meets its contract: the node's zero is not before its one, so the child's number stands. Assumes nothing.
use mathlib.Core.Path.{sym, ◌∙◌}
use native.Mathlib.Omega.{arith}
use Rattle.keymap.specs.Bits.{bit}
use Rattle.climbs.proofs.Laws.Moves.{leads-told, zero-ahead}
use Rattle.climbs.proofs.order.first_child.Goals as goal

pub overflow_sub-child : goal.overflow_sub-child
overflow_sub-child c =
    let a = c.args in
    let may = sym c.leads_down.ensures ∙ c.if-not-leads_down.false in
    omega (arith, (leads-told _ _ _ may).upto, zero-ahead (bit a.bits.words.now) a.bits.len a.last a.at may _ (sym c.zero_from.ensures ∙ c.in_ok-zero.was))
