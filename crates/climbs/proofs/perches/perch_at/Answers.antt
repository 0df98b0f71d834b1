-- `climbs::perches::perch_at` meets its contract: the parent's number is the count of zeros before the node's one, so the sum is the one's place. Assumes nothing.
use mathlib.Core.Path.{sym, ◌∙◌}
use native.Mathlib.Omega.{arith}
use Rattle.keymap.specs.Bits.{bit}
use Rattle.keymap.proofs.Laws.Bits.{bit-small}
use Rattle.climbs.proofs.Laws.Perches.{UpTold, perch-lost, perch-up}
use Rattle.climbs.proofs.perches.perch_at.Goals.{In-Some}
use Rattle.climbs.proofs.perches.perch_at.Goals as goal

pub returns-in_default : goal.returns-in_default
returns-in_default c =
    let a = c.args in
    sym (perch-lost (bit a.bits.words.now) (bit-small a.bits.words.now) a.bits.len a.node (sym c.parent.ensures ∙ c.in_default.is))

-- what the answer tells of the node's one
up-told : (c : In-Some)
    → UpTold (bit c.args.bits.words.now) (bit-small c.args.bits.words.now) c.args.bits.len
    c.args.node
    c.in-Some.up
up-told c = perch-up _ _ _ _ _ (sym c.parent.ensures ∙ c.in-Some.is)

pub overflow_sub-result : goal.overflow_sub-result
overflow_sub-result c = (up-told c).node

pub overflow_add-result : goal.overflow_add-result
overflow_add-result c = omega (arith, (up-told c).inside)

pub returns : goal.returns
returns c = sym (up-told c).perch
