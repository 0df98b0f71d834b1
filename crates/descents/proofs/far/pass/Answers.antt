use native.Mathlib.Omega.{arith}
use mathlib.Core.Path.{refl}
use Rattle.descents.proofs.Laws.Far.{one-passed, one-found}
use Rattle.descents.proofs.far.pass.Goals as goal

pub returns-then-left-zeros : goal.returns-then-left-zeros
returns-then-left-zeros c =
    let a = c.args in
    let l = c.loop-w in
    one-found a.words.now (λ i. (c.type_inv.words i).fits) a.whole a.first a.k l.w l.left c.ones_by_byte-sums.result _ l.invariant c.ones_by_byte-sums.ensures refl (omega (arith, c.min-w-end.ensures, c.loop-w-test.true)) c.if-left-zeros.true

pub loop-w-preserved : goal.loop-w-preserved
loop-w-preserved c =
    let a = c.args in
    let l = c.loop-w in
    one-passed a.words.now (λ i. (c.type_inv.words i).fits) a.whole a.first a.k l.w l.left c.ones_by_byte-sums.result _ l.invariant c.ones_by_byte-sums.ensures refl c.if-left-zeros.false
