use mathlib.Core.Path.{◌≡◌, sym, ◌∙◌}
use Prim.Native.Nat.{◌+◌}
use native.Mathlib.Omega.{arith}
use borrow.Author.Tests.{lt-ltb, le-ltb}
use Rattle.image.specs.AcceptTest.{labels_rise}
use Rattle.image.specs.WordTest.{all_below}
use Rattle.image.proofs.Laws.AcceptTest.{labels_rise-is}
use Rattle.image.proofs.Laws.AllBelow.{all-zero, all-next, all-stop, and-made}
use Rattle.image.proofs.word_test.labels_rise.Goals as goal

pub loop-j-init : goal.loop-j-init
loop-j-init c = let a = c.args in all-zero (λ i. labels_rise a.labels.now (a.e + i))

pub returns-then-labels-i : goal.returns-then-labels-i
returns-then-labels-i c =
    let a = c.args in
    let l = c.loop-j in
    sym (all-stop (λ i. labels_rise a.labels.now (a.e + i)) a.count l.j c.loop-j-test.true
    (labels_rise-is a.labels.now (a.e + l.j) ∙ le-ltb _ _ c.if-labels-i.true))

pub loop-j-preserved : goal.loop-j-preserved
loop-j-preserved c =
    let a = c.args in
    let l = c.loop-j in
    all-next (λ i. labels_rise a.labels.now (a.e + i)) l.j
    ∙ and-made (all_below (λ i. labels_rise a.labels.now (a.e + i)) l.j) (labels_rise a.labels.now (a.e + l.j)) l.invariant
    (labels_rise-is a.labels.now (a.e + l.j) ∙ lt-ltb _ _ c.if-labels-i.false)

pub returns : goal.returns
returns c =
    let a = c.args in
    let l = c.loop-j in
    let done : a.count ≡ l.j = omega arith in
    sym (rw done l.invariant)
