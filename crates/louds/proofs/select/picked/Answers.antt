use Rattle.std.specs.Prelude.{Some}
use Rattle.std.proofs.Common.{sym, ap, ◌∙◌, arith}
use Rattle.keymap.specs.Limits.{word_bits}
use Rattle.louds.specs.Digits.{digit}
use Rattle.louds.specs.Select.{kth}
use Rattle.louds.proofs.Laws.Select.{kth-zero}
use Rattle.louds.proofs.Laws.NthOne.{picking-start, picking-none, picking-next, picking-last}
use Rattle.louds.proofs.select.picked.Goals as goal

pub returns-then-j-eq0 : goal.returns-then-j-eq0
returns-then-j-eq0 c = let a = c.args in sym (ap (kth (digit a.word) word_bits) c.if-j-eq0.true ∙ kth-zero (digit a.word) word_bits)

pub loop-rest-init : goal.loop-rest-init
loop-rest-init c = picking-start c.args.word c.args.j c.ranges.word.fits (omega (arith, c.if-j-eq0.false))

pub returns-then-left-eq1 : goal.returns-then-left-eq1
returns-then-left-eq1 c =
    let l = c.loop-rest in
    ap Some c.lowest_one.ensures ∙ picking-last c.args.word c.args.j c.ranges.word.fits l.left l.rest l.invariant c.loop-rest-test.true c.if-left-eq1.true

pub loop-rest-preserved : goal.loop-rest-preserved
loop-rest-preserved c =
    let l = c.loop-rest in
    picking-next c.args.word c.args.j c.ranges.word.fits l.left l.rest l.invariant c.loop-rest-test.true c.if-left-eq1.false

pub returns : goal.returns
returns c =
    let l = c.loop-rest in
    picking-none c.args.word c.args.j c.ranges.word.fits l.left l.rest l.invariant c.loop-rest-test.false
