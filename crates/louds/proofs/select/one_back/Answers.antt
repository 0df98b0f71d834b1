use Rattle.std.proofs.Common.{◌+◌, ◌-◌, ◌<◌, get_or, sym, refl, arith}
use lib.Bits.{bit_and}
use Rattle.keymap.specs.Bits.{bit, sum_below}
use Rattle.louds.proofs.Laws.Select.{kth-none}
use Rattle.louds.proofs.Laws.Descending.{descended-first, descended-beyond, descended-none, descended-fits, descended-next, descended-near, descended-at}
use Rattle.louds.proofs.select.one_back.Goals.{then-own-words, else-own-words}
use Rattle.louds.proofs.select.one_back.Goals as goal

pub returns-then-k-eq0 : goal.returns-then-k-eq0
returns-then-k-eq0 c =
    let a = c.args in
    let b = bit a.words.now in
    sym (kth-none b a.from (sum_below b a.from + 1 - a.k) (omega (arith, c.if-k-eq0.true)))

pub loop-w-init : goal.loop-w-init
loop-w-init c =
    let a = c.args in
    let some : 0 < a.k = omega (arith, c.if-k-eq0.false) in
    elim c.if-own-words.branch [
      | then-own-words t ↦ rw t.end-is (descended-first a.words.now a.from a.k some)
      | else-own-words e ↦ rw e.end-is (descended-beyond a.words.now a.from a.k some e.if-own-words.false)
    ]

pub overflow_add-seen : goal.overflow_add-seen
overflow_add-seen c =
    let a = c.args in
    let l = c.loop-w in
    let n = c.ones_in-seen in
    omega (arith, descended-fits a.words.now a.from a.k l.w l.kept l.seen l.invariant (bit_and (get_or a.words.now (l.w - 1) 0) l.kept) n.result (omega arith) refl n.ensures)

pub overflow_add-result : goal.overflow_add-result
overflow_add-result c =
    let a = c.args in
    let l = c.loop-w in
    let n = c.ones_in-seen in
    omega (arith, descended-near a.words.now a.from a.k l.w l.kept l.seen l.invariant (bit_and (get_or a.words.now (l.w - 1) 0) l.kept) n.result (omega arith) refl n.ensures c.nth_one.result c.if-k-seen.true c.nth_one.ensures)

pub returns-then-k-seen : goal.returns-then-k-seen
returns-then-k-seen c =
    let a = c.args in
    let l = c.loop-w in
    let n = c.ones_in-seen in
    descended-at a.words.now a.from a.k l.w l.kept l.seen l.invariant (bit_and (get_or a.words.now (l.w - 1) 0) l.kept) n.result (omega arith) refl n.ensures c.nth_one.result c.if-k-seen.true c.nth_one.ensures

pub loop-w-preserved : goal.loop-w-preserved
loop-w-preserved c =
    let a = c.args in
    let l = c.loop-w in
    let n = c.ones_in-seen in
    descended-next a.words.now a.from a.k l.w l.kept l.seen l.invariant (bit_and (get_or a.words.now (l.w - 1) 0) l.kept) n.result (omega arith) refl n.ensures (omega (arith, c.if-k-seen.false))

pub returns : goal.returns
returns c =
    let a = c.args in
    let l = c.loop-w in
    descended-none a.words.now a.from a.k l.w l.kept l.seen l.invariant (omega arith)
