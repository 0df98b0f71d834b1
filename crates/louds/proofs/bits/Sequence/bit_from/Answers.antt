use Rattle.std.proofs.Common.{◌≡◌, ◌+◌, ◌-◌, ◌<◌, sym, ap, ◌∙◌, arith}
use lib.Count.{ones}
use Rattle.keymap.specs.Bits.{bit}
use Rattle.louds.specs.Select.{kth, onward, marks}
use Rattle.louds.proofs.Laws.Select.{kth-zero}
use Rattle.louds.proofs.Laws.Passing.{passed_first, passed-next, passed-short, passed-out, passed-at, passed-past, nothing-behind, zeros-beyond}
use Rattle.louds.proofs.bits.Sequence.bit_from.Goals.{In-loop-count, then-k-eq0-via-then-k-eq0, then-k-eq0-via-else-k-eq0+then-self-from}
use Rattle.louds.proofs.bits.Sequence.bit_from.Goals as goal

pub returns-then-k-eq0 : goal.returns-then-k-eq0
returns-then-k-eq0 c =
    let a = c.args in
    elim c.then-k-eq0.branch [
      | then-k-eq0-via-then-k-eq0 w ↦ let m = onward a.from (marks (bit a.self.words.now) a.v) in sym (ap (kth m a.self.len) w.if-k-eq0.true ∙ kth-zero m a.self.len)
      | then-k-eq0-via-else-k-eq0+then-self-from w ↦ nothing-behind a.self.words.now a.self.len a.v a.from a.k w.if-self-from.true
    ]

pub returns-then-self-w : goal.returns-then-self-w
returns-then-self-w c =
    let a = c.args in
    c.among_zeros.ensures ∙ zeros-beyond a.self.words.now a.self.len a.v a.from a.k c.if-self-w.true

pub loop-count-init : goal.loop-count-init
loop-count-init c =
    let a = c.args in (
      passed_first a.self.words.now a.self.len a.v a.from a.k c.marks_in.result c.if-self-from.false (omega (arith, c.if-k-eq0.false)) c.marks_in.ensures,
      c.ones_in-count.ensures,
    )

-- of a word that has too few, the ones are taken from what is left
module _ (c : In-loop-count) where
  some : 0 < c.loop-count.left - c.loop-count.count
  some = omega (arith, c.loop-count-test.true)

  fewer : c.loop-count.left - c.loop-count.count + ones c.loop-count.x ≡ c.loop-count.left
  fewer = omega (arith, c.loop-count.invariant.1, c.loop-count-test.true)

pub returns-then-self-w-2 : goal.returns-then-self-w-2
returns-then-self-w-2 c =
    let a = c.args in
    let l = c.loop-count in
    passed-short a.self.words.now a.self.len a.v a.from a.k l.w l.x l.left l.invariant.0 c.if-self-w-2.true (omega (arith, l.invariant.1, c.loop-count-test.true))

pub returns-then-self-w-3 : goal.returns-then-self-w-3
returns-then-self-w-3 c =
    let a = c.args in
    let l = c.loop-count in
    c.among_zeros-then-self-w-3.ensures ∙ passed-out a.self.words.now a.self.len a.v a.from a.k l.w l.x l.left l.invariant.0 (l.left - l.count) c.if-self-w-3.true (some (goal.at.returns-then-self-w-3 c).In-loop-count) (fewer (goal.at.returns-then-self-w-3 c).In-loop-count)

pub loop-count-preserved : goal.loop-count-preserved
loop-count-preserved c =
    let a = c.args in
    let l = c.loop-count in (
      passed-next a.self.words.now a.self.len a.v a.from a.k l.w l.x l.left l.invariant.0 c.marks_in-x.result (l.left - l.count) c.if-self-w-2.false (some (goal.at.loop-count-preserved c).In-loop-count) (fewer (goal.at.loop-count-preserved c).In-loop-count) c.marks_in-x.ensures,
      c.ones_in-count-in-loop-count.ensures,
    )

pub returns-then-p-self : goal.returns-then-p-self
returns-then-p-self c =
    let a = c.args in
    let l = c.loop-count in
    passed-at a.self.words.now a.self.len a.v a.from a.k l.w l.x l.left l.invariant.0 c.nth_one-p.result c.nth_one-p.ensures (omega (arith, c.if-p-self.true))

pub returns-else-p-self : goal.returns-else-p-self
returns-else-p-self c =
    let a = c.args in
    let l = c.loop-count in
    passed-past a.self.words.now a.self.len a.v a.from a.k l.w l.x l.left l.invariant.0 c.nth_one-p.result c.nth_one-p.ensures (λ h. omega (arith, h, c.if-p-self.false))
