-- `louds::select::among_zeros` meets its contract: where all bits are zeros the k-th stands k - 1 places on. Assumes nothing.
use Rattle.std.proofs.Common.{sym, ap, ◌∙◌, arith}
use Rattle.louds.specs.Select.{kth, onward, marks}
use Rattle.louds.proofs.Laws.Select.{kth-zero}
use Rattle.louds.proofs.Laws.Passing.{zeros-at, zeros-short, no-zeros}
use Rattle.louds.proofs.select.among_zeros.Goals.{then-v-ne0-via-then-v-ne0, then-v-ne0-via-else-v-ne0+then-k-eq0, then-v-ne0-via-else-v-ne0+else-k-eq0+then-len-from, then-v-ne0-via-else-v-ne0+else-k-eq0+else-len-from+then-len-from-2}
use Rattle.louds.proofs.select.among_zeros.Goals as goal

pub returns-then-v-ne0 : goal.returns-then-v-ne0
returns-then-v-ne0 c =
    let a = c.args in
    elim c.then-v-ne0.branch [
      | then-v-ne0-via-then-v-ne0 w ↦ no-zeros a.len a.v a.from a.k w.if-v-ne0.true
      | then-v-ne0-via-else-v-ne0+then-k-eq0 w ↦ let m = onward a.from (marks (λ i. 0) a.v) in sym (ap (kth m a.len) w.if-k-eq0.true ∙ kth-zero m a.len)
      | then-v-ne0-via-else-v-ne0+else-k-eq0+then-len-from w ↦ zeros-short a.len a.v a.from a.k (omega (arith, w.if-v-ne0.false)) (omega arith) (omega arith)
      | then-v-ne0-via-else-v-ne0+else-k-eq0+else-len-from+then-len-from-2 w ↦ zeros-short a.len a.v a.from a.k (omega (arith, w.if-v-ne0.false)) (omega arith) (omega arith)
    ]

pub returns : goal.returns
returns c = let a = c.args in zeros-at a.len a.v a.from a.k (omega (arith, c.if-v-ne0.false)) (omega (arith, c.if-k-eq0.false)) (omega (arith, c.if-len-from-2.false))
