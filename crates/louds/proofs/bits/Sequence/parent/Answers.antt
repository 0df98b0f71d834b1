-- `louds::bits::Sequence::parent` meets its contract: before the m-th one stand m - 1 ones, and the rest are zeros (`parent-at`). Assumes nothing.
use Rattle.std.specs.Prelude.{Some}
use Rattle.std.proofs.Common.{◌≡◌, sym, ◌∙◌, arith}
use Rattle.keymap.specs.Bits.{bit}
use Rattle.keymap.proofs.Laws.Bits.{bit-small}
use Rattle.louds.specs.Select.{one_at}
use Rattle.louds.proofs.Laws.Rank.{ones-zeros}
use Rattle.louds.proofs.Laws.Select.{Stands, rank-kth}
use Rattle.louds.proofs.Laws.Nodes.{parent-at, parent-none}
use Rattle.louds.proofs.bits.Sequence.parent.Goals.{In_ok-p}
use Rattle.louds.proofs.bits.Sequence.parent.Goals as goal

-- where the m-th one was found
here : (c : In_ok-p)
    → one_at (bit c.args.self.words.now) c.args.self.len c.args.m
    ≡ Some c.in_ok-p.p
here c = sym c.in_ok-p.ensures

stands : (c : In_ok-p)
    → Stands (bit c.args.self.words.now) c.args.self.len c.args.m c.in_ok-p.p
stands c = rank-kth _ (bit-small c.args.self.words.now) _ _ _ (here c)

pub overflow_sub-result : goal.overflow_sub-result
overflow_sub-result c = omega (arith, stands (goal.at.overflow_sub-result c).In_ok-p)

pub overflow_sub-result-2 : goal.overflow_sub-result-2
overflow_sub-result-2 c =
    let ws = c.args.self.words.now in
    omega (arith, stands (goal.at.overflow_sub-result-2 c).In_ok-p, ones-zeros (bit ws) (bit-small ws) c.in_ok-p.p)

pub returns : goal.returns
returns c =
    let a = c.args in
    sym (parent-at (bit a.self.words.now) (bit-small a.self.words.now) a.self.len a.m c.in_ok-p.p (here (goal.at.returns c).In_ok-p))

pub returns-in_err-p : goal.returns-in_err-p
returns-in_err-p c =
    c.from_residual.ensures ∙ sym (parent-none (bit c.args.self.words.now) c.args.self.len c.args.m (sym c.in_err-p.ensures))
