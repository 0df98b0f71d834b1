-- `louds::bits::Sequence::children` meets its contract: before the k-th zero stand k - 1 zeros, the first zero past it is the next,
-- and the run between them is the laws' (`children-at`). Assumes nothing.
use Rattle.std.specs.Prelude.{Option, Some, unwrap_or}
use Rattle.std.proofs.Common.{◌≡◌, ◌+◌, sym, ◌∙◌, arith, ap, ℕ, ◌-◌}
use Rattle.keymap.specs.Bits.{bit}
use Rattle.keymap.proofs.Laws.Bits.{bit-small}
use Rattle.louds.specs.Rank.{gap}
use Rattle.louds.specs.Select.{zero_at}
use Rattle.louds.proofs.Laws.Rank.{gap-small, ones-zeros}
use Rattle.louds.proofs.Laws.Select.{Stands, rank-kth, kth-next}
use Rattle.louds.proofs.Laws.Nodes.{stops, children-none, children-at}
use Rattle.louds.specs.Nodes.{Run}
use Rattle.louds.proofs.bits.Sequence.children.Goals.{After-unwrap_or-next, In_ok-start}
use Rattle.louds.proofs.bits.Sequence.children.Goals as goal

-- where the k-th zero was found
here : (c : In_ok-start)
    → zero_at (bit c.args.self.words.now) c.args.self.len c.args.k
    ≡ Some c.in_ok-start.field-0
here c = sym c.in_ok-start.ensures

stands : (c : In_ok-start)
    → Stands (gap (bit c.args.self.words.now)) c.args.self.len c.args.k
    c.in_ok-start.field-0
stands c = rank-kth _ (gap-small (bit c.args.self.words.now)) _ _ _ (here c)

-- where the next one is, or the end
next : (c : After-unwrap_or-next)
    → c.unwrap_or-next.result ≡ unwrap_or (zero_at (bit c.args.self.words.now) c.args.self.len (c.args.k + 1)) c.args.self.len
next c =
    let a = c.args in
    let b = bit a.self.words.now in
    let from = c.zero_from.ensures ∙ kth-next (gap b) (gap-small b) a.self.len a.k 1 c.in_ok-start.field-0 (sym c.in_ok-start.ensures) (omega arith) in
    c.unwrap_or-next.ensures ∙ ap (λ (o : Option ℕ). unwrap_or o a.self.len) from

pub returns-in_err-start : goal.returns-in_err-start
returns-in_err-start c =
    c.from_residual.ensures ∙ sym (children-none (bit c.args.self.words.now) c.args.self.len c.args.k (sym c.in_err-start.ensures))

pub overflow_add-start : goal.overflow_add-start
overflow_add-start c = omega (arith, stands (goal.at.overflow_add-start c).In_ok-start)

pub overflow_sub-result : goal.overflow_sub-result
overflow_sub-result c = omega (arith, stands (goal.at.overflow_sub-result c).In_ok-start)

pub overflow_sub-result-2 : goal.overflow_sub-result-2
overflow_sub-result-2 c =
    let ws = c.args.self.words.now in
    omega (arith, stands (goal.at.overflow_sub-result-2 c).In_ok-start, ones-zeros (bit ws) (bit-small ws) c.in_ok-start.field-0)

pub overflow_sub-result-3 : goal.overflow_sub-result-3
overflow_sub-result-3 c =
    let a = c.args in
    let s = stops (bit a.self.words.now) (bit-small a.self.words.now) a.self.len a.k c.in_ok-start.field-0 (here (goal.at.overflow_sub-result-3 c).In_ok-start) in
    omega (arith, s.past, next c)

pub returns : goal.returns
returns c =
    let a = c.args in
    let found = children-at (bit a.self.words.now) (bit-small a.self.words.now) a.self.len a.k c.in_ok-start.field-0 (here (goal.at.returns c).In_ok-start) in
    ap (λ (n : ℕ). Run ((c.in_ok-start.field-0 + 1) - (a.k - 1)) (n - (c.in_ok-start.field-0 + 1))) (next c) ∙ sym found
