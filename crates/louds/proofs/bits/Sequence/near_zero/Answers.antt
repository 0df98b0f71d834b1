-- `louds::bits::Sequence::near_zero` meets its contract: the word of the place has the k-th zero, or too few, or the k-th stands behind the length. Assumes nothing.
use Rattle.std.proofs.Common.{ℕ, ◌+◌, ◌*◌, ◌/◌, min, sym, ap, ◌∙◌, arith}
use Rattle.keymap.specs.Limits.{word_bits}
use Rattle.keymap.specs.Bits.{bit}
use Rattle.louds.specs.Select.{kth, onward}
use Rattle.louds.proofs.Laws.Select.{marks-zero}
use Rattle.louds.proofs.Laws.Passing.{near_none, near-inside, near-at, near-past}
use Rattle.louds.proofs.bits.Sequence.near_zero.Goals as goal

pub returns-in_err-near : goal.returns-in_err-near
returns-in_err-near c =
    let a = c.args in
    c.from_residual.ensures
    ∙ near_none a.self.words.now a.self.len 0 a.from a.k c.marks_in.result c.marks_in.ensures c.in_err-near.ensures
    ∙ ap (λ (m : ℕ → ℕ). kth (onward a.from m) (min a.self.len ((a.from / word_bits + 1) * word_bits)) a.k) (marks-zero (bit a.self.words.now))

pub overflow_add-p : goal.overflow_add-p
overflow_add-p c =
    let a = c.args in
    omega (arith, near-inside a.self.words.now a.self.len 0 a.from a.k c.marks_in.result c.marks_in.ensures c.in_ok-near.near (sym c.in_ok-near.ensures))

pub returns-then-p-self : goal.returns-then-p-self
returns-then-p-self c =
    let a = c.args in
    near-at a.self.words.now a.self.len 0 a.from a.k c.marks_in.result c.marks_in.ensures c.in_ok-near.near (sym c.in_ok-near.ensures) c.if-p-self.true
    ∙ ap (λ (m : ℕ → ℕ). kth (onward a.from m) (min a.self.len ((a.from / word_bits + 1) * word_bits)) a.k) (marks-zero (bit a.self.words.now))

pub returns-else-p-self : goal.returns-else-p-self
returns-else-p-self c =
    let a = c.args in
    near-past a.self.words.now a.self.len 0 a.from a.k c.marks_in.result c.marks_in.ensures c.in_ok-near.near (sym c.in_ok-near.ensures) (λ h. omega (arith, h, c.if-p-self.false))
    ∙ ap (λ (m : ℕ → ℕ). kth (onward a.from m) (min a.self.len ((a.from / word_bits + 1) * word_bits)) a.k) (marks-zero (bit a.self.words.now))
