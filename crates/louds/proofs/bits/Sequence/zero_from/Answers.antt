-- `louds::bits::Sequence::zero_from` meets its contract: one found in the first word is the answer; else the bits that equal 0 mark the zeros. Assumes nothing.
use Rattle.std.proofs.Common.{ℕ, ◌+◌, ◌*◌, ◌/◌, min, sym, ap, ◌∙◌}
use native.Mathlib.Nat.{min-le_left}
use Rattle.keymap.specs.Limits.{word_bits}
use Rattle.keymap.specs.Bits.{bit}
use Rattle.louds.specs.Rank.{gap}
use Rattle.louds.specs.Select.{kth, onward}
use Rattle.louds.proofs.Laws.Select.{marks-zero, kth-longer}
use Rattle.louds.proofs.bits.Sequence.zero_from.Goals as goal

pub returns-in-Some : goal.returns-in-Some
returns-in-Some c =
    let a = c.args in
    let b = bit a.self.words.now in
    let all = (a.from / word_bits + 1) * word_bits in
    sym (kth-longer (onward a.from (gap b)) (min a.self.len all) a.self.len a.k c.in-Some.p (min-le_left a.self.len all) (sym c.near_zero.ensures ∙ c.in-Some.is))

pub returns : goal.returns
returns c =
    let a = c.args in
    c.bit_from.ensures ∙ ap (λ (m : ℕ → ℕ). kth (onward a.from m) a.self.len a.k) (marks-zero (bit a.self.words.now))
