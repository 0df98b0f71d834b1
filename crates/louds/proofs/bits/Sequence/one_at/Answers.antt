-- `louds::bits::Sequence::one_at` meets its contract: the bits that equal 1 mark the ones, and from place 0 on are all of them. Assumes nothing.
use Rattle.std.proofs.Common.{ℕ, ap, ◌∙◌}
use Rattle.keymap.specs.Bits.{bit}
use Rattle.louds.specs.Select.{kth, onward}
use Rattle.louds.proofs.Laws.Select.{kth-start, marks-one}
use Rattle.louds.proofs.bits.Sequence.one_at.Goals as goal

pub returns : goal.returns
returns c =
    let a = c.args in
    let b = bit a.self.words.now in
    c.bit_from.ensures ∙ ap (λ (m : ℕ → ℕ). kth (onward 0 m) a.self.len a.m) (marks-one b) ∙ kth-start b a.self.len a.m
