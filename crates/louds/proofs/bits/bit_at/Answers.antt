-- `louds::bits::bit_at` meets its contract: what it computes is `bit`, by definition. Assumes nothing.
use Rattle.std.proofs.Common.{ℕ, ◌/◌, ◌%◌, ◌^◌, ap}
use Rattle.keymap.specs.Bits.{bit}
use Rattle.louds.proofs.bits.bit_at.Goals as goal

pub returns : goal.returns
unfolding bit
returns c = ap (λ (x : ℕ). x / 2 ^ (c.args.i % 64) % 2) c.word_at-word.ensures
