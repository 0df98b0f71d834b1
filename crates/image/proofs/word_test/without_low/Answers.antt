-- `image::word_test::without_low` meets its contract: what is shifted back is no more than the word, and of a word nothing is 64 bits or more up. Assumes nothing.
use mathlib.Core.Path.{sym, ap, ◌∙◌}
use Prim.Native.Nat.{ℕ, ◌*◌, ◌^◌}
use native.Mathlib.Nat.{mod-eq_of_lt, div-eq_of_lt, lt_of_lt_of_le, zero-mul}
use lib.Pow.{pow_mono}
use Rattle.keymap.specs.Limits.{word_bits}
use Rattle.louds.proofs.Laws.Digits.{above_wide}
use Rattle.image.proofs.word_test.without_low.Goals as goal

pub returns-then-s-lt-WORD_BITS : goal.returns-then-s-lt-WORD_BITS
returns-then-s-lt-WORD_BITS c = let a = c.args in mod-eq_of_lt (above_wide a.y a.s c.ranges.y.fits)

pub returns-else-s-lt-WORD_BITS : goal.returns-else-s-lt-WORD_BITS
returns-else-s-lt-WORD_BITS c =
    let a = c.args in
    sym (ap (λ (u : ℕ). u * 2 ^ a.s) (div-eq_of_lt (lt_of_lt_of_le c.ranges.y.fits (pow_mono {i = word_bits} {j = a.s} c.if-s-lt-WORD_BITS.false))) ∙ zero-mul (2 ^ a.s))
