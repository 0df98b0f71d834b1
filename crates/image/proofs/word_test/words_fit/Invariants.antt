-- `image::word_test::words_fit` meets its contract. The invariant: `before` and `last` are the ones and the word before word `w`, and the words before fit.
-- Assumes nothing.
use mathlib.Core.Path.{◌≡◌}
use mathlib.Core.Bool.{true}
use Prim.Native.Nat.{◌*◌}
use Rattle.keymap.specs.Bits.{bit}
use Rattle.louds.specs.Rank.{ones_before}
use Rattle.image.specs.WordTest.{all_below, last_before, word_at}
use Rattle.image.proofs.word_test.words_fit.Given as goal

abbrev pub invariant-loop-w : goal.invariant-loop-w
invariant-loop-w l =
    (l.before ≡ ones_before (bit l.words) (l.w * 64)) × (l.last ≡ last_before l.words l.w) × (all_below (word_at l.labels l.words) l.w ≡ true)
