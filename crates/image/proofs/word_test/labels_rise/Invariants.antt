-- `image::word_test::labels_rise` meets its contract. The invariant: the labels passed rise. Assumes nothing.
use mathlib.Core.Path.{◌≡◌}
use mathlib.Core.Bool.{true}
use Prim.Native.Nat.{◌+◌}
use Rattle.image.specs.AcceptTest.{labels_rise}
use Rattle.image.specs.WordTest.{all_below}
use Rattle.image.proofs.word_test.labels_rise.Given as goal

abbrev pub invariant-loop-j : goal.invariant-loop-j
invariant-loop-j l = all_below (λ i. labels_rise l.labels (l.e + i)) l.j ≡ true
