-- `louds::rank::ones_by_byte` meets its contract: each of its three sums has in a byte the ones of twice as many bytes, and none runs over. Assumes nothing.
use Rattle.std.proofs.Common.{◌≡◌, ℕ, ◌+◌, ◌*◌, ◌%◌, ◌^◌, ◌∙◌, arith, lit<}
use Rattle.keymap.specs.Limits.{word_bits}
use Rattle.louds.proofs.Laws.Fields.{joined}
use Rattle.louds.proofs.Laws.ByteRanks.{window, windows-start, windows-lt, windows-all, prefix-sums}
use Rattle.louds.proofs.rank.ones_by_byte.Goals.{After-ones_of_bytes-one}
use Rattle.louds.proofs.rank.ones_by_byte.Goals as goal

-- a sum of bytes, and the same moved up by r bytes
abbrev doubled : ℕ → ℕ → ℕ
doubled r a = a + a * 2 ^ (8 * r) % 2 ^ word_bits

module _ (c : After-ones_of_bytes-one) where
  abbrev x : ℕ
  x = c.args.word

  abbrev a : ℕ
  a = c.ones_of_bytes-one.result

  two : doubled 1 a ≡ joined 8 (window 8 x 2) 8
  two = prefix-sums 8 x 1 7 a (lit< tt) (c.ones_of_bytes-one.ensures ∙ windows-start 8 x 8)

  four : doubled 2 (doubled 1 a) ≡ joined 8 (window 8 x 4) 8
  four = prefix-sums 8 x 2 6 (doubled 1 a) (lit< tt) two

  eight : doubled 4 (doubled 2 (doubled 1 a)) ≡ joined 8 (window 8 x 8) 8
  eight = prefix-sums 8 x 4 4 (doubled 2 (doubled 1 a)) (lit< tt) four

pub overflow_add-two : goal.overflow_add-two
overflow_add-two c = omega (arith, two c, windows-lt 8 (x c) 8 2 (lit< tt))

pub overflow_add-four : goal.overflow_add-four
overflow_add-four c = omega (arith, four c, windows-lt 8 (x c) 8 4 (lit< tt))

pub overflow_add-result : goal.overflow_add-result
overflow_add-result c = omega (arith, eight c, windows-lt 8 (x c) 8 8 (lit< tt))

pub returns : goal.returns
returns c = eight c ∙ windows-all 8 (x c) 8
