-- `louds::select::nth_one` meets its contract: few are taken away from the bottom of the word, and of more those of the byte that has the j-th. Assumes nothing.
use Rattle.std.specs.Prelude.{Some}
use Rattle.std.proofs.Common.{◌≡◌, ℕ, ◌+◌, ◌-◌, ◌*◌, ◌/◌, ◌%◌, ◌^◌, ◌<◌, ◌≤◌, sym, ap, ◌∙◌, arith}
use lib.Count.{ones}
use Rattle.keymap.specs.Limits.{word_bits}
use Rattle.louds.specs.Digits.{digit}
use Rattle.louds.specs.Taking.{low_bits, top_bits}
use Rattle.louds.specs.Select.{kth}
use Rattle.louds.proofs.Laws.Select.{kth-told}
use Rattle.louds.proofs.Laws.NthOne.{sums-fit, ByteFound, byte-found, has-kth, byte-has, from_byte-some}
use Rattle.louds.proofs.select.nth_one.Goals.{After-lowest_one-start, After-ones_by_byte-sums, After-picked-2, After-unwrap-2}
use Rattle.louds.proofs.select.nth_one.Goals as goal

pub unwrap-requires : goal.unwrap-requires
unwrap-requires c = rw c.picked.ensures (has-kth c.args.word c.args.j c.ranges.word.fits c.requires.0 c.requires.1)

-- the ranks are compared with j in all bytes at once, and nothing wraps
module _ (c : After-ones_by_byte-sums) where
  fit : (c.ones_by_byte-sums.result + top_bits < 2 ^ word_bits) × (c.args.j * low_bits < 2 ^ word_bits) × (c.args.j * low_bits ≤ c.ones_by_byte-sums.result + top_bits)
  fit = sums-fit c.args.word c.args.j c.ranges.word.fits c.requires.0 c.requires.1 c.ones_by_byte-sums.result c.ones_by_byte-sums.ensures

pub overflow_add-reached : goal.overflow_add-reached
overflow_add-reached c = omega (arith, (fit c).0)

-- the byte that has the j-th one
byte : (c : After-lowest_one-start)
    → ByteFound c.args.word c.args.j c.ones_by_byte-sums.result c.lowest_one-start.result
byte c =
    byte-found c.args.word c.args.j c.ranges.word.fits c.requires.0 c.requires.1 c.ones_by_byte-sums.result c.lowest_one-start.result c.ones_by_byte-sums.ensures c.lowest_one-start.ensures

pub overflow_sub-start : goal.overflow_sub-start
overflow_sub-start c = (byte c).least

pub overflow_sub-j : goal.overflow_sub-j
overflow_sub-j c = omega (arith, (byte c).below, (byte c).fewer)

-- by the byte's own digits
in-byte : (c : After-picked-2) → c.picked-2.result ≡ kth (digit (c.args.word / 2 ^ (c.lowest_one-start.result - 7))) word_bits (c.args.j - ones (c.args.word % 2 ^ (c.lowest_one-start.result - 7)))
in-byte c =
    c.picked-2.ensures ∙ ap (λ (u : ℕ). kth (digit (c.args.word / 2 ^ (c.lowest_one-start.result - 7))) word_bits (c.args.j - u)) (byte c.before).below

pub unwrap-requires-2 : goal.unwrap-requires-2
unwrap-requires-2 c = rw (in-byte c) (byte-has c.args.word c.args.j (c.lowest_one-start.result - 7) c.ranges.word.fits (byte c.before).fewer c.requires.1)

found : (c : After-unwrap-2) → kth (digit c.args.word) word_bits c.args.j ≡ Some (c.lowest_one-start.result - 7 + c.unwrap-2.result)
found c =
    from_byte-some c.args.word c.args.j (c.lowest_one-start.result - 7) c.ranges.word.fits (byte c.before.before).fewer c.requires.1 c.unwrap-2.result
    (sym (in-byte c.before) ∙ c.unwrap-2.ensures)

pub overflow_add-result : goal.overflow_add-result
overflow_add-result c =
    omega (arith, (kth-told (digit c.args.word) word_bits c.args.j (c.lowest_one-start.result - 7 + c.unwrap-2.result) (found c)).inside)

pub returns : goal.returns
returns c = found c
