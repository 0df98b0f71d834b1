-- Ranks of bits b that are 0 or 1: a place is a one or a zero, so the ones and the zeros before a place make its number.
--
--     gap-one     at a one there is no gap
--     gap-zero    at a zero there is
--     gap-small   a gap is at most 1
--     bit-gap     bit and gap make 1
--     ones-zeros  the ones and the zeros before a place make its number
--     gap-ext     equal bits, equal gaps
--     zeros-ext   only the bits before a place matter to the zeros before it
--
-- Assumes nothing.
use Rattle.std.proofs.Common.{◌≡◌, ℕ, zero, suc, ◌+◌, ◌-◌, ◌<◌, ◌≤◌, ap, arith}
use Rattle.keymap.proofs.Laws.Sums.{sum_below-zero, sum_below-suc, sum_below-ext}
use Rattle.louds.specs.Rank.{gap, ones_before, zeros_before}

module _ (b : ℕ → ℕ) where
  pub gap-one : (i : ℕ) → b i ≡ 1 → gap b i ≡ 0
  unfolding gap
  gap-one i e = omega arith

  pub gap-zero : (i : ℕ) → b i ≡ 0 → gap b i ≡ 1
  unfolding gap
  gap-zero i e = omega arith

  pub gap-small : (i : ℕ) → gap b i ≤ 1
  unfolding gap
  gap-small i = omega arith

module _ (b : ℕ → ℕ) (small : (i : ℕ) → b i ≤ 1) where
  pub bit-gap : (i : ℕ) → b i + gap b i ≡ 1
  unfolding gap
  bit-gap i = omega (arith, small i)

  pub ones-zeros : (i : ℕ) → ones_before b i + zeros_before b i ≡ i
  ones-zeros zero = omega (arith, sum_below-zero b, sum_below-zero (gap b))
  ones-zeros (suc i) = omega (arith, ones-zeros i, bit-gap i, sum_below-suc b i, sum_below-suc (gap b) i)

pub gap-ext : (b c : ℕ → ℕ) (i j : ℕ) → b i ≡ c j → gap b i ≡ gap c j
unfolding gap
gap-ext b c i j e = ap (λ (x : ℕ). 1 - x) e

pub zeros-ext : (b c : ℕ → ℕ) (i : ℕ) → ((j : ℕ) → j < i → b j ≡ c j) → zeros_before b i ≡ zeros_before c i
zeros-ext b c i same = sum_below-ext (gap b) (gap c) i (λ j l. gap-ext b c j j (same j l))
