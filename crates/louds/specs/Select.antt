-- Selects (01, "The image": "the k-th .. zero", "the m-th one"): where a bit stands, counted from 1, among the first
-- len bits.
-- Marks are a function from places to 0 or 1 that says 1 of the places that count: a sequence's ones mark themselves,
-- and its zeros are marked by `gap`.
--
--     kth            the k-th marked place below len
--     one_at         the m-th one
--     one_back       the k-th one before a place, counted down
--     zero_at        the k-th zero
--     zero_from      the k-th zero at a place or beyond
--     bit_from       the k-th bit of a given value at a place or beyond
-- Assumes nothing.
use Rattle.std.specs.Prelude.{ℕ, zero, suc, ◌+◌, ◌-◌, cond, nat_le, None, Option, Some}
use Rattle.keymap.specs.Bits.{sum_below}
use Rattle.louds.specs.Rank.{gap}

-- it is one of the first i where these hold k marks; else it is i, if i makes them k
unfoldable pub kth : (ℕ → ℕ) → ℕ → ℕ → Option ℕ
kth m zero k = None
kth m (suc i) k = cond (nat_le k (sum_below m i)) (kth m i k) (cond (nat_le k (sum_below m (suc i))) (Some i) None)

-- the marks at a place or beyond
unfoldable pub onward : ℕ → (ℕ → ℕ) → ℕ → ℕ
onward from m i = cond (nat_le from i) (m i) 0

-- the bits that equal v, as marks
unfoldable pub marks : (ℕ → ℕ) → ℕ → ℕ → ℕ
marks b zero = gap b
marks b (suc zero) = b
marks b (suc (suc v)) = λ i. 0

abbrev pub one_at : (ℕ → ℕ) → ℕ → ℕ → Option ℕ
one_at b len m = kth b len m

-- counted up, the k-th from the end
abbrev pub one_back : (ℕ → ℕ) → ℕ → ℕ → Option ℕ
one_back b from k = kth b from (sum_below b from + 1 - k)

abbrev pub zero_at : (ℕ → ℕ) → ℕ → ℕ → Option ℕ
zero_at b len k = kth (gap b) len k

abbrev pub zero_from : (ℕ → ℕ) → ℕ → ℕ → ℕ → Option ℕ
zero_from b len from k = kth (onward from (gap b)) len k

abbrev pub bit_from : (ℕ → ℕ) → ℕ → ℕ → ℕ → ℕ → Option ℕ
bit_from b len v from k = kth (onward from (marks b v)) len k
