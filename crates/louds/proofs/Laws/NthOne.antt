-- The place of the j-th one of a word: its byte is found by the ranks of all bytes at once, and ones are taken away from the bottom until it is the lowest.
--
--     low-bits, top-bits      the lowest bit of each byte, and the highest, as fields
--     sums-fit                what the machine adds and subtracts there does not wrap
--     ByteFound, byte-found   where the byte of the j-th one begins
--     Picking, picking-start  ones are taken away from the bottom
--     picking-next            one more
--     picking-last            the next is the one sought
--     picking-none            there are no more
--     has-kth, has-fewer      the word has so many ones, or fewer
--     byte-has, from_byte-some, from_byte  the j-th one by the digits from a place on
--
-- Assumes nothing.
use mathlib.Core.Bool.{false≢true}
use Rattle.std.specs.Prelude.{Option, None, Some}
use Rattle.std.specs.Option.{IsSome, is_some, unwrap_or}
use Rattle.std.proofs.Common.{◌≡◌, ℕ, zero, suc, ◌+◌, ◌-◌, ◌*◌, ◌/◌, ◌%◌, ◌^◌, ◌<◌, ◌≤◌, sym, refl, ap, ◌∙◌, ap₂, lt_of_lt_of_le, lt_of_le_of_lt, mod-eq_of_lt, add-one, one-add, arith, lit<, lit≤, pow_mono}
use native.Mathlib.Decide.{dec_le}
use lib.Pow.{shr_le}
use lib.Bits.{bit_and, and_lt, and_mask}
use lib.Count.{ones, ones-le, count_trailing_zeros}
use Rattle.keymap.specs.Limits.{word_bits}
use Rattle.keymap.specs.Bits.{sum_below}
use Rattle.louds.specs.Digits.{digit, above}
use Rattle.louds.specs.Taking.{low_bits, top_bits}
use Rattle.louds.specs.Select.{kth}
use Rattle.louds.proofs.Laws.Words.{ones_low}
use Rattle.louds.proofs.Laws.Select.{kth-at, kth-none, kth-exists, kth-missing, kth-told, Found}
use Rattle.louds.proofs.Laws.Digits.{digit-shr, digit-beyond, and_both, and_one, shifted-low, above-all, above-end, above_wide, ones-few, ones_step, ones-flat, Turn, turn}
use Rattle.louds.proofs.Laws.Fields.{joined, joined-ext, joined-add, joined-lt, joined-field, joined-digit, joined-shl, delayed, delayed-before, delayed-at}
use Rattle.louds.proofs.Laws.ByteRanks.{ones-parts, ranked, ranked-zero, byte_ranks}

-- ---- the byte of the j-th one

pub low-bits : (j : ℕ) → joined 8 (λ i. j) 8 ≡ j * low_bits
unfolding sum_below
low-bits j = omega arith

pub top-bits : joined 8 (λ i. 128) 8 ≡ top_bits
unfolding sum_below
top-bits = refl

record Byte (x j reached : ℕ) : Type 0 where
  pub index : ℕ
  pub inside : index < 8
  pub lowest : count_trailing_zeros word_bits reached ≡ 8 * index + 7
  pub below : ranked 8 x index < j

module _ (x : ℕ) where
  rank-few : (i : ℕ) → i < 8 → ranked 8 x (i + 1) ≤ 64
  rank-few i l = omega (arith, ones-few x (8 * (i + 1)))

  rank_lt : (i : ℕ) → i < 8 → ranked 8 x (i + 1) < 2 ^ 8
  rank_lt i l = omega (arith, rank-few i l)

  byte_ranks-lt : byte_ranks x < 2 ^ word_bits
  byte_ranks-lt = joined-lt 8 (λ i. ranked 8 x (i + 1)) 8 rank_lt

  -- those below a byte, read from the byte before
  byte_ranks-below : (i : ℕ) → i < 8 → bit_and (byte_ranks x * 2 ^ 8 % 2 ^ word_bits / 2 ^ (8 * i)) 255 ≡ ranked 8 x i
  byte_ranks-below i l =
      and_mask (byte_ranks x * 2 ^ 8 % 2 ^ word_bits / 2 ^ (8 * i)) 8
      ∙ ap (λ (z : ℕ). z / 2 ^ (8 * i) % 2 ^ 8) (joined-shl 8 1 7 (λ k. ranked 8 x (k + 1)) rank_lt)
      ∙ joined-field 8 (delayed 1 (λ k. ranked 8 x (k + 1))) 8 i moved-lt l
      ∙ moved i
    where
      moved : (k : ℕ) → delayed 1 (λ t. ranked 8 x (t + 1)) k ≡ ranked 8 x k
      moved zero = delayed-before 1 (λ t. ranked 8 x (t + 1)) 0 (lit< tt) ∙ sym (ranked-zero 8 x)
      moved (suc k) = ap (delayed 1 (λ t. ranked 8 x (t + 1))) (sym (one-add k)) ∙ delayed-at 1 (λ t. ranked 8 x (t + 1)) k ∙ ap (ranked 8 x) (add-one k)

      moved-lt : (k : ℕ) → k < 8 → delayed 1 (λ t. ranked 8 x (t + 1)) k < 2 ^ 8
      moved-lt k h = omega (arith, moved k, ones-few x (8 * k))

module _ (x j : ℕ) (few : j ≤ 64) where
  -- 128 above a rank and j below it: a byte's top bit stays where its rank is no less than j
  abbrev over : ℕ → ℕ
  over i = ranked 8 x (i + 1) + 128 - j

  tested : byte_ranks x + top_bits ≡ joined 8 over 8 + j * low_bits
  tested =
      ap (λ (z : ℕ). byte_ranks x + z) (sym top-bits)
      ∙ joined-add 8 (λ i. ranked 8 x (i + 1)) (λ i. 128) 8
      ∙ joined-ext 8 (λ i. ranked 8 x (i + 1) + 128) (λ i. over i + j) 8 (λ i l. omega arith)
      ∙ sym (joined-add 8 over (λ i. j) 8)
      ∙ ap (λ (z : ℕ). joined 8 over 8 + z) (low-bits j)

  over-lt : (i : ℕ) → i < 8 → over i < 2 ^ 8
  over-lt i l = omega (arith, rank-few x i l)

  sum_fits : byte_ranks x + top_bits < 2 ^ word_bits
  sum_fits =
      let all = ap (λ (z : ℕ). byte_ranks x + z) (sym top-bits) ∙ joined-add 8 (λ i. ranked 8 x (i + 1)) (λ i. 128) 8 in
      omega (arith, all, joined-lt 8 (λ i. ranked 8 x (i + 1) + 128) 8 (λ i l. omega (arith, rank-few x i l)))

  product-less : j * low_bits ≤ byte_ranks x + top_bits
  product-less = omega (arith, tested)

  difference : byte_ranks x + top_bits - j * low_bits ≡ joined 8 over 8
  difference = omega (arith, tested)

  abbrev reached_bits : ℕ
  reached_bits = bit_and (byte_ranks x + top_bits - j * low_bits) top_bits

  top_digit : (i e : ℕ) → i < 8 → e < 8 → digit top_bits (8 * i + e) ≡ digit 128 e
  top_digit i e l k = ap (λ (z : ℕ). digit z (8 * i + e)) (sym top-bits) ∙ joined-digit 8 (λ t. 128) 8 i e (λ t h. lit< tt) l k

  over-digit : (i e : ℕ) → i < 8 → e < 8 → digit (byte_ranks x + top_bits - j * low_bits) (8 * i + e) ≡ digit (over i) e
  over-digit i e l k = ap (λ (z : ℕ). digit z (8 * i + e)) difference ∙ joined-digit 8 over 8 i e over-lt l k

  -- a byte that has j ones up to its end keeps its top bit
  kept : (i : ℕ) → i < 8 → j ≤ ranked 8 x (i + 1) → digit reached_bits (8 * i + 7) ≡ 1
  kept i l h = and_both (byte_ranks x + top_bits - j * low_bits) top_bits (8 * i + 7) (over-digit i 7 l (lit< tt) ∙ omega (arith, rank-few x i l, h)) (top_digit i 7 l (lit< tt))

  reached : 0 < j → x < 2 ^ word_bits → j ≤ ones x → Byte x j reached_bits
  reached some wide enough = at (turn reached_bits 0 reached_bits (above-all reached_bits) there narrow)
    where
      last : digit reached_bits 63 ≡ 1
      last = kept 7 (lit< tt) (omega (arith, enough, ap ones (mod-eq_of_lt wide)))

      there : reached_bits ≡ 0 → ⊥
      there none = let e : digit reached_bits 63 ≡ 0 = ap (λ (z : ℕ). digit z 63) none in omega (arith, e, last)

      narrow : reached_bits < 2 ^ word_bits
      narrow = and_lt word_bits (byte_ranks x + top_bits - j * low_bits) top_bits (omega (arith, sum_fits)) (lit< tt)

      at : Turn reached_bits 0 reached_bits → Byte x j reached_bits
      at t = record { index = i; inside = inside; lowest = t.is-lowest ∙ place; below = before i refl }
        where
          i : ℕ
          i = t.place / 8

          e : ℕ
          e = t.place % 8

          here : t.place ≡ 8 * i + e
          here = omega arith

          inside : i < 8
          inside = omega (arith, t.inside)

          both : (digit (byte_ranks x + top_bits - j * low_bits) (8 * i + e) ≡ 1) × (digit top_bits (8 * i + e) ≡ 1)
          both = and_one (byte_ranks x + top_bits - j * low_bits) top_bits (8 * i + e) (ap (digit reached_bits) (sym here) ∙ t.one)

          seventh : e ≡ 7
          seventh = go (dec_le 7 e)
            where
              go : Dec (7 ≤ e) → e ≡ 7
              go (yes h) = omega arith
              go (no h) = absurd (omega (arith, both.1, top_digit i e inside (omega arith), shifted-low 1 7 e (omega arith)))

          place : t.place ≡ 8 * i + 7
          place = omega (arith, here, seventh)

          before : (k : ℕ) → k ≡ i → ranked 8 x k < j
          before zero q = omega (arith, some, ranked-zero 8 x)
          before (suc k) q = go (dec_le j (ranked 8 x (k + 1)))
            where
              go : Dec (j ≤ ranked 8 x (k + 1)) → ranked 8 x (suc k) < j
              go (yes h) = absurd (omega (arith, kept k (omega (arith, inside)) h, t.none (8 * k + 7) (omega arith) (omega (arith, place))))
              go (no h) = let f : ranked 8 x (suc k) ≡ ranked 8 x (k + 1) = ap (ranked 8 x) (omega arith) in omega (arith, f, h)

-- what the machine finds of that byte
pub record ByteFound (x j sums lowest : ℕ) : Type 0 where
  pub least : 7 ≤ lowest
  pub near : lowest - 7 < word_bits
  pub below : bit_and (sums * 2 ^ 8 % 2 ^ word_bits / 2 ^ (lowest - 7)) 255 ≡ ones (x % 2 ^ (lowest - 7))
  pub fewer : ones (x % 2 ^ (lowest - 7)) < j

module _ (x j : ℕ) (wide : x < 2 ^ word_bits) (some : 0 < j) (enough : j ≤ ones x) where
  few : j ≤ 64
  few = omega (arith, enough, ones-le word_bits x wide)

  pub sums-fit : (sums : ℕ) → sums ≡ byte_ranks x → (sums + top_bits < 2 ^ word_bits) × (j * low_bits < 2 ^ word_bits) × (j * low_bits ≤ sums + top_bits)
  sums-fit sums is = (omega (arith, is, sum_fits x j few), omega (arith, few), omega (arith, is, product-less x j few))

  pub byte-found : (sums lowest : ℕ) → sums ≡ byte_ranks x → lowest ≡ count_trailing_zeros word_bits (bit_and (sums + top_bits - j * low_bits) top_bits) → ByteFound x j sums lowest
  byte-found sums lowest ranks is = at (reached x j few some wide enough)
    where
      at : Byte x j (bit_and (byte_ranks x + top_bits - j * low_bits) top_bits) → ByteFound x j sums lowest
      at b = record {
        least = omega (arith, place);
        near = omega (arith, place, b.inside);
        below = ap₂ (λ (u v : ℕ). bit_and (u * 2 ^ 8 % 2 ^ word_bits / 2 ^ v) 255) ranks start ∙ byte_ranks-below x b.index b.inside ∙ ap (λ (e : ℕ). ones (x % 2 ^ e)) (sym start);
        fewer = rw start b.below;
      }
        where
          place : lowest ≡ 8 * b.index + 7
          place = is ∙ ap (λ (u : ℕ). count_trailing_zeros word_bits (bit_and (u + top_bits - j * low_bits) top_bits)) ranks ∙ b.lowest

          start : lowest - 7 ≡ 8 * b.index
          start = omega (arith, place)

-- ---- ones taken away from the bottom

-- of the digits of x those below `place` are taken away, which leaves `rest`, and the j-th one of x is the left-th of its ones
pub record Picking (x j left rest : ℕ) : Type 0 where
  pub place : ℕ
  pub low : place ≤ word_bits
  pub cleared : rest ≡ above x place
  pub sum : ones (x % 2 ^ place) + left ≡ j
  pub some : 0 < left

module _ (x j : ℕ) (wide : x < 2 ^ word_bits) where
  pub picking-start : 0 < j → Picking x j j x
  picking-start h = record { place = 0; low = lit≤ tt; cleared = above-all x; sum = omega (arith, ones-few x 0); some = h }

  module _ (left rest : ℕ) (p : Picking x j left rest) where
    -- nothing is left, so there are fewer
    pub picking-none : rest ≡ 0 → None ≡ kth (digit x) word_bits j
    picking-none none =
        let flat = ones-flat x word_bits p.place p.low (λ t a b. above-end x p.place t (sym p.cleared ∙ none) a) in
        sym (kth-none (digit x) word_bits j (omega (arith, ones_low x word_bits, flat, p.sum, p.some)))

    module _ (more : rest ≡ 0 → ⊥) where
      lowest-left : Turn x p.place rest
      lowest-left = turn x p.place rest p.cleared more (omega (arith, p.cleared, above_wide x p.place wide))

      none_between : ones (x % 2 ^ lowest-left.place) ≡ ones (x % 2 ^ p.place)
      none_between = ones-flat x lowest-left.place p.place lowest-left.from lowest-left.none

      pub picking-next : (left ≡ 1 → ⊥) → Picking x j (left - 1) (bit_and rest (rest - 1))
      picking-next h = record {
        place = suc lowest-left.place;
        low = lowest-left.inside;
        cleared = lowest-left.next;
        sum = omega (arith, ones_step x lowest-left.place, none_between, lowest-left.one, p.sum, p.some);
        some = omega (arith, p.some, h);
      }

      pub picking-last : left ≡ 1 → Some (count_trailing_zeros word_bits rest) ≡ kth (digit x) word_bits j
      picking-last last =
          let before = ones_low x lowest-left.place in
          ap Some lowest-left.is-lowest
          ∙ sym
          (kth-at (digit x) word_bits lowest-left.place j lowest-left.inside (omega (arith, before, none_between, p.sum, p.some))
          (omega (arith, before, none_between, p.sum, last, lowest-left.one)))

-- ---- whether the word has it

pub has-kth : (x j : ℕ) → x < 2 ^ word_bits → 0 < j → j ≤ ones x → IsSome (kth (digit x) word_bits j)
has-kth x j wide some enough =
    let f = kth-exists (digit x) word_bits j some (omega (arith, enough, ones_low x word_bits, ap ones (mod-eq_of_lt wide))) in
    rw f.1.answer

pub has-fewer : (x j : ℕ) → x < 2 ^ word_bits → 0 < j → None ≡ kth (digit x) word_bits j → ones x < j
has-fewer x j wide some is = omega (arith, kth-missing (digit x) word_bits j some (sym is), ones_low x word_bits, ap ones (mod-eq_of_lt wide))

-- the j-th one of a word, by the digits from `start` on
module _ (x j start : ℕ) (wide : x < 2 ^ word_bits) (fewer : ones (x % 2 ^ start) < j) (enough : j ≤ ones x) where
  abbrev from_start : ℕ
  from_start = x / 2 ^ start

  from-wide : from_start < 2 ^ word_bits
  from-wide = lt_of_le_of_lt (shr_le x start) wide

  -- the ones of x are those below `start` and those from it on
  both-parts : ones x ≡ ones (x % 2 ^ start) + ones from_start
  both-parts =
      ap ones (sym (mod-eq_of_lt (lt_of_lt_of_le wide (pow_mono {i = word_bits} {j = start + word_bits} (omega arith)))))
      ∙ ones-parts x start word_bits
      ∙ ap (λ (y : ℕ). ones (x % 2 ^ start) + ones y) (mod-eq_of_lt from-wide)

  pub byte-has : IsSome (kth (digit from_start) word_bits (j - ones (x % 2 ^ start)))
  byte-has = has-kth from_start (j - ones (x % 2 ^ start)) from-wide (omega (arith, fewer)) (omega (arith, enough, both-parts))

  pub from_byte-some : (p : ℕ) → kth (digit from_start) word_bits (j - ones (x % 2 ^ start)) ≡ Some p → kth (digit x) word_bits j ≡ Some (start + p)
  from_byte-some p is = kth-at (digit x) word_bits (start + p) j inside (omega (arith, before, f.before)) (omega (arith, before, one, f.upto))
    where
      f : Found (digit from_start) word_bits (j - ones (x % 2 ^ start)) p
      f = kth-told (digit from_start) word_bits (j - ones (x % 2 ^ start)) p is

      before : sum_below (digit x) (start + p) ≡ ones (x % 2 ^ start) + sum_below (digit from_start) p
      before = ones_low x (start + p) ∙ ones-parts x start p ∙ ap (λ (y : ℕ). ones (x % 2 ^ start) + y) (sym (ones_low from_start p))

      one : digit x (start + p) ≡ digit from_start p
      one = sym (digit-shr x start p)

      inside : start + p < word_bits
      inside = go (dec_le word_bits (start + p))
        where
          go : Dec (word_bits ≤ start + p) → start + p < word_bits
          go (yes h) = absurd (omega (arith, one, f.before, f.upto, digit-beyond x (start + p) (lt_of_lt_of_le wide (pow_mono {i = word_bits} {j = start + p} h))))
          go (no h) = omega arith

  -- the j-th one is there, so its place is that of the digits from there on, whatever is told where they have none
  pub from_byte : (p : ℕ) → p ≡ unwrap_or (kth (digit from_start) word_bits (j - ones (x % 2 ^ start))) word_bits → kth (digit x) word_bits j ≡ Some (start + p)
  from_byte p is = go (kth (digit from_start) word_bits (j - ones (x % 2 ^ start))) refl
    where
      go : (o : Option ℕ) → kth (digit from_start) word_bits (j - ones (x % 2 ^ start)) ≡ o → kth (digit x) word_bits j ≡ Some (start + p)
      go None e = absurd (false≢true (ap is_some (sym e) ∙ byte-has))
      go (Some q) e = from_byte-some p (e ∙ ap Some (sym (is ∙ ap (λ (o : Option ℕ). unwrap_or o word_bits) e)))
