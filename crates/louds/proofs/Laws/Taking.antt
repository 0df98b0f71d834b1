-- Ones taken away from the bottom of a word; with the word's own sums `ones_from` leaves those from the j-th on.
--
--     cleared-none, cleared-next, cleared-zero  by how many are taken away, and of no ones
--     ones_from-is, start-inside, trailing-most  what the machine computes
--     Taken, taken  with the word's own sums: the lowest one that is left is the j-th, and behind it are the others
--
-- Assumes nothing.
use Rattle.std.proofs.Common.{◌≡◌, ℕ, zero, suc, ◌+◌, ◌-◌, ◌*◌, ◌/◌, ◌%◌, ◌^◌, ◌<◌, ◌≤◌, sym, refl, ap, ◌∙◌, subst, ap₂, mod-eq_of_lt, add-one, one-add, arith, lit<}
use native.Mathlib.Nat.{add-mul-mod_self_right}
use native.Mathlib.Decide.{dec_le}
use lib.Bits.{bit_and, and_lt, and_le_r, and_zero_l}
use lib.Count.{ones, ones-le, count_trailing_zeros, under}
use Rattle.keymap.specs.Limits.{word_bits}
use Rattle.keymap.specs.Bits.{sum_below}
use Rattle.louds.specs.Digits.{digit, complement, above}
use Rattle.louds.specs.Taking.{low_bits, top_bits, most_less, cleared, fewer_by, byte_start, ones_from}
use Rattle.louds.proofs.Laws.Digits.{complement-digit, and_both, and_one, shifted-low, above-all, above-end, above_wide, ones-few, ones-flat, Turn, turn}
use Rattle.louds.proofs.Laws.Fields.{joined, joined-ext, joined-add, joined-lt, joined-field, joined-digit, joined-shl, delayed, delayed-before, delayed-at}
use Rattle.louds.proofs.Laws.ByteRanks.{ranked, ranked-zero, byte_ranks}
use Rattle.louds.proofs.Laws.NthOne.{low-bits, top-bits, Picking, picking-next}

pub cleared-none : (n x : ℕ) → n ≡ 0 → cleared n x ≡ x
unfolding cleared
cleared-none zero x h = refl
cleared-none (suc n) x h = absurd (omega arith)

pub cleared-next : (n x : ℕ) → (n ≡ 0 → ⊥) → cleared n x ≡ cleared (n - 1) (bit_and x (x - 1))
unfolding cleared
cleared-next zero x h = absurd (h refl)
cleared-next (suc n) x h = let e : suc n - 1 ≡ n = omega arith in ap (λ (k : ℕ). cleared k (bit_and x (x - 1))) (sym e)

pub cleared-zero : (n : ℕ) → cleared n 0 ≡ 0
unfolding cleared
cleared-zero zero = refl
cleared-zero (suc n) = ap (cleared n) (and_zero_l (0 - 1)) ∙ cleared-zero n

-- what the machine computes is the definition's
pub ones_from-is : (x sums j fewer low : ℕ) → fewer ≡ fewer_by sums j → low ≡ count_trailing_zeros word_bits (bit_and (complement fewer) top_bits)
    → cleared (fewer / 2 ^ bit_and (low + 56) 56 % 128) (above x (bit_and (low + 56) 56) % 2 ^ word_bits) ≡ ones_from x sums j
unfolding ones_from
ones_from-is x sums j fewer low is lowest =
    ap (λ (l : ℕ). cleared (fewer / 2 ^ bit_and (l + 56) 56 % 128) (above x (bit_and (l + 56) 56) % 2 ^ word_bits)) lowest
    ∙ ap (λ (f : ℕ). cleared (f / 2 ^ byte_start f % 128) (above x (byte_start f) % 2 ^ word_bits)) is

pub start-inside : (n : ℕ) → bit_and n 56 < 64
start-inside n = omega (arith, and_le_r n 56)

-- the lowest one stands at 64 at most
pub trailing-most : (k x : ℕ) → count_trailing_zeros k x ≤ k
unfolding count_trailing_zeros
trailing-most zero x = omega arith
trailing-most (suc k) x = go (x % 2) (trailing-most k (x / 2))
  where
    go : (d : ℕ) → count_trailing_zeros k (x / 2) ≤ k → under d (count_trailing_zeros k (x / 2)) ≤ suc k
    go zero h = omega arith
    go (suc d) h = omega arith

-- ---- with the word's own sums

-- 127 in each byte, and what it is more than the complement of 0
all-below : joined 8 (λ i. 127) 8 ≡ 9187201950435737471
unfolding sum_below
all-below = refl

-- where no byte loses its top bit
last-place : bit_and (count_trailing_zeros word_bits 0 + 56) 56 ≡ 8 * 7
unfolding count_trailing_zeros
last-place = refl

module _ (x j : ℕ) (few : j ≤ 64) where
  rank-few : (i : ℕ) → i < 8 → ranked 8 x i ≤ 64
  rank-few i l = omega (arith, ones-few x (8 * i))

  -- 127, less the ones before a byte, and j
  abbrev held : ℕ → ℕ
  held i = 127 + j - ranked 8 x i

  held-lt : (i : ℕ) → i < 8 → held i < 2 ^ 8
  held-lt i l = omega (arith, few)

  -- the ones before each byte, in that byte
  abbrev before : ℕ
  before = joined 8 (λ i. ranked 8 x i) 8

  shifted : byte_ranks x * 2 ^ 8 % 2 ^ word_bits ≡ before
  shifted = joined-shl 8 1 7 (λ k. ranked 8 x (k + 1)) (λ k l. omega (arith, ones-few x (8 * (k + 1)))) ∙ joined-ext 8 (delayed 1 (λ t. ranked 8 x (t + 1))) (ranked 8 x) 8 (λ i l. moved i)
    where
      moved : (k : ℕ) → delayed 1 (λ t. ranked 8 x (t + 1)) k ≡ ranked 8 x k
      moved zero = delayed-before 1 (λ t. ranked 8 x (t + 1)) 0 (lit< tt) ∙ sym (ranked-zero 8 x)
      moved (suc k) = ap (delayed 1 (λ t. ranked 8 x (t + 1))) (sym (one-add k)) ∙ delayed-at 1 (λ t. ranked 8 x (t + 1)) k ∙ ap (ranked 8 x) (add-one k)

  balance : before + joined 8 held 8 ≡ 9187201950435737471 + j * low_bits
  balance =
      joined-add 8 (λ i. ranked 8 x i) held 8
      ∙ joined-ext 8 (λ i. ranked 8 x i + held i) (λ i. 127 + j) 8 (λ i l. omega (arith, rank-few i l))
      ∙ sym (joined-add 8 (λ i. 127) (λ i. j) 8)
      ∙ ap₂ (λ (a b : ℕ). a + b) all-below (low-bits j)

  held_fits : joined 8 held 8 < 2 ^ word_bits
  held_fits = joined-lt 8 held 8 held-lt

  before-few : before ≤ 9187201950435737471
  before-few =
      let rest = joined-add 8 (λ i. ranked 8 x i) (λ i. 127 - ranked 8 x i) 8 in
      let all = joined-ext 8 (λ i. ranked 8 x i + (127 - ranked 8 x i)) (λ i. 127) 8 (λ i l. omega (arith, rank-few i l)) in
      omega (arith, rest, all, all-below)

  -- the two sums, one after the other
  lessened : (complement before + most_less) % 2 ^ word_bits ≡ 9187201950435737471 - before
  lessened =
      let over : complement before + most_less ≡ 9187201950435737471 - before + 1 * 2 ^ word_bits = omega (arith, before-few) in
      ap (λ (s : ℕ). s % 2 ^ word_bits) over ∙ add-mul-mod_self_right (9187201950435737471 - before) 1 (2 ^ word_bits) ∙ mod-eq_of_lt (omega arith)

  own-fewer : fewer_by (byte_ranks x) j ≡ joined 8 held 8
  own-fewer =
      let same : j % 256 ≡ j = mod-eq_of_lt (omega (arith, few)) in
      let sum : 9187201950435737471 - before + j * low_bits ≡ joined 8 held 8 = omega (arith, balance, before-few) in
      ap (λ (s : ℕ). ((complement s + most_less) % 2 ^ word_bits + j % 256 * low_bits) % 2 ^ word_bits) shifted
      ∙ ap₂ (λ (a b : ℕ). (a + b * low_bits) % 2 ^ word_bits) lessened same
      ∙ ap (λ (s : ℕ). s % 2 ^ word_bits) sum
      ∙ mod-eq_of_lt held_fits

  -- the byte looked into: fewer than j ones stand before it
  record Looked (fewer : ℕ) : Type 0 where
    pub index : ℕ
    pub inside : index < 8
    pub start : byte_start fewer ≡ 8 * index
    pub held-there : 128 ≤ held index

  abbrev lost : ℕ → ℕ
  lost fewer = bit_and (complement fewer) top_bits

  top_digit : (i e : ℕ) → i < 8 → e < 8 → digit top_bits (8 * i + e) ≡ digit 128 e
  top_digit i e l k = ap (λ (z : ℕ). digit z (8 * i + e)) (sym top-bits) ∙ joined-digit 8 (λ t. 128) 8 i e (λ t h. lit< tt) l k

  module _ (some : 0 < j) (fewer : ℕ) (is : fewer ≡ joined 8 held 8) where
    wide : fewer < 2 ^ word_bits
    wide = omega (arith, is, held_fits)

    -- the top bit of a byte, and of its complement
    held-top : (i : ℕ) → i < 8 → digit fewer (8 * i + 7) ≡ digit (held i) 7
    held-top i l = ap (λ (z : ℕ). digit z (8 * i + 7)) is ∙ joined-digit 8 held 8 i 7 held-lt l (lit< tt)

    gone : (i : ℕ) → i < 8 → held i < 128 → digit (lost fewer) (8 * i + 7) ≡ 1
    gone i l h =
        let none : digit (held i) 7 ≡ 0 = omega arith in
        and_both (complement fewer) top_bits (8 * i + 7)
        (complement-digit fewer (8 * i + 7) (omega (arith, l)) wide ∙ ap (λ (d : ℕ). 1 - d) (held-top i l ∙ none))
        (top_digit i 7 l (lit< tt))

    -- the first byte keeps its top bit
    first : 128 ≤ held 0
    first = omega (arith, some, ranked-zero 8 x)

    low-place : (i : ℕ) → i < 7 → bit_and (8 * (i + 1) + 7 + 56) 56 ≡ 8 * i
    low-place zero l = refl
    low-place (suc zero) l = refl
    low-place (suc (suc zero)) l = refl
    low-place (suc (suc (suc zero))) l = refl
    low-place (suc (suc (suc (suc zero)))) l = refl
    low-place (suc (suc (suc (suc (suc zero))))) l = refl
    low-place (suc (suc (suc (suc (suc (suc zero)))))) l = refl
    low-place (suc (suc (suc (suc (suc (suc (suc i))))))) l = absurd (omega arith)

    looked : Looked fewer
    looked = go (lost fewer) refl
      where
        -- no byte loses it, so the last is looked into
        none : lost fewer ≡ 0 → Looked fewer
        none e = record {
          index = 7;
          inside = lit< tt;
          start = ap (λ (z : ℕ). bit_and (count_trailing_zeros word_bits z + 56) 56) e ∙ last-place;
          held-there = there (dec_le 128 (held 7));
        }
          where
            there : Dec (128 ≤ held 7) → 128 ≤ held 7
            there (yes h) = h
            there (no h) = absurd (omega (arith, gone 7 (lit< tt) (omega arith), ap (λ (z : ℕ). digit z 63) e))

        at : Turn (lost fewer) 0 (lost fewer) → Looked fewer
        at t = place i refl
          where
            i : ℕ
            i = t.place / 8

            e : ℕ
            e = t.place % 8

            here : t.place ≡ 8 * i + e
            here = omega arith

            inside : i < 8
            inside = omega (arith, t.inside)

            both : (digit (complement fewer) (8 * i + e) ≡ 1) × (digit top_bits (8 * i + e) ≡ 1)
            both = and_one (complement fewer) top_bits (8 * i + e) (ap (digit (lost fewer)) (sym here) ∙ t.one)

            seventh : e ≡ 7
            seventh = top (dec_le 7 e)
              where
                top : Dec (7 ≤ e) → e ≡ 7
                top (yes h) = omega arith
                top (no h) = absurd (omega (arith, both.1, top_digit i e inside (omega arith), shifted-low 1 7 e (omega arith)))

            lowest : t.place ≡ 8 * i + 7
            lowest = omega (arith, here, seventh)

            place : (k : ℕ) → i ≡ k → Looked fewer
            place zero q =
                let seven : 7 ≡ 8 * i + e = omega (arith, seventh, q) in
                let own : digit (complement fewer) 7 ≡ 1 = ap (digit (complement fewer)) seven ∙ both.0 in
                absurd (omega (arith, own, complement-digit fewer 7 (lit< tt) wide, held-top 0 (lit< tt), first, held-lt 0 (lit< tt)))
            place (suc k) q = record {
              index = k;
              inside = omega (arith, inside, q);
              start = ap (λ (z : ℕ). bit_and (z + 56) 56) (t.is-lowest ∙ lowest ∙ ap (λ (z : ℕ). 8 * z + 7) (q ∙ sym (add-one k))) ∙ low-place k (omega (arith, inside, q));
              held-there = there (dec_le 128 (held k));
            }
              where
                there : Dec (128 ≤ held k) → 128 ≤ held k
                there (yes h) = h
                there (no h) = absurd (omega (arith, gone k (omega (arith, inside, q)) (omega arith), t.none (8 * k + 7) (omega arith) (omega (arith, lowest, q))))

        go : (z : ℕ) → lost fewer ≡ z → Looked fewer
        go zero e = none e
        go (suc z) e =
            at
            (turn (lost fewer) 0 (lost fewer) (above-all (lost fewer)) (λ n. omega (arith, e, n)) (and_lt word_bits (complement fewer) top_bits (omega arith) (lit< tt)))

    -- what is left to take away
    own-over : Picking x j (fewer / 2 ^ byte_start fewer % 128 + 1) (above x (byte_start fewer))
    own-over = at looked
      where
        at : Looked fewer → Picking x j (fewer / 2 ^ byte_start fewer % 128 + 1) (above x (byte_start fewer))
        at l = record {
          place = byte_start fewer;
          low = omega (arith, l.start, l.inside);
          cleared = refl;
          sum = omega (arith, over, l.held-there, held-lt l.index l.inside, before-it, rank-few l.index l.inside);
          some = omega arith;
        }
          where
            before-it : ones (x % 2 ^ byte_start fewer) ≡ ranked 8 x l.index
            before-it = ap (λ (e : ℕ). ones (x % 2 ^ e)) l.start

            field : fewer / 2 ^ (8 * l.index) % 2 ^ 8 ≡ held l.index
            field = ap (λ (z : ℕ). z / 2 ^ (8 * l.index) % 2 ^ 8) is ∙ joined-field 8 held 8 l.index held-lt l.inside

            over : fewer / 2 ^ byte_start fewer % 128 ≡ held l.index - 128
            over =
                let same : fewer / 2 ^ byte_start fewer ≡ fewer / 2 ^ (8 * l.index) = ap (λ (e : ℕ). fewer / 2 ^ e) l.start in
                omega (arith, same, field, l.held-there, held-lt l.index l.inside)

-- ---- what is left

module _ (x j : ℕ) (wide : x < 2 ^ word_bits) (enough : j ≤ ones x) where
  -- as long as the j-th is not reached there are ones
  some_left : (left rest : ℕ) → Picking x j left rest → (rest ≡ 0 → ⊥)
  some_left left rest p none =
      let flat = ones-flat x word_bits p.place p.low (λ t a b. above-end x p.place t (sym p.cleared ∙ none) a) in
      omega (arith, flat, ap ones (mod-eq_of_lt wide), p.sum, p.some, enough)

  taking : (n rest : ℕ) → Picking x j (n + 1) rest → Picking x j 1 (cleared n rest)
  unfolding cleared
  taking zero rest p = p
  taking (suc n) rest p =
      let less : suc n + 1 - 1 ≡ n + 1 = omega arith in
      taking n (bit_and rest (rest - 1)) (subst (λ (k : ℕ). Picking x j k (bit_and rest (rest - 1))) less (picking-next x j wide (suc n + 1) rest p (some_left (suc n + 1) rest p) (λ e. omega (arith, e))))

-- the ones from the j-th on
pub record Taken (x j rest : ℕ) : Type 0 where
  pub place : ℕ
  pub inside : place < word_bits
  pub lowest : count_trailing_zeros word_bits rest ≡ place
  pub some : rest ≡ 0 → ⊥
  pub one : digit x place ≡ 1
  pub before : ones (x % 2 ^ place) + 1 ≡ j
  pub next : bit_and rest (rest - 1) ≡ above x (suc place)

pub taken : (x j sums : ℕ) → x < 2 ^ word_bits → 0 < j → j ≤ ones x → sums ≡ byte_ranks x → Taken x j (ones_from x sums j)
unfolding ones_from
taken x j sums wide some enough is = made (turn x p.place rest p.cleared (some_left x j wide enough 1 rest p) narrow)
  where
    few : j ≤ 64
    few = omega (arith, enough, ones-le word_bits x wide)

    fewer : ℕ
    fewer = fewer_by sums j

    own : fewer ≡ joined 8 (held x j few) 8
    own = ap (λ (s : ℕ). fewer_by s j) is ∙ own-fewer x j few

    start : above x (byte_start fewer) % 2 ^ word_bits ≡ above x (byte_start fewer)
    start = mod-eq_of_lt (above_wide x (byte_start fewer) wide)

    rest : ℕ
    rest = cleared (fewer / 2 ^ byte_start fewer % 128) (above x (byte_start fewer) % 2 ^ word_bits)

    p : Picking x j 1 rest
    p =
        subst (λ (y : ℕ). Picking x j 1 (cleared (fewer / 2 ^ byte_start fewer % 128) y)) (sym start)
        (taking x j wide enough (fewer / 2 ^ byte_start fewer % 128) (above x (byte_start fewer)) (own-over x j few some fewer own))

    narrow : rest < 2 ^ word_bits
    narrow = omega (arith, p.cleared, above_wide x p.place wide)

    made : Turn x p.place rest → Taken x j rest
    made t = record {
      place = t.place;
      inside = t.inside;
      lowest = t.is-lowest;
      some = some_left x j wide enough 1 rest p;
      one = t.one;
      before = omega (arith, ones-flat x t.place p.place t.from t.none, p.sum);
      next = t.next;
    }
