-- The ones of a word, counted in all its bytes at once: in each byte, by folding counts of one digit three times, and up to the end of each, by shifts and sums.
--
--     lean-less, lean-fours-lt, lean-both-lt  counts of two digits, of four and of eight stay in their fields
--     lean-count                              the last are those of each byte
--     ones-parts                              the ones below a place and from it on
--     ranked                                  the ones of the i lowest fields
--     ranked-zero                             of none
--     window                                  the ones of the r fields up to a field
--     windows-start                           of one field
--     prefix-sums                             shifted by r fields and added, r become 2 r
--     windows-lt                              none runs over
--     windows-all                             of all fields
--     byte_ranks                              the ones up to the end of each byte
--
-- Assumes nothing.
use Rattle.std.proofs.Common.{◌≡◌, ℕ, zero, suc, ◌+◌, ◌-◌, ◌*◌, ◌/◌, ◌%◌, ◌^◌, ◌<◌, ◌≤◌, sym, refl, ap, ◌∙◌, ap₂, lt_of_le_of_lt, mod-lt, mod-eq_of_lt, zero-lt-suc, add-mul, add_comm, mul-le-mul_left, pow-suc, mul-zero, mul-one, mul-suc, mul-add, arith, pow_pos, shr-shr}
use native.Mathlib.Nat.{div-eq_of_lt}
use native.Mathlib.Decide.{dec_le}
use lib.Pow.{mod-pow-add, high}
use lib.Bits.{bit_and}
use lib.Count.{ones, ones_cat}
use Rattle.keymap.specs.Limits.{word_bits}
use Rattle.keymap.specs.Bits.{sum_below}
use Rattle.keymap.proofs.Laws.Sums.{sum_below-suc, sum_below-mono}
use Rattle.louds.proofs.Laws.Words.{ones_bit, ones_low}
use Rattle.louds.proofs.Laws.Digits.{ones-few}
use Rattle.louds.proofs.Laws.Fields.{joined, joined-suc, joined-ext, joined-add, joined-lt, joined-field, joined-whole, joined-shl, delayed, delayed-before, delayed-at, comb, and-comb, folded, folded-fields}

-- ---- counts by folding

abbrev Counts : ℕ → ℕ → ℕ → ℕ → Type 0
Counts w n x a = (i : ℕ) → i < n → a / 2 ^ (w * i) % 2 ^ w ≡ ones (x / 2 ^ (w * i) % 2 ^ w)

counts_start : (n x : ℕ) → Counts 1 n x x
counts_start n x i l = sym (ones_bit (x / 2 ^ (1 * i) % 2) (mod-lt (x / 2 ^ (1 * i)) (zero-lt-suc 1)))

self-lt-pow : (k : ℕ) → k < 2 ^ k
self-lt-pow zero = pow_pos 0
self-lt-pow (suc k) = omega (arith, self-lt-pow k, pow-suc 2 k)

field-ones-lt : (w y : ℕ) → ones (y % 2 ^ w) < 2 ^ w
field-ones-lt w y = lt_of_le_of_lt (ones-few y w) (self-lt-pow w)

counts-folded : (w n mask x a : ℕ) → mask ≡ comb w n → Counts w (n + n) x a → folded w mask a ≡ joined (w + w) (λ i. ones (x / 2 ^ ((w + w) * i) % 2 ^ (w + w))) n
counts-folded w n mask x a is c =
    folded-fields w n mask a is
    ∙ joined-ext (w + w) (λ i. a / 2 ^ ((w + w) * i) % 2 ^ w + a / 2 ^ w / 2 ^ ((w + w) * i) % 2 ^ w) (λ i. ones (x / 2 ^ ((w + w) * i) % 2 ^ (w + w))) n here
  where
    twice : (i : ℕ) → (w + w) * i ≡ w * (i + i)
    twice i = add-mul w w i ∙ sym (mul-add w i i)

    odd : (i : ℕ) → (w + w) * i + w ≡ w * suc (i + i)
    odd i = ap (λ (e : ℕ). e + w) (twice i) ∙ sym (mul-suc w (i + i))

    lower : (i : ℕ) → i < n → a / 2 ^ ((w + w) * i) % 2 ^ w ≡ ones (x / 2 ^ ((w + w) * i) % 2 ^ w)
    lower i l = ap (λ (e : ℕ). a / 2 ^ e % 2 ^ w) (twice i) ∙ c (i + i) (omega arith) ∙ ap (λ (e : ℕ). ones (x / 2 ^ e % 2 ^ w)) (sym (twice i))

    upper : (i : ℕ) → i < n → a / 2 ^ w / 2 ^ ((w + w) * i) % 2 ^ w ≡ ones (x / 2 ^ ((w + w) * i) / 2 ^ w % 2 ^ w)
    upper i l =
        ap (λ (z : ℕ). z % 2 ^ w) (shr-shr a w ((w + w) * i) ∙ ap (λ (e : ℕ). a / 2 ^ e) (add_comm w ((w + w) * i) ∙ odd i))
        ∙ c (suc (i + i)) (omega arith)
        ∙ ap (λ (z : ℕ). ones (z % 2 ^ w)) (ap (λ (e : ℕ). x / 2 ^ e) (sym (odd i)) ∙ sym (shr-shr x ((w + w) * i) w))

    here : (i : ℕ) → i < n → a / 2 ^ ((w + w) * i) % 2 ^ w + a / 2 ^ w / 2 ^ ((w + w) * i) % 2 ^ w ≡ ones (x / 2 ^ ((w + w) * i) % 2 ^ (w + w))
    here i l =
        let y : ℕ = x / 2 ^ ((w + w) * i) in
        ap₂ (λ (p q : ℕ). p + q) (lower i l) (upper i l)
        ∙ add_comm (ones (y % 2 ^ w)) (ones (y / 2 ^ w % 2 ^ w))
        ∙ sym (ap ones (mod-pow-add y w w) ∙ ones_cat w (y / 2 ^ w % 2 ^ w) (y % 2 ^ w) (mod-lt y (pow_pos w)))

counts-next : (w n mask x a : ℕ) → mask ≡ comb w n → Counts w (n + n) x a → Counts (w + w) n x (folded w mask a)
counts-next w n mask x a is c i l =
    ap (λ (z : ℕ). z / 2 ^ ((w + w) * i) % 2 ^ (w + w)) (counts-folded w n mask x a is c)
    ∙ joined-field (w + w) (λ j. ones (x / 2 ^ ((w + w) * j) % 2 ^ (w + w))) n i (λ j k. field-ones-lt (w + w) (x / 2 ^ ((w + w) * j))) l

folded-lt : (w n mask x a : ℕ) → mask ≡ comb w n → Counts w (n + n) x a → folded w mask a < 2 ^ ((w + w) * n)
folded-lt w n mask x a is c = rw (counts-folded w n mask x a is c) (joined-lt (w + w) (λ j. ones (x / 2 ^ ((w + w) * j) % 2 ^ (w + w))) n (λ j k. field-ones-lt (w + w) (x / 2 ^ ((w + w) * j))))

-- every other bit, every other two bits and every other four bits of a word
abbrev bit_comb : ℕ
bit_comb = 6148914691236517205

abbrev pair_comb : ℕ
pair_comb = 3689348814741910323

abbrev nibble_comb : ℕ
nibble_comb = 1085102592571150095

bit_comb-is : bit_comb ≡ comb 1 32
unfolding sum_below
bit_comb-is = refl

pair_comb-is : pair_comb ≡ comb 2 16
unfolding sum_below
pair_comb-is = refl

nibble_comb-is : nibble_comb ≡ comb 4 8
unfolding sum_below
nibble_comb-is = refl

-- of two bits, of four and of eight
module _ (x : ℕ) where
  abbrev twos : ℕ
  twos = folded 1 bit_comb x

  abbrev fours : ℕ
  fours = folded 2 pair_comb twos

  abbrev eights : ℕ
  eights = folded 4 nibble_comb fours

  two-counts : Counts 2 32 x twos
  two-counts = counts-next 1 32 bit_comb x x bit_comb-is (counts_start 64 x)

  four-counts : Counts 4 16 x fours
  four-counts = counts-next 2 16 pair_comb x twos pair_comb-is two-counts

  fours-lt : fours < 2 ^ word_bits
  fours-lt = folded-lt 2 16 pair_comb x twos pair_comb-is two-counts

  eights-count : eights ≡ joined 8 (λ i. ones (x / 2 ^ (8 * i) % 2 ^ 8)) 8
  eights-count = counts-folded 4 8 nibble_comb x fours nibble_comb-is four-counts

-- ---- the same counts by fewer operations

-- of two bits the upper is taken from both once, as it weighs 2
twos-less : (x : ℕ) → x < 2 ^ word_bits → bit_and (x / 2) bit_comb + twos x ≡ x
twos-less x wide =
    let low : bit_and x bit_comb ≡ joined 2 (λ i. x / 2 ^ (2 * i) % 2) 32 = ap (bit_and x) bit_comb-is ∙ and-comb 1 32 x in
    let high : bit_and (x / 2) bit_comb ≡ joined 2 (λ i. x / 2 / 2 ^ (2 * i) % 2) 32 = ap (bit_and (x / 2)) bit_comb-is ∙ and-comb 1 32 (x / 2) in
    let once = joined-add 2 (λ i. x / 2 / 2 ^ (2 * i) % 2) (λ i. x / 2 / 2 ^ (2 * i) % 2) 32 in
    let both = joined-add 2 (λ i. x / 2 / 2 ^ (2 * i) % 2 + x / 2 / 2 ^ (2 * i) % 2) (λ i. x / 2 ^ (2 * i) % 2) 32 in
    let all = joined-ext 2 (λ i. x / 2 / 2 ^ (2 * i) % 2 + x / 2 / 2 ^ (2 * i) % 2 + x / 2 ^ (2 * i) % 2) (λ i. x / 2 ^ (2 * i) % 2 ^ 2) 32 (λ i l. pair i) in
    omega (arith, low, high, once, both, all, joined-whole 2 32 x, mod-eq_of_lt wide)
  where
    pair : (i : ℕ) → x / 2 / 2 ^ (2 * i) % 2 + x / 2 / 2 ^ (2 * i) % 2 + x / 2 ^ (2 * i) % 2 ≡ x / 2 ^ (2 * i) % 2 ^ 2
    pair i =
        let y : ℕ = x / 2 ^ (2 * i) in
        let swap : x / 2 / 2 ^ (2 * i) ≡ y / 2 = shr-shr x 1 (2 * i) ∙ ap (λ (e : ℕ). x / 2 ^ e) (add_comm 1 (2 * i)) ∙ sym (shr-shr x (2 * i) 1) in
        ap (λ (z : ℕ). z % 2 + z % 2 + y % 2) swap ∙ omega arith

-- counts of four bits are 4 at most, so two of them fit in four bits
module _ (x : ℕ) (wide : x < 2 ^ word_bits) where
  abbrev count : ℕ → ℕ
  count i = ones (x / 2 ^ (4 * i) % 2 ^ 4)

  count-few : (i : ℕ) → count i ≤ 4
  count-few i = ones-few (x / 2 ^ (4 * i)) 4

  fours-joined : fours x ≡ joined 4 count 16
  fours-joined = counts-folded 2 16 pair_comb x (twos x) pair_comb-is (two-counts x)

  beyond : count 16 ≡ 0
  beyond = let none : x / 2 ^ (4 * 16) ≡ 0 = div-eq_of_lt wide in omega (arith, ap (λ (y : ℕ). ones (y % 2 ^ 4)) none, ones-few 0 0)

  upper-joined : fours x / 2 ^ 4 ≡ joined 4 (λ i. count (suc i)) 16
  upper-joined =
      ap (λ (z : ℕ). z / 2 ^ 4) (fours-joined ∙ joined-suc 4 count 15)
      ∙ high (joined 4 (λ i. count (suc i)) 15) 4 (omega (arith, count-few 0))
      ∙ omega (arith, sum_below-suc (λ i. count (suc i) * 2 ^ (4 * i)) 15, beyond)

  both-joined : fours x + fours x / 2 ^ 4 ≡ joined 4 (λ i. count i + count (suc i)) 16
  both-joined = ap₂ (λ (a b : ℕ). a + b) fours-joined upper-joined ∙ joined-add 4 count (λ i. count (suc i)) 16

  both_small : (i : ℕ) → i < 16 → count i + count (suc i) < 2 ^ 4
  both_small i l = omega (arith, count-few i, count-few (suc i))

  both-lt : fours x + fours x / 2 ^ 4 < 2 ^ word_bits
  both-lt = omega (arith, both-joined, joined-lt 4 (λ i. count i + count (suc i)) 16 both_small)

  eights-masked : bit_and (fours x + fours x / 2 ^ 4) nibble_comb ≡ eights x
  eights-masked =
      ap (bit_and (fours x + fours x / 2 ^ 4)) nibble_comb-is
      ∙ and-comb 4 8 (fours x + fours x / 2 ^ 4)
      ∙ joined-ext 8 (λ i. (fours x + fours x / 2 ^ 4) / 2 ^ (8 * i) % 2 ^ 4) (λ i. fours x / 2 ^ (8 * i) % 2 ^ 4 + fours x / 2 ^ 4 / 2 ^ (8 * i) % 2 ^ 4) 8 here
      ∙ sym (folded-fields 4 8 nibble_comb (fours x) nibble_comb-is)
    where
      even : (i : ℕ) → 8 * i ≡ 4 * (i + i)
      even i = omega arith

      at : (f : ℕ → ℕ) (z : ℕ) → z ≡ joined 4 f 16 → ((j : ℕ) → j < 16 → f j < 2 ^ 4) → (i : ℕ) → i < 8 → z / 2 ^ (8 * i) % 2 ^ 4 ≡ f (i + i)
      at f z is small i l = ap₂ (λ (y e : ℕ). y / 2 ^ e % 2 ^ 4) is (even i) ∙ joined-field 4 f 16 (i + i) small (omega (arith, l))

      here : (i : ℕ) → i < 8 → (fours x + fours x / 2 ^ 4) / 2 ^ (8 * i) % 2 ^ 4 ≡ fours x / 2 ^ (8 * i) % 2 ^ 4 + fours x / 2 ^ 4 / 2 ^ (8 * i) % 2 ^ 4
      here i l =
          at (λ j. count j + count (suc j)) (fours x + fours x / 2 ^ 4) both-joined both_small i l
          ∙ sym (ap₂ (λ (a b : ℕ). a + b) (at count (fours x) fours-joined (λ j h. omega (arith, count-few j)) i l) (at (λ j. count (suc j)) (fours x / 2 ^ 4) upper-joined (λ j h. omega (arith, count-few (suc j))) i l))

-- as the machine computes them
module _ (x : ℕ) (wide : x < 2 ^ word_bits) where
  abbrev lean_fours : ℕ
  lean_fours = folded 2 pair_comb (x - bit_and (x / 2) bit_comb)

  lean-twos : x - bit_and (x / 2) bit_comb ≡ twos x
  lean-twos = omega (arith, twos-less x wide)

  lean-fours : lean_fours ≡ fours x
  lean-fours = ap (folded 2 pair_comb) lean-twos

  pub lean-less : bit_and (x / 2) bit_comb ≤ x
  lean-less = omega (arith, twos-less x wide)

  pub lean-fours-lt : lean_fours < 2 ^ word_bits
  lean-fours-lt = omega (arith, lean-fours, fours-lt x)

  pub lean-both-lt : lean_fours + lean_fours / 2 ^ 4 < 2 ^ word_bits
  lean-both-lt = let e : lean_fours + lean_fours / 2 ^ 4 ≡ fours x + fours x / 2 ^ 4 = ap (λ (f : ℕ). f + f / 2 ^ 4) lean-fours in omega (arith, e, both-lt x wide)

  pub lean-count : bit_and (lean_fours + lean_fours / 2 ^ 4) nibble_comb ≡ joined 8 (λ i. ones (x / 2 ^ (8 * i) % 2 ^ 8)) 8
  lean-count = ap (λ (f : ℕ). bit_and (f + f / 2 ^ 4) nibble_comb) lean-fours ∙ eights-masked x wide ∙ eights-count x

-- ---- ranks by shifts

-- the ones of the i lowest fields of w digits
abbrev pub ranked : ℕ → ℕ → ℕ → ℕ
ranked w x i = ones (x % 2 ^ (w * i))

pub ones-parts : (x s t : ℕ) → ones (x % 2 ^ (s + t)) ≡ ones (x % 2 ^ s) + ones (x / 2 ^ s % 2 ^ t)
ones-parts x s t =
    ap (λ (e : ℕ). ones (x % 2 ^ e)) (add_comm s t)
    ∙ ap ones (mod-pow-add x t s)
    ∙ ones_cat s (x / 2 ^ s % 2 ^ t) (x % 2 ^ s) (mod-lt x (pow_pos s))
    ∙ add_comm (ones (x / 2 ^ s % 2 ^ t)) (ones (x % 2 ^ s))

module _ (w x : ℕ) where
  -- the ones of the r fields up to field i
  abbrev pub window : ℕ → ℕ → ℕ
  window r i = ranked w x (i + 1) - ranked w x (i + 1 - r)

  ranked-mono : (i j : ℕ) → i ≤ j → ranked w x i ≤ ranked w x j
  ranked-mono i j h = omega (arith, sym (ones_low x (w * i)), sym (ones_low x (w * j)), sum_below-mono (λ t. x / 2 ^ t % 2) {i = w * i} {j = w * j} (mul-le-mul_left w h))

  pub ranked-zero : ranked w x 0 ≡ 0
  ranked-zero = omega (arith, ones-few x (w * 0), mul-zero w)

  ranked-next : (i : ℕ) → ranked w x (i + 1) ≡ ranked w x i + ones (x / 2 ^ (w * i) % 2 ^ w)
  ranked-next i = ap (λ (e : ℕ). ones (x % 2 ^ e)) (mul-add w i 1 ∙ ap (λ (e : ℕ). w * i + e) (mul-one w)) ∙ ones-parts x (w * i) w

  window-one : (i : ℕ) → ones (x / 2 ^ (w * i) % 2 ^ w) ≡ window 1 i
  window-one i = let e : i + 1 - 1 ≡ i = omega arith in let f : ranked w x (i + 1 - 1) ≡ ranked w x i = ap (ranked w x) e in omega (arith, ranked-next i, f)

  window-all : (r i : ℕ) → i < r → window r i ≡ ranked w x (i + 1)
  window-all r i l = let e : i + 1 - r ≡ 0 = omega arith in let f : ranked w x (i + 1 - r) ≡ ranked w x 0 = ap (ranked w x) e in omega (arith, f, ranked-zero)

  window-twice : (r i : ℕ) → window r i + delayed r (window r) i ≡ window (r + r) i
  window-twice r i = go (dec_le r i)
    where
      go : Dec (r ≤ i) → window r i + delayed r (window r) i ≡ window (r + r) i
      go (no h) = omega (arith, window-all r i (omega arith), window-all (r + r) i (omega arith), delayed-before r (window r) i (omega arith))
      go (yes h) =
          let t : ℕ = i - r in
          let e : i ≡ r + t = omega arith in
          let moved : delayed r (window r) i ≡ window r t = ap (delayed r (window r)) e ∙ delayed-at r (window r) t in
          let top : ranked w x (i + 1 - r) ≡ ranked w x (t + 1) = ap (ranked w x) (omega arith) in
          let bottom : ranked w x (i + 1 - (r + r)) ≡ ranked w x (t + 1 - r) = ap (ranked w x) (omega arith) in
          omega (arith, moved, top, bottom, ranked-mono (t + 1 - r) (t + 1) (omega arith), ranked-mono (t + 1) (i + 1) (omega arith))

  window-lt : (n r i : ℕ) → w * n < 2 ^ w → i < n → window r i < 2 ^ w
  window-lt n r i h l = omega (arith, h, ones-few x (w * (i + 1)), mul-le-mul_left {m = i + 1} {n = n} w (omega arith))

  pub prefix-sums : (r m a : ℕ) → w * (r + m) < 2 ^ w → a ≡ joined w (window r) (r + m) → a + a * 2 ^ (w * r) % 2 ^ (w * (r + m)) ≡ joined w (window (r + r)) (r + m)
  prefix-sums r m a h is =
      ap (λ (z : ℕ). z + z * 2 ^ (w * r) % 2 ^ (w * (r + m))) is
      ∙ ap (λ (z : ℕ). joined w (window r) (r + m) + z) (joined-shl w r m (window r) (λ i l. window-lt (r + m) r i h l))
      ∙ joined-add w (window r) (delayed r (window r)) (r + m)
      ∙ joined-ext w (λ i. window r i + delayed r (window r) i) (window (r + r)) (r + m) (λ i l. window-twice r i)

  pub windows-lt : (n r : ℕ) → w * n < 2 ^ w → joined w (window r) n < 2 ^ (w * n)
  windows-lt n r h = joined-lt w (window r) n (λ i l. window-lt n r i h l)

  pub windows-all : (n : ℕ) → joined w (window n) n ≡ joined w (λ i. ranked w x (i + 1)) n
  windows-all n = joined-ext w (window n) (λ i. ranked w x (i + 1)) n (λ i l. window-all n i l)

  pub windows-start : (n : ℕ) → joined w (λ i. ones (x / 2 ^ (w * i) % 2 ^ w)) n ≡ joined w (window 1) n
  windows-start n = joined-ext w (λ i. ones (x / 2 ^ (w * i) % 2 ^ w)) (window 1) n (λ i l. window-one i)

-- the ones up to the end of each byte
abbrev pub byte_ranks : ℕ → ℕ
byte_ranks x = joined 8 (λ i. ranked 8 x (i + 1)) 8
