-- Numbers by fields of w binary digits, the lowest first: what a machine does to all fields of a word at once, where none of them runs over.
--
--     joined                      the number with the fields f 0, f 1, .., f (n - 1)
--     joined-suc                  the lowest field, and the others
--     joined-ext                  equal fields
--     joined-add                  a sum, field by field
--     joined-lt                   n fields make a number below 2 ^ (w * n)
--     joined-field                a field read back
--     joined-whole                a number of its own fields
--     joined-digit                a digit of a field
--     delayed                     fields moved up by r places
--     delayed-before, delayed-at  what stands where
--     joined-shl                  a shift in a word of r + m fields moves them so
--     comb                        the lower half of each field
--     and-comb                    these alone
--     folded                      the lower halves and the upper halves, added
--     folded-fields               its fields
--
-- Assumes nothing.
use Rattle.std.proofs.Common.{◌≡◌, ℕ, zero, suc, ◌+◌, ◌-◌, ◌*◌, ◌/◌, ◌%◌, ◌^◌, ◌<◌, sym, refl, ap, ◌∙◌, ap₂, lt_of_lt_of_le, le-add_right, add-zero, mod-lt, mod-eq_of_lt, mul_assoc, add-mul, add_comm, suc-add, mul-zero, zero-add, zero-mul, mul-one, mul-suc, mul-add, div-one, arith, pow_pos, pow_mono, pow-add, shl_lt, shr-shr}
use native.Mathlib.Nat.{mod-one, add-mul-mod_self_right}
use lib.Arith.{digits_lt}
use lib.Pow.{split, high, low, mod-mod-pow, mod-pow-add, ones_lt}
use lib.Bits.{bit_and, and_block, and_mask, and_zero_r}
use Rattle.keymap.specs.Bits.{sum_below}
use Rattle.keymap.proofs.Laws.Sums.{sum_below-zero, sum_below-suc, sum_below-first, sum_below-add, sum_below-ext}
use Rattle.louds.specs.Digits.{digit}
use Rattle.louds.proofs.Laws.Digits.{digit-shr, digit-mod}

sum-scaled : (f : ℕ → ℕ) (c n : ℕ) → sum_below (λ i. f i * c) n ≡ sum_below f n * c
sum-scaled f c zero = sum_below-zero (λ i. f i * c) ∙ sym (ap (λ (x : ℕ). x * c) (sum_below-zero f) ∙ zero-mul c)
sum-scaled f c (suc n) =
    sum_below-suc (λ i. f i * c) n
    ∙ ap (λ (x : ℕ). x + f n * c) (sum-scaled f c n)
    ∙ sym (ap (λ (x : ℕ). x * c) (sum_below-suc f n) ∙ add-mul (sum_below f n) (f n) c)

abbrev pub joined : ℕ → (ℕ → ℕ) → ℕ → ℕ
joined w f n = sum_below (λ i. f i * 2 ^ (w * i)) n

-- the fields moved up by r places
unfoldable pub delayed : ℕ → (ℕ → ℕ) → ℕ → ℕ
delayed zero f i = f i
delayed (suc r) f zero = 0
delayed (suc r) f (suc i) = delayed r f i

pub delayed-before : (r : ℕ) (f : ℕ → ℕ) (i : ℕ) → i < r → delayed r f i ≡ 0
unfolding delayed
delayed-before zero f i l = absurd (omega arith)
delayed-before (suc r) f zero l = refl
delayed-before (suc r) f (suc i) l = delayed-before r f i (omega arith)

pub delayed-at : (r : ℕ) (f : ℕ → ℕ) (i : ℕ) → delayed r f (r + i) ≡ f i
unfolding delayed
delayed-at zero f i = ap f (zero-add i)
delayed-at (suc r) f i = ap (delayed (suc r) f) (suc-add r i) ∙ delayed-at r f i

-- one place further: a field 0 below
delayed-suc : (r : ℕ) (f : ℕ → ℕ) → delayed (suc r) f 0 ≡ 0
unfolding delayed
delayed-suc r f = refl

delayed-up : (r : ℕ) (f : ℕ → ℕ) (i : ℕ) → delayed (suc r) f (suc i) ≡ delayed r f i
unfolding delayed
delayed-up r f i = refl

delayed-none : (f : ℕ → ℕ) (i : ℕ) → delayed 0 f i ≡ f i
unfolding delayed
delayed-none f i = refl

module _ (w : ℕ) where
  field-up : (a i : ℕ) → a / 2 ^ (w * suc i) ≡ a / 2 ^ w / 2 ^ (w * i)
  field-up a i = ap (λ (e : ℕ). a / 2 ^ e) (mul-suc w i ∙ add_comm (w * i) w) ∙ sym (shr-shr a w (w * i))

  field-none : (a : ℕ) → a / 2 ^ (w * 0) ≡ a
  field-none a = ap (λ (e : ℕ). a / 2 ^ e) (mul-zero w) ∙ div-one a

  pub joined-suc : (f : ℕ → ℕ) (n : ℕ) → joined w f (suc n) ≡ joined w (λ i. f (suc i)) n * 2 ^ w + f 0
  joined-suc f n =
      sum_below-first (λ i. f i * 2 ^ (w * i)) n
      ∙ ap₂ (λ (x y : ℕ). x + y) lowest
      (sum_below-ext (λ j. f (suc j) * 2 ^ (w * suc j)) (λ j. f (suc j) * 2 ^ (w * j) * 2 ^ w) n (λ j l. up j) ∙ sum-scaled (λ j. f (suc j) * 2 ^ (w * j)) (2 ^ w) n)
      ∙ add_comm (f 0) (joined w (λ i. f (suc i)) n * 2 ^ w)
    where
      lowest : f 0 * 2 ^ (w * 0) ≡ f 0
      lowest = ap (λ (x : ℕ). f 0 * 2 ^ x) (mul-zero w) ∙ mul-one (f 0)

      up : (j : ℕ) → f (suc j) * 2 ^ (w * suc j) ≡ f (suc j) * 2 ^ (w * j) * 2 ^ w
      up j =
          ap (λ (x : ℕ). f (suc j) * 2 ^ x) (mul-suc w j)
          ∙ ap (λ (x : ℕ). f (suc j) * x) (pow-add 2 (w * j) w)
          ∙ sym (mul_assoc (f (suc j)) (2 ^ (w * j)) (2 ^ w))

  pub joined-ext : (f g : ℕ → ℕ) (n : ℕ) → ((i : ℕ) → i < n → f i ≡ g i) → joined w f n ≡ joined w g n
  joined-ext f g n same = sum_below-ext (λ i. f i * 2 ^ (w * i)) (λ i. g i * 2 ^ (w * i)) n (λ j l. ap (λ (x : ℕ). x * 2 ^ (w * j)) (same j l))

  pub joined-add : (f g : ℕ → ℕ) (n : ℕ) → joined w f n + joined w g n ≡ joined w (λ i. f i + g i) n
  joined-add f g zero = omega (arith, sum_below-zero (λ i. f i * 2 ^ (w * i)), sum_below-zero (λ i. g i * 2 ^ (w * i)), sum_below-zero (λ i. (f i + g i) * 2 ^ (w * i)))
  joined-add f g (suc n) =
      omega (
        arith,
        joined-add f g n,
        sum_below-suc (λ i. f i * 2 ^ (w * i)) n,
        sum_below-suc (λ i. g i * 2 ^ (w * i)) n,
        sum_below-suc (λ i. (f i + g i) * 2 ^ (w * i)) n,
        add-mul (f n) (g n) (2 ^ (w * n)),
      )

  pub joined-lt : (f : ℕ → ℕ) (n : ℕ) → ((i : ℕ) → i < n → f i < 2 ^ w) → joined w f n < 2 ^ (w * n)
  joined-lt f zero small = rw (sum_below-zero (λ i. f i * 2 ^ (w * i))) (pow_pos (w * 0))
  joined-lt f (suc n) small =
      let rest = joined-lt (λ i. f (suc i)) n (λ i l. small (suc i) (omega arith)) in
      let both = digits_lt rest (small 0 (omega arith)) in
      let wide : 2 ^ (w * suc n) ≡ 2 ^ (w * n) * 2 ^ w = ap (λ (e : ℕ). 2 ^ e) (mul-suc w n) ∙ pow-add 2 (w * n) w in
      omega (arith, joined-suc f n, both, wide)

  pub joined-field : (f : ℕ → ℕ) (n i : ℕ) → ((j : ℕ) → j < n → f j < 2 ^ w) → i < n → joined w f n / 2 ^ (w * i) % 2 ^ w ≡ f i
  joined-field f zero i small l = absurd (omega arith)
  joined-field f (suc n) zero small l =
      ap (λ (x : ℕ). x % 2 ^ w) (field-none (joined w f (suc n))) ∙ ap (λ (x : ℕ). x % 2 ^ w) (joined-suc f n) ∙ low (joined w (λ i. f (suc i)) n) w (small 0 (omega arith))
  joined-field f (suc n) (suc i) small l =
      ap (λ (x : ℕ). x % 2 ^ w) (field-up (joined w f (suc n)) i)
      ∙ ap (λ (x : ℕ). x / 2 ^ (w * i) % 2 ^ w) (ap (λ (x : ℕ). x / 2 ^ w) (joined-suc f n) ∙ high (joined w (λ j. f (suc j)) n) w (small 0 (omega arith)))
      ∙ joined-field (λ j. f (suc j)) n i (λ j k. small (suc j) (omega arith)) (omega arith)

  -- the fields of a number
  pub joined-whole : (n x : ℕ) → joined w (λ i. x / 2 ^ (w * i) % 2 ^ w) n ≡ x % 2 ^ (w * n)
  joined-whole zero x = sum_below-zero (λ i. x / 2 ^ (w * i) % 2 ^ w * 2 ^ (w * i)) ∙ sym (ap (λ (e : ℕ). x % 2 ^ e) (mul-zero w) ∙ mod-one x)
  joined-whole (suc n) x =
      joined-suc (λ i. x / 2 ^ (w * i) % 2 ^ w) n
      ∙ ap₂ (λ (a b : ℕ). a * 2 ^ w + b)
      (joined-ext (λ i. x / 2 ^ (w * suc i) % 2 ^ w) (λ i. x / 2 ^ w / 2 ^ (w * i) % 2 ^ w) n (λ i l. ap (λ (y : ℕ). y % 2 ^ w) (field-up x i)) ∙ joined-whole n (x / 2 ^ w))
      (ap (λ (y : ℕ). y % 2 ^ w) (field-none x))
      ∙ sym (ap (λ (e : ℕ). x % 2 ^ e) (mul-suc w n) ∙ mod-pow-add x (w * n) w)

  pub joined-digit : (f : ℕ → ℕ) (n i e : ℕ) → ((j : ℕ) → j < n → f j < 2 ^ w) → i < n → e < w → digit (joined w f n) (w * i + e) ≡ digit (f i) e
  joined-digit f n i e small l k =
      sym (digit-shr (joined w f n) (w * i) e) ∙ sym (digit-mod (joined w f n / 2 ^ (w * i)) w e k) ∙ ap (λ (x : ℕ). digit x e) (joined-field f n i small l)

  -- r places up, and nothing lost
  joined-delayed : (r : ℕ) (f : ℕ → ℕ) (m : ℕ) → joined w (delayed r f) (r + m) ≡ joined w f m * 2 ^ (w * r)
  joined-delayed zero f m =
      ap (joined w (delayed 0 f)) (zero-add m) ∙ joined-ext (delayed 0 f) f m (λ i l. delayed-none f i)
      ∙ sym (ap (λ (e : ℕ). joined w f m * 2 ^ e) (mul-zero w) ∙ mul-one (joined w f m))
  joined-delayed (suc r) f m =
      ap (joined w (delayed (suc r) f)) (suc-add r m)
      ∙ joined-suc (delayed (suc r) f) (r + m)
      ∙ ap₂ (λ (x y : ℕ). x * 2 ^ w + y) (joined-ext (λ i. delayed (suc r) f (suc i)) (delayed r f) (r + m) (λ i l. delayed-up r f i) ∙ joined-delayed r f m) (delayed-suc r f)
      ∙ add-zero (joined w f m * 2 ^ (w * r) * 2 ^ w)
      ∙ mul_assoc (joined w f m) (2 ^ (w * r)) (2 ^ w)
      ∙ ap (λ (x : ℕ). joined w f m * x) (sym (ap (λ (e : ℕ). 2 ^ e) (mul-suc w r) ∙ pow-add 2 (w * r) w))

  pub joined-shl : (r m : ℕ) (f : ℕ → ℕ) → ((i : ℕ) → i < r + m → f i < 2 ^ w) → joined w f (r + m) * 2 ^ (w * r) % 2 ^ (w * (r + m)) ≡ joined w (delayed r f) (r + m)
  joined-shl r m f small =
      ap (λ (x : ℕ). x % 2 ^ (w * (r + m))) spread
      ∙ add-mul-mod_self_right (joined w f m * 2 ^ (w * r)) over (2 ^ (w * (r + m)))
      ∙ mod-eq_of_lt inside
      ∙ sym (joined-delayed r f m)
    where
      over : ℕ
      over = sum_below (λ j. f (m + j) * 2 ^ (w * j)) r

      wide : 2 ^ (w * (r + m)) ≡ 2 ^ (w * m) * 2 ^ (w * r)
      wide = ap (λ (e : ℕ). 2 ^ e) (ap (λ (e : ℕ). w * e) (add_comm r m) ∙ mul-add w m r) ∙ pow-add 2 (w * m) (w * r)

      inside : joined w f m * 2 ^ (w * r) < 2 ^ (w * (r + m))
      inside = let e : 2 ^ (w * m + w * r) ≡ 2 ^ (w * m) * 2 ^ (w * r) = pow-add 2 (w * m) (w * r) in omega (arith, wide, e, shl_lt (w * m) (w * r) (joined-lt f m (λ i l. small i (omega arith))))

      -- the fields from m on, as a number of their own
      upper : (j : ℕ) → f (m + j) * 2 ^ (w * (m + j)) ≡ f (m + j) * 2 ^ (w * j) * 2 ^ (w * m)
      upper j =
          ap (λ (e : ℕ). f (m + j) * 2 ^ e) (mul-add w m j ∙ add_comm (w * m) (w * j))
          ∙ ap (λ (x : ℕ). f (m + j) * x) (pow-add 2 (w * j) (w * m))
          ∙ sym (mul_assoc (f (m + j)) (2 ^ (w * j)) (2 ^ (w * m)))

      parts : joined w f (r + m) ≡ joined w f m + over * 2 ^ (w * m)
      parts =
          ap (joined w f) (add_comm r m)
          ∙ sum_below-add (λ i. f i * 2 ^ (w * i)) m r
          ∙ ap (λ (x : ℕ). joined w f m + x)
          (sum_below-ext (λ j. f (m + j) * 2 ^ (w * (m + j))) (λ j. f (m + j) * 2 ^ (w * j) * 2 ^ (w * m)) r (λ j l. upper j) ∙ sum-scaled (λ j. f (m + j) * 2 ^ (w * j)) (2 ^ (w * m)) r)

      spread : joined w f (r + m) * 2 ^ (w * r) ≡ joined w f m * 2 ^ (w * r) + over * 2 ^ (w * (r + m))
      spread =
          ap (λ (x : ℕ). x * 2 ^ (w * r)) parts
          ∙ add-mul (joined w f m) (over * 2 ^ (w * m)) (2 ^ (w * r))
          ∙ ap (λ (x : ℕ). joined w f m * 2 ^ (w * r) + x) (mul_assoc over (2 ^ (w * m)) (2 ^ (w * r)) ∙ ap (λ (x : ℕ). over * x) (sym wide))

-- ---- the halves of each field

abbrev pub comb : ℕ → ℕ → ℕ
comb w n = joined (w + w) (λ i. 2 ^ w - 1) n

abbrev pub folded : ℕ → ℕ → ℕ → ℕ
folded w mask a = bit_and a mask + bit_and (a / 2 ^ w) mask

pub and-comb : (w n a : ℕ) → bit_and a (comb w n) ≡ joined (w + w) (λ i. a / 2 ^ ((w + w) * i) % 2 ^ w) n
and-comb w zero a =
    ap (bit_and a) (sum_below-zero (λ i. (2 ^ w - 1) * 2 ^ ((w + w) * i))) ∙ and_zero_r a ∙ sym (sum_below-zero (λ i. a / 2 ^ ((w + w) * i) % 2 ^ w * 2 ^ ((w + w) * i)))
and-comb w (suc n) a =
    ap₂ bit_and (sym (split a (w + w))) (joined-suc (w + w) (λ i. 2 ^ w - 1) n)
    ∙ and_block (w + w) (a / 2 ^ (w + w)) (comb w n) (a % 2 ^ (w + w)) (2 ^ w - 1) (mod-lt a (pow_pos (w + w))) narrow
    ∙ ap₂ (λ (x y : ℕ). x * 2 ^ (w + w) + y)
    (and-comb w n (a / 2 ^ (w + w)) ∙ joined-ext (w + w) (λ i. a / 2 ^ (w + w) / 2 ^ ((w + w) * i) % 2 ^ w) (λ i. a / 2 ^ ((w + w) * suc i) % 2 ^ w) n (λ i l. ap (λ (x : ℕ). x % 2 ^ w) (sym (field-up (w + w) a i))))
    (and_mask (a % 2 ^ (w + w)) w ∙ mod-mod-pow a w w ∙ ap (λ (x : ℕ). x % 2 ^ w) (sym (field-none (w + w) a)))
    ∙ sym (joined-suc (w + w) (λ i. a / 2 ^ ((w + w) * i) % 2 ^ w) n)
  where
    narrow : 2 ^ w - 1 < 2 ^ (w + w)
    narrow = lt_of_lt_of_le (ones_lt w) (pow_mono {i = w} {j = w + w} (le-add_right w w))

pub folded-fields : (w n mask a : ℕ) → mask ≡ comb w n → folded w mask a ≡ joined (w + w) (λ i. a / 2 ^ ((w + w) * i) % 2 ^ w + a / 2 ^ w / 2 ^ ((w + w) * i) % 2 ^ w) n
folded-fields w n mask a is =
    ap (λ (c : ℕ). folded w c a) is
    ∙ ap₂ (λ (x y : ℕ). x + y) (and-comb w n a) (and-comb w n (a / 2 ^ w))
    ∙ joined-add (w + w) (λ i. a / 2 ^ ((w + w) * i) % 2 ^ w) (λ i. a / 2 ^ w / 2 ^ ((w + w) * i) % 2 ^ w) n
