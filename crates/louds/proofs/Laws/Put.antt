-- Words with a bit set: the digits of `w | 2^j` are w's but for digit j, which is 1.
--
--     length-with_one      as many words
--     with_one-beyond      beyond the last word nothing changes
--     bit-with_one-same    the bit is a one
--     bit-with_one-other   any other bit is as it was
--     with_one-lt          words below 2^64 stay so
--
-- Assumes nothing.
use Rattle.std.proofs.Common.{◌≡◌, ℕ, zero, suc, ◌+◌, ◌-◌, ◌/◌, ◌%◌, ◌^◌, ◌<◌, ◌≤◌, List, length, get_or, sym, refl, ap, ◌∙◌, le_of_suc-le-suc, not-suc-le-zero, mod-lt, zero-lt-suc, pow-suc, arith, lit<, length-set, get_or-set_other, get_or-set_same, pow_pos, pow-add}
use native.Mathlib.Nat.{div_self, div-eq_of_lt, mul-mod_left}
use native.Mathlib.Decide.{dec_le, dec_lt, ℕ_discrete}
use lib.Seq.{set_out}
use lib.Pow.{pow-lt, shl-shr}
use lib.Bits.{bit_or, or_shr, or_mod, or_zero_r, or_lt}
use Rattle.keymap.specs.Limits.{word_bits}
use Rattle.keymap.specs.Bits.{bit}
use Rattle.louds.specs.Put.{with_one}

-- ---- digits

power-same : (j : ℕ) → 2 ^ j / 2 ^ j % 2 ≡ 1
power-same j = ap (λ (x : ℕ). x % 2) (div_self (pow_pos j))

power-other : (j k : ℕ) → (j ≡ k → ⊥) → 2 ^ j / 2 ^ k % 2 ≡ 0
power-other j k d = go (dec_le j k)
  where
    go : Dec (j ≤ k) → 2 ^ j / 2 ^ k % 2 ≡ 0
    go (yes l) = let less : j < k = omega arith in ap (λ (x : ℕ). x % 2) (div-eq_of_lt (pow-lt less))
    go (no l) =
        let r : ℕ = j - k - 1 in
        let e : j ≡ suc r + k = omega arith in
        ap (λ (x : ℕ). x % 2) (ap (λ (x : ℕ). 2 ^ x / 2 ^ k) e ∙ ap (λ (x : ℕ). x / 2 ^ k) (pow-add 2 (suc r) k) ∙ shl-shr (2 ^ suc r) k ∙ pow-suc 2 r)
        ∙ mul-mod_left (2 ^ r) 2

or-one : (x : ℕ) → x < 2 → bit_or x 1 ≡ 1
or-one zero h = refl
or-one (suc zero) h = refl
or-one (suc (suc x)) h = absurd (not-suc-le-zero (le_of_suc-le-suc (le_of_suc-le-suc h)))

or-digit : (w v k : ℕ) → bit_or w v / 2 ^ k % 2 ≡ bit_or (w / 2 ^ k % 2) (v / 2 ^ k % 2)
or-digit w v k = ap (λ (x : ℕ). x % 2) (or_shr w v k) ∙ or_mod (w / 2 ^ k) (v / 2 ^ k) 1

-- ---- words

module _ (ws : List ℕ) (p : ℕ) where
  pub length-with_one : length (with_one ws p) ≡ length ws
  unfolding with_one
  length-with_one = length-set ws (p / word_bits) (bit_or (get_or ws (p / word_bits) 0) (2 ^ (p % word_bits)))

  pub with_one-beyond : length ws ≤ p / word_bits → with_one ws p ≡ ws
  unfolding with_one
  with_one-beyond out = set_out ws (p / word_bits) (bit_or (get_or ws (p / word_bits) 0) (2 ^ (p % word_bits))) out

  -- the word that changes
  get_or-with_one : p / word_bits < length ws → get_or (with_one ws p) (p / word_bits) 0 ≡ bit_or (get_or ws (p / word_bits) 0) (2 ^ (p % word_bits))
  unfolding with_one
  get_or-with_one inside = get_or-set_same ws (p / word_bits) (bit_or (get_or ws (p / word_bits) 0) (2 ^ (p % word_bits))) 0 inside

  get_or-with_one-other : (w : ℕ) → (w ≡ p / word_bits → ⊥) → get_or (with_one ws p) w 0 ≡ get_or ws w 0
  unfolding with_one
  get_or-with_one-other w d = get_or-set_other ws (p / word_bits) w (bit_or (get_or ws (p / word_bits) 0) (2 ^ (p % word_bits))) 0 d

  pub bit-with_one-same : p / word_bits < length ws → bit (with_one ws p) p ≡ 1
  unfolding bit
  bit-with_one-same inside =
      ap (λ (x : ℕ). x / 2 ^ (p % word_bits) % 2) (get_or-with_one inside)
      ∙ or-digit (get_or ws (p / word_bits) 0) (2 ^ (p % word_bits)) (p % word_bits)
      ∙ ap (bit_or (get_or ws (p / word_bits) 0 / 2 ^ (p % word_bits) % 2)) (power-same (p % word_bits))
      ∙ or-one (get_or ws (p / word_bits) 0 / 2 ^ (p % word_bits) % 2) (mod-lt (get_or ws (p / word_bits) 0 / 2 ^ (p % word_bits)) (zero-lt-suc 1))

  pub bit-with_one-other : (i : ℕ) → (i ≡ p → ⊥) → bit (with_one ws p) i ≡ bit ws i
  unfolding bit
  bit-with_one-other i d = go (dec_lt (p / word_bits) (length ws)) (ℕ_discrete (i / word_bits) (p / word_bits))
    where
      go : Dec (p / word_bits < length ws) → Dec (i / word_bits ≡ p / word_bits) → bit (with_one ws p) i ≡ bit ws i
      go (no out) same = rw (with_one-beyond (omega arith))
      go (yes inside) (no e) = ap (λ (x : ℕ). x / 2 ^ (i % word_bits) % 2) (get_or-with_one-other (i / word_bits) e)
      go (yes inside) (yes e) =
          ap (λ (x : ℕ). get_or (with_one ws p) x 0 / 2 ^ (i % word_bits) % 2) e
          ∙ ap (λ (x : ℕ). x / 2 ^ (i % word_bits) % 2) (get_or-with_one inside)
          ∙ or-digit (get_or ws (p / word_bits) 0) (2 ^ (p % word_bits)) (i % word_bits)
          ∙ ap (bit_or (get_or ws (p / word_bits) 0 / 2 ^ (i % word_bits) % 2)) (power-other (p % word_bits) (i % word_bits) (λ q. d (omega (arith, e, q))))
          ∙ or_zero_r (get_or ws (p / word_bits) 0 / 2 ^ (i % word_bits) % 2)
          ∙ ap (λ (x : ℕ). get_or ws x 0 / 2 ^ (i % word_bits) % 2) (sym e)

  pub with_one-lt : ((w : ℕ) → get_or ws w 0 < 2 ^ word_bits) → (w : ℕ) → get_or (with_one ws p) w 0 < 2 ^ word_bits
  with_one-lt below w = go (dec_lt (p / word_bits) (length ws)) (ℕ_discrete w (p / word_bits))
    where
      go : Dec (p / word_bits < length ws) → Dec (w ≡ p / word_bits) → get_or (with_one ws p) w 0 < 2 ^ word_bits
      go (no out) same = rw (with_one-beyond (omega arith)) (below w)
      go (yes inside) (no e) = rw (get_or-with_one-other w e) (below w)
      go (yes inside) (yes e) = rw (e, get_or-with_one inside) (or_lt word_bits (get_or ws (p / word_bits) 0) (2 ^ (p % word_bits)) (below (p / word_bits)) (pow-lt (mod-lt p (lit< tt))))
