-- The ends of an image's bits, by two of its words: the first word tells the two first bits, and what the last word has above the sequence the unused ones.
--
--     first-bits                  the first two bits are 1, 0
--     unused-bits, unused-word    the bits behind the sequence are 0
-- Assumes nothing.
use mathlib.Core.Path.{◌≡◌, sym, ap, ◌∙◌, subst}
use mathlib.Core.Logic.{◌↔◌}
use Prim.Native.Nat.{ℕ, ◌+◌, ◌-◌, ◌*◌, ◌/◌, ◌%◌, ◌^◌, ◌≤◌, ◌<◌}
use native.Mathlib.Nat.{zero-div, div-one}
use native.Mathlib.Decide.{dec_lt}
use native.Mathlib.Omega.{arith}
use mathlib.Core.List.{List}
use lib.ListN.{length, get_or}
use lib.Pow.{shr-shr, mod-pow-add}
use Rattle.keymap.specs.Limits.{word_bits}
use Rattle.keymap.specs.Bits.{bit, words_for}
use Rattle.keymap.specs.Image.{bits_for}
use Rattle.keymap.proofs.Laws.Bits.{high-none, bit_in, bit-beyond}

-- the two first bits, by the first word
pub first-bits : (ws : List ℕ) → ((bit ws 0 ≡ 1) × (bit ws 1 ≡ 0)) ↔ (get_or ws 0 0 % 4 ≡ 1)
first-bits ws =
    let x : ℕ = get_or ws 0 0 in
    let zeroth : bit ws 0 ≡ x % 2 = bit_in ws 0 0 (omega arith) ∙ ap (λ (y : ℕ). y % 2) (div-one x) in
    let next : bit ws 1 ≡ x / 2 % 2 = bit_in ws 0 1 (omega arith) in
    let parts : x % 4 ≡ x / 2 % 2 * 2 + x % 2 = mod-pow-add x 1 1 in
    (λ h. omega (arith, h.0, h.1), λ h. (omega arith, omega arith))

-- the bits behind the sequence, by what the last word has above it
pub unused-bits : (n : ℕ) (ws : List ℕ) → length ws ≡ words_for (bits_for n) → get_or ws (bits_for n / word_bits) 0 / 2 ^ (bits_for n % word_bits) ≡ 0
    → (p : ℕ) → bits_for n ≤ p → bit ws p ≡ 0
unused-bits n ws l e p h = go (dec_lt (p / word_bits) (length ws))
  where
    w : ℕ
    w = bits_for n / word_bits

    u : ℕ
    u = bits_for n % word_bits

    go : Dec (p / word_bits < length ws) → bit ws p ≡ 0
    go (no out) = bit-beyond ws p (omega arith)
    go (yes inside) =
        let j : ℕ = p - w * word_bits in
        let at : p ≡ w * word_bits + (u + (j - u)) = omega (arith, l) in
        let low : u + (j - u) < word_bits = omega (arith, l) in
        ap (bit ws) at ∙ bit_in ws w (u + (j - u)) low ∙ ap (λ (x : ℕ). x % 2) (sym (shr-shr (get_or ws w 0) u (j - u)) ∙ ap (λ (x : ℕ). x / 2 ^ (j - u)) e ∙ zero-div (2 ^ (j - u)))

pub unused-word : (n : ℕ) (ws : List ℕ) → ((w : ℕ) → get_or ws w 0 < 2 ^ word_bits) → ((p : ℕ) → bits_for n ≤ p → bit ws p ≡ 0)
    → get_or ws (bits_for n / word_bits) 0 / 2 ^ (bits_for n % word_bits) ≡ 0
unused-word n ws wide h =
    let w : ℕ = bits_for n / word_bits in
    let u : ℕ = bits_for n % word_bits in
    let whole : word_bits ≡ (word_bits - u) + u = omega arith in
    high-none (get_or ws w 0) u (word_bits - u) (subst (λ (x : ℕ). get_or ws w 0 < 2 ^ x) whole (wide w)) (λ j l.
    sym (bit_in ws w (u + j) (omega arith)) ∙ h (w * word_bits + (u + j)) (omega arith))
