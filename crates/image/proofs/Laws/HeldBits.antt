-- Words filled with bits from the front: setting the bit right behind those held adds a one, and leaving it be adds a zero, because every bit beyond those held is 0.
-- When the bits fill all the words, these are the pack of the bits.
--
--     HoldsBits                      the words' bits are these, and 0 beyond them
--     held_none                      words of zeros hold no bit yet
--     held_one, held-zero, held-run  one bit more, or a run of ones
--     held-pack                      words that the bits fill are their pack
--     sequence-more                  the level-order sequence of one degree more
-- Assumes nothing.
use Prim.Native.Nat.{ℕ, zero, suc, ◌+◌, ◌*◌, ◌/◌, ◌%◌, ◌^◌, ◌≤◌, ◌<◌}
use mathlib.Core.Path.{◌≡◌, refl, sym, ap, ◌∙◌}
use mathlib.Core.Logic.{⊎_elim}
use mathlib.Core.List.{List, [], ◌∷◌, ◌++◌, append-nil, append_assoc}
use native.Mathlib.Nat.{zero-div}
use native.Mathlib.Omega.{arith}
use lib.ListN.{length, get_or, replicate, length-append, length-replicate, get_or-append, get_or-eq_default}
use lib.Seq.{append_snoc, get_or-append_seam}
use lib.Pow.{pow_pos}
use Rattle.keymap.specs.Limits.{word_bits}
use Rattle.keymap.specs.Bits.{bit, words_for, pack}
use Rattle.keymap.specs.Degrees.{unary, sequence}
use Rattle.keymap.proofs.Laws.Bits.{words-ext, length-pack, pack-lt, bit-pack}
use Rattle.louds.specs.Put.{with_one}
use Rattle.louds.proofs.Laws.Put.{length-with_one, bit-with_one-same, bit-with_one-other, with_one-lt}
use Rattle.records.proofs.Laws.Distinct.{equal_or_not, below_or_not}
use Rattle.image.specs.Buffers.{with_run}

-- the bits of w words are xs
pub record HoldsBits (w : ℕ) (words xs : List ℕ) : Type 0 where
  pub long : length words ≡ w
  pub bits : (i : ℕ) → bit words i ≡ get_or xs i 0
  pub wide : (j : ℕ) → get_or words j 0 < 2 ^ word_bits

zeros-at : (w j : ℕ) → get_or {A = ℕ} (replicate w 0) j 0 ≡ 0
zeros-at zero j = refl
zeros-at (suc w) zero = refl
zeros-at (suc w) (suc j) = zeros-at w j

pub held_none : (w : ℕ) → HoldsBits w (replicate w 0) []
unfolding bit
held_none w = record {
  long = length-replicate {A = ℕ} w 0;
  bits = λ i. ap (λ (x : ℕ). x / 2 ^ (i % word_bits) % 2) (zeros-at w (i / word_bits)) ∙ ap (λ (x : ℕ). x % 2) (zero-div (2 ^ (i % word_bits)));
  wide = λ j. rw (zeros-at w j) (pow_pos word_bits);
}

-- what one element more leaves of the others
get_or-other : (xs : List ℕ) (a i : ℕ) → (i ≡ length xs → ⊥) → get_or (xs ++ (a ∷ [])) i 0 ≡ get_or xs i 0
get_or-other xs a i ne =
    ⊎_elim (λ l. get_or-append xs (a ∷ []) 0 i l)
    (λ h. get_or-eq_default (xs ++ (a ∷ [])) 0 (omega (arith, ne, length-append xs (a ∷ []))) ∙ sym (get_or-eq_default xs 0 h)) (below_or_not i (length xs))

get_or-last : (xs : List ℕ) (a i : ℕ) → i ≡ length xs → get_or (xs ++ (a ∷ [])) i 0 ≡ a
get_or-last xs a i e = ap (λ (k : ℕ). get_or (xs ++ (a ∷ [])) k 0) e ∙ get_or-append_seam xs a [] 0

module _ (w : ℕ) (words xs : List ℕ) (s : HoldsBits w words xs) where
  pub held-zero : HoldsBits w words (xs ++ (0 ∷ []))
  held-zero = record { long = s.long; bits = λ i. s.bits i ∙ ⊎_elim (same i) (λ ne. sym (get_or-other xs 0 i ne)) (equal_or_not i (length xs)); wide = s.wide }
    where
      same : (i : ℕ) → i ≡ length xs → get_or xs i 0 ≡ get_or (xs ++ (0 ∷ [])) i 0
      same i e = get_or-eq_default xs 0 (omega arith) ∙ sym (get_or-last xs 0 i e)

  pub held_one : (p : ℕ) → p ≡ length xs → p < w * word_bits → HoldsBits w (with_one words p) (xs ++ (1 ∷ []))
  held_one p e h = record {
    long = length-with_one words p ∙ s.long;
    bits = λ i. ⊎_elim (same i) (λ (ne : i ≡ p → ⊥). bit-with_one-other words p i ne ∙ s.bits i ∙ sym (get_or-other xs 1 i (λ q. ne (q ∙ sym e)))) (equal_or_not i p);
    wide = with_one-lt words p s.wide;
  }
    where
      inside : p / word_bits < length words
      inside = omega (arith, s.long)

      same : (i : ℕ) → i ≡ p → bit (with_one words p) i ≡ get_or (xs ++ (1 ∷ [])) i 0
      same i q = ap (bit (with_one words p)) q ∙ bit-with_one-same words p inside ∙ sym (get_or-last xs 1 i (q ∙ e))

pub held-run : (d w : ℕ) (words xs : List ℕ) (p : ℕ) → HoldsBits w words xs → p ≡ length xs → p + d ≤ w * word_bits → HoldsBits w (with_run words p d) (xs ++ replicate d 1)
unfolding with_run
held-run zero w words xs p s e h = rw (append-nil xs) s
held-run (suc d) w words xs p s e h =
    rw append_snoc at
    (held-run d w (with_one words p) (xs ++ (1 ∷ [])) (suc p) (held_one w words xs s p e (omega arith)) (omega (arith, length-append xs (1 ∷ []))) (omega arith))

pub held-pack : (w : ℕ) (words xs : List ℕ) → HoldsBits w words xs → w ≡ words_for (length xs) → ((i : ℕ) → get_or xs i 0 ≤ 1) → words ≡ pack xs
held-pack w words xs s e small =
    words-ext words (pack xs) (s.long ∙ e ∙ sym (length-pack xs)) s.wide (pack-lt xs small) (λ i. s.bits i ∙ sym (bit-pack xs small i))

-- ---- degrees

unary-more : (ds : List ℕ) (d : ℕ) → unary (ds ++ (d ∷ [])) ≡ (unary ds ++ replicate d 1) ++ (0 ∷ [])
unfolding unary
unary-more [] d = refl
unary-more (e ∷ ds) d =
    ap (λ (xs : List ℕ). replicate e 1 ++ (0 ∷ xs)) (unary-more ds d)
    ∙ sym (ap (λ (xs : List ℕ). xs ++ (0 ∷ [])) (append_assoc (replicate e 1) (0 ∷ unary ds) (replicate d 1)) ∙ append_assoc (replicate e 1) (0 ∷ (unary ds ++ replicate d 1)) (0 ∷ []))

pub sequence-more : (ds : List ℕ) (d : ℕ) → sequence (ds ++ (d ∷ [])) ≡ (sequence ds ++ replicate d 1) ++ (0 ∷ [])
unfolding sequence
sequence-more ds d = ap (λ (xs : List ℕ). 1 ∷ 0 ∷ xs) (unary-more ds d)
