-- The numbers that calls answer lie within what they were lent, so that what is lent on of it is there.
--
--     key-within      a key that was written is no longer than the buffer
--     built-within    the nodes that were built have room in each buffer, and there is a word
--     used-within     the records in use are no more than the capacity
-- Assumes nothing.
use mathlib.Core.Path.{◌≡◌, refl}
use Prim.Native.Nat.{ℕ, ◌+◌, ◌-◌, ◌*◌, ◌/◌, ◌≤◌}
use native.Mathlib.Omega.{arith}
use mathlib.Core.Bool.{Bool, true, false, cond}
use mathlib.Core.List.{List, [], ◌∷◌}
use Rattle.std.specs.Prelude.{Option, None, Some}
use lib.ListN.{length}
use lib.Dec.{leb, ltb}
use borrow.Author.Tests.{leb-true}
use Rattle.keymap.specs.Key.{Key}
use Rattle.keymap.specs.Image.{Image}
use Rattle.keymap.specs.Decode.{image_map}
use Rattle.records.specs.Words.{Pool, record_words, used_count}
use Rattle.records.specs.SoundTest.{sound_test}
use Rattle.records.proofs.Laws.Sound.{used-within as sound-within}
use Rattle.records.proofs.Laws.SoundTest.{test-sound}
use Rattle.pool.specs.UseCount.{use_count_says}
use Rattle.image.specs.AcceptTest.{image_test}
use Rattle.image.specs.Build.{buffers_fit, fit_says, build_says}
use Rattle.image.proofs.Laws.Build.{fit_all}
use Rattle.listings.specs.declared.answers.Cursor.{Cursor}
use Rattle.listings.specs.Cursors.{belongs}
use Rattle.listings.specs.GivenKey.{key_of, says_key, key_says}

pub key-within : (i : Image) (at : Cursor) (out : List ℕ) (n : ℕ) → 0 ∷ n ∷ [] ≡ key_says i at out → n ≤ length out
unfolding key_says
key-within i at out n h = go (image_test i) (belongs (image_map i) at) (key_of (image_map i) at) h
  where
    fits : (k : Key) (t : Bool) → leb (length k) (length out) ≡ t
        → 0 ∷ n ∷ [] ≡ cond t (0 ∷ length k ∷ []) (8 ∷ []) → n ≤ length out
    fits k true l q = let same : n ≡ length k = cc in omega (arith, leb-true (length k) (length out) l)
    fits k false l q = let z : ◌≡◌ {A = ℕ} 0 8 = cc in absurd (omega arith)

    go : (t u : Bool) (k : Option Key) → 0 ∷ n ∷ [] ≡ cond t (cond u (says_key k out) (7 ∷ [])) (6 ∷ []) → n ≤ length out
    go false u k q = let z : ◌≡◌ {A = ℕ} 0 6 = cc in absurd (omega arith)
    go true false k q = let z : ◌≡◌ {A = ℕ} 0 7 = cc in absurd (omega arith)
    go true true None q = let z : ◌≡◌ {A = ℕ} 0 7 = cc in absurd (omega arith)
    go true true (Some k) q = fits k (leb (length k) (length out)) refl q

-- n nodes, in so many labels, values and words
abbrev pub Within : (n labels values words : ℕ) → Type 0
Within n labels values words = (n ≤ labels) × (n ≤ values) × ((2 * n + 66) / 64 ≤ words)

pub built-within : (p : Pool) (ls vs ws qs : List ℕ) (n : ℕ)
    → 0 ∷ n ∷ [] ≡ build_says p ls vs ws qs → 1 ≤ length ws → Within n (length ls) (length vs) (length ws)
unfolding build_says fit_says
built-within p ls vs ws qs n is some_word =
    go (ltb (length p) record_words) (sound_test p) (buffers_fit (used_count p) (length ls) (length vs) (length ws) (length qs)) refl is
  where
    go : (t u w : Bool) → buffers_fit (used_count p) (length ls) (length vs) (length ws) (length qs) ≡ w
        → 0 ∷ n ∷ [] ≡ cond t (1 ∷ []) (cond u (cond w (0 ∷ used_count p ∷ []) (5 ∷ [])) (2 ∷ []))
        → Within n (length ls) (length vs) (length ws)
    go true u w q e = let z : ◌≡◌ {A = ℕ} 0 1 = cc in absurd (omega arith)
    go false false w q e = let z : ◌≡◌ {A = ℕ} 0 2 = cc in absurd (omega arith)
    go false true false q e = let z : ◌≡◌ {A = ℕ} 0 5 = cc in absurd (omega arith)
    go false true true q e =
        let all = fit_all _ _ _ _ _ q in
        let same : n ≡ used_count p = cc in
        (omega (arith, all.0), omega (arith, all.1), omega (arith, all.2))

pub used-within : (p : Pool) (n : ℕ) → 0 ∷ n ∷ [] ≡ use_count_says p → n ≤ length p / record_words - 1
unfolding use_count_says
used-within p n is = go (ltb (length p) record_words) (sound_test p) refl is
  where
    go : (t u : Bool) → sound_test p ≡ u → 0 ∷ n ∷ [] ≡ cond t (1 ∷ []) (cond u (0 ∷ used_count p ∷ []) (2 ∷ []))
        → n ≤ length p / record_words - 1
    go true u q e = let z : ◌≡◌ {A = ℕ} 0 1 = cc in absurd (omega arith)
    go false false q e = let z : ◌≡◌ {A = ℕ} 0 2 = cc in absurd (omega arith)
    go false true q e =
        let same : n ≡ used_count p = cc in omega (arith, sound-within p (test-sound p q))
