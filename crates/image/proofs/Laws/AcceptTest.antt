-- The image test by its cases: each test that fails makes the whole false, and the last case is the one that is left.
--
--     labels_rise-is                     two labels
--     childless_fits-root, ..            a node without child
--     bit_fits-one, ..                   a bit, by itself and the one before
--     lengths-told, lengths-fit          the test of the lengths: what it tells, and back
--     image_test-unfit, ..               the whole, by the first test that fails
-- Assumes nothing.
use mathlib.Core.Path.{◌≡◌, refl, sym, ◌∙◌}
use Prim.Native.Nat.{ℕ, ◌+◌, ◌-◌, ◌*◌, ◌/◌, ◌%◌, ◌^◌, ◌≤◌, ◌<◌}
use mathlib.Core.Bool.{Bool, true, false, true≢false, ◌&&◌}
use mathlib.Core.List.{List}
use lib.ListN.{length, get_or}
use lib.Dec.{eqb, ltb, leb}
use borrow.Author.Tests.{lt-ltb, le-ltb, le-leb, eq-eqb, ne_eqb, leb-true, eqb-true}
use Rattle.keymap.specs.Limits.{word_bits, most_records}
use Rattle.keymap.specs.Label.{mark, label_in}
use Rattle.keymap.specs.Bits.{words_for}
use Rattle.keymap.specs.Image.{Image, bits_for}
use Rattle.image.specs.Accept.{entries}
use Rattle.image.specs.AcceptTest.{labels_rise, one_fits, childless_fits, bit_fits, passes_from, lengths_fit, ends_fit, image_test}

-- ---- the tests by their cases

pub labels_rise-is : (ls : List ℕ) (e : ℕ) → labels_rise ls e ≡ ltb (label_in (get_or ls e 0)) (label_in (get_or ls (e + 1) 0))
unfolding labels_rise
labels_rise-is ls e = refl

pub childless_fits-root : (ls : List ℕ) (m : ℕ) → m < 2 → childless_fits ls m ≡ true
unfolding childless_fits
childless_fits-root ls m h = rw (lt-ltb m 2 h)

pub childless_fits-node : (ls : List ℕ) (m : ℕ) → 2 ≤ m → childless_fits ls m ≡ leb mark (get_or ls (m - 2) 0)
unfolding childless_fits
childless_fits-node ls m h = rw (le-ltb m 2 h)

module _ (ls vs : List ℕ) (b before ones zeros : ℕ) where
  pub bit_fits-one : (b ≡ 0 → ⊥) → bit_fits ls vs b before ones zeros ≡ one_fits ls vs before ones zeros
  unfolding bit_fits
  bit_fits-one h = rw (ne_eqb b 0 h)

  pub bit_fits-closing : b ≡ 0 → (before ≡ 0 → ⊥) → bit_fits ls vs b before ones zeros ≡ true
  unfolding bit_fits
  bit_fits-closing h z = rw (eq-eqb b 0 h, ne_eqb before 0 z)

  pub bit_fits-childless : b ≡ 0 → before ≡ 0 → bit_fits ls vs b before ones zeros ≡ childless_fits ls zeros
  unfolding bit_fits
  bit_fits-childless h z = rw (eq-eqb b 0 h, eq-eqb before 0 z)

module _ (i : Image) where
  -- what the last word has above the sequence
  abbrev pub above_end : ℕ
  above_end = get_or i.words (bits_for (entries i) / word_bits) 0 / 2 ^ (bits_for (entries i) % word_bits)

  -- ---- the lengths

  pub record LengthsFit : Type 0 where
    pub few : entries i ≤ most_records
    pub values-fit : length i.values ≡ entries i
    pub words-fit : length i.words ≡ words_for (bits_for (entries i))

  pub lengths-told : lengths_fit i ≡ true → LengthsFit
  unfolding lengths_fit
  lengths-told e = go (leb (entries i) most_records) refl (eqb (length i.values) (entries i)) refl (eqb (length i.words) (words_for (bits_for (entries i)))) refl
    where
      never : lengths_fit i ≡ false → ⊥
      never f = true≢false (sym e ∙ f)

      go : (s : Bool) → leb (entries i) most_records ≡ s → (t : Bool) → eqb (length i.values) (entries i) ≡ t → (u : Bool)
          → eqb (length i.words) (words_for (bits_for (entries i))) ≡ u → LengthsFit
      go true f true g true h = record { few = leb-true _ _ f; values-fit = eqb-true _ _ g; words-fit = eqb-true _ _ h }
      go true f true g false h = absurd (never (rw (f, g, h)))
      go true f false g u h = absurd (never (rw (f, g)))
      go false f t g u h = absurd (never (rw f))

  pub lengths-fit : LengthsFit → lengths_fit i ≡ true
  unfolding lengths_fit
  lengths-fit t = rw (le-leb _ _ t.few, eq-eqb _ _ t.values-fit, eq-eqb _ _ t.words-fit)

  -- ---- the whole

  pub image_test-unfit : lengths_fit i ≡ false → image_test i ≡ false
  unfolding image_test
  image_test-unfit h = rw h

  module _ (fit : lengths_fit i ≡ true) where
    image_test-lengths : image_test i ≡ (ends_fit i && passes_from i (2 * entries i + 1) 2 1 0)
    unfolding image_test
    image_test-lengths = rw fit

    pub image_test-unused : (above_end ≡ 0 → ⊥) → image_test i ≡ false
    unfolding ends_fit
    image_test-unused h = image_test-lengths ∙ rw (ne_eqb above_end 0 h)

    module _ (unused : above_end ≡ 0) where
      pub image_test-start : (get_or i.words 0 0 % 4 ≡ 1 → ⊥) → image_test i ≡ false
      unfolding ends_fit
      image_test-start h = image_test-lengths ∙ rw (eq-eqb above_end 0 unused, ne_eqb (get_or i.words 0 0 % 4) 1 h)

      pub image_test-pass : get_or i.words 0 0 % 4 ≡ 1 → image_test i ≡ passes_from i (2 * entries i + 1) 2 1 0
      unfolding ends_fit
      image_test-pass h = image_test-lengths ∙ rw (eq-eqb above_end 0 unused, eq-eqb (get_or i.words 0 0 % 4) 1 h)
