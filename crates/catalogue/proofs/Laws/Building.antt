-- Laws of the image that is lent after a build: the fronts of the three buffers are the image of the pool's map.
--
--     word-bounded             a pool of 32-bit words is bounded
--     LentParts, lent-parts    what is lent of the buffers after an accepted build of a catalogue
--     build-accepts            a sound pool of the program's length is built in buffers of its lengths
-- Assumes nothing.
use mathlib.Core.Path.{◌≡◌, refl, sym, ap, subst, ◌∙◌}
use Prim.Native.Nat.{ℕ, ◌+◌, ◌*◌, ◌/◌, ◌≤◌, ◌<◌}
use native.Mathlib.Omega.{arith}
use mathlib.Core.Bool.{Bool, true, false, cond}
use mathlib.Core.List.{List, [], ◌∷◌}
use lib.ListN.{length, get_or, take}
use lib.Dec.{ltb}
use borrow.Author.Tests.{le-leb}
use Rattle.keymap.specs.Limits.{value_limit, most_records}
use Rattle.keymap.specs.Bits.{words_for, pack}
use Rattle.keymap.specs.Map.{Map, Catalogue}
use Rattle.keymap.specs.Prefixes.{prefixes}
use Rattle.keymap.specs.Image.{bits_for, image_labels, image_values, image_bits, image}
use Rattle.keymap.specs.Decode.{image_map}
use Rattle.keymap.specs.Refusals.{refuses}
use Rattle.keymap.specs.declared.refusals.Refusal.{Refusal}
use Rattle.keymap.proofs.Laws.Bits.{length-pack}
use Rattle.keymap.proofs.Laws.Image.{image_map-image, length-image_bits, length-image_labels, length-image_values}
use Rattle.records.specs.Words.{Pool, record_words, word, used_count, Bounded}
use Rattle.records.specs.Sound.{Sound}
use Rattle.records.specs.SoundTest.{sound_test}
use Rattle.records.specs.Meaning.{pool_map}
use Rattle.records.proofs.Laws.Sound.{used-within}
use Rattle.records.proofs.Laws.SoundTest.{test-sound}
use Rattle.records.proofs.Laws.Meaning.{count-prefixes}
use Rattle.pool.specs.Answers.{accepted}
use Rattle.keymap.specs.Buffers.{over}
use Rattle.image.specs.Build.{buffers_fit, fit_says, build_says, build_labels, build_values, build_words}
use Rattle.image.specs.Meaning.{as_image, MapImage}
use Rattle.keymap.proofs.Laws.Buffers.{length_over, take-over}
use Rattle.image.proofs.Laws.Build.{fit_all, says-sound}
use Rattle.image.proofs.Laws.PoolImage.{build-means-image}
use Rattle.catalogue.specs.Limits.{program_capacity}

pub word-bounded : (p : Pool) → ((j : ℕ) → get_or p j 0 < value_limit) → Bounded p
unfolding word
word-bounded p h = λ c k. h _

map-image : (m : Map) → Catalogue m → length (prefixes m) ≤ most_records → MapImage (image m)
unfolding image
map-image m c few =
    let back : image_map (image m) ≡ m = image_map-image m c in
    record { few = omega (arith, length-image_labels m); catalogue = subst Catalogue (sym back) c; whole = ap image back }

-- an accepted build is of a sound pool, and every buffer fits
record Fitting (p : Pool) (ls vs ws qs : List ℕ) (n : ℕ) : Type 0 where
  sound : Sound p
  count : n ≡ used_count p
  fits : (used_count p ≤ length ls) × (used_count p ≤ length vs) × (words_for (bits_for (used_count p)) ≤ length ws) × (used_count p ≤ length qs)

build-fitting : (p : Pool) (ls vs ws qs : List ℕ) (n : ℕ) → 0 ∷ n ∷ [] ≡ build_says p ls vs ws qs → Fitting p ls vs ws qs n
unfolding build_says fit_says
build-fitting p ls vs ws qs n h = go (ltb (length p) record_words) (sound_test p) (buffers_fit (used_count p) (length ls) (length vs) (length ws) (length qs)) refl refl h
  where
    go : (t u w : Bool) → sound_test p ≡ u → buffers_fit (used_count p) (length ls) (length vs) (length ws) (length qs) ≡ w
        → 0 ∷ n ∷ [] ≡ cond t (refuses Refusal.PoolTooSmall) (cond u (cond w (0 ∷ used_count p ∷ []) (refuses Refusal.OutTooSmall)) (refuses Refusal.NotAPool))
        → Fitting p ls vs ws qs n
    go true u w a b q = let z : ◌≡◌ {A = ℕ} 0 1 = cc in absurd (omega arith)
    go false false w a b q = let z : ◌≡◌ {A = ℕ} 0 2 = cc in absurd (omega arith)
    go false true false a b q = let z : ◌≡◌ {A = ℕ} 0 5 = cc in absurd (omega arith)
    go false true true a b q = let same : n ≡ used_count p = cc in record { sound = test-sound p a; count = same; fits = fit_all _ _ _ _ _ b }

-- the front of a buffer
front : (xs ys after : List ℕ) (n : ℕ) → n ≡ length xs → length xs ≤ length ys → after ≡ over xs ys → (take n after ≡ xs) × (n ≤ length after)
front xs ys after n e fits is = (
  ap (take n) is ∙ ap (λ (k : ℕ). take k (over xs ys)) e ∙ take-over xs ys,
  omega (arith, ap length is, length_over xs ys fits),
)

-- n labels, n values and the words of 2n + 3 bits
record BuiltImage (p : Pool) (ls vs ws qs : List ℕ) (n : ℕ) : Type 0 where
  labels_in : n ≤ length (build_labels p ls vs ws qs)
  values-in : n ≤ length (build_values p ls vs ws qs)
  words-in : words_for (bits_for n) ≤ length (build_words p ls vs ws qs)
  shows : as_image (take n (build_labels p ls vs ws qs)) (take n (build_values p ls vs ws qs)) (take (words_for (bits_for n)) (build_words p ls vs ws qs)) ≡ image (pool_map p)
  is-map : MapImage (image (pool_map p))
  map_back : image_map (image (pool_map p)) ≡ pool_map p

built-image : (p : Pool) (ls vs ws qs : List ℕ) (n : ℕ) → (Sound p → Catalogue (pool_map p)) → 0 ∷ n ∷ [] ≡ build_says p ls vs ws qs → BuiltImage p ls vs ws qs n
unfolding image
built-image p ls vs ws qs n held h =
    let f = build-fitting p ls vs ws qs n h in
    let m : Map = pool_map p in
    let shown = build-means-image p f.sound ls vs ws qs (ap accepted (sym h)) in
    let c : Catalogue m = held f.sound in
    let many : length (prefixes m) ≡ n = count-prefixes p f.sound ∙ sym f.count in
    let some-labels : n ≡ length (image_labels m) = sym (length-image_labels m ∙ many) in
    let some-values : n ≡ length (image_values m) = sym (length-image_values m ∙ many) in
    let words_are : length (pack (image_bits m)) ≡ words_for (bits_for n) = length-pack (image_bits m) ∙ ap words_for (length-image_bits m c) ∙ ap (λ (k : ℕ). words_for (bits_for k)) many in
    let ls-front = front (image_labels m) ls _ n some-labels (omega (arith, f.count, f.fits.0)) shown.labels-show in
    let vs-front = front (image_values m) vs _ n some-values (omega (arith, f.count, f.fits.1)) shown.values-show in
    let ws-front = front (pack (image_bits m)) ws _ (words_for (bits_for n)) (sym words_are) (omega (arith, f.count, f.fits.2, words_are)) shown.words-show in
    let l = ls-front.0 in
    let v = vs-front.0 in
    let w = ws-front.0 in
    record {
      labels_in = ls-front.1;
      values-in = vs-front.1;
      words-in = ws-front.1;
      shows = λ i. record { labels = l i; values = v i; words = w i };
      is-map = map-image m c (omega (arith, many, f.count, used-within p f.sound));
      map_back = image_map-image m c;
    }

-- the same of the buffers as a build left them, where w words are lent
pub record LentParts (p : Pool) (labels values words : List ℕ) (n w : ℕ) : Type 0 where
  pub labels_in : n ≤ length labels
  pub values-in : n ≤ length values
  pub words-in : w ≤ length words
  pub is-map : MapImage (as_image (take n labels) (take n values) (take w words))
  pub map_is : image_map (as_image (take n labels) (take n values) (take w words)) ≡ pool_map p

pub lent-parts : (p : Pool) (ls vs ws qs : List ℕ) (n w : ℕ) (labels values words : List ℕ) → w ≡ words_for (bits_for n) → (Sound p → Catalogue (pool_map p)) → 0 ∷ n ∷ [] ≡ build_says p ls vs ws qs
    → labels ≡ build_labels p ls vs ws qs → values ≡ build_values p ls vs ws qs → words ≡ build_words p ls vs ws qs → LentParts p labels values words n w
lent-parts p ls vs ws qs n w labels values words sized held h l v d =
    let b = built-image p ls vs ws qs n held h in
    let shows : as_image (take n labels) (take n values) (take w words) ≡ image (pool_map p) = (λ i. as_image (take n (l i)) (take n (v i)) (take (sized i) (d i))) ∙ b.shows in
    record {
      labels_in = subst (λ (xs : List ℕ). n ≤ length xs) (sym l) b.labels_in;
      values-in = subst (λ (xs : List ℕ). n ≤ length xs) (sym v) b.values-in;
      words-in = omega (arith, sized, ap length d, b.words-in);
      is-map = subst MapImage (sym shows) b.is-map;
      map_is = ap image_map shows ∙ b.map_back;
    }

-- a sound pool of the program's length is built in buffers of its lengths
pub build-accepts : (p : Pool) → Sound p → length p ≡ 10245 → (ls vs ws qs : List ℕ) → length ls ≡ program_capacity → length vs ≡ program_capacity
    → length ws ≡ 65 → length qs ≡ program_capacity → accepted (build_says p ls vs ws qs) ≡ true
unfolding fit_says buffers_fit
build-accepts p s size ls vs ws qs l v w q =
    let n : ℕ = used_count p in
    let few : n ≤ program_capacity = omega (arith, used-within p s, size) in
    let fit : buffers_fit n (length ls) (length vs) (length ws) (length qs) ≡ true =
    rw (le-leb n (length ls) (omega (arith, few, l)), le-leb n (length vs) (omega (arith, few, v)), le-leb ((2 * n + 3 + 63) / 64) (length ws) (omega (arith, few, w)), le-leb n (length qs) (omega (arith, few, q))) in
    ap accepted (says-sound p ls vs ws qs s ∙ ap (λ (t : Bool). cond t (0 ∷ n ∷ []) (refuses Refusal.OutTooSmall)) fit)
