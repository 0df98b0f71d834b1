-- An accepted image is the image of the map that it stands for, and every image of a map is accepted.
--
--     map_image-accepted   such an image is accepted
--     accepted-map_image   an accepted image is such a one
--     tested-map_image     so is one of which the test is true, and `map_image-tested`: of such a one the test is true
-- Assumes nothing.
use mathlib.Core.Path.{◌≡◌, refl, sym, ap, subst, ◌∙◌}
use Prim.Native.Nat.{ℕ, suc, ◌^◌, ◌≤◌, ◌<◌}
use native.Mathlib.Decide.{dec_le}
use native.Mathlib.Omega.{arith}
use mathlib.Core.Bool.{true}
use mathlib.Core.List.{[], ◌∷◌, map}
use Rattle.std.specs.Prelude.{Option, None, Some}
use lib.ListN.{length, get_or, get_or-eq_default}
use Rattle.keymap.specs.Limits.{word_bits, value_limit}
use Rattle.keymap.specs.Key.{Key}
use Rattle.keymap.specs.Map.{Map, Catalogue, lookup}
use Rattle.keymap.specs.Label.{value_word}
use Rattle.keymap.specs.Prefixes.{prefixes}
use Rattle.keymap.specs.Image.{Image, degree, image_bits, image_values, image}
use Rattle.keymap.specs.Paths.{path_of}
use Rattle.keymap.specs.Decode.{image_map}
use Rattle.keymap.proofs.Laws.Map.{lookup-iff, proper-in}
use Rattle.keymap.proofs.Laws.Bits.{pack-lt}
use Rattle.keymap.proofs.Laws.Degrees.{sequence-small}
use Rattle.keymap.proofs.Laws.Image.{length-image_labels, length-image_values}
use Rattle.keymap.proofs.Laws.Paths.{values-node}
use Rattle.image.specs.Accept.{Accepted, LentSlices}
use Rattle.image.specs.AcceptTest.{image_test}
use Rattle.image.specs.Meaning.{MapImage}
use Rattle.image.proofs.Laws.Accept.{accepted-catalogue, accepted-image, map-accepted}
use Rattle.image.proofs.Laws.Passed.{test-accepted, accepted-test}

pub accepted-map_image : (i : Image) → LentSlices i → Accepted i → MapImage i
accepted-map_image i l a = record { few = a.few; catalogue = accepted-catalogue i l a; whole = accepted-image i l a }

pub tested-map_image : (i : Image) → LentSlices i → image_test i ≡ true → MapImage i
tested-map_image i l h = accepted-map_image i l (test-accepted i h)

pub map_image-accepted : (i : Image) → MapImage i → Accepted i
unfolding image
map_image-accepted i m =
    let same : length (prefixes (image_map i)) ≡ length i.labels = sym (length-image_labels (image_map i)) ∙ ap (λ (x : Image). length x.labels) m.whole in
    subst Accepted m.whole (map-accepted (image_map i) m.catalogue (omega (arith, m.few, same)))

-- the image of a map is of words and values that slices can hold
value-small : (m : Map) → Catalogue m → (p : Key) (o : Option ℕ) → lookup p m ≡ o → value_word o < value_limit
value-small m c p None e = omega arith
value-small m c p (Some v) e = (proper-in m c.proper (p, v) ((lookup-iff p v m c.rising).0 e)).2

pub map_image-lent : (i : Image) → MapImage i → LentSlices i
unfolding image image_bits
map_image-lent i h =
    record {
      words-wide = λ w. subst (λ (x : Image). get_or x.words w 0 < 2 ^ word_bits) h.whole (pack-lt (image_bits m) (sequence-small (map (degree m) ([] ∷ prefixes m))) w);
      values-wide = λ e. subst (λ (x : Image). get_or x.values e 0 < value_limit) h.whole (value-wide e (dec_le (suc e) (length (prefixes m))));
    }
  where
    m : Map
    m = image_map i

    value-wide : (e : ℕ) → Dec (e < length (prefixes m)) → get_or (image_values m) e 0 < value_limit
    value-wide e (yes l) = rw (values-node m e l) (value-small m h.catalogue (path_of m (suc (suc e))) (lookup (path_of m (suc (suc e))) m) refl)
    value-wide e (no n) =
        let beyond : length (image_values m) ≤ e = omega (arith, length-image_values m) in
        rw (get_or-eq_default (image_values m) 0 beyond) (omega arith)

pub map_image-tested : (i : Image) → MapImage i → image_test i ≡ true
map_image-tested i h = accepted-test i (map_image-lent i h) (map_image-accepted i h)
