-- The image test computed on the images of 01's worked lines, and on the image of map A with one thing damaged.
-- Assumes nothing.
use mathlib.Core.Path.{◌≡◌, refl}
use mathlib.Core.Bool.{true, false}
use mathlib.Core.List.{List, [], ◌∷◌, map}
use Rattle.keymap.specs.Image.{Image}
use Rattle.keymap.specs.Bits.{bit}
use Rattle.image.specs.Meaning.{as_image}
use Rattle.image.specs.AcceptTest.{entry_fits, labels_rise, one_fits, childless_fits, bit_fits, passes_from, lengths_fit, ends_fit, image_test}

-- the empty map, and map A
abbrev map_images : List Image
map_images = as_image [] [] (1 ∷ []) ∷ as_image (97 ∷ 354 ∷ 354 ∷ []) (0 ∷ 3 ∷ 7 ∷ []) (45 ∷ []) ∷ []

-- map A's, damaged: a value too many, a word too many, an unused bit set, the first bit 0, a one too many, a node before its parent,
-- two siblings of one label, an entry of 512 or more, a value without mark, a leaf without mark
abbrev damaged : List Image
damaged =
    as_image (97 ∷ 354 ∷ 354 ∷ []) (0 ∷ 3 ∷ 7 ∷ 0 ∷ []) (45 ∷ [])
    ∷ as_image (97 ∷ 354 ∷ 354 ∷ []) (0 ∷ 3 ∷ 7 ∷ []) (45 ∷ 0 ∷ [])
    ∷ as_image (97 ∷ 354 ∷ 354 ∷ []) (0 ∷ 3 ∷ 7 ∷ []) (557 ∷ [])
    ∷ as_image (97 ∷ 354 ∷ 354 ∷ []) (0 ∷ 3 ∷ 7 ∷ []) (60 ∷ [])
    ∷ as_image (97 ∷ 354 ∷ 354 ∷ []) (0 ∷ 3 ∷ 7 ∷ []) (173 ∷ [])
    ∷ as_image (97 ∷ 354 ∷ 354 ∷ []) (0 ∷ 3 ∷ 7 ∷ []) (89 ∷ [])
    ∷ as_image (98 ∷ 354 ∷ 354 ∷ []) (0 ∷ 3 ∷ 7 ∷ []) (45 ∷ [])
    ∷ as_image (97 ∷ 354 ∷ 866 ∷ []) (0 ∷ 3 ∷ 7 ∷ []) (45 ∷ [])
    ∷ as_image (97 ∷ 354 ∷ 354 ∷ []) (1 ∷ 3 ∷ 7 ∷ []) (45 ∷ [])
    ∷ as_image (97 ∷ 98 ∷ 354 ∷ []) (0 ∷ 0 ∷ 7 ∷ []) (45 ∷ [])
    ∷ []

pub worked-images : map image_test map_images ≡ true ∷ true ∷ []
unfolding image_test lengths_fit ends_fit passes_from bit_fits one_fits childless_fits entry_fits labels_rise bit
worked-images = refl

pub worked-damaged : map image_test damaged ≡ false ∷ false ∷ false ∷ false ∷ false ∷ false ∷ false ∷ false ∷ false ∷ false ∷ []
unfolding image_test lengths_fit ends_fit passes_from bit_fits one_fits childless_fits entry_fits labels_rise bit
worked-damaged = refl
