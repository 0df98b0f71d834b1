-- Uses of `Acceptance.EveryImage`: A's image is accepted by the test, by 01's list and by its map, which is the only one; slices whose first bit is 0 are not. Assumes nothing.
use mathlib.Core.Path.{◌≡◌, refl, sym, ◌∙◌}
use mathlib.Core.Bool.{true, false, true≢false}
use mathlib.Core.List.{[], ◌∷◌}
use Rattle.keymap.specs.Bits.{bit}
use Rattle.keymap.specs.Decode.{image_map}
use Rattle.image.specs.Accept.{Accepted, OfMap}
use Rattle.image.specs.AcceptTest.{entry_fits, labels_rise, one_fits, childless_fits, bit_fits, passes_from, lengths_fit, ends_fit, image_test}
use Rattle.image.specs.AcceptAnswer.{accept_says}
use Rattle.theorems.specs.Acceptance.{Acceptance}
use Rattle.theorems.proofs.Acceptance.{every-image}
use Rattle.theorems.proofs.Uses.Values.{map_a, catalogue_a, image_a, image_a-is, lent_a, damaged, damaged-lent}

of_a : Acceptance image_a
of_a = every-image image_a lent_a

of_damaged : Acceptance damaged
of_damaged = every-image damaged damaged-lent

test_a : image_test image_a ≡ true
unfolding image_test lengths_fit ends_fit passes_from bit_fits one_fits childless_fits entry_fits labels_rise bit
test_a = refl

damaged-test : image_test damaged ≡ false
unfolding image_test lengths_fit ends_fit passes_from bit_fits one_fits childless_fits entry_fits labels_rise bit
damaged-test = refl

-- what the test accepts some map has, and what it refuses none
pub tests-map : OfMap image_a × (OfMap damaged → ⊥)
tests-map = (of_a.tests-map.0 test_a, λ m. true≢false (sym (of_damaged.tests-map.1 m) ∙ damaged-test))

-- 01's list holds of the one and not of the other
pub tests-list : Accepted image_a × (Accepted damaged → ⊥)
tests-list = (of_a.tests-list.0 test_a, λ l. true≢false (sym (of_damaged.tests-list.1 l) ∙ damaged-test))

-- the list is as good as the map
pub list-map : OfMap image_a × Accepted image_a
list-map = (of_a.list-map.0 tests-list.0, of_a.list-map.1 tests-map.0)

-- `accept` answers 0 of A's image, and 6 of the other
pub accepts : (accept_says image_a ≡ 0 ∷ []) × (accept_says damaged ≡ 0 ∷ [] → ⊥)
accepts = (of_a.accepts.1 tests-map.0, λ s. tests-map.1 (of_damaged.accepts.0 s))

pub refusal : (accept_says damaged ≡ 6 ∷ []) × (accept_says image_a ≡ 6 ∷ [] → ⊥)
refusal = (of_damaged.refusal.1 tests-map.1, λ s. of_a.refusal.0 s tests-map.0)

-- the map that the searches speak of is A's
pub only : image_map image_a ≡ map_a
only = of_a.only map_a catalogue_a image_a-is
