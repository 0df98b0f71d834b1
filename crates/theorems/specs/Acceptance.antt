-- When an image is accepted (01, "The image"): "An image is accepted exactly if some map with nonempty keys has it.
-- Equivalently, to be proved: ..".
-- Assumes nothing.
use Rattle.std.specs.Prelude.{◌≡◌, ◌↔◌, true, [], ◌∷◌}
use Rattle.keymap.specs.Refusals.{refuses}
use Rattle.keymap.specs.declared.refusals.Refusal.{Refusal}
use Rattle.keymap.specs.Map.{Map, Catalogue}
use Rattle.keymap.specs.Image.{Image, image}
use Rattle.keymap.specs.Decode.{image_map}
use Rattle.image.specs.Accept.{Accepted, OfMap, LentSlices}
use Rattle.image.specs.AcceptTest.{image_test}
use Rattle.image.specs.AcceptAnswer.{accept_says}

pub record Acceptance (i : Image) : Type 0 where
  -- what the calls test is "some map with nonempty keys has it"
  pub tests-map : (image_test i ≡ true) ↔ OfMap i
  -- and the list that follows there, condition by condition
  pub tests-list : (image_test i ≡ true) ↔ Accepted i
  pub list-map : Accepted i ↔ OfMap i
  -- "NotAnImage .. lent image is no map's image"
  pub accepts : (accept_says i ≡ 0 ∷ []) ↔ OfMap i
  pub refusal : (accept_says i ≡ refuses Refusal.NotAnImage) ↔ (OfMap i → ⊥)
  -- only one map has it, the one that the searches speak of
  pub only : (m : Map) → Catalogue m → image m ≡ i → image_map i ≡ m

-- of any three lent slices
abbrev pub EveryImage : Type 0
EveryImage = (i : Image) → LentSlices i → Acceptance i
