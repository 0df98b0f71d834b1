-- What an accepted image stands for: `image_map` of keymap, whose image it is.
-- Assumes nothing.
use Rattle.std.specs.Prelude.{◌≡◌, List, ℕ, ◌≤◌, length}
use Rattle.std.specs.Borrow.{Bor}
use denote.Triple.Both.{Both}
use Rattle.keymap.specs.Limits.{most_records}
use Rattle.keymap.specs.Map.{Catalogue}
use Rattle.keymap.specs.Image.{Image, image}
use Rattle.keymap.specs.Decode.{image_map}

abbrev pub as_image : List ℕ → List ℕ → List ℕ → Image
as_image ls vs ws = record { labels = ls; values = vs; words = ws }

-- the image that three references hold
abbrev pub image_in : Bor (List ℕ) → Bor (List ℕ) → Bor (List ℕ) → Image
image_in labels values words = as_image labels.now values.now words.now

-- what a contract calls the image: the one that its parameters labels, values and words held at entry, whatever is left
-- of them at exit
abbrev pub lent_image : {X Y Z : Type 0} → Both (Bor (List ℕ)) X → Both (Bor (List ℕ)) Y
    → Both (Bor (List ℕ)) Z → Image
lent_image labels values words = image_in labels.entry values.entry words.entry

-- i is the image of the catalogue that it stands for, with at most as many nodes as there may be
pub record MapImage (i : Image) : Type 0 where
  pub few : length i.labels ≤ most_records
  pub catalogue : Catalogue (image_map i)
  pub whole : image (image_map i) ≡ i
