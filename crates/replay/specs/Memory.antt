-- What the three slices of a lent image hold.
-- Assumes nothing.
use Rattle.keymap.specs.Image.{Image}
use Rattle.image.specs.Meaning.{image_in}
use Rattle.replay.specs.declared.memory.LentImage.{LentImage}

abbrev pub meant_image : LentImage → Image
meant_image lent = image_in lent.labels lent.values lent.words
