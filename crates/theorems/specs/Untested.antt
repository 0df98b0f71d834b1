-- The lookup that does not read the catalogue (02, R-7): "an exact lookup that refuses 6 only for n above 4,096 or
-- lengths that do not fit n", and else answers by the rule of `walks/specs/Rule` (`untested_says`). "On accepted images
-- it equals the full exact match, the empty query included.
-- Two images with the same n and bits, agreeing on the entries of the siblings met and on the value found, give the
-- same answer."
-- Assumes nothing.
use Rattle.std.specs.Prelude.{◌≡◌, ◌↔◌, ◌≤◌, length}
use Rattle.keymap.specs.Key.{Key}
use Rattle.keymap.specs.Limits.{most_records}
use Rattle.keymap.specs.Refusals.{refuses}
use Rattle.keymap.specs.declared.refusals.Refusal.TheVariants.{NotAnImage}
use Rattle.keymap.specs.Bits.{words_for}
use Rattle.keymap.specs.Image.{Image, bits_for}
use Rattle.image.specs.Accept.{entries, Accepted, LentSlices}
use Rattle.searches.specs.Exact.{exact_says}
use Rattle.searches.specs.Untested.{untested_says}
use Rattle.searches.specs.Met.{Alike}

-- n is at most 4,096, and there are as many values and words as it asks for
abbrev pub LengthsFit : Image → Type 0
LengthsFit i =
    (entries i ≤ most_records) × (length i.values ≡ entries i) × (length i.words ≡ words_for (bits_for (entries i)))

-- of any three slices and any query
pub record Untested : Type 0 where
  pub refusal : (i : Image) (q : Key) → (untested_says i q ≡ refuses NotAnImage) ↔ (LengthsFit i → ⊥)
  pub accepted : (i : Image) → LentSlices i → Accepted i → (q : Key) → untested_says i q ≡ exact_says i q
  pub alike : (i j : Image) (q : Key) → Alike i j q → untested_says i q ≡ untested_says j q
