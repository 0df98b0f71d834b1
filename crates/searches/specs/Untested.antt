-- R-7's lookup (02, "One lookup without reading the catalogue"): "an exact lookup that refuses 6 only for n above 4,096
-- or lengths that do not fit n. It reads the first 2n+3 bits by this rule", which is `walks/specs/Rule`.
-- Assumes nothing.
use Rattle.std.specs.Prelude.{ℕ, cond, List}
use Rattle.keymap.specs.Key.{Key}
use Rattle.keymap.specs.Refusals.{refuses}
use Rattle.keymap.specs.declared.refusals.Refusal.TheVariants.{NotAnImage}
use Rattle.keymap.specs.Answers.{says_value}
use Rattle.keymap.specs.Image.{Image}
use Rattle.image.specs.AcceptTest.{lengths_fit}
use Rattle.walks.specs.Rule.{found_by}

unfoldable pub untested_says : Image → Key → List ℕ
untested_says i q = cond (lengths_fit i) (says_value (found_by i q)) (refuses NotAnImage)
