-- `longest_prefix` (01, module 5): "the longest common prefix of all keys beginning with the query; no match if there
-- are none or it is empty.
-- It is written to a lent buffer and its length answered; no match writes nothing."
-- Assumes nothing.
use Rattle.std.specs.Prelude.{ℕ, cond, List, [], ◌∷◌, Option, None, Some}
use Rattle.keymap.specs.Key.{Key}
use Rattle.keymap.specs.Queries.{longest_prefix_in}
use Rattle.keymap.specs.Answers.{says_written, written_key}
use Rattle.keymap.specs.Image.{Image}
use Rattle.keymap.specs.Decode.{image_map}
use Rattle.image.specs.AcceptTest.{image_test}
use Rattle.image.specs.AcceptAnswer.{on_image}

abbrev pub says_longest : Option Key → List ℕ → List ℕ
says_longest None out = 0 ∷ []
says_longest (Some k) out = says_written k out

unfoldable pub longest_says : Image → Key → List ℕ → List ℕ
longest_says i q out = on_image i (says_longest (longest_prefix_in q (image_map i)) out)

unfoldable pub longest_out : Image → Key → List ℕ → List ℕ
longest_out i q out = cond (image_test i) (written_key (longest_prefix_in q (image_map i)) out) out
