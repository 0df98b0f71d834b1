-- Reading a place (01, module 7): "Value, prefix (written to a lent buffer) and prefix length read the place; at the
-- root no value, empty, 0.
-- Resume refuses a bad place." Each says 6 of an image that no map has, then 7 of a number that is no node's, and
-- `prefix` then 8 of a shorter buffer.
-- Assumes nothing.
use Rattle.std.specs.Prelude.{ℕ, cond, List, [], ◌∷◌, length, Option, Result}
use Rattle.keymap.specs.declared.refusals.Refusal.{Refusal}
use Rattle.keymap.specs.Map.{lookup}
use Rattle.keymap.specs.Image.{Image}
use Rattle.keymap.specs.Paths.{is_node, path_of}
use Rattle.keymap.specs.Decode.{image_map}
use Rattle.keymap.specs.Answers.{said, told_value, says_value, says_written, written_to}
use Rattle.image.specs.AcceptTest.{image_test}
use Rattle.places.specs.declared.answers.Place.{Place}
use Rattle.places.specs.Incremental.{on_place}

abbrev pub said_resumed : Result Place Refusal → List ℕ
said_resumed = said (λ place. place.node ∷ [])

abbrev pub said_valued : Result (Option ℕ) Refusal → List ℕ
said_valued = said told_value

abbrev pub said_measured : Result ℕ Refusal → List ℕ
said_measured = said (λ n. n ∷ [])

unfoldable pub resume_says : Image → ℕ → List ℕ
resume_says i k = on_place i k (0 ∷ k ∷ [])

unfoldable pub value_says : Image → ℕ → List ℕ
value_says i k = on_place i k (says_value (lookup (path_of (image_map i) k) (image_map i)))

unfoldable pub prefix_len_says : Image → ℕ → List ℕ
prefix_len_says i k = on_place i k (0 ∷ length (path_of (image_map i) k) ∷ [])

unfoldable pub prefix_says : Image → ℕ → List ℕ → List ℕ
prefix_says i k out = on_place i k (says_written (path_of (image_map i) k) out)

unfoldable pub prefix_out : Image → ℕ → List ℕ → List ℕ
prefix_out i k out =
    cond (image_test i) (cond (is_node (image_map i) k) (written_to (path_of (image_map i) k) out) out) out
