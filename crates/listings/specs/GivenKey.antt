-- The key of a cursor (01, module 6): "The key of a cursor at a node is written on request and its length answered, in
-- postfix listings from after the query;
-- bytes past the key stay." Refusal 7 is given too where "a key is asked of a cursor that is fresh or finished".
--
--     given_key      the key of a node in a listing
--     key_of         the key that a cursor gave last
--     key_says       the answer, and `key_out`: the buffer afterwards
-- Assumes nothing.
use Rattle.std.specs.Prelude.{ℕ, zero, suc, cond, List, length, drop, Option, None, Some}
use Rattle.keymap.specs.Key.{Key}
use Rattle.keymap.specs.Answers.{says_written, written_key}
use Rattle.keymap.specs.Refusals.{refuses}
use Rattle.keymap.specs.declared.refusals.Refusal.TheVariants.{BadPlace}
use Rattle.keymap.specs.Map.{Map}
use Rattle.keymap.specs.Image.{Image}
use Rattle.keymap.specs.Paths.{path_of}
use Rattle.keymap.specs.Decode.{image_map}
use Rattle.image.specs.AcceptTest.{image_test}
use Rattle.image.specs.AcceptAnswer.{on_image}
use Rattle.listings.specs.declared.answers.Kind.{Kind}
use Rattle.listings.specs.declared.answers.Kind.TheVariants as kinds
use Rattle.listings.specs.declared.answers.Cursor.{Cursor}
use Rattle.listings.specs.declared.answers.Cursor.TheVariants.{Open, Finished}
use Rattle.listings.specs.Cursors.{belongs, on_cursor}

abbrev pub given_key : Map → Kind → ℕ → ℕ → Key
given_key m kinds.Predictive top k = path_of m k
given_key m kinds.Postfix top k = drop (length (path_of m top)) (path_of m k)

abbrev pub key_from : Map → Kind → ℕ → ℕ → Option Key
key_from m kind top zero = None
key_from m kind top (suc k) = Some (given_key m kind top (suc k))

-- none of a fresh cursor, nor of a finished one
abbrev pub key_of : Map → Cursor → Option Key
key_of m (Open kind top last) = key_from m kind top last
key_of m (Finished kind) = None

abbrev pub says_key : Option Key → List ℕ → List ℕ
says_key None out = refuses BadPlace
says_key (Some k) out = says_written k out

unfoldable pub key_says : Image → Cursor → List ℕ → List ℕ
key_says i c out = on_image i (on_cursor (image_map i) c (says_key (key_of (image_map i) c) out))

unfoldable pub key_out : Image → Cursor → List ℕ → List ℕ
key_out i c out =
    cond (image_test i) (cond (belongs (image_map i) c) (written_key (key_of (image_map i) c) out) out) out
