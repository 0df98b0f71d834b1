-- What `accept` answers, in 01's numbers: refusal 6 "exactly when .. lent image is no map's image", else 0; and how
-- every search begins.
-- Assumes nothing.
use Rattle.std.specs.Prelude.{ℕ, Bool, cond, List, [], ◌∷◌, Result, Ok, Err}
use Rattle.keymap.specs.Refusals.{refuses}
use Rattle.keymap.specs.declared.refusals.Refusal.{Refusal}
use Rattle.keymap.specs.Image.{Image}
use Rattle.image.specs.AcceptTest.{image_test}
use Rattle.keymap.specs.Answers.{said, told_nothing}

-- the answer by the test
abbrev pub accepted_if : Bool → Result (Unit {0}) Refusal
accepted_if fits = cond fits (Ok tt) (Err Refusal.NotAnImage)

abbrev pub said_checked : Result (Unit {0}) Refusal → List ℕ
said_checked = said told_nothing

-- what a call says of an image that some map has, and refusal 6 of any other
abbrev pub on_image : Image → List ℕ → List ℕ
on_image i says = cond (image_test i) says (refuses Refusal.NotAnImage)

unfoldable pub accept_says : Image → List ℕ
accept_says i = on_image i (0 ∷ [])
