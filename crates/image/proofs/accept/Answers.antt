-- `image::accept` meets its contract: it answers what the image test says, and so 0 exactly if some map has the image. Assumes nothing.
use mathlib.Core.Path.{sym, ap, ◌∙◌}
use Rattle.std.specs.Prelude.{Ok, Err}
use Rattle.keymap.specs.declared.refusals.Refusal.{Refusal}
use Rattle.image.specs.AcceptAnswer.{accepted_if}
use Rattle.image.specs.Accept.{LentSlices}
use Rattle.image.specs.Meaning.{image_in}
use Rattle.image.proofs.Laws.AcceptAnswer.{accept_says-accepted, accept_says-refused, said-means-map}
use Rattle.image.proofs.accept.Goals as goal

pub returns-then-not-is_image : goal.returns-then-not-is_image
returns-then-not-is_image c =
    let a = c.args in
    let i = image_in a.labels a.values a.words in
    let l : LentSlices i = record { words-wide = λ w. (c.shared_slice_known-3-1.given w).fits; values-wide = λ e. (c.shared_slice_known-2-1.given e).fits } in
    let fits = sym c.is_image.ensures ∙ c.if-not-is_image.true in
    let said = sym (accept_says-refused i fits) in record { tested = ap accepted_if (sym fits); answer = said; of_map = said-means-map i l (Err Refusal.NotAnImage) said }

pub returns : goal.returns
returns c =
    let a = c.args in
    let i = image_in a.labels a.values a.words in
    let l : LentSlices i = record { words-wide = λ w. (c.shared_slice_known-3-1.given w).fits; values-wide = λ e. (c.shared_slice_known-2-1.given e).fits } in
    let fits = sym c.is_image.ensures ∙ c.if-not-is_image.false in
    let said = sym (accept_says-accepted i fits) in record { tested = ap accepted_if (sym fits); answer = said; of_map = said-means-map i l (Ok tt) said }
