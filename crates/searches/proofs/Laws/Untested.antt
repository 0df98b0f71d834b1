-- What the lookup says, by the test of the lengths; and of an image that some map has.
--
--     untested_says-refused, -found  the answer
--     untested-rule                  on an image that some map has it is the look-up of the query
--     untested-exact                 and so what `exact_match` says (02, R-7); `untested-empty`: of the empty query no
--                                    match
-- Assumes nothing.
use mathlib.Core.Path.{◌≡◌, sym, ap, ◌∙◌}
use mathlib.Core.Bool.{true, false}
use mathlib.Core.List.{[], ◌∷◌}
use Rattle.keymap.specs.Key.{Key}
use Rattle.keymap.specs.Map.{lookup}
use Rattle.keymap.specs.Refusals.{refuses}
use Rattle.keymap.specs.declared.refusals.Refusal.TheVariants.{NotAnImage}
use Rattle.keymap.specs.Answers.{says_value}
use Rattle.keymap.specs.Image.{Image}
use Rattle.keymap.specs.Decode.{image_map}
use Rattle.keymap.proofs.Laws.Map.{lookup-empty}
use Rattle.image.specs.AcceptTest.{lengths_fit}
use Rattle.image.specs.Meaning.{MapImage}
use Rattle.image.proofs.Laws.AcceptTest.{lengths-fit}
use Rattle.image.proofs.Laws.Meaning.{map_image-accepted, map_image-tested}
use Rattle.walks.specs.Rule.{found_by}
use Rattle.walks.proofs.Laws.MapWalk.{value-rule}
use Rattle.searches.specs.Exact.{exact_says}
use Rattle.searches.specs.Untested.{untested_says}
use Rattle.searches.proofs.Laws.Exact.{exact_says-accepted}

module _ (i : Image) where
  module _ (q : Key) where
    pub untested_says-refused : lengths_fit i ≡ false → untested_says i q ≡ refuses NotAnImage
    unfolding untested_says
    untested_says-refused e = rw e

    pub untested_says-found : lengths_fit i ≡ true → untested_says i q ≡ says_value (found_by i q)
    unfolding untested_says
    untested_says-found e = rw e

module _ (i : Image) (h : MapImage i) where
  fit : lengths_fit i ≡ true
  fit = let a = map_image-accepted i h in lengths-fit i (record { few = a.few; values-fit = a.values-fit; words-fit = a.words-fit })

  pub untested-rule : (q : Key) → untested_says i q ≡ says_value (lookup q (image_map i))
  untested-rule q = untested_says-found i q fit ∙ ap says_value (value-rule i h q)

  pub untested-exact : (q : Key) → untested_says i q ≡ exact_says i q
  untested-exact q = untested-rule q ∙ sym (exact_says-accepted i q (map_image-tested i h))

  pub untested-empty : untested_says i [] ≡ 0 ∷ []
  untested-empty = untested-rule [] ∙ ap says_value (lookup-empty (image_map i) h.catalogue.proper)
