-- Acceptance, by the laws of the image test. Assumes nothing.
use mathlib.Core.Path.{sym, ap, ◌∙◌}
use Rattle.keymap.specs.Decode.{image_map}
use Rattle.keymap.proofs.Laws.Image.{image_map-image}
use Rattle.image.proofs.Laws.Accept.{accepted-iff}
use Rattle.image.proofs.Laws.Passed.{image_test-iff}
use Rattle.image.proofs.Laws.AcceptAnswer.{accept-means-map, accept-means-none}
use Rattle.theorems.specs.Acceptance.{EveryImage}

pub every-image : EveryImage
every-image i l =
    let (test-list, list-test) = image_test-iff i l in
    let (list-map, map-list) = accepted-iff i l in
    record {
      tests-map = (λ t. list-map (test-list t), λ m. list-test (map-list m));
      tests-list = image_test-iff i l;
      list-map = accepted-iff i l;
      accepts = accept-means-map i l;
      refusal = accept-means-none i l;
      only = λ m c e. ap image_map (sym e) ∙ image_map-image m c;
    }
