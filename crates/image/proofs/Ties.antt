-- What each public call's contract says, in the definitions that the demands speak of: the answer, and each lent slice that it may write at exit.
-- Each tie is over the contract's own claim, so a contract that cites another definition breaks it. Assumes nothing.
use mathlib.Core.Path.{◌≡◌}
use Rattle.keymap.specs.Contract.{Tells}
use Rattle.keymap.specs.Bits.{words_for}
use Rattle.keymap.specs.Image.{bits_for}
use mathlib.Core.Logic.{◌↔◌}
use mathlib.Core.List.{[], ◌∷◌}
use Rattle.image.specs.Accept.{OfMap}
use Rattle.image.specs.Meaning.{image_in}
use Rattle.image.specs.AcceptTest.{lengths_fit, image_test}
use Rattle.image.specs.AcceptAnswer.{accepted_if, said_checked, accept_says}
use Rattle.image.specs.Build.{said_built, build_says, build_labels, build_values, build_words, build_scratch}
use Rattle.image.proofs.acceptance.is_image.Kinds as is-image-kinds
use Rattle.image.proofs.acceptance.is_image.Reads as is-image-reads
use Rattle.image.proofs.acceptance.lengths_fit.Kinds as lengths-fit-kinds
use Rattle.image.proofs.acceptance.lengths_fit.Reads as lengths-fit-reads
use Rattle.image.proofs.accept.Kinds as accept-kinds
use Rattle.image.proofs.accept.Reads as accept-reads
use Rattle.image.proofs.build.Kinds as build-kinds
use Rattle.image.proofs.build.Reads as build-reads
use Rattle.image.proofs.buffers.words_for.Kinds as words-for-kinds
use Rattle.image.proofs.buffers.words_for.Reads as words-for-reads

pub is-image-says : Tells 3 is-image-kinds.ps is-image-kinds.r is-image-reads.Post (λ κs a r s. r ≡ image_test (image_in a.0 a.1.0 a.1.1.0))
is-image-says κs a r s p = p

pub lengths-fit-says : Tells 3 lengths-fit-kinds.ps lengths-fit-kinds.r lengths-fit-reads.Post (λ κs a r s. r ≡ lengths_fit (image_in a.0 a.1.0 a.1.1.0))
lengths-fit-says κs a r s p = p

pub accept-says : Tells 3 accept-kinds.ps accept-kinds.r accept-reads.Post (λ κs a r s.
    (r ≡ accepted_if (image_test (image_in a.0 a.1.0 a.1.1.0))) × (said_checked r ≡ accept_says (image_in a.0 a.1.0 a.1.1.0)) × ((said_checked r ≡ 0 ∷ []) ↔ OfMap (image_in a.0 a.1.0 a.1.1.0)))
accept-says κs a r s p = (p.0, p.1.0, p.1.1)

pub build-says : Tells 5 build-kinds.ps build-kinds.r build-reads.Post (λ κs a r s.
    (said_built r ≡ build_says a.0.now a.1.0.now a.1.1.0.now a.1.1.1.0.now a.1.1.1.1.0.now)
    × (s.1.0.now ≡ build_labels a.0.now a.1.0.now a.1.1.0.now a.1.1.1.0.now a.1.1.1.1.0.now)
    × (s.1.1.0.now ≡ build_values a.0.now a.1.0.now a.1.1.0.now a.1.1.1.0.now a.1.1.1.1.0.now)
    × (s.1.1.1.0.now ≡ build_words a.0.now a.1.0.now a.1.1.0.now a.1.1.1.0.now a.1.1.1.1.0.now)
    × (s.1.1.1.1.0.now ≡ build_scratch a.0.now a.1.0.now a.1.1.0.now a.1.1.1.0.now a.1.1.1.1.0.now))
build-says κs a r s p = (p.0, p.1.0, p.1.1.0, p.1.1.1.0, p.1.1.1.1)

pub words-for-says : Tells 0 words-for-kinds.ps words-for-kinds.r words-for-reads.Post (λ κs a r s. r ≡ words_for (bits_for a.0))
words-for-says κs a r s p = p
