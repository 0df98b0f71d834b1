-- `records::soundness::is_sound` meets its contract: at each return the tests that led there say which case of `sound_test` holds, and the test is true exactly of a sound pool. Assumes nothing.
use Rattle.std.proofs.Common.{arith, sym, ◌∙◌}
use Rattle.std.proofs.lemmas.Bool.Decides.{nat_tests}
use borrow.Author.Tests.{lt-leb}
use Rattle.std.proofs.lemmas.Bool.{true≢false}
use Rattle.records.specs.SoundTest.{both, sound_test}
use Rattle.records.proofs.Laws.SoundTest.{root-fits-within, eq-none_left, said-means-sound}
use Rattle.records.proofs.soundness.is_sound.Goals.{then-pool-ge-RECORD_WORDS, else-pool-ge-RECORD_WORDS}
use Rattle.records.proofs.soundness.is_sound.Goals as goal

pub all_records-requires : goal.all_records-requires
all_records-requires c =
    elim c.if-pool-ge-RECORD_WORDS.branch [
      | then-pool-ge-RECORD_WORDS w ↦ omega (arith, root-fits-within _ _ _ _ _ (sym w.root_fits.ensures ∙ sym w.value-is ∙ c.if-root_fits.true))
      | else-pool-ge-RECORD_WORDS w ↦ absurd (true≢false (sym c.if-root_fits.true ∙ w.value-is ∙ lt-leb _ _ w.if-pool-ge-RECORD_WORDS.false))
    ]

pub returns-then-root_fits-clause-answer : goal.returns-then-root_fits-clause-answer
unfolding sound_test both
returns-then-root_fits-clause-answer c = let e = eq-none_left c.all_records.result in grind (arith, nat_tests)

pub returns-then-root_fits-clause-meaning : goal.returns-then-root_fits-clause-meaning
returns-then-root_fits-clause-meaning c = said-means-sound _ _ (returns-then-root_fits-clause-answer c)

pub returns-else-root_fits-clause-answer : goal.returns-else-root_fits-clause-answer
unfolding sound_test both
returns-else-root_fits-clause-answer c = grind (arith, nat_tests)

pub returns-else-root_fits-clause-meaning : goal.returns-else-root_fits-clause-meaning
returns-else-root_fits-clause-meaning c = said-means-sound _ _ (returns-else-root_fits-clause-answer c)
