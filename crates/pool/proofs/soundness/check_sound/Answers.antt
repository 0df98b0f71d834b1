-- `pool::soundness::check_sound` meets its contract: at each return the tests that led there say which case of `check_sound` holds. Assumes nothing.
use mathlib.Core.Path.{sym, ◌∙◌}
use Rattle.records.proofs.Laws.SoundTest.{check-small, check-unsound, check-passed, check-means-sound}
use Rattle.pool.proofs.soundness.check_sound.Goals as goal

pub returns-then-pool-lt-RECORD_WORDS : goal.returns-then-pool-lt-RECORD_WORDS
returns-then-pool-lt-RECORD_WORDS c = let e = check-small _ c.if-pool-lt-RECORD_WORDS.true in record { answer = e; meaning = check-means-sound _ _ e }

pub returns-then-not-is_sound : goal.returns-then-not-is_sound
returns-then-not-is_sound c =
    let e = check-unsound _ c.if-pool-lt-RECORD_WORDS.false (sym c.is_sound.ensures.answer ∙ c.if-not-is_sound.true) in
    record { answer = e; meaning = check-means-sound _ _ e }

pub returns : goal.returns
returns c =
    let e = check-passed _ c.if-pool-lt-RECORD_WORDS.false (sym c.is_sound.ensures.answer ∙ c.if-not-is_sound.false) in
    record { answer = e; meaning = check-means-sound _ _ e }
