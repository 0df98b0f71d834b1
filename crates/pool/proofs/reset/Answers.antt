-- `pool::reset` meets its contract: the test says which case of reset holds. Assumes nothing.
use mathlib.Core.Path.{◌∙◌}
use Rattle.pool.proofs.Laws.Reset.{reset-small, reset-done}
use Rattle.pool.proofs.reset.Goals as goal

pub returns-then-pool-lt-RECORD_WORDS : goal.returns-then-pool-lt-RECORD_WORDS
returns-then-pool-lt-RECORD_WORDS c =
    let said = reset-small _ c.if-pool-lt-RECORD_WORDS.true in
    record { answer = said.0; left = said.1 }

pub returns : goal.returns
returns c = let d = reset-done _ c.if-pool-lt-RECORD_WORDS.false in record { answer = d.0; left = c.fill.ensures ∙ d.1 }
