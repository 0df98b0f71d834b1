-- `pool::words::fill` meets its contract: the five stores are the five puts of `filled`. Assumes nothing.
use mathlib.Core.Path.{◌∙◌}
use Rattle.pool.proofs.Laws.Writing.{filled-steps}
use Rattle.pool.proofs.words.fill.Goals as goal

pub shape_of-pool : goal.shape_of-pool
shape_of-pool c =
    c.set_word-5.auto.pool ∙ c.set_word-4.auto.pool ∙ c.set_word-3.auto.pool ∙ c.set_word-2.auto.pool ∙ c.set_word.auto.pool

pub returns : goal.returns
returns c =
    filled-steps _ _ _ _ _ _ _ _ _ _ c.set_word.ensures c.set_word-2.ensures c.set_word-3.ensures c.set_word-4.ensures c.set_word-5.ensures
