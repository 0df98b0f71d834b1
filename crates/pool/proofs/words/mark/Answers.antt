-- `pool::words::mark` meets its contract. Assumes nothing.
use mathlib.Core.Path.{◌∙◌}
use Rattle.pool.specs.Writing.{marked}
use Rattle.pool.proofs.words.mark.Goals as goal

pub shape_of-pool : goal.shape_of-pool
shape_of-pool c = c.set_word-2.auto.pool ∙ c.set_word.auto.pool

pub returns : goal.returns
unfolding marked
returns c = rw (c.set_word-2.ensures, c.set_word.ensures, c.label_of-e.ensures)
