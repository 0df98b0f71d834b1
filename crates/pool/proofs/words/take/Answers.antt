-- `pool::words::take` meets its contract. Assumes nothing.
use Rattle.records.specs.Words.{taken}
use Rattle.pool.proofs.words.take.Goals as goal

pub shape_of-pool : goal.shape_of-pool
shape_of-pool c = c.set_word.auto.pool

pub returns : goal.returns
unfolding taken
returns c = c.set_word.ensures
