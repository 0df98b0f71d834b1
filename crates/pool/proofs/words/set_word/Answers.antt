-- `pool::words::set_word` meets its contract. Assumes nothing.
use mathlib.Core.Path.{refl}
use Rattle.records.specs.Words.{put}
use Rattle.pool.proofs.words.set_word.Goals as goal

pub returns : goal.returns
unfolding put
returns c = refl
