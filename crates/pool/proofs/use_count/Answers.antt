-- `pool::use_count` meets its contract: a refusal of the pool is the call's, and of a sound pool it gives the count. Assumes nothing.
use Rattle.std.proofs.Common.{rules}
use Rattle.pool.proofs.Laws.UseCount.{use-count-mapped}
use Rattle.pool.proofs.use_count.Goals as goal

pub returns : goal.returns
returns c = record { answer = use-count-mapped _ _ _ _ c.check_sound.ensures.answer c.map.ensures.cases (λ x n h. search rules) }
