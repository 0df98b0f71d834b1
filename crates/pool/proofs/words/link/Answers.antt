-- `pool::words::link` meets its contract: the test says which case of `linked` holds. Assumes nothing.
use mathlib.Core.Path.{sym, ◌∙◌}
use Rattle.pool.proofs.Laws.Writing.{linked-first, linked-next}
use Rattle.pool.proofs.words.link.Goals as goal

pub shape_of-pool-then-a-eq0 : goal.shape_of-pool-then-a-eq0
shape_of-pool-then-a-eq0 c = c.set_word.auto.pool

pub returns-then-a-eq0 : goal.returns-then-a-eq0
returns-then-a-eq0 c = c.set_word.ensures ∙ sym (linked-first _ _ _ _ c.if-a-eq0.true)

pub shape_of-pool-else-a-eq0 : goal.shape_of-pool-else-a-eq0
shape_of-pool-else-a-eq0 c = c.set_word-else-a-eq0.auto.pool

pub returns-else-a-eq0 : goal.returns-else-a-eq0
returns-else-a-eq0 c = c.set_word-else-a-eq0.ensures ∙ sym (linked-next _ _ _ _ c.if-a-eq0.false)
