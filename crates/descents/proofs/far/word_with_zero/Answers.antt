use mathlib.Core.Path.{◌∙◌}
use native.Mathlib.Omega.{arith}
use Rattle.descents.proofs.Laws.Far.{none-next}
use Rattle.descents.proofs.far.word_with_zero.Goals as goal

pub loop-w-preserved : goal.loop-w-preserved
loop-w-preserved c = none-next c.args.words.now (λ i. (c.type_inv.words i).fits) c.loop-w.w (omega (arith, c.if-words-w.false)) ∙ c.loop-w.invariant
