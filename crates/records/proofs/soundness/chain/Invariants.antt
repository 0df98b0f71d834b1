-- `records::soundness::chain` meets its contract. The invariant: what is left after the whole chain is what is left after the rest of it.
-- Each turn counts one record off. Assumes nothing.
use mathlib.Core.Path.{◌≡◌}
use Rattle.records.specs.SoundTest.{chain_rest}
use Rattle.records.specs.Words.{first_child}
use Rattle.records.proofs.soundness.chain.Given as goal

abbrev pub invariant-loop-x : goal.invariant-loop-x
invariant-loop-x l = chain_rest l.pool l.n l.c l.all (first_child l.pool l.c) 0 ≡ chain_rest l.pool l.n l.c l.left l.x l.l

abbrev pub decreases-loop-x : goal.decreases-loop-x
decreases-loop-x l = l.left
