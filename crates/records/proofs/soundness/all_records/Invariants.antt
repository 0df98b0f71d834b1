-- `records::soundness::all_records` meets its contract. The invariant: so many are left after the records below c.
-- Assumes nothing.
use mathlib.Core.Path.{◌≡◌}
use Rattle.std.specs.Prelude.{Some}
use Rattle.records.specs.SoundTest.{pass_rest}
use Rattle.records.proofs.soundness.all_records.Given as goal

abbrev pub invariant-loop-c : goal.invariant-loop-c
invariant-loop-c l = pass_rest l.pool l.n l.all l.c ≡ Some l.left
