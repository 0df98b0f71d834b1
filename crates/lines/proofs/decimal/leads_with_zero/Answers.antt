-- `lines::decimal::leads_with_zero` meets its contract: each way out rewrites with the test that led there. Assumes nothing.
use native.Mathlib.Omega.{arith}
use lib.ListN.{length}
use borrow.Author.Tests.{lt-ltb, le-ltb}
use Rattle.lines.specs.Decimal.{leading_zero}
use Rattle.lines.proofs.decimal.leads_with_zero.Goals as goal

pub returns-then-text-gt1 : goal.returns-then-text-gt1
unfolding leading_zero
returns-then-text-gt1 c = simp (lt-ltb 1 (length c.args.text.now) (omega arith))

pub returns-else-text-gt1 : goal.returns-else-text-gt1
unfolding leading_zero
returns-else-text-gt1 c = simp (le-ltb 1 (length c.args.text.now) (omega arith))
