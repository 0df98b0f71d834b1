-- `image::acceptance::unmarked_value` meets its contract: the mark decides. Assumes nothing.
use mathlib.Core.Path.{◌≡◌}
use mathlib.Core.Bool.{Bool, true, false, cond}
use Prim.Native.Nat.{ℕ}
use borrow.Author.Tests.{lt-ltb, le-ltb}
use Rattle.image.proofs.acceptance.unmarked_value.Goals as goal

taken : (s : Bool) (v : ℕ) → s ≡ true → v ≡ cond s v 0
taken s v h = rw h

left : (s : Bool) (v : ℕ) → s ≡ false → 0 ≡ cond s v 0
left s v h = rw h

pub returns-then-entry-lt-MARK : goal.returns-then-entry-lt-MARK
returns-then-entry-lt-MARK c = taken _ c.args.value (lt-ltb _ _ c.if-entry-lt-MARK.true)

pub returns-else-entry-lt-MARK : goal.returns-else-entry-lt-MARK
returns-else-entry-lt-MARK c = left _ c.args.value (le-ltb _ _ c.if-entry-lt-MARK.false)
