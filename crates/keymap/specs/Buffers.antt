-- What is written into a lent buffer: "Longer buffers keep their tails", "bytes past the key stay" (01).
--
--     over          a buffer with something written over its front
-- Assumes nothing.
use Rattle.std.specs.Prelude.{ℕ, List, ◌++◌, length, drop}

-- xs, and what it leaves of ys
unfoldable pub over : List ℕ → List ℕ → List ℕ
over xs ys = xs ++ drop (length xs) ys
