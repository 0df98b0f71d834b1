-- The bytes that a tab text is cut at (01, module 8), and where a byte stands first in a text.
-- Assumes nothing.
use Rattle.std.specs.Prelude.{ℕ, zero, suc, Bool, false, cond, ◌||◌, List, [], ◌∷◌, eqb}

-- TAB, between key and number
abbrev pub tab : ℕ
tab = 9

-- LF, at the end of a line
abbrev pub line_feed : ℕ
line_feed = 10

-- b is one of the bytes of a text
unfoldable pub holds : ℕ → List ℕ → Bool
holds b [] = false
holds b (a ∷ t) = eqb a b || holds b t

-- how many bytes of a text stand before its first b: all where it has none
unfoldable pub stretch : ℕ → List ℕ → ℕ
stretch b [] = zero
stretch b (a ∷ t) = cond (eqb a b) zero (suc (stretch b t))
