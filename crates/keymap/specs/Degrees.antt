-- Jacobson's level-order unary degree sequence: for each node in level order one 1 per child and a 0, with 1, 0 before
-- them all.
-- The degrees are those of the root and then of each other node.
-- Assumes nothing.
use Rattle.std.specs.Prelude.{ℕ, zero, suc, ◌+◌, List, [], ◌∷◌, ◌++◌, replicate}

unfoldable pub unary : List ℕ → List ℕ
unary [] = []
unary (d ∷ ds) = replicate d 1 ++ (0 ∷ unary ds)

-- the sum of some degrees, which is how many ones they have in unary
unfoldable pub total : List ℕ → ℕ
total [] = zero
total (d ∷ ds) = d + total ds

unfoldable pub sequence : List ℕ → List ℕ
sequence ds = 1 ∷ 0 ∷ unary ds

-- the degrees that bits spell, where c ones have been seen since the last zero
unfoldable pub degrees_from : ℕ → List ℕ → List ℕ
degrees_from c [] = []
degrees_from c (zero ∷ xs) = c ∷ degrees_from 0 xs
degrees_from c (suc v ∷ xs) = degrees_from (suc c) xs
