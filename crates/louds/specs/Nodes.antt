-- Children and parents (01, "The image"): "Children of node k are the ones between the k-th and (k+1)-th zero;
-- the parent of node m has as its number the count of zeros before the m-th one." A last run of ones that no zero
-- closes ends with the sequence.
--
--     children_of    the numbers of a node's children: the first, and how many
--     parent_of      the number of its parent
-- Assumes nothing.
use Rattle.std.specs.Prelude.{ℕ, ◌+◌, ◌-◌, None, Option, Some, unwrap_or}
use Rattle.louds.specs.declared.answers.Children.{Children}
use Rattle.louds.specs.Rank.{ones_before, zeros_before}
use Rattle.louds.specs.Select.{one_at, zero_at}

-- the children from `first` on, so many
abbrev pub Run : ℕ → ℕ → Option Children
Run first count = Some (record { first = first; count = count })

-- the ones between a zero and a stop; the first is one more than the ones before them
unfoldable pub run_from : (ℕ → ℕ) → Option ℕ → ℕ → Option Children
run_from b None stop = None
run_from b (Some p) stop = Run (ones_before b p + 1) (ones_before b stop - ones_before b p)

unfoldable pub children_of : (ℕ → ℕ) → ℕ → ℕ → Option Children
children_of b len k = run_from b (zero_at b len k) (unwrap_or (zero_at b len (k + 1)) len)

unfoldable pub up_from : (ℕ → ℕ) → Option ℕ → Option ℕ
up_from b None = None
up_from b (Some p) = Some (zeros_before b p)

unfoldable pub parent_of : (ℕ → ℕ) → ℕ → ℕ → Option ℕ
parent_of b len m = up_from b (one_at b len m)
