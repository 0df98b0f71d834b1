-- Reset: "zeroes record 0 of any pool of 5 words or more" (01).
-- Assumes nothing.
use Rattle.std.specs.Prelude.{ℕ, cond, List, [], ◌∷◌, length, ltb}
use Rattle.keymap.specs.Refusals.{refuses}
use Rattle.keymap.specs.declared.refusals.Refusal.{Refusal}
use Rattle.records.specs.Words.{Pool, record_words}
use Rattle.pool.specs.Answers.{accepted}
use Rattle.pool.specs.Writing.{filled}

unfoldable pub reset_says : Pool → List ℕ
reset_says p = cond (ltb (length p) record_words) (refuses Refusal.PoolTooSmall) (0 ∷ [])

unfoldable pub reset_pool : Pool → Pool
reset_pool p = cond (accepted (reset_says p)) (filled p 0 0 0 0) p
