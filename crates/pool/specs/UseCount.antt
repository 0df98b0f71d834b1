-- The use count: "the number n of other records in use" (01).
-- Assumes nothing.
use Rattle.std.specs.Prelude.{ℕ, cond, List, [], ◌∷◌, length, ltb}
use Rattle.keymap.specs.Refusals.{refuses}
use Rattle.keymap.specs.declared.refusals.Refusal.{Refusal}
use Rattle.records.specs.Words.{Pool, record_words, used_count}
use Rattle.records.specs.SoundTest.{sound_test}

unfoldable pub use_count_says : Pool → List ℕ
use_count_says p =
    cond (ltb (length p) record_words) (refuses Refusal.PoolTooSmall)
    (cond (sound_test p) (0 ∷ used_count p ∷ []) (refuses Refusal.NotAPool))
