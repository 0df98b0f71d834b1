-- Any list of calls on one pool, builds with any buffers among them: what each answers, by the pool's words and by the
-- map of the keys that were accepted since the last reset.
-- A build leaves the pool as it was, so the pool and the map afterwards are those of the other calls.
--
--     Call                a call on the pool alone, or a build
--     pool_calls          the calls on the pool alone
--     history_says        what the calls answer in turn
--     map_history_says    what they answer by the map
-- Assumes nothing.
use Rattle.std.specs.Prelude.{ℕ, List, [], ◌∷◌, length}
use Rattle.keymap.specs.Map.{Map}
use Rattle.keymap.specs.Prefixes.{prefixes}
use Rattle.records.specs.Words.{Pool}
use Rattle.pool.specs.History as history
use Rattle.image.specs.Build.{fit_says, build_says}

pub data Call : Type 0 where
  on_pool : history.PoolCall → Call
  build : List ℕ → List ℕ → List ℕ → List ℕ → Call  -- label entries, values, words, scratch

unfoldable pub pool_calls : List Call → List history.PoolCall
pool_calls [] = []
pool_calls (on_pool c ∷ cs) = c ∷ pool_calls cs
pool_calls (build ls vs ws qs ∷ cs) = pool_calls cs

unfoldable pub history_says : Pool → List Call → List (List ℕ)
history_says p [] = []
history_says p (on_pool c ∷ cs) = history.call_says p c ∷ history_says (history.call_pool p c) cs
history_says p (build ls vs ws qs ∷ cs) = build_says p ls vs ws qs ∷ history_says p cs

-- where there is room for `most` records
unfoldable pub map_history_says : ℕ → Map → List Call → List (List ℕ)
map_history_says most m [] = []
map_history_says most m (on_pool c ∷ cs) =
    history.map_says most m c ∷ map_history_says most (history.call_map most m c) cs
map_history_says most m (build ls vs ws qs ∷ cs) =
    fit_says (length (prefixes m)) (length ls) (length vs) (length ws) (length qs) ∷ map_history_says most m cs
