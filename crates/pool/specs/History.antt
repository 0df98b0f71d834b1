-- Any list of calls on one pool, refused ones among them: what each answers and what is left, by the pool's words; and
-- the same by the map of the keys that were accepted since the last reset, each with its last value, and by the
-- capacity.
--
--     PoolCall                a reset, a push or a use count
--     call_says, call_pool    what a call answers, and the pool that it leaves
--     run_says, run_pool      the same of calls in turn
--     map_says, call_map      what a call answers by the map, and the map that it leaves
--     map_run_says, map_run   the same of calls in turn
--     pushes_of               a push for each entry of a map
-- Assumes nothing.
use Rattle.std.specs.Prelude.{ℕ, ◌<◌, cond, List, [], ◌∷◌, length, leb, eqb}
use Rattle.keymap.specs.Limits.{value_limit}
use Rattle.keymap.specs.Key.{Key, Bytes}
use Rattle.keymap.specs.Map.{Map, insert}
use Rattle.keymap.specs.Prefixes.{prefixes}
use Rattle.keymap.specs.Refusals.{refuses}
use Rattle.keymap.specs.declared.refusals.Refusal.{Refusal}
use Rattle.records.specs.Words.{Pool}
use Rattle.pool.specs.Answers.{accepted}
use Rattle.pool.specs.Reset.{reset_says, reset_pool}
use Rattle.pool.specs.UseCount.{use_count_says}
use Rattle.pool.specs.Push.{push_says, push_pool}

pub data PoolCall : Type 0 where
  reset : PoolCall
  push : Key → ℕ → PoolCall
  use_count : PoolCall

-- a lent key is of bytes, and a value of 32 bits
abbrev pub LentCall : PoolCall → Type 0
LentCall reset = Unit {0}
LentCall (push k v) = Bytes k × (v < value_limit)
LentCall use_count = Unit {0}

abbrev pub AllLent : List PoolCall → Type 0
AllLent [] = Unit {0}
AllLent (c ∷ cs) = LentCall c × AllLent cs

abbrev pub call_says : Pool → PoolCall → List ℕ
call_says p reset = reset_says p
call_says p (push k v) = push_says p k
call_says p use_count = use_count_says p

abbrev pub call_pool : Pool → PoolCall → Pool
call_pool p reset = reset_pool p
call_pool p (push k v) = push_pool p k v
call_pool p use_count = p

unfoldable pub run_says : Pool → List PoolCall → List (List ℕ)
run_says p [] = []
run_says p (c ∷ cs) = call_says p c ∷ run_says (call_pool p c) cs

unfoldable pub run_pool : Pool → List PoolCall → Pool
run_pool p [] = p
run_pool p (c ∷ cs) = run_pool (call_pool p c) cs

-- where there is room for `most` records; a push is refused for room exactly when the distinct nonempty prefixes, its
-- own counted in, would exceed them
abbrev pub map_says : ℕ → Map → PoolCall → List ℕ
map_says most m reset = 0 ∷ []
map_says most m (push k v) =
    cond (eqb (length k) 0) (refuses Refusal.EmptyKey)
    (cond (leb (length (prefixes (insert k v m))) most) (0 ∷ []) (refuses Refusal.NoRoom))
map_says most m use_count = 0 ∷ length (prefixes m) ∷ []

abbrev pub call_map : ℕ → Map → PoolCall → Map
call_map most m reset = []
call_map most m (push k v) = cond (accepted (map_says most m (push k v))) (insert k v m) m
call_map most m use_count = m

unfoldable pub map_run_says : ℕ → Map → List PoolCall → List (List ℕ)
map_run_says most m [] = []
map_run_says most m (c ∷ cs) = map_says most m c ∷ map_run_says most (call_map most m c) cs

unfoldable pub map_run : ℕ → Map → List PoolCall → Map
map_run most m [] = m
map_run most m (c ∷ cs) = map_run most (call_map most m c) cs

abbrev pub pushes_of : Map → List PoolCall
pushes_of [] = []
pushes_of (e ∷ m) = push e.0 e.1 ∷ pushes_of m
