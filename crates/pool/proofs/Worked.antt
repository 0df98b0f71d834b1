-- 01's worked lines on pools, one statement over one table: on a pool of 23 words that hold 9, so of capacity 3 with three words of surplus, the calls of A ("ab" 7, "b" 3),
-- then "c" (NoRoom), then "ab" 9 (accepted); and the calls of B ("b" 3, "ab" 7), whose root has first child 2 and whose map is A's. Assumes nothing.
use mathlib.Core.Path.{◌≡◌, refl}
use Prim.Native.Nat.{ℕ}
use mathlib.Core.List.{List, [], ◌∷◌, map}
use lib.ListN.{replicate}
use Rattle.keymap.specs.Key.{Key}
use Rattle.keymap.specs.Map.{Map}
use Rattle.keymap.specs.Forest.{list_forest, list_tree}
use Rattle.records.specs.Words.{Pool, word, put, last_record, used_count, next_record, taken}
use Rattle.records.specs.SoundTest.{both, words_fit, record_fits, is_child, chain_rest, record_rest, pass_rest, root_fits, sound_test}
use Rattle.records.specs.Meaning.{siblings_from, forest_below, pool_forest, pool_map}
use Rattle.pool.specs.Siblings.{slot_from, slot_of, child_at}
use Rattle.pool.specs.Path.{reach_from, reach_of, missing_labels}
use Rattle.pool.specs.Writing.{filled, linked, marked}
use Rattle.pool.specs.Entering.{entered_at, entered, entered_all, last_entered}
use Rattle.pool.specs.Reset.{reset_says, reset_pool}
use Rattle.pool.specs.UseCount.{use_count_says}
use Rattle.pool.specs.Push.{inserted_at, inserted, has_room, tested_says, push_says, push_pool}
use Rattle.pool.specs.History.{PoolCall, run_says, run_pool}

pub record Line : Type 0 where
  pub calls : List PoolCall
  pub says : List (List ℕ)
  pub words : Pool
  pub holds : Map

ab : Key
ab = 97 ∷ 98 ∷ []

b : Key
b = 98 ∷ []

c : Key
c = 99 ∷ []

start : Pool
start = replicate 23 9

pub lines : List Line
lines =
    record {
      calls = PoolCall.reset ∷ PoolCall.use_count ∷ [];
      says = (0 ∷ []) ∷ (0 ∷ 0 ∷ []) ∷ [];
      words = 0 ∷ 0 ∷ 0 ∷ 0 ∷ 0 ∷ replicate 18 9;
      holds = [];
    }
    ∷ record {
      calls = PoolCall.reset ∷ PoolCall.push ab 7 ∷ PoolCall.push b 3 ∷ PoolCall.use_count ∷ PoolCall.push c 1 ∷ [];
      says = (0 ∷ []) ∷ (0 ∷ []) ∷ (0 ∷ []) ∷ (0 ∷ 3 ∷ []) ∷ (4 ∷ []) ∷ [];
      words = 3 ∷ 0 ∷ 1 ∷ 0 ∷ 0 ∷ 97 ∷ 0 ∷ 2 ∷ 3 ∷ 0 ∷ 354 ∷ 7 ∷ 0 ∷ 0 ∷ 1 ∷ 354 ∷ 3 ∷ 0 ∷ 0 ∷ 0 ∷ 9 ∷ 9 ∷ 9 ∷ [];
      holds = (ab, 7) ∷ (b, 3) ∷ [];
    }
    ∷ record {
      calls = PoolCall.reset ∷ PoolCall.push ab 7 ∷ PoolCall.push b 3 ∷ PoolCall.push ab 9 ∷ [];
      says = (0 ∷ []) ∷ (0 ∷ []) ∷ (0 ∷ []) ∷ (0 ∷ []) ∷ [];
      words = 3 ∷ 0 ∷ 1 ∷ 0 ∷ 0 ∷ 97 ∷ 0 ∷ 2 ∷ 3 ∷ 0 ∷ 354 ∷ 9 ∷ 0 ∷ 0 ∷ 1 ∷ 354 ∷ 3 ∷ 0 ∷ 0 ∷ 0 ∷ 9 ∷ 9 ∷ 9 ∷ [];
      holds = (ab, 9) ∷ (b, 3) ∷ [];
    }
    ∷ record {
      calls = PoolCall.reset ∷ PoolCall.push b 3 ∷ PoolCall.push ab 7 ∷ [];
      says = (0 ∷ []) ∷ (0 ∷ []) ∷ (0 ∷ []) ∷ [];
      words = 3 ∷ 0 ∷ 2 ∷ 0 ∷ 0 ∷ 354 ∷ 3 ∷ 0 ∷ 0 ∷ 0 ∷ 97 ∷ 0 ∷ 3 ∷ 1 ∷ 0 ∷ 354 ∷ 7 ∷ 0 ∷ 0 ∷ 2 ∷ 9 ∷ 9 ∷ 9 ∷ [];
      holds = (ab, 7) ∷ (b, 3) ∷ [];
    }
    ∷ []

-- what the line's calls say, the words that they leave, and the map that these hold
pub done : List PoolCall → Line
done cs = record { calls = cs; says = run_says start cs; words = run_pool start cs; holds = pool_map (run_pool start cs) }

pub worked-pools : map (λ (l : Line). done l.calls) lines ≡ lines
unfolding lines done ab b c start run_says run_pool reset_says reset_pool use_count_says inserted_at inserted has_room tested_says push_says push_pool filled linked entered_at entered entered_all last_entered marked reach_from reach_of missing_labels slot_from slot_of child_at siblings_from forest_below pool_forest pool_map both words_fit record_fits is_child chain_rest record_rest pass_rest root_fits sound_test word put last_record used_count next_record taken list_forest list_tree
worked-pools = refl
