-- Uses of `NotReset.EverySound`: the words that A's pushes leave, lent as a pool that was not reset here. Assumes nothing.
use Prim.Native.Nat.{ℕ}
use mathlib.Core.Path.{◌≡◌, refl, ◌∙◌}
use mathlib.Core.List.{[], ◌∷◌}
use native.Mathlib.Omega.{arith}
use Rattle.keymap.specs.Members.{In, here}
use Rattle.keymap.specs.Key.{Key, compare_keys}
use Rattle.keymap.specs.Map.{insert, lookup}
use Rattle.keymap.specs.Prefixes.{level, deepest, levels, prefixes}
use Rattle.keymap.specs.Forest.{list_forest, list_tree}
use Rattle.records.specs.Words.{word, last_record}
use Rattle.records.specs.Meaning.{siblings_from, forest_below, pool_forest, pool_map, Holds}
use Rattle.pool.specs.Reset.{reset_pool}
use Rattle.pool.specs.History.{run_pool, map_run, pushes_of}
use Rattle.pool.specs.History as pools
use Rattle.image.specs.History.{Call, pool_calls, history_says}
use Rattle.image.specs.Build.{build_says}
use Rattle.searches.specs.Exact.{exact_says}
use Rattle.theorems.specs.Built.{built_image}
use Rattle.theorems.specs.Demand2.{set_all, set_all_in}
use Rattle.theorems.specs.NotReset.{NotReset, refilled}
use Rattle.theorems.proofs.NotReset.{every-sound}
use Rattle.theorems.proofs.Uses.Values.{ab, c, map_a, words_a, words_a-sound, words_a-bounded, words_a-map, push, use_count, four, two}

of_a : NotReset words_a
of_a = every-sound words_a words_a-sound words_a-bounded

-- its marked records spell "ab" with 7, and nothing else but what is in its map
pub spelled : (k : Key) (v : ℕ) → Holds words_a k v → In (k, v) (pool_map words_a)
spelled k v = (of_a.spells k v).1

pub spells : Holds words_a ab 7 × In (ab, 7) (pool_map words_a)
unfolding pool_map pool_forest forest_below siblings_from list_tree list_forest word last_record
spells = ((of_a.spells ab 7).0 (here refl), (of_a.spells ab 7).1 ((of_a.spells ab 7).0 (here refl)))

-- given again after a reset, both keys are accepted, and leave the map
pub accepts : pools.run_says (reset_pool words_a) (pushes_of map_a) ≡ (0 ∷ []) ∷ (0 ∷ []) ∷ []
unfolding pool_map pool_forest forest_below siblings_from list_tree list_forest word last_record
accepts = of_a.accepts

pub holds : pool_map (refilled words_a) ≡ map_a
holds = of_a.holds ∙ words_a-map

-- a push, a use count and a build answer what they answer on the pool that was refilled
pub answers : history_says words_a (push c 1 ∷ use_count ∷ Call.build four four two four ∷ []) ≡ history_says (refilled words_a) (push c 1 ∷ use_count ∷ Call.build four four two four ∷ [])
unfolding pool_calls
answers = of_a.answers (push c 1 ∷ use_count ∷ Call.build four four two four ∷ []) (((omega arith, tt), omega arith), (tt, tt))

-- "ab" is given 9, and what is built then has it
pub searches : (n : ℕ) → build_says (run_pool words_a (pool_calls (push ab 9 ∷ []))) four four two four ≡ 0 ∷ n ∷ [] → exact_says (built_image n (run_pool words_a (pool_calls (push ab 9 ∷ []))) four four two four) ab ≡ 0 ∷ 9 ∷ []
unfolding set_all set_all_in map_run pool_calls insert lookup compare_keys prefixes levels level deepest pool_map pool_forest forest_below siblings_from list_tree list_forest word last_record
searches n e = (of_a.searches (push ab 9 ∷ []) (((omega arith, (omega arith, tt)), omega arith), tt) n four four two four e [] tt).exact-match ab

-- and then the largest value, which is set for it
pub searches-set : (n : ℕ) → build_says words_a four four two four ≡ 0 ∷ n ∷ []
    → exact_says (set_all_in ((ab, 4294967295) ∷ []) (built_image n words_a four four two four)) ab ≡ 0 ∷ 4294967295 ∷ []
unfolding set_all run_pool map_run pool_calls insert lookup compare_keys pool_map pool_forest forest_below siblings_from list_tree list_forest word last_record
searches-set n e = (of_a.searches [] tt n four four two four e ((ab, 4294967295) ∷ []) (omega arith, tt)).exact-match ab
