-- "A sound pool that was not reset here counts, in demand 2, as reset and then given the keys its marked records spell,
-- with their values" (01, "The pool").
-- Assumes nothing.
use Rattle.std.specs.Prelude.{ℕ, ◌≡◌, ◌↔◌, List, [], ◌∷◌, map}
use Rattle.keymap.specs.Members.{In}
use Rattle.keymap.specs.Key.{Key}
use Rattle.keymap.specs.Map.{Entry}
use Rattle.records.specs.Words.{Pool, Bounded, capacity}
use Rattle.records.specs.Sound.{Sound}
use Rattle.records.specs.Meaning.{pool_map, Holds}
use Rattle.pool.specs.Reset.{reset_pool}
use Rattle.pool.specs.History.{AllLent, run_pool, map_run, pushes_of}
use Rattle.pool.specs.History as pools
use Rattle.image.specs.History.{Call, pool_calls, history_says}
use Rattle.image.specs.Build.{build_says}
use Rattle.theorems.specs.Built.{built_image}
use Rattle.theorems.specs.Demand2.{Demand2}

-- reset, and given the keys of its map
abbrev pub refilled : Pool → Pool
refilled p = run_pool (reset_pool p) (pushes_of (pool_map p))

pub record NotReset (p : Pool) : Type 0 where
  -- the map has exactly "the keys its marked records spell, with their values"
  pub spells : (k : Key) (v : ℕ) → In (k, v) (pool_map p) ↔ Holds p k v
  -- given again after a reset, all of them are accepted, and leave that map
  pub accepts : pools.run_says (reset_pool p) (pushes_of (pool_map p)) ≡ map (λ (e : Entry). 0 ∷ []) (pool_map p)
  pub holds : pool_map (refilled p) ≡ pool_map p
  -- any calls on the one answer what they answer on the other
  pub answers : (cs : List Call) → AllLent (pool_calls cs) → history_says p cs ≡ history_says (refilled p) cs
  -- and what is built after them is searched by the map that the calls leave of it
  pub searches : (cs : List Call) → AllLent (pool_calls cs) → (n : ℕ) (ls vs ws qs : List ℕ)
      → build_says (run_pool p (pool_calls cs)) ls vs ws qs ≡ 0 ∷ n ∷ []
      → Demand2 (map_run (capacity p) (pool_map p) (pool_calls cs))
      (built_image n (run_pool p (pool_calls cs)) ls vs ws qs)

-- the words of a lent pool are of 32 bits
abbrev pub EverySound : Type 0
EverySound = (p : Pool) → Sound p → Bounded p → NotReset p
