-- Demand 3: a pool of fixed length, beginning with an accepted reset, after any calls: resets, pushes, use counts and
-- builds with any arguments, refused ones among them.
-- Assumes nothing.
use Rattle.std.specs.Prelude.{ℕ, suc, ◌≤◌, ◌<◌, ◌≡◌, ◌↔◌, List, [], ◌∷◌, length, get_or}
use Rattle.keymap.specs.Members.{In, Distinct}
use Rattle.keymap.specs.Key.{Key}
use Rattle.keymap.specs.Map.{Catalogue, insert}
use Rattle.keymap.specs.Queries.{SomeBegins}
use Rattle.keymap.specs.Prefixes.{prefixes}
use Rattle.keymap.specs.Refusals.{refuses}
use Rattle.keymap.specs.declared.refusals.Refusal.{Refusal}
use Rattle.keymap.specs.Image.{image}
use Rattle.keymap.specs.Paths.{path_of}
use Rattle.records.specs.Words.{Pool, record_words, InUse, capacity}
use Rattle.records.specs.Spelling as spelling
use Rattle.records.specs.Meaning.{pool_map}
use Rattle.pool.specs.Reset.{reset_says, reset_pool}
use Rattle.pool.specs.UseCount.{use_count_says}
use Rattle.pool.specs.Push.{push_says}
use Rattle.pool.specs.History.{AllLent}
use Rattle.image.specs.History.{Call, pool_calls, history_says, map_history_says}
use Rattle.image.specs.Build.{fit_says, build_says, build_scratch}
use Rattle.theorems.specs.Built.{pool_after, map_after, built_image}

-- a number of records is more than a capacity
abbrev pub Exceeds : ℕ → ℕ → Type 0
Exceeds n most = most < n

pub record Demand3 (p : Pool) (cs : List Call) : Type 0 where
  -- "beginning with an accepted reset"
  pub resets : reset_says p ≡ 0 ∷ []
  -- every call of the history answers what the map of that time and the capacity tell
  pub answers : history_says (reset_pool p) cs ≡ map_history_says (capacity p) [] cs
  -- the pool holds "the map of the distinct keys accepted since the last reset, each with its last value"
  pub holds : pool_map (pool_after p cs) ≡ map_after p cs
  -- whose keys are nonempty, of bytes, and rise
  pub catalogue : Catalogue (map_after p cs)
  -- its distinct nonempty prefixes: what some key begins with, each once
  pub prefix : (k : Key) → In k (prefixes (map_after p cs)) ↔ ((¬ (k ≡ [])) × SomeBegins k (map_after p cs))
  pub distinct : Distinct (prefixes (map_after p cs))
  -- "the use count .. is the number of distinct nonempty prefixes" of these keys
  pub counts : use_count_says (pool_after p cs) ≡ 0 ∷ length (prefixes (map_after p cs)) ∷ []
  -- the records in use are those prefixes: each is one's path, and no two records have one path
  pub records : (k : Key)
      → In k (prefixes (map_after p cs))
      ↔ ((c : ℕ) × InUse (pool_after p cs) c × (k ≡ spelling.record_path (pool_after p cs) c))
  pub apart : (c d : ℕ) → InUse (pool_after p cs) c → InUse (pool_after p cs) d
      → spelling.record_path (pool_after p cs) c ≡ spelling.record_path (pool_after p cs) d → c ≡ d
  -- a key is "refused for room exactly when that number, with its own prefixes counted in, would exceed the capacity"
  pub room : (k : Key) → ¬ (k ≡ []) → (v : ℕ)
      → (push_says (pool_after p cs) k ≡ refuses Refusal.NoRoom)
      ↔ Exceeds (length (prefixes (insert k v (map_after p cs)))) (capacity p)
  -- and so it never does
  pub within : length (prefixes (map_after p cs)) ≤ capacity p
  -- "Build needs the image's lengths and a scratch slice of at least n u32", and is else refused
  pub needs : (ls vs ws qs : List ℕ)
      → build_says (pool_after p cs) ls vs ws qs
      ≡ fit_says (length (prefixes (map_after p cs))) (length ls) (length vs) (length ws) (length qs)
  -- an accepted build answers the number of these prefixes, and leaves the image of the map
  pub builds : (n : ℕ) (ls vs ws qs : List ℕ) → build_says (pool_after p cs) ls vs ws qs ≡ 0 ∷ n ∷ []
      → (n ≡ length (prefixes (map_after p cs)))
      × (built_image n (pool_after p cs) ls vs ws qs ≡ image (map_after p cs))
  -- of the scratch slice "entry j of it ends holding the record number of node j+2"
  pub scratch : (n : ℕ) (ls vs ws qs : List ℕ) → build_says (pool_after p cs) ls vs ws qs ≡ 0 ∷ n ∷ [] → (j : ℕ) → j < n
      → InUse (pool_after p cs) (get_or (build_scratch (pool_after p cs) ls vs ws qs) j 0)
      × (spelling.record_path (pool_after p cs) (get_or (build_scratch (pool_after p cs) ls vs ws qs) j 0)
      ≡ path_of (map_after p cs) (suc (suc j)))

-- any pool of 5 words or more, any history of what can be lent
abbrev pub EveryHistory : Type 0
EveryHistory = (p : Pool) → record_words ≤ length p → (cs : List Call) → AllLent (pool_calls cs) → Demand3 p cs

-- "Any image built then depends on the map alone, never on the history": nor on the pool, its length and the buffers
abbrev pub MapAlone : Type 0
MapAlone =
    (p q : Pool) → record_words ≤ length p → record_words ≤ length q → (cs ds : List Call) → AllLent (pool_calls cs)
    → AllLent (pool_calls ds)
    → map_after p cs ≡ map_after q ds
    → (n m : ℕ) (ls vs ws qs ls₂ vs₂ ws₂ qs₂ : List ℕ)
    → build_says (pool_after p cs) ls vs ws qs ≡ 0 ∷ n ∷ [] → build_says (pool_after q ds) ls₂ vs₂ ws₂ qs₂ ≡ 0 ∷ m ∷ []
    → built_image n (pool_after p cs) ls vs ws qs ≡ built_image m (pool_after q ds) ls₂ vs₂ ws₂ qs₂
