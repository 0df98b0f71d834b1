-- Demand 1: "Any bytes, pool, image or place may be handed to any public call." That each call ends and stays inside
-- its slices is what the check proves of every function,
-- and no public function asks anything of its caller. Here stands what 01 says of refusals: what is damaged is refused
-- by its number, and "A refusal changes no lent memory".
--
--     Damaged                  each call on three slices that no map has
--     TooSmall                 each call on a pool of fewer than 5 words
--     Unsound                  each call on a pool that is not sound
--     SoundPool                each call on one that is
--     RefusalKeeps             a call that refuses leaves what it was lent as it was
--     EveryDamaged, EveryPool  any three slices, any pool
-- Assumes nothing.
use Rattle.std.specs.Prelude.{ℕ, ◌+◌, ◌≤◌, ◌<◌, ◌≡◌, false, cond, List, [], ◌∷◌, length, leb}
use Rattle.keymap.specs.Key.{Key}
use Rattle.keymap.specs.Map.{Entry}
use Rattle.keymap.specs.Refusals.{refuses}
use Rattle.keymap.specs.declared.refusals.Refusal.{Refusal}
use Rattle.keymap.specs.Prefixes.{missing}
use Rattle.keymap.specs.Image.{Image}
use Rattle.records.specs.Words.{Pool, record_words, used_count, capacity}
use Rattle.records.specs.Sound.{Sound}
use Rattle.records.specs.Meaning.{pool_map}
use Rattle.pool.specs.Answers.{accepted}
use Rattle.pool.specs.Reset.{reset_says, reset_pool}
use Rattle.pool.specs.UseCount.{use_count_says}
use Rattle.pool.specs.Push.{push_says, push_pool}
use Rattle.image.specs.Accept.{OfMap, LentSlices}
use Rattle.image.specs.AcceptAnswer.{accept_says}
use Rattle.image.specs.Build.{buffers_fit, build_says, build_labels, build_values, build_words, build_scratch}
use Rattle.lines.specs.TabLine.{tab_line_says, tab_line_key}
use Rattle.lines.specs.Writing.{write_line_says, write_line_out}
use Rattle.listings.specs.declared.answers.Kind.{Kind}
use Rattle.listings.specs.declared.answers.Cursor.{Cursor}
use Rattle.searches.specs.Exact.{exact_says, set_values, is_prefix_says}
use Rattle.searches.specs.Prefix.{longest_says, longest_out}
use Rattle.searches.specs.CommonPrefixes.{common_says, common_part}
use Rattle.listings.specs.Cursors.{start_says, step_says}
use Rattle.listings.specs.GivenKey.{key_says, key_out}
use Rattle.places.specs.Incremental.{query_says, query_moves, follow_says, follow_moves, goto_says, goto_moves}
use Rattle.places.specs.Places.{resume_says, value_says, prefix_len_says, prefix_says, prefix_out}

-- "NotAnImage: lent image is no map's image": on any place, cursor and buffer it comes first
pub record Damaged (i : Image) : Type 0 where
  pub accept : accept_says i ≡ refuses Refusal.NotAnImage
  -- `exact_match`, and `set_value`
  pub exact-match : (q : Key) → exact_says i q ≡ refuses Refusal.NotAnImage
  pub is-prefix : (q : Key) → is_prefix_says i q ≡ refuses Refusal.NotAnImage
  pub longest-prefix : (q : Key) (out : List ℕ) → longest_says i q out ≡ refuses Refusal.NotAnImage
  pub common-prefix : (q : Key) (seen : ℕ) → common_says i q seen ≡ refuses Refusal.NotAnImage
  pub start : (kind : Kind) (q : Key) → start_says kind i q ≡ refuses Refusal.NotAnImage
  pub step : (c : Cursor) → step_says i c ≡ refuses Refusal.NotAnImage
  pub cursor-key : (c : Cursor) (out : List ℕ) → key_says i c out ≡ refuses Refusal.NotAnImage
  pub resume : (k : ℕ) → resume_says i k ≡ refuses Refusal.NotAnImage
  pub value : (k : ℕ) → value_says i k ≡ refuses Refusal.NotAnImage
  pub prefix_len : (k : ℕ) → prefix_len_says i k ≡ refuses Refusal.NotAnImage
  pub prefix : (k : ℕ) (out : List ℕ) → prefix_says i k out ≡ refuses Refusal.NotAnImage
  -- `query`, and `peek`
  pub query : (k a : ℕ) → query_says i k a ≡ refuses Refusal.NotAnImage
  pub query-until : (k : ℕ) (q : Key) → follow_says i k q ≡ refuses Refusal.NotAnImage
  pub goto : (k : ℕ) → goto_says i k ≡ refuses Refusal.NotAnImage

-- "PoolTooSmall: pool has fewer than 5 words"
pub record TooSmall (p : Pool) : Type 0 where
  pub reset : reset_says p ≡ refuses Refusal.PoolTooSmall
  pub use-count : use_count_says p ≡ refuses Refusal.PoolTooSmall
  pub push : (k : Key) → push_says p k ≡ refuses Refusal.PoolTooSmall
  pub build : (ls vs ws qs : List ℕ) → build_says p ls vs ws qs ≡ refuses Refusal.PoolTooSmall

-- "NotAPool: pool is not sound"; a reset is not refused for it
pub record Unsound (p : Pool) : Type 0 where
  pub reset : reset_says p ≡ 0 ∷ []
  pub use-count : use_count_says p ≡ refuses Refusal.NotAPool
  pub push : (k : Key) → push_says p k ≡ refuses Refusal.NotAPool
  pub build : (ls vs ws qs : List ℕ) → build_says p ls vs ws qs ≡ refuses Refusal.NotAPool

-- of a sound pool the other refusals are given exactly when 01 says: "pushed key has length 0"; "records in use plus
-- the key's prefixes not yet present exceed capacity";
-- "a build buffer is shorter than needed"
pub record SoundPool (p : Pool) : Type 0 where
  pub reset : reset_says p ≡ 0 ∷ []
  pub use-count : use_count_says p ≡ 0 ∷ used_count p ∷ []
  pub push-empty : push_says p [] ≡ refuses Refusal.EmptyKey
  pub push : (k : Key) → ¬ (k ≡ [])
      → push_says p k
      ≡ cond (leb (used_count p + missing k (pool_map p)) (capacity p)) (0 ∷ []) (refuses Refusal.NoRoom)
  pub build : (ls vs ws qs : List ℕ)
      → build_says p ls vs ws qs
      ≡ cond (buffers_fit (used_count p) (length ls) (length vs) (length ws) (length qs)) (0 ∷ used_count p ∷ [])
      (refuses Refusal.OutTooSmall)

-- "Each returns its number and leaves all lent memory, places and cursors as at entry": the calls that may write or
-- move, each with what it leaves.
-- "the second hands back the part, empty whenever the first refuses or has no match"
pub record RefusalKeeps : Type 0 where
  pub reset : (p : Pool) → accepted (reset_says p) ≡ false → reset_pool p ≡ p
  pub push : (p : Pool) (k : Key) (v : ℕ) → accepted (push_says p k) ≡ false → push_pool p k v ≡ p
  pub build : (p : Pool) (ls vs ws qs : List ℕ) → accepted (build_says p ls vs ws qs) ≡ false
      → (build_labels p ls vs ws qs ≡ ls) × (build_values p ls vs ws qs ≡ vs) × (build_words p ls vs ws qs ≡ ws)
      × (build_scratch p ls vs ws qs ≡ qs)
  pub set_value : (i : Image) (q : Key) (v : ℕ) → accepted (exact_says i q) ≡ false → set_values i q v ≡ i.values
  pub longest-prefix : (i : Image) (q : Key) (out : List ℕ) → accepted (longest_says i q out) ≡ false
      → longest_out i q out ≡ out
  pub cursor-key : (i : Image) (c : Cursor) (out : List ℕ) → accepted (key_says i c out) ≡ false → key_out i c out ≡ out
  pub prefix : (i : Image) (k : ℕ) (out : List ℕ) → accepted (prefix_says i k out) ≡ false → prefix_out i k out ≡ out
  pub query : (i : Image) (k a : ℕ) → accepted (query_says i k a) ≡ false → query_moves i k a ≡ k
  pub query-until : (i : Image) (k : ℕ) (q : Key) → accepted (follow_says i k q) ≡ false → follow_moves i k q ≡ k
  pub goto : (i : Image) (k : ℕ) → accepted (goto_says i k) ≡ false → goto_moves i k ≡ k
  pub common-prefix-part : (i : Image) (q : Key) (seen : ℕ) → accepted (common_says i q seen) ≡ false
      → common_part i q seen ≡ []
  pub common-prefix-none : (i : Image) (q : Key) (seen : ℕ) → common_says i q seen ≡ 0 ∷ [] → common_part i q seen ≡ []
  pub tab-line-key : (line : List ℕ) → accepted (tab_line_says line) ≡ false → tab_line_key line ≡ []
  pub write-line : (e : Entry) (out : List ℕ) → accepted (write_line_says e out) ≡ false → write_line_out e out ≡ out

-- any three lent slices that are no map's image
abbrev pub EveryDamaged : Type 0
EveryDamaged = (i : Image) → LentSlices i → (OfMap i → ⊥) → Damaged i

-- a pool is one of three
pub record PoolCases (p : Pool) : Type 0 where
  pub too_small : length p < record_words → TooSmall p
  pub unsound : record_words ≤ length p → (Sound p → ⊥) → Unsound p
  pub sound : Sound p → SoundPool p

abbrev pub EveryPool : Type 0
EveryPool = (p : Pool) → PoolCases p
