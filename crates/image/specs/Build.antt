-- Build (01, "The image", last paragraph): what it answers, and what each of the four buffers then holds.
--
--     buffers_fit       no buffer is shorter than needed
--     build_says        what build answers
--     build_labels, ..  what it leaves of each buffer: a refusal leaves all as they were
--     of_lent           one of these, of the four buffers that a contract names
--     CanQueue, ..      what the loops ask
-- Assumes nothing.
use Rattle.std.specs.Prelude.{ℕ, ◌+◌, ◌^◌, ◌≤◌, ◌<◌, ◌≡◌, Bool, cond, ◌&&◌, List, [], ◌∷◌, length, get_or, leb, ltb, Result}
use Rattle.std.specs.Borrow.{MutBor}
use denote.Triple.Both.{Both}
use Rattle.keymap.specs.Refusals.{refuses}
use Rattle.keymap.specs.Answers.{said, told_count}
use Rattle.keymap.specs.declared.refusals.Refusal.{Refusal}
use Rattle.keymap.specs.Bits.{words_for}
use Rattle.keymap.specs.Image.{bits_for}
use Rattle.records.specs.Words.{Pool, record_words, entry, first_child, next_sibling, used_count}
use Rattle.records.specs.Sound.{Chain, Sound}
use Rattle.records.specs.SoundTest.{sound_test}
use Rattle.pool.specs.Answers.{accepted}
use Rattle.keymap.specs.Buffers.{over}
use Rattle.image.specs.LevelOrder.{child_records, level_records, pool_labels, pool_values, pool_words}

abbrev pub said_built : Result ℕ Refusal → List ℕ
said_built = said told_count

-- n nodes besides the root, and the lengths of the label entries, values, words and scratch
unfoldable pub buffers_fit : (n labels values words scratch : ℕ) → Bool
buffers_fit n labels values words scratch =
    leb n labels && (leb n values && (leb (words_for (bits_for n)) words && leb n scratch))

-- n nodes where the buffers fit, and OutTooSmall where they do not
unfoldable pub fit_says : (n labels values words scratch : ℕ) → List ℕ
fit_says n labels values words scratch =
    cond (buffers_fit n labels values words scratch) (0 ∷ n ∷ []) (refuses Refusal.OutTooSmall)

unfoldable pub build_says : Pool → (labels values words scratch : List ℕ) → List ℕ
build_says p ls vs ws qs =
    cond (ltb (length p) record_words) (refuses Refusal.PoolTooSmall)
    (cond (sound_test p) (fit_says (used_count p) (length ls) (length vs) (length ws) (length qs))
    (refuses Refusal.NotAPool))

unfoldable pub build_labels : Pool → (labels values words scratch : List ℕ) → List ℕ
build_labels p ls vs ws qs = cond (accepted (build_says p ls vs ws qs)) (over (pool_labels p) ls) ls

unfoldable pub build_values : Pool → (labels values words scratch : List ℕ) → List ℕ
build_values p ls vs ws qs = cond (accepted (build_says p ls vs ws qs)) (over (pool_values p) vs) vs

unfoldable pub build_words : Pool → (labels values words scratch : List ℕ) → List ℕ
build_words p ls vs ws qs = cond (accepted (build_says p ls vs ws qs)) (over (pool_words p) ws) ws

unfoldable pub build_scratch : Pool → (labels values words scratch : List ℕ) → List ℕ
build_scratch p ls vs ws qs = cond (accepted (build_says p ls vs ws qs)) (over (level_records p) qs) qs

-- one of these, of the four buffers as they were lent to a call
abbrev pub of_lent : {W X Y Z : Type 0}
    → ((labels values words scratch : List ℕ) → List ℕ)
    → Both (MutBor (List ℕ)) W → Both (MutBor (List ℕ)) X → Both (MutBor (List ℕ)) Y → Both (MutBor (List ℕ)) Z → List ℕ
of_lent f labels values words scratch =
    f labels.entry.now values.entry.now words.entry.now scratch.entry.now

-- the chain of record c ends, and the queue has room for it behind its first `tail` entries
pub record CanQueue (p : Pool) (c at : ℕ) (queue : List ℕ) (tail : ℕ) : Type 0 where
  pub chain : Chain (next_sibling p) (first_child p c) (child_records p c)
  pub room : tail + length (child_records p c) ≤ length queue
  pub near : at + length (child_records p c) < 2 ^ 64

-- a sound pool with n records in use, and words and a queue that are no shorter than needed
pub record Levels (p : Pool) (n : ℕ) (words queue : List ℕ) : Type 0 where
  pub sound : Sound p
  pub count : n ≡ used_count p
  pub words-fit : words_for (bits_for n) ≤ length words
  pub queue-fits : n ≤ length queue

-- the first n records of a list can be told: their entries are of 16 bits, and there is room
pub record CanTell (p : Pool) (records : List ℕ) (n : ℕ) (labels values : List ℕ) : Type 0 where
  pub listed : n ≤ length records
  pub small : (j : ℕ) → j < n → entry p (get_or records j 0) < 2 ^ 16
  pub labels-fit : n ≤ length labels
  pub values-fit : n ≤ length values
