-- Push: what it answers, and what the pool then holds, word for word (01).
--
--     inserted         the pool with the key's missing records entered, and the last record's value and mark set
--     tested_says      what push answers of a sound pool
--     push_says        what it answers
--     push_pool        what it leaves: a refusal leaves the pool as it was
--     TestedPush       what a push into a sound pool promises
-- Assumes nothing.
use Rattle.std.specs.Prelude.{ℕ, ◌+◌, ◌≡◌, Bool, cond, List, [], ◌∷◌, length, drop, leb, ltb, eqb, Result}
use Rattle.keymap.specs.Key.{Key}
use Rattle.keymap.specs.Refusals.{refuses}
use Rattle.keymap.specs.declared.refusals.Refusal.{Refusal}
use Rattle.records.specs.Words.{Pool, record_words, used_count, capacity}
use Rattle.records.specs.Sound.{Sound}
use Rattle.records.specs.SoundTest.{sound_test}
use Rattle.pool.specs.declared.path.Reach.{Reach}
use Rattle.pool.specs.Answers.{said_pushed, accepted}
use Rattle.pool.specs.Path.{reach_of, missing_labels}
use Rattle.pool.specs.Writing.{marked}
use Rattle.pool.specs.Entering.{entered_all, last_entered}

-- from the record on that the key reaches
unfoldable pub inserted_at : Pool → Key → ℕ → Reach → Pool
inserted_at p key v r =
    marked (entered_all p r.at (drop r.depth key)) (last_entered p r.at (drop r.depth key)) v

unfoldable pub inserted : Pool → Key → ℕ → Pool
inserted p key v = inserted_at p key v (reach_of p key)

-- records in use plus the key's prefixes not yet present do not exceed capacity
unfoldable pub has_room : Pool → Key → Bool
has_room p key = leb (used_count p + missing_labels p key) (capacity p)

unfoldable pub tested_says : Pool → Key → List ℕ
tested_says p key =
    cond (eqb (length key) 0) (refuses Refusal.EmptyKey) (cond (has_room p key) (0 ∷ []) (refuses Refusal.NoRoom))

unfoldable pub push_says : Pool → Key → List ℕ
push_says p key =
    cond (ltb (length p) record_words) (refuses Refusal.PoolTooSmall)
    (cond (sound_test p) (tested_says p key) (refuses Refusal.NotAPool))

unfoldable pub push_pool : Pool → Key → ℕ → Pool
push_pool p key v = cond (accepted (push_says p key)) (inserted p key v) p

-- p is the pool before, q the pool after
pub record TestedPush (p : Pool) (key : Key) (v : ℕ) (r : Result (Unit {0}) Refusal) (q : Pool) : Type 0 where
  pub answer : said_pushed r ≡ tested_says p key
  pub left : q ≡ cond (accepted (tested_says p key)) (inserted p key v) p
  pub sound : Sound q
