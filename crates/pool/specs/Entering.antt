-- Records that are entered: "gives missing labels records n+1, n+2 and so on in key order, linked among siblings in
-- label order" (01).
--
--     entered         one record more
--     entered_all     a record for each byte, each below the one before; last_entered is the last
--     SoundBut        a pool that is sound but for a record that has neither value nor child yet
--     CanEnter        what entering a record asks
-- Assumes nothing.
use Rattle.std.specs.Prelude.{ℕ, ◌+◌, ◌≤◌, ◌<◌, ◌≡◌, [], ◌∷◌, length}
use Rattle.keymap.specs.Limits.{byte_limit}
use Rattle.keymap.specs.Label.{mark}
use Rattle.keymap.specs.Key.{Key, Bytes}
use Rattle.records.specs.Words.{Pool, record_words, entry, value, first_child, next_sibling, parent, last_record, used_count}
use Rattle.records.specs.Words.{InUse, Node, next_record, taken, capacity}
use Rattle.records.specs.Sound.{ChildChain}
use Rattle.records.specs.Spelling.{Stops}
use Rattle.pool.specs.declared.siblings.Slot.{Slot}
use Rattle.pool.specs.Siblings.{slot_of}
use Rattle.pool.specs.Writing.{filled, linked}

-- record m, with label b, put in at a slot of the children of i, and the root's words brought up to date
unfoldable pub entered_at : Pool → (i b m : ℕ) → Slot → Pool
entered_at p i b m s = taken (linked (filled p m b s.next i) i s.prev m) m

unfoldable pub entered : Pool → (i b : ℕ) → Pool
entered p i b = entered_at p i b (next_record p) (slot_of p i b)

unfoldable pub entered_all : Pool → ℕ → Key → Pool
entered_all p i [] = p
entered_all p i (b ∷ bs) = entered_all (entered p i b) (next_record p) bs

unfoldable pub last_entered : Pool → ℕ → Key → ℕ
last_entered p i [] = i
last_entered p i (b ∷ bs) = last_entered (entered p i b) (next_record p) bs

-- as `Fits`, but that record e may lack a child where it has no value
pub record FitsBut (p : Pool) (e c : ℕ) : Type 0 where
  pub entry-below : entry p c < byte_limit + mark
  pub child-within : first_child p c ≤ last_record p
  pub sibling-within : next_sibling p c ≤ last_record p
  pub parent-below : parent p c < c
  pub unvalued : entry p c < mark → (value p c ≡ 0) × ((c ≡ e → ⊥) → 0 < first_child p c)

-- as `Sound`, but for record e
pub record SoundBut (p : Pool) (e : ℕ) : Type 0 where
  pub rooted : record_words ≤ length p
  pub within : last_record p ≤ capacity p
  pub root : (value p 0 ≡ 0) × (next_sibling p 0 ≡ 0) × (parent p 0 ≡ 0)
  pub fits : (c : ℕ) → InUse p c → FitsBut p e c
  pub children : (c : ℕ) → Node p c → ChildChain p c

-- label b can be entered under i: nothing but i is unfinished, i has no such child, and there is room
pub record CanEnter (p : Pool) (i b : ℕ) : Type 0 where
  pub sound : SoundBut p i
  pub node : Node p i
  pub byte : b < byte_limit
  pub absent : Stops p i (b ∷ [])
  pub room : used_count p + 1 ≤ capacity p

-- these bytes can be entered below i, one below the other
pub record CanEnterAll (p : Pool) (i : ℕ) (bs : Key) : Type 0 where
  pub sound : SoundBut p i
  pub node : Node p i
  pub bytes : Bytes bs
  pub ends : Stops p i bs
  pub room : used_count p + length bs ≤ capacity p
