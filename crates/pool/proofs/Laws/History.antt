-- Laws of histories. Each call on a sound pool answers what the map tells, leaves the map that the map tells, and leaves a sound pool of the same length; so do calls in turn.
--
--     call-says, call-map, call-sound, call_length  one call
--     run-says, run-map, run_sound  any calls on a sound pool, also one that was not reset here
--     reset-run-sound, reset-run-map, reset-run-says  any calls after an accepted reset: the pool is sound, holds the
--                              map of the keys accepted since the last reset, and every answer is told by that map and
--                              the capacity
--     reset-run-within         that map is a catalogue with no more distinct prefixes than the capacity
--     reset-run-count          and its use count is the number of that map's distinct nonempty prefixes
--     empty-catalogue          the empty map is a catalogue
--     prefixes-insert_all      inserts take no prefix away
--     pushes-lent              the entries of a proper map can be pushed
--     fits-says                a nonempty key for which there is room is accepted
--     refill-says, refill-map  a sound pool counts as reset and then given the keys that it holds: all are accepted,
--                              and leave its map
-- Assumes nothing.
use Prim.Native.Nat.{ℕ, ◌≤◌, ◌<◌}
use mathlib.Core.Path.{◌≡◌, refl, sym, ◌∙◌, ap}
use mathlib.Core.Bool.{Bool, true, false, cond}
use mathlib.Core.List.{List, [], ◌∷◌, map}
use native.Mathlib.Omega.{arith}
use lib.ListN.{length}
use lib.Dec.{leb, eqb}
use borrow.Author.Tests.{ne_eqb, eqb-false, leb-true, le-leb}
use Rattle.keymap.specs.Limits.{value_limit}
use Rattle.keymap.specs.Key.{Key, Bytes}
use Rattle.keymap.specs.Map.{Entry, Map, Rising, Proper, Catalogue, insert, insert_all}
use Rattle.keymap.specs.Prefixes.{prefixes}
use Rattle.keymap.specs.Refusals.{refuses}
use Rattle.keymap.specs.declared.refusals.Refusal.{Refusal}
use Rattle.keymap.proofs.Laws.Map.{insert-rising, insert-catalogue, insert_all-self}
use Rattle.keymap.proofs.Laws.Prefixes.{prefixes-empty, prefixes-insert}
use Rattle.records.specs.Words.{Pool, record_words, used_count, Bounded, capacity}
use Rattle.records.specs.Sound.{Sound}
use Rattle.records.specs.Meaning.{pool_map}
use Rattle.records.proofs.Laws.Sound.{used-within}
use Rattle.records.proofs.Laws.SoundTest.{sound-test}
use Rattle.records.proofs.Laws.Meaning.{map-catalogue, count-prefixes}
use Rattle.pool.specs.Answers.{accepted}
use Rattle.pool.specs.Reset.{reset_pool}
use Rattle.pool.specs.Push.{has_room, tested_says, push_says, push_pool}
use Rattle.pool.specs.History.{PoolCall, LentCall, AllLent, call_says, call_pool, run_says, run_pool, map_says, call_map, map_run_says, map_run, pushes_of}
use Rattle.pool.proofs.Laws.Reset.{reset-done, reset-sound, length-reset}
use Rattle.pool.proofs.Laws.UseCount.{use-count-sound}
use Rattle.pool.proofs.Laws.Push.{push-tested, push-keeps, length_push}
use Rattle.pool.proofs.Laws.Meaning.{reset-means-empty, push-means-insert, push-means-same, room-means-prefixes}

module _ (p : Pool) (s : Sound p) where
  push-says : (k : Key) (v : ℕ) → push_says p k ≡ map_says (capacity p) (pool_map p) (PoolCall.push k v)
  unfolding tested_says
  push-says k v = sym (push-tested p k s.rooted (sound-test p s)) ∙ go (eqb (length k) 0) refl
    where
      go : (t : Bool) → eqb (length k) 0 ≡ t
          → cond t (refuses Refusal.EmptyKey) (cond (has_room p k) (0 ∷ []) (refuses Refusal.NoRoom))
          ≡ cond t (refuses Refusal.EmptyKey) (cond (leb (length (prefixes (insert k v (pool_map p)))) (capacity p)) (0 ∷ []) (refuses Refusal.NoRoom))
      go true e = refl
      go false e = ap (λ (b : Bool). cond b (0 ∷ []) (refuses Refusal.NoRoom)) (room-means-prefixes p k s (eqb-false (length k) 0 e) v)

  pub call-says : (c : PoolCall) → call_says p c ≡ map_says (capacity p) (pool_map p) c
  call-says PoolCall.reset = sym (reset-done p s.rooted).0
  call-says (PoolCall.push k v) = push-says k v
  call-says PoolCall.use_count = sym (use-count-sound p s.rooted (sound-test p s)) ∙ ap (λ (n : ℕ). 0 ∷ n ∷ []) (sym (count-prefixes p s))

  push-map : (k : Key) (v : ℕ) → Bytes k → pool_map (push_pool p k v) ≡ call_map (capacity p) (pool_map p) (PoolCall.push k v)
  push-map k v b = go (accepted (push_says p k)) refl ∙ ap (λ (a : List ℕ). cond (accepted a) (insert k v (pool_map p)) (pool_map p)) (push-says k v)
    where
      go : (t : Bool) → accepted (push_says p k) ≡ t → pool_map (push_pool p k v) ≡ cond (accepted (push_says p k)) (insert k v (pool_map p)) (pool_map p)
      go true e = push-means-insert p k v b e ∙ rw e refl
      go false e = push-means-same p k v e ∙ rw e refl

  pub call-map : (c : PoolCall) → LentCall c → pool_map (call_pool p c) ≡ call_map (capacity p) (pool_map p) c
  call-map PoolCall.reset l = reset-means-empty p s.rooted
  call-map (PoolCall.push k v) l = push-map k v l.0
  call-map PoolCall.use_count l = refl

  pub call-sound : (c : PoolCall) → LentCall c → Sound (call_pool p c)
  call-sound PoolCall.reset l = reset-sound p s.rooted
  call-sound (PoolCall.push k v) l = push-keeps p k v l.0 s
  call-sound PoolCall.use_count l = s

  pub call_length : (c : PoolCall) → LentCall c → length (call_pool p c) ≡ length p
  call_length PoolCall.reset l = length-reset p
  call_length (PoolCall.push k v) l = length_push p k v l.0
  call_length PoolCall.use_count l = refl

  pub call-capacity : (c : PoolCall) → LentCall c → capacity (call_pool p c) ≡ capacity p
  call-capacity c l = rw (call_length c l)

pub run_sound : (cs : List PoolCall) (p : Pool) → Sound p → AllLent cs → Sound (run_pool p cs)
unfolding run_pool
run_sound [] p s l = s
run_sound (c ∷ cs) p s l = run_sound cs (call_pool p c) (call-sound p s c l.0) l.1

pub run-says : (cs : List PoolCall) (p : Pool) → Sound p → AllLent cs → run_says p cs ≡ map_run_says (capacity p) (pool_map p) cs
unfolding run_says map_run_says
run-says [] p s l = refl
run-says (c ∷ cs) p s l =
    let first = call-says p s c in
    let rest = run-says cs (call_pool p c) (call-sound p s c l.0) l.1 in
    let m = call-map p s c l.0 in
    let n = call-capacity p s c l.0 in
    λ i. first i ∷ (rest ∙ (λ j. map_run_says (n j) (m j) cs)) i

pub run-map : (cs : List PoolCall) (p : Pool) → Sound p → AllLent cs → pool_map (run_pool p cs) ≡ map_run (capacity p) (pool_map p) cs
unfolding run_pool map_run
run-map [] p s l = refl
run-map (c ∷ cs) p s l =
    let m = call-map p s c l.0 in
    let n = call-capacity p s c l.0 in
    run-map cs (call_pool p c) (call-sound p s c l.0) l.1 ∙ (λ j. map_run (n j) (m j) cs)

-- ---- what the map of a history is

pub empty-catalogue : Catalogue []
empty-catalogue = record { rising = tt; proper = tt }

nonempty-key : (k : Key) → eqb (length k) 0 ≡ false → ¬ (k ≡ [])
nonempty-key k e s = eqb-false (length k) 0 e (ap length s)

-- a call leaves a catalogue, with no more distinct prefixes than there is room for
module _ (most : ℕ) (m : Map) (c : Catalogue m) (few : length (prefixes m) ≤ most) where
  push-within : (k : Key) (v : ℕ) → Bytes k × (v < value_limit)
      → Catalogue (call_map most m (PoolCall.push k v)) × (length (prefixes (call_map most m (PoolCall.push k v))) ≤ most)
  push-within k v l = go (eqb (length k) 0) refl (leb (length (prefixes (insert k v m))) most) refl
    where
      go : (t : Bool) → eqb (length k) 0 ≡ t → (u : Bool) → leb (length (prefixes (insert k v m))) most ≡ u
          → Catalogue (call_map most m (PoolCall.push k v)) × (length (prefixes (call_map most m (PoolCall.push k v))) ≤ most)
      go true e u f = rw e (c, few)
      go false e true f = rw (e, f) (insert-catalogue k v m (nonempty-key k e) l.0 l.1 c, leb-true _ _ f)
      go false e false f = rw (e, f) (c, few)

  pub call-within : (d : PoolCall) → LentCall d → Catalogue (call_map most m d) × (length (prefixes (call_map most m d)) ≤ most)
  call-within PoolCall.reset l = (empty-catalogue, omega (arith, ap length prefixes-empty))
  call-within (PoolCall.push k v) l = push-within k v l
  call-within PoolCall.use_count l = (c, few)

pub run-within : (most : ℕ) (cs : List PoolCall) (m : Map) → Catalogue m → length (prefixes m) ≤ most → AllLent cs
    → Catalogue (map_run most m cs) × (length (prefixes (map_run most m cs)) ≤ most)
unfolding map_run
run-within most [] m c few l = (c, few)
run-within most (d ∷ cs) m c few l = let (c-after, few-after) = call-within most m c few d l.0 in run-within most cs (call_map most m d) c-after few-after l.1

module _ (p : Pool) (h : record_words ≤ length p) (cs : List PoolCall) (lent : AllLent cs) where
  pub reset-run-sound : Sound (run_pool (reset_pool p) cs)
  reset-run-sound = run_sound cs (reset_pool p) (reset-sound p h) lent

  same : capacity (reset_pool p) ≡ capacity p
  same = rw (length-reset p)

  pub reset-run-says : run_says (reset_pool p) cs ≡ map_run_says (capacity p) [] cs
  reset-run-says = let e = same in let m = reset-means-empty p h in run-says cs (reset_pool p) (reset-sound p h) lent ∙ (λ i. map_run_says (e i) (m i) cs)

  pub reset-run-map : pool_map (run_pool (reset_pool p) cs) ≡ map_run (capacity p) [] cs
  reset-run-map = let e = same in let m = reset-means-empty p h in run-map cs (reset_pool p) (reset-sound p h) lent ∙ (λ i. map_run (e i) (m i) cs)

  pub reset-run-count : used_count (run_pool (reset_pool p) cs) ≡ length (prefixes (map_run (capacity p) [] cs))
  reset-run-count = sym (count-prefixes (run_pool (reset_pool p) cs) reset-run-sound) ∙ ap (λ (m : Map). length (prefixes m)) reset-run-map

  -- and it is a catalogue that the pool has room for
  pub reset-run-within : Catalogue (map_run (capacity p) [] cs) × (length (prefixes (map_run (capacity p) [] cs)) ≤ capacity p)
  reset-run-within = run-within (capacity p) cs [] empty-catalogue (omega (arith, ap length prefixes-empty)) lent

-- ---- a pool that was not reset here
pub prefixes-insert_all : (es m : Map) → Rising m → length (prefixes m) ≤ length (prefixes (insert_all es m))
unfolding insert_all
prefixes-insert_all [] m r = omega arith
prefixes-insert_all (e ∷ es) m r =
    omega (arith, prefixes-insert e.0 e.1 m r, prefixes-insert_all es (insert e.0 e.1 m) (insert-rising e.0 e.1 m r))

pub pushes-lent : (m : Map) → Proper m → AllLent (pushes_of m)
pushes-lent [] p = tt
pushes-lent (e ∷ m) p = ((p.1, p.2), pushes-lent m p.3)

-- a push of a key for which there is room
module _ (most : ℕ) (m : Map) (k : Key) (v : ℕ) (nonempty : ¬ (k ≡ [])) (few : length (prefixes (insert k v m)) ≤ most) where
  not-empty : (x : Key) → ¬ (x ≡ []) → eqb (length x) 0 ≡ false
  not-empty [] n = absurd (n refl)
  not-empty (b ∷ bs) n = ne_eqb (length (b ∷ bs)) 0 (λ e. omega arith)

  pub fits-says : map_says most m (PoolCall.push k v) ≡ 0 ∷ []
  fits-says = rw (not-empty k nonempty, le-leb _ _ few)

  fits_after : call_map most m (PoolCall.push k v) ≡ insert k v m
  fits_after = rw fits-says

-- where all the entries fit together each is accepted, and all are inserted
pushes-run : (es : Map) (most : ℕ) (m : Map) → Proper es → Rising m → length (prefixes (insert_all es m)) ≤ most
    → (map_run_says most m (pushes_of es) ≡ map (λ (e : Entry). 0 ∷ []) es) × (map_run most m (pushes_of es) ≡ insert_all es m)
unfolding map_run_says map_run insert_all
pushes-run [] most m p r few = (refl, refl)
pushes-run (e ∷ es) most m p r few =
    let up = insert-rising e.0 e.1 m r in
    let room : length (prefixes (insert e.0 e.1 m)) ≤ most = omega (arith, prefixes-insert_all es (insert e.0 e.1 m) up) in
    let says = fits-says most m e.0 e.1 p.0 room in
    let after = fits_after most m e.0 e.1 p.0 room in
    let rest = pushes-run es most (insert e.0 e.1 m) p.3 up few in (
      (λ i. says i ∷ (ap (λ (n : Map). map_run_says most n (pushes_of es)) after ∙ rest.0) i),
      ap (λ (n : Map). map_run most n (pushes_of es)) after ∙ rest.1,
    )

module _ (p : Pool) (s : Sound p) (bounded : Bounded p) where
  held : Catalogue (pool_map p)
  held = map-catalogue p s bounded

  self : insert_all (pool_map p) [] ≡ pool_map p
  self = insert_all-self (pool_map p) held.rising

  room : length (prefixes (insert_all (pool_map p) [])) ≤ capacity p
  room = rw self (omega (arith, count-prefixes p s, used-within p s))

  pub refill-says : run_says (reset_pool p) (pushes_of (pool_map p)) ≡ map (λ (e : Entry). 0 ∷ []) (pool_map p)
  refill-says =
      reset-run-says p s.rooted (pushes_of (pool_map p)) (pushes-lent (pool_map p) held.proper) ∙ (pushes-run (pool_map p) (capacity p) [] held.proper tt room).0

  pub refill-map : pool_map (run_pool (reset_pool p) (pushes_of (pool_map p))) ≡ pool_map p
  refill-map =
      reset-run-map p s.rooted (pushes_of (pool_map p)) (pushes-lent (pool_map p) held.proper) ∙ (pushes-run (pool_map p) (capacity p) [] held.proper tt room).1 ∙ self
