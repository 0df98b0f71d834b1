-- Uses of demand 3: A's pushes into a pool of capacity 3, and B's into a longer one. Assumes nothing.
use Prim.Native.Nat.{ℕ, ◌≤◌, ◌<◌}
use mathlib.Core.Path.{◌≡◌, refl, sym, subst, ◌∙◌}
use mathlib.Core.List.{List, [], ◌∷◌, cons-ne-nil}
use native.Mathlib.Omega.{arith}
use lib.ListN.{length, get_or, replicate}
use Rattle.keymap.specs.Members.{In, Distinct, here}
use Rattle.keymap.specs.Key.{Key, Bytes, compare_keys, begins_with}
use Rattle.keymap.specs.Map.{Map, Rising, insert}
use Rattle.keymap.specs.Queries.{SomeBegins}
use Rattle.keymap.specs.Prefixes.{level, deepest, levels, prefixes}
use Rattle.keymap.specs.Paths.{nodes, path_of}
use Rattle.records.specs.Words.{InUse}
use Rattle.records.specs.Spelling as spelling
use Rattle.records.specs.Meaning.{pool_map}
use Rattle.pool.specs.Reset.{reset_says, reset_pool}
use Rattle.pool.specs.UseCount.{use_count_says}
use Rattle.pool.specs.Push.{push_says}
use Rattle.pool.specs.History.{AllLent, map_run}
use Rattle.pool.specs.History as pools
use Rattle.image.specs.History.{Call, pool_calls, history_says, map_history_says}
use Rattle.image.specs.Build.{buffers_fit, fit_says, build_says, build_scratch}
use Rattle.theorems.specs.Built.{pool_after, built_image}
use Rattle.theorems.specs.Demand3.{Demand3}
use Rattle.theorems.proofs.Demand3.{every-history, map-alone}
use Rattle.theorems.proofs.Uses.Values.{a, ab, b, c, map_a, image_a, image_a-is, pool_a, pool_b, push, use_count, calls_a, calls_b, calls_a-lent, calls_b-lent, rooted_a, rooted_b, map_after_a, map_after_b, four, two}

of_a : Demand3 pool_a calls_a
of_a = every-history pool_a rooted_a calls_a calls_a-lent

-- the history begins with an accepted reset
pub resets : reset_says pool_a ≡ 0 ∷ []
resets = of_a.resets

-- "c" 5 and a reset, "ab" 7, "b" 3, then "c" (4, capacity is 3), the empty key (3), "ab" 9 (accepted), the use count, a build that lacks a scratch entry (5) and one that does not
abbrev long : List Call
long = push c 5 ∷ Call.on_pool pools.PoolCall.reset ∷ push ab 7 ∷ push b 3 ∷ push c 1 ∷ push [] 1 ∷ push ab 9 ∷ use_count ∷ Call.build four four two two ∷ Call.build four four two four ∷ []

long-lent : AllLent (pool_calls long)
unfolding pool_calls
long-lent =
    (((omega arith, tt), omega arith), (tt, (((omega arith, (omega arith, tt)), omega arith), (((omega arith, tt), omega arith), (((omega arith, tt), omega arith), ((tt, omega arith), (((omega arith, (omega arith, tt)), omega arith), (tt, tt))))))))

pub answers : history_says (reset_pool pool_a) long ≡ (0 ∷ []) ∷ (0 ∷ []) ∷ (0 ∷ []) ∷ (0 ∷ []) ∷ (4 ∷ []) ∷ (3 ∷ []) ∷ (0 ∷ []) ∷ (0 ∷ 3 ∷ []) ∷ (5 ∷ []) ∷ (0 ∷ 3 ∷ []) ∷ []
unfolding map_history_says insert compare_keys prefixes levels level deepest fit_says buffers_fit
answers = (every-history pool_a rooted_a long long-lent).answers

-- the pool holds A's map, and after the longer history "ab" with its last value; the keys rise, are nonempty and of bytes, and the values are of 32 bits
pub holds : pool_map (pool_after pool_a calls_a) ≡ map_a
holds = of_a.holds ∙ map_after_a

pub holds-last : pool_map (pool_after pool_a long) ≡ (ab, 9) ∷ (b, 3) ∷ []
unfolding map_run pool_calls insert compare_keys prefixes levels level deepest
holds-last = (every-history pool_a rooted_a long long-lent).holds

pub catalogue : Rising map_a × ((¬ (ab ≡ [])) × Bytes ab × (7 < 4294967296) × ((¬ (b ≡ [])) × Bytes b × (3 < 4294967296) × Unit {0}))
unfolding map_run pool_calls insert compare_keys prefixes levels level deepest
catalogue = (of_a.catalogue.rising, of_a.catalogue.proper)

-- "a" is one of the prefixes, since "ab" begins with it; the empty key is none; and there are no two of a kind
pub prefix : In a (prefixes map_a) × (In [] (prefixes map_a) → ⊥)
unfolding map_run pool_calls insert compare_keys prefixes levels level deepest begins_with
prefix = ((of_a.prefix a).1 (cons-ne-nil 97 [], ((ab, 7), here refl, refl)), λ i. ((of_a.prefix []).0 i).0 refl)

pub prefix-of : (k : Key) → In k (prefixes map_a) → (¬ (k ≡ [])) × SomeBegins k map_a
unfolding map_run pool_calls insert compare_keys prefixes levels level deepest
prefix-of k = (of_a.prefix k).0

pub distinct : Distinct (a ∷ b ∷ ab ∷ [])
unfolding map_run pool_calls insert compare_keys prefixes levels level deepest
distinct = of_a.distinct

-- three records are in use
pub counts : use_count_says (pool_after pool_a calls_a) ≡ 0 ∷ 3 ∷ []
unfolding map_run pool_calls insert compare_keys prefixes levels level deepest
counts = of_a.counts

-- some record has the path "a", and only one
pub records : (r : ℕ) × InUse (pool_after pool_a calls_a) r × (a ≡ spelling.record_path (pool_after pool_a calls_a) r)
unfolding map_run pool_calls insert compare_keys prefixes levels level deepest
records = (of_a.records a).0 prefix.0

pub recorded : In a (prefixes map_a)
unfolding map_run pool_calls insert compare_keys prefixes levels level deepest
recorded = (of_a.records a).1 records

pub apart : (r s : ℕ) → InUse (pool_after pool_a calls_a) r → InUse (pool_after pool_a calls_a) s → spelling.record_path (pool_after pool_a calls_a) r ≡ a → spelling.record_path (pool_after pool_a calls_a) s ≡ a → r ≡ s
apart r s u v e f = of_a.apart r s u v (e ∙ sym f)

-- "c" is refused for room, and "ab" is not
pub room : (push_says (pool_after pool_a calls_a) c ≡ 4 ∷ []) × (push_says (pool_after pool_a calls_a) ab ≡ 4 ∷ [] → ⊥)
unfolding map_run pool_calls insert compare_keys prefixes levels level deepest
room = ((of_a.room c (cons-ne-nil 99 []) 1).1 (omega arith), λ f. omega (arith, (of_a.room ab (cons-ne-nil 97 b) 9).0 f))

-- the prefixes are no more than the capacity
pub within : length (prefixes map_a) ≤ 3
within = subst (λ (m : Map). length (prefixes m) ≤ 3) map_after_a of_a.within

-- a build of A needs three entries, values and scratch entries and one word
pub needs : (build_says (pool_after pool_a calls_a) four four two four ≡ 0 ∷ 3 ∷ []) × (build_says (pool_after pool_a calls_a) four four two two ≡ 5 ∷ [])
unfolding map_run pool_calls insert compare_keys prefixes levels level deepest fit_says buffers_fit
needs = (of_a.needs four four two four, of_a.needs four four two two)

-- each of the others is missed, and just as many are enough
pub needs-each : (build_says (pool_after pool_a calls_a) two four two four ≡ 5 ∷ [])
    × (build_says (pool_after pool_a calls_a) four two two four ≡ 5 ∷ [])
    × (build_says (pool_after pool_a calls_a) four four [] four ≡ 5 ∷ [])
    × (build_says (pool_after pool_a calls_a) (replicate 3 9) (replicate 3 9) (replicate 1 9) (replicate 3 9) ≡ 0 ∷ 3 ∷ [])
unfolding map_run pool_calls insert compare_keys prefixes levels level deepest fit_says buffers_fit
needs-each = (of_a.needs two four two four, of_a.needs four two two four, of_a.needs four four [] four, of_a.needs (replicate 3 9) (replicate 3 9) (replicate 1 9) (replicate 3 9))

-- it answers 3, and leaves A's image
pub builds : (n : ℕ) → build_says (pool_after pool_a calls_a) four four two four ≡ 0 ∷ n ∷ [] → (n ≡ 3) × (built_image n (pool_after pool_a calls_a) four four two four ≡ image_a)
unfolding map_run pool_calls insert compare_keys prefixes levels level deepest
builds n e = let (many, left) = of_a.builds n four four two four e in (many, left ∙ image_a-is)

-- the first scratch entry is the number of the record at "a", which is node 2, and the last that of "ab", which is node 4
pub scratch : InUse (pool_after pool_a calls_a) (get_or (build_scratch (pool_after pool_a calls_a) four four two four) 0 0)
    × (spelling.record_path (pool_after pool_a calls_a) (get_or (build_scratch (pool_after pool_a calls_a) four four two four) 0 0) ≡ a)
unfolding map_run pool_calls insert compare_keys prefixes levels level deepest path_of nodes
scratch = of_a.scratch 3 four four two four needs.0 0 (omega arith)

pub scratch-last : InUse (pool_after pool_a calls_a) (get_or (build_scratch (pool_after pool_a calls_a) four four two four) 2 0)
    × (spelling.record_path (pool_after pool_a calls_a) (get_or (build_scratch (pool_after pool_a calls_a) four four two four) 2 0) ≡ ab)
unfolding map_run pool_calls insert compare_keys prefixes levels level deepest path_of nodes
scratch-last = of_a.scratch 3 four four two four needs.0 2 (omega arith)

-- 5 words are a pool, which has room for no record; a key of the byte 255 with the largest value is taken
pub smallest : use_count_says (pool_after (replicate 5 9) []) ≡ 0 ∷ 0 ∷ []
unfolding map_run pool_calls prefixes levels deepest
smallest = (every-history (replicate 5 9) (omega arith) [] tt).counts

pub largest : use_count_says (pool_after pool_b (push (255 ∷ []) 4294967295 ∷ [])) ≡ 0 ∷ 1 ∷ []
unfolding map_run pool_calls insert prefixes levels level deepest
largest = (every-history pool_b rooted_b (push (255 ∷ []) 4294967295 ∷ []) (((omega arith, tt), omega arith), tt)).counts

of_b : Demand3 pool_b calls_b
of_b = every-history pool_b rooted_b calls_b calls_b-lent

built_b : build_says (pool_after pool_b calls_b) (replicate 3 0) (replicate 5 0) (replicate 1 0) (replicate 9 0) ≡ 0 ∷ 3 ∷ []
unfolding map_run pool_calls insert compare_keys prefixes levels level deepest fit_says buffers_fit
built_b = of_b.needs (replicate 3 0) (replicate 5 0) (replicate 1 0) (replicate 9 0)

-- A and B give one image, though their pools are of 23 and of 31 words and the buffers differ
pub one-image : built_image 3 (pool_after pool_a calls_a) four four two four ≡ built_image 3 (pool_after pool_b calls_b) (replicate 3 0) (replicate 5 0) (replicate 1 0) (replicate 9 0)
one-image =
    map-alone pool_a pool_b rooted_a rooted_b calls_a calls_b calls_a-lent calls_b-lent (map_after_a ∙ sym map_after_b) 3 3 four four two four (replicate 3 0) (replicate 5 0) (replicate 1 0) (replicate 9 0) needs.0 built_b
