-- Uses of demand 2: 01's worked lines on A's image, out of `EveryMap` and out of `EveryBuild`. Its nodes are 1 the root, 2 "a", 3 "b", 4 "ab". Assumes nothing.
use Prim.Native.Nat.{ℕ, ◌≤◌, ◌<◌}
use mathlib.Core.Path.{◌≡◌, refl, sym, subst}
use mathlib.Core.Logic.{◌⊎◌, inl, inr}
use mathlib.Core.Bool.{true, true≢false}
use mathlib.Core.List.{List, [], ◌∷◌}
use Rattle.std.specs.Prelude.{None, Some}
use native.Mathlib.Omega.{arith}
use lib.ListN.{length, replicate}
use Rattle.keymap.specs.Members.{In, here, there}
use Rattle.keymap.specs.Key.{Key, Below, compare_keys, begins_with, extends, common_prefix}
use Rattle.keymap.specs.Map.{Entry, Map, Rising, Catalogue, insert, lookup}
use Rattle.keymap.specs.Buffers.{over}
use Rattle.keymap.specs.Queries.{keep, beginning, longer, SomeBegins, is_prefix_in, LongestCommon, common_of_all, longest_prefix_in, ShortestWithin, common_prefix_in, NextAfter, least_above}
use Rattle.keymap.specs.Prefixes.{level, deepest, levels, prefixes}
use Rattle.keymap.specs.Bits.{pack}
use Rattle.keymap.specs.Forest.{tree_of}
use Rattle.keymap.specs.BreadthFirst.{emitted}
use Rattle.keymap.specs.Image.{Image, image_bits, image}
use Rattle.keymap.specs.Paths.{nodes, is_node, path_of, index_of, node_of}
use Rattle.pool.specs.History.{map_run}
use Rattle.image.specs.History.{pool_calls}
use Rattle.listings.specs.declared.answers.Kind.TheVariants.{Predictive, Postfix}
use Rattle.listings.specs.declared.answers.Cursor.TheVariants.{Open, Finished}
use Rattle.searches.specs.Exact.{exact_says, is_prefix_says}
use Rattle.searches.specs.Prefix.{longest_says, longest_out}
use Rattle.searches.specs.CommonPrefixes.{common_says, common_part}
use Rattle.listings.specs.Cursors.{belongs, start_says, step_says}
use Rattle.listings.specs.GivenKey.{key_says, key_out}
use Rattle.places.specs.Incremental.{path_says, query_says, query_moves, walkable, follow_says, follow_moves, goto_says, goto_moves}
use Rattle.places.specs.Places.{resume_says, value_says, prefix_len_says, prefix_says, prefix_out}
use Rattle.theorems.specs.Built.{pool_after, built_image}
use Rattle.theorems.specs.Listing.{listing_says, given_in}
use Rattle.theorems.specs.Demand2.{AtPath, NoPlace, Searches, set_all, set_all_in}
use Rattle.theorems.proofs.Demand2.{every-map, every-build}
use Rattle.theorems.proofs.Uses.Values.{a, ab, abc, ac, ax, b, c, map_a, catalogue_a, prefixes_a, image_a, image_a-is, pool_a, calls_a, calls_a-lent, rooted_a, four, two}
use Rattle.theorems.proofs.Uses.Demand3.{needs}

-- ---- out of `EveryMap`

pub on_a : Searches map_a image_a
unfolding set_all set_all_in
on_a = subst (λ (i : Image). Searches map_a i) image_a-is (every-map map_a catalogue_a (omega (arith, prefixes_a)) [] tt)

-- any map of 4,096 nodes and fewer
pub any-map : (m : Map) → Catalogue m → length (prefixes m) ≤ 4096 → Searches m (image m)
unfolding set_all set_all_in
any-map m h few = every-map m h few [] tt

-- "A: words [45]", by the level-order rule and as the Rust emits them
pub level-order : 45 ∷ [] ≡ pack (image_bits map_a)
level-order = on_a.level-order

pub emits : 45 ∷ [] ≡ pack (emitted (tree_of map_a).1)
emits = on_a.emits

-- "ab" has 7, "b" has 3, "a" and the empty query have no match
pub exact-match : exact_says image_a ab ∷ exact_says image_a b ∷ exact_says image_a a ∷ exact_says image_a [] ∷ [] ≡ (0 ∷ 7 ∷ []) ∷ (0 ∷ 3 ∷ []) ∷ (0 ∷ []) ∷ (0 ∷ []) ∷ []
unfolding lookup compare_keys
exact-match = λ i. on_a.exact-match ab i ∷ on_a.exact-match b i ∷ on_a.exact-match a i ∷ on_a.exact-match [] i ∷ []

pub entries : ((v : ℕ) → lookup ab map_a ≡ Some v → In (ab, v) map_a) × (lookup ab map_a ≡ Some 7) × (lookup b map_a ≡ Some 3)
entries = (λ v. (on_a.entries ab v).0, (on_a.entries ab 7).1 (here refl), (on_a.entries b 3).1 (there (here refl)))

pub empty-query : lookup [] map_a ≡ None
empty-query = on_a.empty-query

-- the empty query and "a" are prefixes of longer keys, and "ab" of none
pub is-prefix : is_prefix_says image_a [] ∷ is_prefix_says image_a a ∷ is_prefix_says image_a ab ∷ [] ≡ (0 ∷ 1 ∷ []) ∷ (0 ∷ 1 ∷ []) ∷ (0 ∷ []) ∷ []
unfolding is_prefix_in longer keep extends begins_with
is-prefix = λ i. on_a.is-prefix [] i ∷ on_a.is-prefix a i ∷ on_a.is-prefix ab i ∷ []

pub some-longer : is_prefix_in a map_a ≡ true
unfolding begins_with
some-longer = (on_a.some-longer a).1 ((ab, 7), here refl, refl, omega arith)

pub one-longer : (e : Entry) × In e map_a × (begins_with a e.0 ≡ true) × (1 < length e.0)
one-longer = (on_a.some-longer a).0 some-longer

-- "`longest_prefix` "": no match; "a": "ab"; "ac": no match"
pub longest-prefix : longest_says image_a [] four ∷ longest_says image_a a four ∷ longest_out image_a a four ∷ longest_says image_a ac four ∷ longest_out image_a ac four ∷ []
    ≡ (0 ∷ []) ∷ (0 ∷ 2 ∷ []) ∷ (97 ∷ 98 ∷ 9 ∷ 9 ∷ []) ∷ (0 ∷ []) ∷ four ∷ []
unfolding longest_prefix_in common_of_all common_prefix beginning keep begins_with over
longest-prefix = λ i. (on_a.longest-prefix [] four).0 i ∷ (on_a.longest-prefix a four).0 i ∷ (on_a.longest-prefix a four).1 i ∷ (on_a.longest-prefix ac four).0 i ∷ (on_a.longest-prefix ac four).1 i ∷ []

-- which is what the keys beginning with "a" have in common, and no more
pub longest : (p : Key)
    → (longest_prefix_in a map_a ≡ Some p → SomeBegins a map_a × LongestCommon (beginning a map_a) p × (¬ (p ≡ [])))
    × (SomeBegins a map_a → LongestCommon (beginning a map_a) p → ¬ (p ≡ []) → longest_prefix_in a map_a ≡ Some p)
longest p = ((on_a.longest a p).0, λ s l n. (on_a.longest a p).1 (s, l, n))

pub longest-ab : LongestCommon (beginning a map_a) ab
unfolding longest_prefix_in common_of_all beginning keep begins_with
longest-ab = ((longest ab).0 refl).1

-- a buffer of one byte is refused 8
pub longest-room : (longest_says image_a a (9 ∷ []) ≡ 8 ∷ []) × (longest_out image_a a (9 ∷ []) ≡ 9 ∷ [])
unfolding longest_prefix_in common_of_all common_prefix beginning keep begins_with
longest-room = on_a.longest-prefix a (9 ∷ [])

none-ac : longest_prefix_in ac map_a ≡ None
unfolding longest_prefix_in common_of_all beginning keep begins_with
none-ac = refl

-- no key begins with "ac", and those that begin with the empty query have nothing in common
pub no-longest : ((¬ SomeBegins ac map_a) ⊎ LongestCommon (beginning ac map_a) [])
    × (¬ SomeBegins ac map_a → longest_prefix_in ac map_a ≡ None)
    × (LongestCommon (beginning [] map_a) [] → longest_prefix_in [] map_a ≡ None)
no-longest = ((on_a.no-longest ac).0 none-ac, λ n. (on_a.no-longest ac).1 (inl n), λ l. (on_a.no-longest []).1 (inr l))

-- "common prefixes of "abc" after 0: "ab" 7; after 2: no match"
pub common-prefix : common_says image_a abc 0 ∷ common_part image_a abc 0 ∷ common_says image_a abc 2 ∷ common_part image_a abc 2 ∷ [] ≡ (0 ∷ 2 ∷ 7 ∷ []) ∷ ab ∷ (0 ∷ []) ∷ [] ∷ []
unfolding common_prefix_in keep begins_with
common-prefix = λ i. (on_a.common-prefix abc 0).0 i ∷ (on_a.common-prefix abc 0).1 i ∷ (on_a.common-prefix abc 2).0 i ∷ (on_a.common-prefix abc 2).1 i ∷ []

pub shortest : (e : Entry) → (common_prefix_in abc 0 map_a ≡ Some e → ShortestWithin abc 0 map_a e) × (ShortestWithin abc 0 map_a e → common_prefix_in abc 0 map_a ≡ Some e)
shortest e = ((on_a.shortest abc 0 e).0, (on_a.shortest abc 0 e).1)

pub shortest-ab : ShortestWithin abc 0 map_a (ab, 7)
unfolding common_prefix_in keep begins_with
shortest-ab = (shortest (ab, 7)).0 refl

none-abc : common_prefix_in abc 2 map_a ≡ None
unfolding common_prefix_in keep begins_with
none-abc = refl

pub no-shortest : ((e : Entry) → In e map_a → begins_with e.0 abc ≡ true → ¬ (2 < length e.0))
    × (((e : Entry) → In e map_a → begins_with e.0 a ≡ true → ¬ (0 < length e.0)) → common_prefix_in a 0 map_a ≡ None)
no-shortest = ((on_a.no-shortest abc 2).0 none-abc, (on_a.no-shortest a 0).1)

-- a listing of "a" begins at node 2; a postfix listing of "ab" is finished at once, and so is one where there is no path
pub start : start_says Predictive image_a a ∷ start_says Postfix image_a a ∷ start_says Postfix image_a ab ∷ start_says Predictive image_a ax ∷ [] ≡ (0 ∷ 0 ∷ 2 ∷ 0 ∷ []) ∷ (0 ∷ 1 ∷ 2 ∷ 0 ∷ []) ∷ (0 ∷ 1 ∷ []) ∷ (0 ∷ 0 ∷ []) ∷ []
unfolding beginning longer keep extends begins_with node_of index_of nodes prefixes levels level deepest compare_keys
start = λ i. on_a.start Predictive a i ∷ on_a.start Postfix a i ∷ on_a.start Postfix ab i ∷ on_a.start Predictive ax i ∷ []

-- "A, predictive "": "ab" 7, "b" 3, end", and again the end
pub listing : listing_says 4 Predictive image_a [] ≡ (0 ∷ 4 ∷ 7 ∷ 0 ∷ 1 ∷ 4 ∷ []) ∷ (0 ∷ 3 ∷ 3 ∷ 0 ∷ 1 ∷ 3 ∷ []) ∷ (0 ∷ 0 ∷ 0 ∷ []) ∷ (0 ∷ 0 ∷ 0 ∷ []) ∷ []
unfolding given_in beginning keep begins_with node_of index_of nodes prefixes levels level deepest compare_keys
listing = on_a.listing 4 Predictive []

-- a listing of either kind rises
pub rises : (q : Key) → Rising (beginning q map_a) × Rising (longer q map_a)
rises q = (on_a.rises Predictive q, on_a.rises Postfix q)

-- "ab" is listed under "a", and "b" is not; in the postfix listing of "ab" it is not
pub predictive : In (ab, 7) (beginning a map_a) × (In (b, 3) (beginning a map_a) → ⊥)
unfolding begins_with
predictive = ((on_a.predictive a (ab, 7)).1 (here refl, refl), λ j. true≢false (sym ((on_a.predictive a (b, 3)).0 j).1))

pub predictive-keys : (q : Key) (e : Entry) → In e (beginning q map_a) → In e map_a × (begins_with q e.0 ≡ true)
predictive-keys q e = (on_a.predictive q e).0

pub postfix : In (ab, 7) (longer a map_a) × (In (ab, 7) (longer ab map_a) → ⊥)
unfolding begins_with
postfix = ((on_a.postfix a (ab, 7)).1 (here refl, refl, omega arith), λ j. omega (arith, ((on_a.postfix ab (ab, 7)).0 j).2))

pub postfix-keys : (q : Key) (e : Entry) → In e (longer q map_a) → In e map_a × (begins_with q e.0 ≡ true) × (length q < length e.0)
postfix-keys q e = (on_a.postfix q e).0

-- behind "ab" comes "b", the least key above it, and behind "b" the end
pub next : step_says image_a (Open Predictive 1 4) ∷ step_says image_a (Open Predictive 1 3) ∷ step_says image_a (Open Postfix 1 4) ∷ step_says image_a (Open Postfix 2 4) ∷ []
    ≡ (0 ∷ 3 ∷ 3 ∷ 0 ∷ 1 ∷ 3 ∷ []) ∷ (0 ∷ 0 ∷ 0 ∷ []) ∷ (0 ∷ 3 ∷ 3 ∷ 1 ∷ 1 ∷ 3 ∷ []) ∷ (0 ∷ 0 ∷ 1 ∷ []) ∷ []
unfolding least_above beginning longer keep extends begins_with node_of index_of nodes prefixes levels level deepest compare_keys
next =
    λ i. on_a.next Predictive [] (ab, 7) (here refl) i
    ∷ on_a.next Predictive [] (b, 3) (there (here refl)) i
    ∷ on_a.next Postfix [] (ab, 7) (here refl) i
    ∷ on_a.next Postfix a (ab, 7) (here refl) i
    ∷ []

pub least : (k : Key) (e : Entry)
    → (least_above k (beginning a map_a) ≡ Some e → NextAfter k (beginning a map_a) e)
    × (NextAfter k (beginning a map_a) e → least_above k (beginning a map_a) ≡ Some e)
    × (least_above k (longer a map_a) ≡ Some e → NextAfter k (longer a map_a) e)
    × (NextAfter k (longer a map_a) e → least_above k (longer a map_a) ≡ Some e)
least k e = ((on_a.least Predictive a k e).0, (on_a.least Predictive a k e).1, (on_a.least Postfix a k e).0, (on_a.least Postfix a k e).1)

pub least-ab : NextAfter ab map_a (b, 3)
unfolding least_above beginning keep begins_with compare_keys
least-ab = (on_a.least Predictive [] ab (b, 3)).0 refl

none-b : least_above b (beginning [] map_a) ≡ None
unfolding least_above beginning keep begins_with compare_keys
none-b = refl

-- no key stands above "b"
pub no-least : ((e : Entry) → In e (beginning [] map_a) → ¬ Below b e.0) × (((e : Entry) → In e (longer a map_a) → ¬ Below ab e.0) → least_above ab (longer a map_a) ≡ None)
no-least = ((on_a.no-least Predictive [] b).0 none-b, (on_a.no-least Postfix a ab).1)

-- the key of a cursor: "ab" in a predictive listing, "b" in a postfix listing of "a"
pub cursor-key : key_says image_a (Open Postfix 2 4) four ∷ key_out image_a (Open Postfix 2 4) four ∷ key_says image_a (Open Predictive 2 4) four ∷ key_out image_a (Open Predictive 2 4) four ∷ key_says image_a (Open Predictive 2 4) (9 ∷ []) ∷ []
    ≡ (0 ∷ 1 ∷ []) ∷ (98 ∷ 9 ∷ 9 ∷ 9 ∷ []) ∷ (0 ∷ 2 ∷ []) ∷ (97 ∷ 98 ∷ 9 ∷ 9 ∷ []) ∷ (8 ∷ []) ∷ []
unfolding beginning longer keep extends begins_with node_of index_of nodes prefixes levels level deepest compare_keys over
cursor-key =
    λ i. (on_a.cursor-key Postfix a (ab, 7) (here refl) four).0 i
    ∷ (on_a.cursor-key Postfix a (ab, 7) (here refl) four).1 i
    ∷ (on_a.cursor-key Predictive a (ab, 7) (here refl) four).0 i
    ∷ (on_a.cursor-key Predictive a (ab, 7) (here refl) four).1 i
    ∷ (on_a.cursor-key Predictive a (ab, 7) (here refl) (9 ∷ [])).0 i
    ∷ []

-- of a fresh or a finished cursor it is refused 7, and into a buffer of one byte 8
pub key : key_says image_a (Open Predictive 1 0) four ∷ key_says image_a (Finished Postfix) four ∷ key_says image_a (Open Predictive 1 4) (9 ∷ []) ∷ key_out image_a (Open Predictive 1 4) (9 ∷ []) ∷ [] ≡ (7 ∷ []) ∷ (7 ∷ []) ∷ (8 ∷ []) ∷ (9 ∷ []) ∷ []
unfolding belongs is_node path_of lookup beginning keep begins_with node_of index_of nodes prefixes levels level deepest compare_keys
key =
    λ i. (on_a.key (Open Predictive 1 0) four).0 i
    ∷ (on_a.key (Finished Postfix) four).0 i
    ∷ (on_a.key (Open Predictive 1 4) (9 ∷ [])).0 i
    ∷ (on_a.key (Open Predictive 1 4) (9 ∷ [])).1 i
    ∷ []

-- a cursor at "a", which has no value, is refused 7, and so is one whose top is no node
pub step : step_says image_a (Open Predictive 1 2) ∷ step_says image_a (Open Predictive 5 0) ∷ step_says image_a (Open Postfix 2 0) ∷ [] ≡ (7 ∷ []) ∷ (7 ∷ []) ∷ (0 ∷ 4 ∷ 7 ∷ 1 ∷ 2 ∷ 4 ∷ []) ∷ []
unfolding belongs is_node path_of lookup least_above beginning longer keep extends begins_with node_of index_of nodes prefixes levels level deepest compare_keys
step = λ i. on_a.step (Open Predictive 1 2) i ∷ on_a.step (Open Predictive 5 0) i ∷ on_a.step (Open Postfix 2 0) i ∷ []

-- a finished cursor ends
pub finished : (step_says image_a (Finished Predictive) ≡ 0 ∷ 0 ∷ 0 ∷ []) × (step_says image_a (Finished Postfix) ≡ 0 ∷ 0 ∷ 1 ∷ [])
finished = (on_a.finished Predictive, on_a.finished Postfix)

-- ---- places

at_node_a : AtPath map_a image_a a
unfolding nodes prefixes levels level deepest compare_keys
at_node_a = (on_a.places a (there (here refl))).2

at_ab : AtPath map_a image_a ab
unfolding nodes prefixes levels level deepest compare_keys
at_ab = (on_a.places ab (there (there (there (here refl))))).2

at_root : AtPath map_a image_a []
unfolding nodes
at_root = (on_a.places [] (here refl)).2

-- node 2 is the place at "a"; nodes and paths name each other
pub places : (1 ≤ node_of map_a a) × (node_of map_a a ≤ length (nodes map_a)) × (path_of map_a (node_of map_a a) ≡ a)
unfolding nodes prefixes levels level deepest compare_keys
places = let (node, path, calls) = on_a.places a (there (here refl)) in (node.0, node.1, path)

pub node-a : path_of map_a 2 ≡ a
unfolding node_of index_of nodes prefixes levels level deepest compare_keys
node-a = places.2

pub numbers : In (path_of map_a 4) (nodes map_a) × (node_of map_a (path_of map_a 4) ≡ 4)
unfolding nodes prefixes levels level deepest compare_keys
numbers = on_a.numbers 4 (omega arith, omega arith)

-- at "ab": the place is 4, the value is 7, the path is two bytes, for which a buffer of one byte is refused 8
pub at-ab : resume_says image_a 4 ∷ value_says image_a 4 ∷ prefix_len_says image_a 4 ∷ prefix_says image_a 4 (9 ∷ []) ∷ prefix_out image_a 4 (9 ∷ []) ∷ [] ≡ (0 ∷ 4 ∷ []) ∷ (0 ∷ 7 ∷ []) ∷ (0 ∷ 2 ∷ []) ∷ (8 ∷ []) ∷ (9 ∷ []) ∷ []
unfolding lookup node_of index_of nodes prefixes levels level deepest compare_keys
at-ab = λ i. at_ab.resume i ∷ at_ab.value i ∷ at_ab.prefix_len i ∷ (at_ab.prefix (9 ∷ [])).0 i ∷ (at_ab.prefix (9 ∷ [])).1 i ∷ []

-- at "a": the place is 2, there is no value, the path is one byte
pub at_a : resume_says image_a 2 ∷ value_says image_a 2 ∷ prefix_len_says image_a 2 ∷ prefix_says image_a 2 four ∷ prefix_out image_a 2 four ∷ [] ≡ (0 ∷ 2 ∷ []) ∷ (0 ∷ []) ∷ (0 ∷ 1 ∷ []) ∷ (0 ∷ 1 ∷ []) ∷ (97 ∷ 9 ∷ 9 ∷ 9 ∷ []) ∷ []
unfolding lookup node_of index_of nodes prefixes levels level deepest compare_keys over
at_a = λ i. at_node_a.resume i ∷ at_node_a.value i ∷ at_node_a.prefix_len i ∷ (at_node_a.prefix four).0 i ∷ (at_node_a.prefix four).1 i ∷ []

-- "b" leads to "ab", a match, and "x" nowhere
pub query : query_says image_a 2 98 ∷ query_says image_a 2 120 ∷ query_says image_a 1 97 ∷ [] ≡ (0 ∷ 2 ∷ []) ∷ (0 ∷ []) ∷ (0 ∷ 1 ∷ []) ∷ []
unfolding path_says is_prefix_in longer extends lookup beginning keep begins_with node_of index_of nodes prefixes levels level deepest compare_keys
query = λ i. (at_node_a.query 98).0 i ∷ (at_node_a.query 120).0 i ∷ (at_root.query 97).0 i ∷ []

pub query-moves : query_moves image_a 2 98 ∷ query_moves image_a 2 120 ∷ [] ≡ 4 ∷ 2 ∷ []
unfolding beginning keep begins_with node_of index_of nodes prefixes levels level deepest compare_keys
query-moves = λ i. (at_node_a.query 98).1 i ∷ (at_node_a.query 120).1 i ∷ []

-- "`query_until` "ax": Err(1), place at "a""
pub query-until : (follow_says image_a 1 ax ≡ 0 ∷ 1 ∷ 1 ∷ []) × (follow_moves image_a 1 ax ≡ 2)
unfolding walkable path_says beginning keep begins_with node_of index_of nodes prefixes levels level deepest compare_keys
query-until = at_root.query-until ax

-- from "a" on, "b" leads to a match, and the empty query is Err(0), unmoved
pub until-b : (follow_says image_a 2 b ≡ 0 ∷ 0 ∷ 2 ∷ []) × (follow_moves image_a 2 b ≡ 4)
unfolding walkable path_says is_prefix_in longer extends lookup beginning keep begins_with node_of index_of nodes prefixes levels level deepest compare_keys
until-b = at_node_a.query-until b

pub until-empty : (follow_says image_a 2 [] ≡ 0 ∷ 1 ∷ 0 ∷ []) × (follow_moves image_a 2 [] ≡ 2)
unfolding walkable beginning keep begins_with node_of index_of nodes prefixes levels level deepest compare_keys
until-empty = at_node_a.query-until []

-- "A at root: goto Err(0)"; "At "a": goto Ok(1)"; at "ab", which no longer key begins with, Ok(0)
pub goto : goto_says image_a 1 ∷ goto_says image_a 2 ∷ goto_says image_a 4 ∷ [] ≡ (0 ∷ 1 ∷ 0 ∷ []) ∷ (0 ∷ 0 ∷ 1 ∷ []) ∷ (0 ∷ 0 ∷ 0 ∷ []) ∷ []
unfolding is_prefix_in longer extends common_of_all common_prefix lookup keep begins_with node_of index_of nodes prefixes levels level deepest compare_keys
goto = λ i. at_root.goto.0 i ∷ at_node_a.goto.0 i ∷ at_ab.goto.0 i ∷ []

pub goto-moves : goto_moves image_a 1 ∷ goto_moves image_a 2 ∷ goto_moves image_a 4 ∷ [] ≡ 1 ∷ 4 ∷ 4 ∷ []
unfolding is_prefix_in longer extends common_of_all common_prefix keep begins_with node_of index_of nodes prefixes levels level deepest compare_keys
goto-moves = λ i. at_root.goto.1 i ∷ at_node_a.goto.1 i ∷ at_ab.goto.1 i ∷ []

pub goto-longest : LongestCommon (longer a map_a) ab
unfolding common_of_all longer extends keep begins_with
goto-longest = at_node_a.goto-longest some-longer

-- nodes 0 and 5 are no places: each call says 7
zeroth : NoPlace image_a 0
unfolding is_node nodes prefixes levels level deepest compare_keys
zeroth = on_a.strangers 0 refl

pub fifth : NoPlace image_a 5
unfolding is_node nodes prefixes levels level deepest compare_keys
fifth = on_a.strangers 5 refl

pub strangers : (label : ℕ) (q : Key) (out : List ℕ)
    → resume_says image_a 5 ∷ value_says image_a 5 ∷ prefix_len_says image_a 5 ∷ prefix_says image_a 5 out ∷ query_says image_a 5 label ∷ follow_says image_a 5 q ∷ goto_says image_a 5 ∷ goto_says image_a 0 ∷ [] ≡ replicate 8 (7 ∷ [])
strangers label q out = λ i. fifth.resume i ∷ fifth.value i ∷ fifth.prefix_len i ∷ fifth.prefix out i ∷ fifth.query label i ∷ fifth.query-until q i ∷ fifth.goto i ∷ zeroth.goto i ∷ []

-- ---- values set

-- the largest value is set for "ab", and a value for "c", which is no key: it has the one from then on, and the other is not there
abbrev sets : List Entry
sets = (ab, 4294967295) ∷ (c, 1) ∷ []

pub set_values : exact_says (set_all_in sets (image map_a)) ab ∷ exact_says (set_all_in sets (image map_a)) b ∷ exact_says (set_all_in sets (image map_a)) c ∷ [] ≡ (0 ∷ 4294967295 ∷ []) ∷ (0 ∷ 3 ∷ []) ∷ (0 ∷ []) ∷ []
unfolding set_all lookup insert compare_keys
set_values =
    let after : Searches (set_all sets map_a) (set_all_in sets (image map_a)) = every-map map_a catalogue_a (omega (arith, prefixes_a)) sets (omega arith, (omega arith, tt)) in
    λ i. after.exact-match ab i ∷ after.exact-match b i ∷ after.exact-match c i ∷ []

-- ---- out of `EveryBuild`

abbrev built_a : Image
built_a = built_image 3 (pool_after pool_a calls_a) four four two four

on_built : Searches map_a built_a
unfolding set_all set_all_in map_run pool_calls insert prefixes levels level deepest compare_keys
on_built = every-build pool_a rooted_a calls_a calls_a-lent 3 four four two four needs.0 [] tt

-- what build leaves after A's pushes has "ab" 7 and "b" 3, and lists them
pub built-matches : exact_says built_a ab ∷ exact_says built_a b ∷ [] ≡ (0 ∷ 7 ∷ []) ∷ (0 ∷ 3 ∷ []) ∷ []
unfolding lookup compare_keys
built-matches = λ i. on_built.exact-match ab i ∷ on_built.exact-match b i ∷ []

pub built-lists : listing_says 3 Postfix built_a [] ≡ (0 ∷ 4 ∷ 7 ∷ 1 ∷ 1 ∷ 4 ∷ []) ∷ (0 ∷ 3 ∷ 3 ∷ 1 ∷ 1 ∷ 3 ∷ []) ∷ (0 ∷ 0 ∷ 1 ∷ []) ∷ []
unfolding given_in longer keep extends begins_with node_of index_of nodes prefixes levels level deepest compare_keys
built-lists = on_built.listing 3 Postfix []

-- and the largest value that is set for "ab" in it from then on
pub built-sets : exact_says (set_all_in sets built_a) ab ∷ exact_says (set_all_in sets built_a) b ∷ exact_says (set_all_in sets built_a) c ∷ [] ≡ (0 ∷ 4294967295 ∷ []) ∷ (0 ∷ 3 ∷ []) ∷ (0 ∷ []) ∷ []
unfolding set_all map_run pool_calls lookup insert prefixes levels level deepest compare_keys
built-sets =
    let after = every-build pool_a rooted_a calls_a calls_a-lent 3 four four two four needs.0 sets (omega arith, (omega arith, tt)) in
    λ i. after.exact-match ab i ∷ after.exact-match b i ∷ after.exact-match c i ∷ []
