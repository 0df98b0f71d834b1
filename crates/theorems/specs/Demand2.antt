-- Demand 2: on the image of a map every search answers what the query on the map says, also after any calls that set
-- values; and so it is on what build leaves after any history,
-- with "the map of the distinct keys accepted since the last reset, each with its last value". The queries are those of
-- `keymap/specs/Queries`.
--
--     AtPath           the calls on the place at a path of the map
--     Searches         what each call answers on an image that stands for a map
--     set_all          a map, and an image, after calls that set values
--     EveryMap         each map that an image can hold, after any such calls
--     EveryBuild       each image that is built after any history, after any such calls
-- Assumes nothing.
use Rattle.std.specs.Prelude.{ℕ, ◌≤◌, ◌<◌, ◌≡◌, ◌↔◌, ◌⊎◌, cond, true, false, List, [], ◌∷◌, ◌++◌, length, take, drop, None, Some}
use Rattle.keymap.specs.Limits.{value_limit, most_records}
use Rattle.keymap.specs.Members.{In}
use Rattle.keymap.specs.Key.{Key, Below, PrefixOf}
use Rattle.keymap.specs.Refusals.{refuses}
use Rattle.keymap.specs.declared.refusals.Refusal.{Refusal}
use Rattle.keymap.specs.Map.{Entry, Map, Rising, Catalogue, insert, lookup}
use Rattle.keymap.specs.Queries.{nonempty, SomeBegins, is_prefix_in, LongestCommon, longest_prefix_in, ShortestWithin}
use Rattle.keymap.specs.Queries.{common_prefix_in, NextAfter, least_above}
use Rattle.keymap.specs.Prefixes.{prefixes}
use Rattle.keymap.specs.Bits.{pack}
use Rattle.keymap.specs.Forest.{tree_of}
use Rattle.keymap.specs.BreadthFirst.{emitted}
use Rattle.keymap.specs.Image.{Image, image, image_bits}
use Rattle.keymap.specs.Paths.{nodes, IsNode, is_node, path_of, node_of, is_path}
use Rattle.records.specs.Words.{Pool, record_words}
use Rattle.pool.specs.History.{AllLent}
use Rattle.image.specs.History.{Call, pool_calls}
use Rattle.image.specs.Build.{build_says}
use Rattle.listings.specs.declared.answers.Kind.{Kind}
use Rattle.listings.specs.declared.answers.Kind.TheVariants.{Predictive, Postfix}
use Rattle.listings.specs.declared.answers.Cursor.{Cursor}
use Rattle.listings.specs.declared.answers.Cursor.TheVariants.{Open, Finished}
use Rattle.keymap.specs.Answers.{says_value, says_flag}
use Rattle.listings.specs.Answers.{said_cursor}
use Rattle.searches.specs.Exact.{exact_says, set_values, is_prefix_says}
use Rattle.keymap.specs.Answers.{says_written, written_to, written_key}
use Rattle.searches.specs.Prefix.{says_longest, longest_says, longest_out}
use Rattle.searches.specs.CommonPrefixes.{says_common, common_says, part_of, common_part}
use Rattle.keymap.specs.Answers.{given}
use Rattle.listings.specs.Cursors.{set_of, belongs, on_cursor, start_says, says_end, says_step, step_in, step_says}
use Rattle.listings.specs.GivenKey.{key_of, says_key, key_says, key_out}
use Rattle.places.specs.Incremental.{query_in, query_says, query_moves, walkable, follow_in, follow_says, follow_moves}
use Rattle.places.specs.Incremental.{common_below, goto_in, goto_says, goto_moves}
use Rattle.places.specs.Places.{resume_says, value_says, prefix_len_says, prefix_says, prefix_out}
use Rattle.theorems.specs.Built.{pool_after, map_after, built_image}
use Rattle.theorems.specs.Listing.{listing_says, listing_in}

-- ---- places

-- the place is the node of the path p
pub record AtPath (m : Map) (i : Image) (p : Key) : Type 0 where
  pub resume : resume_says i (node_of m p) ≡ 0 ∷ node_of m p ∷ []
  -- "Value, prefix (written to a lent buffer) and prefix length read the place"
  pub value : value_says i (node_of m p) ≡ says_value (lookup p m)
  pub prefix_len : prefix_len_says i (node_of m p) ≡ 0 ∷ length p ∷ []
  pub prefix : (out : List ℕ)
      → (prefix_says i (node_of m p) out ≡ says_written p out) × (prefix_out i (node_of m p) out ≡ written_to p out)
  -- "Query moves or, with no such child, stays. Peek never moves" and answers the same
  pub query : (a : ℕ)
      → (query_says i (node_of m p) a ≡ query_in m (p ++ (a ∷ [])))
      × (query_moves i (node_of m p) a ≡ node_of m (cond (is_path m (p ++ (a ∷ []))) (p ++ (a ∷ [])) p))
  -- "`query_until` failing at index i answers Err(i) and has moved i labels; on the empty query Err(0), unmoved"
  pub query-until : (q : Key)
      → (follow_says i (node_of m p) q ≡ follow_in m p q)
      × (follow_moves i (node_of m p) q ≡ node_of m (p ++ take (walkable m p q) q))
  -- "K empty: Ok(0). Else the place moves to the longest common prefix q of K, answering Ok of the distance if q is in
  -- K, else Err of it"
  pub goto : (goto_says i (node_of m p) ≡ goto_in m p)
      × (goto_moves i (node_of m p) ≡ node_of m (cond (is_prefix_in p m) (common_below m p) p))
  pub goto-longest : is_prefix_in p m ≡ true → LongestCommon (set_of m Postfix p) (common_below m p)

-- a number that is no node's: every call answers BadPlace
pub record NoPlace (i : Image) (k : ℕ) : Type 0 where
  pub resume : resume_says i k ≡ refuses Refusal.BadPlace
  pub value : value_says i k ≡ refuses Refusal.BadPlace
  pub prefix_len : prefix_len_says i k ≡ refuses Refusal.BadPlace
  pub prefix : (out : List ℕ) → prefix_says i k out ≡ refuses Refusal.BadPlace
  pub query : (a : ℕ) → query_says i k a ≡ refuses Refusal.BadPlace
  pub query-until : (q : Key) → follow_says i k q ≡ refuses Refusal.BadPlace
  pub goto : goto_says i k ≡ refuses Refusal.BadPlace

-- ---- searches

-- what a listing under q writes for a key: "in postfix listings from after the query"
abbrev pub listed_key : Kind → Key → Key → Key
listed_key Predictive q k = k
listed_key Postfix q k = drop (length q) k

pub record Searches (m : Map) (i : Image) : Type 0 where
  -- "Bits follow the published level-order rule", and as `trie_builder.rs` emits them
  pub level-order : i.words ≡ pack (image_bits m)
  pub emits : i.words ≡ pack (emitted (tree_of m).1)
  -- `exact_match`, and what `set_value` answers: "the value, or no match; the empty query never matches"
  pub exact-match : (q : Key) → exact_says i q ≡ says_value (lookup q m)
  pub entries : (q : Key) (v : ℕ) → (lookup q m ≡ Some v) ↔ In (q, v) m
  pub empty-query : lookup [] m ≡ None
  -- `is_prefix`: "yes exactly if some key begins with the query and is longer"
  pub is-prefix : (q : Key) → is_prefix_says i q ≡ says_flag (is_prefix_in q m)
  pub some-longer : (q : Key)
      → (is_prefix_in q m ≡ true) ↔ ((e : Entry) × In e m × PrefixOf q e.0 × (length q < length e.0))
  -- `longest_prefix`: "written to a lent buffer and its length answered; no match writes nothing"
  pub longest-prefix : (q : Key) (out : List ℕ)
      → (longest_says i q out ≡ says_longest (longest_prefix_in q m) out)
      × (longest_out i q out ≡ written_key (longest_prefix_in q m) out)
  -- "the longest common prefix of all keys beginning with the query; no match if there are none or it is empty"
  pub longest : (q p : Key)
      → (longest_prefix_in q m ≡ Some p) ↔ (SomeBegins q m × LongestCommon (set_of m Predictive q) p × (¬ (p ≡ [])))
  pub no-longest : (q : Key)
      → (longest_prefix_in q m ≡ None) ↔ ((¬ SomeBegins q m) ⊎ LongestCommon (set_of m Predictive q) [])
  -- the answer, and "that leading part of the query itself"
  pub common-prefix : (q : Key) (seen : ℕ)
      → (common_says i q seen ≡ says_common (common_prefix_in q seen m))
      × (common_part i q seen ≡ part_of q (common_prefix_in q seen m))
  -- "the shortest key longer than that and a prefix of the query"
  pub shortest : (q : Key) (seen : ℕ) (e : Entry) → (common_prefix_in q seen m ≡ Some e) ↔ ShortestWithin q seen m e
  pub no-shortest : (q : Key) (seen : ℕ)
      → (common_prefix_in q seen m ≡ None) ↔ ((e : Entry) → In e m → PrefixOf e.0 q → ¬ (seen < length e.0))
  -- "no path gives a finished cursor, and so does an empty set"
  pub start : (kind : Kind) (q : Key)
      → start_says kind i q
      ≡ 0 ∷ said_cursor (cond (nonempty (set_of m kind q)) (Open kind (node_of m q) 0) (Finished kind))
  -- a start and any number of steps give the listing's entries in turn, and then the end each time
  pub listing : (k : ℕ) (kind : Kind) (q : Key) → listing_says k kind i q ≡ listing_in k m kind q
  -- "listings name each match once, in rising byte order"
  pub rises : (kind : Kind) (q : Key) → Rising (set_of m kind q)
  pub predictive : (q : Key) (e : Entry) → In e (set_of m Predictive q) ↔ (In e m × PrefixOf q e.0)
  pub postfix : (q : Key) (e : Entry)
      → In e (set_of m Postfix q) ↔ (In e m × PrefixOf q e.0 × (length q < length e.0))
  -- "A step answers the least key of its set above the last one given": of the cursor that a step gave an entry with
  pub next : (kind : Kind) (q : Key) (e : Entry) → In e (set_of m kind q)
      → step_says i (Open kind (node_of m q) (node_of m e.0))
      ≡ says_step m kind (node_of m q) (least_above e.0 (set_of m kind q))
  pub least : (kind : Kind) (q k : Key) (e : Entry)
      → (least_above k (set_of m kind q) ≡ Some e) ↔ NextAfter k (set_of m kind q) e
  pub no-least : (kind : Kind) (q k : Key)
      → (least_above k (set_of m kind q) ≡ None) ↔ ((e : Entry) → In e (set_of m kind q) → ¬ Below k e.0)
  -- that cursor has its key
  pub cursor-key : (kind : Kind) (q : Key) (e : Entry) → In e (set_of m kind q) → (out : List ℕ)
      → (key_says i (Open kind (node_of m q) (node_of m e.0)) out ≡ says_written (listed_key kind q e.0) out)
      × (key_out i (Open kind (node_of m q) (node_of m e.0)) out ≡ written_to (listed_key kind q e.0) out)
  -- and any cursor: "a key is asked of a cursor that is fresh or finished" is BadPlace too
  pub key : (c : Cursor) (out : List ℕ)
      → (key_says i c out ≡ on_cursor m c (says_key (key_of m c) out))
      × (key_out i c out ≡ cond (belongs m c) (written_key (key_of m c) out) out)
  -- a step on any cursor: BadPlace where it does not belong, and "A step on a finished cursor ends at once, and again
  -- each time"
  pub step : (c : Cursor) → step_says i c ≡ on_cursor m c (step_in m c)
  pub finished : (kind : Kind) → step_says i (Finished kind) ≡ says_end kind
  -- "A place is a node number 1 to n+1": each path of the map is one node's, and each node has one
  pub places : (p : Key) → In p (nodes m) → IsNode m (node_of m p) × (path_of m (node_of m p) ≡ p) × AtPath m i p
  pub numbers : (k : ℕ) → IsNode m k → In (path_of m k) (nodes m) × (node_of m (path_of m k) ≡ k)
  pub strangers : (k : ℕ) → is_node m k ≡ false → NoPlace i k

-- ---- calls that set values

-- "if absent, no match, nothing written"
abbrev pub set_in_map : Map → Key → ℕ → Map
set_in_map m q v = cond (given (lookup q m)) (insert q v m) m

abbrev pub set_in_image : Image → Key → ℕ → Image
set_in_image i q v = record { labels = i.labels; values = set_values i q v; words = i.words }

unfoldable pub set_all : List Entry → Map → Map
set_all [] m = m
set_all (e ∷ es) m = set_all es (set_in_map m e.0 e.1)

unfoldable pub set_all_in : List Entry → Image → Image
set_all_in [] i = i
set_all_in (e ∷ es) i = set_all_in es (set_in_image i e.0 e.1)

-- values of 32 bits
abbrev pub AllSmall : List Entry → Type 0
AllSmall [] = Unit {0}
AllSmall (e ∷ es) = (e.1 < value_limit) × AllSmall es

-- ---- demand 2

-- "For that image demand 2's map has the new value from then on"
abbrev pub Demand2 : Map → Image → Type 0
Demand2 m i = (es : List Entry) → AllSmall es → Searches (set_all es m) (set_all_in es i)

abbrev pub EveryMap : Type 0
EveryMap = (m : Map) → Catalogue m → length (prefixes m) ≤ most_records → Demand2 m (image m)

abbrev pub EveryBuild : Type 0
EveryBuild = (p : Pool) → record_words ≤ length p → (cs : List Call) → AllLent (pool_calls cs)
    → (n : ℕ) (ls vs ws qs : List ℕ) → build_says (pool_after p cs) ls vs ws qs ≡ 0 ∷ n ∷ []
    → Demand2 (map_after p cs) (built_image n (pool_after p cs) ls vs ws qs)
