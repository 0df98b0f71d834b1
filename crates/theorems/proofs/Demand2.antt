-- Demand 2, by the laws of the searches: on an image that a map has, each call answers by the map that the image stands for; that map is the one whose image it is;
-- setting a value sets it in the map; and what build leaves after a history is the image of the history's map.
--
--     every-map        demand 2 of each map that an image can hold
--     every-build      and of what build leaves after any history
-- Assumes nothing.
use mathlib.Core.Path.{◌≡◌, refl, sym, ap, subst, ◌∙◌}
use Prim.Native.Nat.{ℕ, zero, suc, ◌≤◌, ◌<◌}
use native.Mathlib.Omega.{arith}
use mathlib.Core.Logic.{inr}
use mathlib.Core.Bool.{Bool, true, false, cond}
use mathlib.Core.List.{List, [], ◌∷◌, ◌++◌}
use Rattle.std.specs.Prelude.{Option, None, Some}
use lib.ListN.{length, take}
use Rattle.keymap.specs.Limits.{value_limit, most_records}
use Rattle.keymap.specs.Members.{In}
use Rattle.keymap.specs.Key.{Key}
use Rattle.keymap.specs.Map.{Entry, Map, Catalogue, lookup}
use Rattle.keymap.specs.Queries.{is_prefix_in, least_above}
use Rattle.keymap.specs.Prefixes.{prefixes}
use Rattle.keymap.specs.Bits.{pack}
use Rattle.keymap.specs.Forest.{tree_of}
use Rattle.keymap.specs.BreadthFirst.{forest_image, emitted}
use Rattle.keymap.specs.Image.{Image, image}
use Rattle.keymap.specs.Paths.{nodes, is_node, path_of, node_of, is_path}
use Rattle.keymap.specs.Decode.{image_map}
use Rattle.keymap.proofs.Laws.Begins.{prefix_refl}
use Rattle.keymap.proofs.Laws.Map.{lookup-iff, lookup-empty}
use Rattle.keymap.proofs.Laws.Queries.{beginning-iff, longer-iff, is_prefix_in-iff, common_of_all-longest, longest_prefix_in-some, longest_prefix_in-none, common_prefix_in-some, common_prefix_in-none, least_above-some, least_above-none}
use Rattle.keymap.proofs.Laws.LevelOrder.{image-forest}
use Rattle.keymap.proofs.Laws.Emitted.{emitted-forest_bits}
use Rattle.keymap.proofs.Laws.Image.{length-image_labels, image_map-image}
use Rattle.keymap.proofs.Laws.Paths.{is_node-iff, nodes-iff, node_of-node, path_of-node_of, node_of-path_of, path_of-in}
use Rattle.pool.proofs.Laws.History.{reset-run-within}
use Rattle.image.specs.History.{pool_calls}
use Rattle.image.specs.AcceptTest.{image_test}
use Rattle.image.specs.Meaning.{MapImage}
use Rattle.image.proofs.Laws.Meaning.{map_image-tested}
use Rattle.listings.specs.declared.answers.Kind.{Kind}
use Rattle.listings.specs.declared.answers.Kind.TheVariants.{Predictive, Postfix}
use Rattle.listings.specs.declared.answers.Cursor.TheVariants.{Open}
use Rattle.keymap.specs.Answers.{says_value}
use Rattle.searches.specs.Exact.{set_values}
use Rattle.keymap.specs.Answers.{says_written, written_to}
use Rattle.searches.specs.Prefix.{longest_says, longest_out}
use Rattle.searches.specs.CommonPrefixes.{common_part}
use Rattle.listings.specs.Cursors.{set_of, belongs, says_step, step_says}
use Rattle.listings.specs.GivenKey.{given_key, key_says, key_out}
use Rattle.places.specs.Incremental.{query_in, query_says, query_moves, walkable, follow_in, follow_says, follow_moves, common_below, goto_in, goto_says, goto_moves}
use Rattle.places.specs.Places.{resume_says, value_says, prefix_len_says, prefix_says, prefix_out}
use Rattle.walks.proofs.Laws.MapImage.{words_are}
use Rattle.searches.proofs.Laws.Exact.{exact_says-accepted, is_prefix_says-accepted, set_values-absent, set_value-means-insert, set_value-keeps-image}
use Rattle.searches.proofs.Laws.CommonPrefixes.{common_says-accepted}
use Rattle.listings.proofs.Laws.Cursors.{start_says-accepted, set_of-rising, set_of-in, top-node, belongs-at, next_in-at, step_says-finished, step_says-open}
use Rattle.theorems.specs.Demand2.{AtPath, NoPlace, listed_key, Searches, set_in_map, set_in_image, set_all, set_all_in, AllSmall, EveryMap, EveryBuild}
use Rattle.theorems.proofs.Listing.{listing-is}
use Rattle.theorems.proofs.Demand3.{every-history}

node-positive : (m : Map) (p : Key) → ¬ (node_of m p ≡ 0)
unfolding node_of
node-positive m p e = omega arith

-- a choice of paths is a choice of their nodes
node-choice : (m : Map) (b : Bool) (p q : Key) → cond b (node_of m p) (node_of m q) ≡ node_of m (cond b p q)
node-choice m true p q = refl
node-choice m false p q = refl

module _ (i : Image) (h : MapImage i) where
  abbrev m : Map
  m = image_map i

  test : image_test i ≡ true
  test = map_image-tested i h

  -- ---- places

  module _ (p : Key) (on : In p (nodes (image_map i))) where
    -- what is said on the node of a path is said of the path
    on-node : {A : Type 0} (f : Key → A) (x y : A) → cond (image_test i) (cond (is_node m (node_of m p)) (f (path_of m (node_of m p))) x) y ≡ f p
    on-node f x y = rw (test, (is_node-iff m (node_of m p)).1 (node_of-node m p on)) (ap f (path_of-node_of m p on))

    at_path : AtPath m i p
    unfolding resume_says value_says prefix_len_says prefix_says prefix_out query_says query_moves follow_says follow_moves goto_says goto_moves
    at_path = record {
      resume = on-node (λ (r : Key). 0 ∷ node_of m p ∷ []) _ _;
      value = on-node (λ (r : Key). says_value (lookup r m)) _ _;
      prefix_len = on-node (λ (r : Key). 0 ∷ length r ∷ []) _ _;
      prefix = λ out. (on-node (λ (r : Key). says_written r out) _ _, on-node (λ (r : Key). written_to r out) _ _);
      query = λ a. (on-node (λ (r : Key). query_in m (r ++ (a ∷ []))) _ _, on-node (λ (r : Key). cond (is_path m (r ++ (a ∷ []))) (node_of m (r ++ (a ∷ []))) (node_of m p)) _ _ ∙ node-choice m (is_path m (p ++ (a ∷ []))) (p ++ (a ∷ [])) p);
      query-until = λ q. (on-node (λ (r : Key). follow_in m r q) _ _, on-node (λ (r : Key). node_of m (r ++ take (walkable m r q) q)) _ _);
      goto = (on-node (λ (r : Key). goto_in m r) _ _, on-node (λ (r : Key). cond (is_prefix_in r m) (node_of m (common_below m r)) (node_of m p)) _ _ ∙ node-choice m (is_prefix_in p m) (common_below m p) p);
      goto-longest = λ h. let (e, j, b, l) = (is_prefix_in-iff p m).0 h in common_of_all-longest (set_of m Postfix p) e ((longer-iff p m e).1 (j, b, l));
    }

  no_place : (k : ℕ) → is_node m k ≡ false → NoPlace i k
  unfolding resume_says value_says prefix_len_says prefix_says query_says follow_says goto_says
  no_place k e = record {
    resume = rw (test, e);
    value = rw (test, e);
    prefix_len = rw (test, e);
    prefix = λ out. rw (test, e);
    query = λ a. rw (test, e);
    query-until = λ q. rw (test, e);
    goto = rw (test, e);
  }

  -- ---- cursors

  key-open : (kind : Kind) (top last : ℕ) (out : List ℕ) → belongs m (Open kind top last) ≡ true → ¬ (last ≡ 0)
      → (key_says i (Open kind top last) out ≡ says_written (given_key m kind top last) out) × (key_out i (Open kind top last) out ≡ written_to (given_key m kind top last) out)
  unfolding key_says key_out
  key-open kind top zero out b n = absurd (n refl)
  key-open kind top (suc k) out b n = (rw (test, b), rw (test, b))

  given_is : (kind : Kind) (q : Key) (e : Entry) → In e (set_of m kind q) → given_key m kind (node_of m q) (node_of m e.0) ≡ listed_key kind q e.0
  given_is kind q e j = go kind
    where
      own : path_of m (node_of m e.0) ≡ e.0
      own = path_of-node_of m e.0 ((nodes-iff m e.0).1 (inr (e, (set_of-in m h.catalogue.rising kind q e j).0, prefix_refl e.0)))

      top : path_of m (node_of m q) ≡ q
      top = path_of-node_of m q (top-node m h.catalogue.rising kind q e j)

      go : (k : Kind) → given_key m k (node_of m q) (node_of m e.0) ≡ listed_key k q e.0
      go Predictive = own
      go Postfix = rw (top, own)

  cursor-key : (kind : Kind) (q : Key) (e : Entry) → In e (set_of m kind q) → (out : List ℕ)
      → (key_says i (Open kind (node_of m q) (node_of m e.0)) out ≡ says_written (listed_key kind q e.0) out) × (key_out i (Open kind (node_of m q) (node_of m e.0)) out ≡ written_to (listed_key kind q e.0) out)
  cursor-key kind q e j out =
      let (says, wrote) = key-open kind (node_of m q) (node_of m e.0) out (belongs-at m h.catalogue.rising kind q e j) (node-positive m e.0) in
      let k = given_is kind q e j in
      (says ∙ ap (λ (r : Key). says_written r out) k, wrote ∙ ap (λ (r : Key). written_to r out) k)

  next : (kind : Kind) (q : Key) (e : Entry) → In e (set_of m kind q) → step_says i (Open kind (node_of m q) (node_of m e.0)) ≡ says_step m kind (node_of m q) (least_above e.0 (set_of m kind q))
  next kind q e j =
      step_says-open i kind (node_of m q) (node_of m e.0) test (belongs-at m h.catalogue.rising kind q e j)
      ∙ ap (says_step m kind (node_of m q)) (next_in-at m h.catalogue.rising kind q e j)

  -- ---- all calls

  emits : i.words ≡ pack (emitted (tree_of m).1)
  unfolding forest_image
  emits = ap (λ (x : Image). x.words) (sym h.whole ∙ image-forest m h.catalogue) ∙ ap pack (sym (emitted-forest_bits (tree_of m).1))

  searches : Searches (image_map i) i
  unfolding longest_says longest_out common_part step_says key_says key_out
  searches = record {
    level-order = words_are i h;
    emits = emits;
    exact-match = λ q. exact_says-accepted i q test;
    entries = λ q v. lookup-iff q v m h.catalogue.rising;
    empty-query = lookup-empty m h.catalogue.proper;
    is-prefix = λ q. is_prefix_says-accepted i q test;
    some-longer = λ q. is_prefix_in-iff q m;
    longest-prefix = λ q out. (rw test, rw test);
    longest = λ q p. longest_prefix_in-some q m p;
    no-longest = λ q. longest_prefix_in-none q m;
    common-prefix = λ q seen. (common_says-accepted i q seen test, rw test);
    shortest = λ q seen e. common_prefix_in-some q seen m h.catalogue.rising e;
    no-shortest = λ q seen. common_prefix_in-none q seen m;
    start = λ kind q. start_says-accepted i kind q test;
    listing = λ k kind q. listing-is i h kind q k;
    rises = λ kind q. set_of-rising m h.catalogue.rising kind q;
    predictive = λ q e. beginning-iff q m e;
    postfix = λ q e. longer-iff q m e;
    next = next;
    least = λ kind q k e. least_above-some k (set_of m kind q) (set_of-rising m h.catalogue.rising kind q) e;
    no-least = λ kind q k. least_above-none k (set_of m kind q);
    cursor-key = cursor-key;
    key = λ c out. (rw test, rw test);
    step = λ c. rw test;
    finished = λ kind. step_says-finished i kind test;
    places = λ p on. (node_of-node m p on, path_of-node_of m p on, at_path p on);
    numbers = λ k n. (path_of-in m k n, node_of-path_of m h.catalogue.rising k n);
    strangers = no_place;
  }

  -- ---- a value set

  set_keeps : (q : Key) (v : ℕ) → v < value_limit → MapImage (set_in_image i q v) × (image_map (set_in_image i q v) ≡ set_in_map m q v)
  set_keeps q v small = go (lookup q m) refl
    where
      go : (o : Option ℕ) → lookup q m ≡ o → MapImage (set_in_image i q v) × (image_map (set_in_image i q v) ≡ set_in_map m q v)
      go None e =
          let values : set_values i q v ≡ i.values = set_values-absent i q test v e in
          let same : set_in_image i q v ≡ i = λ x. record { labels = i.labels; values = values x; words = i.words } in
          (subst MapImage (sym same) h, ap image_map same ∙ rw e refl)
      go (Some w) e = (set_value-keeps-image i h test q v w e small, set_value-means-insert i h test q v w e small ∙ rw e refl)

all-sets : (es : List Entry) (i : Image) → MapImage i → AllSmall es → Searches (set_all es (image_map i)) (set_all_in es i)
unfolding set_all set_all_in
all-sets [] i h s = searches i h
all-sets (e ∷ es) i h s =
    let (kept, back) = set_keeps i h e.0 e.1 s.0 in
    subst (λ (n : Map). Searches (set_all es n) (set_all_in es (set_in_image i e.0 e.1))) back (all-sets es (set_in_image i e.0 e.1) kept s.1)

map-image : (m : Map) → Catalogue m → length (prefixes m) ≤ most_records → MapImage (image m)
unfolding image
map-image m c few =
    let back = image_map-image m c in
    record { few = omega (arith, length-image_labels m); catalogue = subst Catalogue (sym back) c; whole = ap image back }

pub every-map : EveryMap
every-map m c few es s =
    subst (λ (n : Map). Searches (set_all es n) (set_all_in es (image m))) (image_map-image m c) (all-sets es (image m) (map-image m c few) s)

pub every-build : EveryBuild
every-build p h cs lent n ls vs ws qs e es s =
    let (c, few) = reset-run-within p h (pool_calls cs) lent in
    let built = ((every-history p h cs lent).builds n ls vs ws qs e).1 in
    rw built (every-map _ c (omega arith) es s)
