-- What the calls on one key compute on any slices, by cases; and what they say: of an image that no map has refusal 6, else what the map says.
-- Setting the value of a key sets that one entry, and the image is then that of the map with the key's value set: the same paths, so the same labels and bits, and one other value.
--
--     keyed-value                   what `find` finds has the walk's value
--     keyed_in-lost, -plain, -held  the answer of `find`, and back: `keyed-found`, `keyed-missed`
--     found_inside  a node with a value has its entry, on any slices
--     found-key     on a map's image it is the key's, with its value
--     goes_on-lost, goes_on-ended  the answer of `goes_on`
--     goes-rule     on a map's image the node at a query has children exactly if some key goes on
--     exact_says-refused, exact_says-accepted  `exact_match`
--     is_prefix_says-refused, is_prefix_says-accepted  `is_prefix`
--     set_values-refused, -absent, -present  the values afterwards
--     set_value-means-insert, set_value-keeps-image  the image then stands for the insert
-- Assumes nothing.
use mathlib.Core.Path.{◌≡◌, refl, sym, ap, ◌∙◌}
use mathlib.Core.Logic.{inr}
use Prim.Native.Nat.{ℕ, ◌-◌, ◌≤◌, ◌<◌}
use native.Mathlib.Nat.{lt_of_not-le}
use native.Mathlib.Decide.{dec_le}
use mathlib.Core.Bool.{Bool, true, false}
use mathlib.Core.List.{List}
use Rattle.std.specs.Prelude.{Option, None, Some, option_map}
use Rattle.std.proofs.lemmas.Option.{none-some, same_Some}
use lib.ListN.{length, set}
use lib.Dec.{ltb}
use Rattle.keymap.specs.Key.{Key}
use Rattle.keymap.specs.Limits.{value_limit}
use Rattle.keymap.specs.Refusals.{refuses}
use Rattle.keymap.specs.declared.refusals.Refusal.TheVariants.{NotAnImage}
use Rattle.keymap.specs.Map.{Map, Catalogue, insert, lookup}
use Rattle.keymap.specs.Queries.{is_prefix_in}
use Rattle.keymap.specs.Answers.{says_value, says_flag}
use Rattle.keymap.specs.Bits.{bit}
use Rattle.keymap.specs.Image.{Image, bits_for, image, image_values}
use Rattle.keymap.specs.Paths.{node_of}
use Rattle.keymap.specs.Decode.{image_map}
use Rattle.keymap.proofs.Laws.Map.{lookup-iff, proper-in, insert-catalogue}
use Rattle.keymap.proofs.Laws.Queries.{is_prefix_in-iff}
use Rattle.keymap.proofs.Laws.Image.{image_map-image}
use Rattle.keymap.proofs.Laws.ValueSet.{image-insert-present}
use Rattle.keymap.proofs.Laws.Paths.{nodes-iff, node_of-node, path_of-node_of}
use Rattle.image.specs.Accept.{entries}
use Rattle.image.specs.AcceptTest.{image_test}
use Rattle.image.specs.Meaning.{MapImage}
use Rattle.walks.specs.Rule.{value_of_node, value_at_end, node_by, found_by}
use Rattle.walks.specs.Stands.{stand_at, kids_from}
use Rattle.walks.proofs.Laws.Rule.{value_of_node-root, value_of_node-short}
use Rattle.walks.proofs.Laws.MapImage.{labels-are, values-are, words_are}
use Rattle.walks.proofs.Laws.MapWalk.{PathTold, there, absent, path-told, walk-rule, value-rule}
use Rattle.walks.proofs.Laws.MapMoves.{kids-some}
use Rattle.walks.specs.declared.entries.KeyNode.{KeyNode}
use Rattle.searches.specs.Exact.{keyed, keyed_in, goes_on_from, goes_on, exact_says, set_values, is_prefix_says}

-- ---- a key by its node, on any slices

module _ (i : Image) (q : Key) where
  pub keyed_in-lost : node_by i q ≡ None → keyed_in i q ≡ None
  unfolding keyed_in
  keyed_in-lost e = ap (λ (o : Option ℕ). keyed o (found_by i q)) e

  module _ (m : ℕ) (e : node_by i q ≡ Some m) where
    ended : found_by i q ≡ value_of_node i.labels i.values m
    ended = ap (value_at_end i.labels i.values) e

    pub keyed_in-plain : value_of_node i.labels i.values m ≡ None → keyed_in i q ≡ None
    unfolding keyed_in
    keyed_in-plain f = ap (λ (o : Option ℕ). keyed o (found_by i q)) e ∙ ap (keyed (Some m)) (ended ∙ f)

    pub keyed_in-held : (v : ℕ) → value_of_node i.labels i.values m ≡ Some v → keyed_in i q ≡ Some (record { node = m; value = v })
    unfolding keyed_in
    keyed_in-held v f = ap (λ (o : Option ℕ). keyed o (found_by i q)) e ∙ ap (keyed (Some m)) (ended ∙ f)

  pub record Found (m v : ℕ) : Type 0 where
    pub node : node_by i q ≡ Some m
    pub value : found_by i q ≡ Some v

  pub keyed-found : (m v : ℕ) → keyed_in i q ≡ Some (record { node = m; value = v }) → Found m v
  unfolding keyed_in
  keyed-found m v e = go (node_by i q) refl (found_by i q) refl
    where
      go : (o : Option ℕ) → node_by i q ≡ o → (p : Option ℕ) → found_by i q ≡ p → Found m v
      go None f p g = absurd (none-some _ (sym (keyed_in-lost f) ∙ e))
      go (Some k) f None g = absurd (none-some _ (sym (keyed_in-plain k f (sym (ended k f) ∙ g)) ∙ e))
      go (Some k) f (Some w) g =
          let h = keyed_in-held k f w (sym (ended k f) ∙ g) in
          let same = same_Some _ _ (sym h ∙ e) in
          let one : k ≡ m = ap (λ (n : KeyNode). n.node) same in
          let other : w ≡ v = ap (λ (n : KeyNode). n.value) same in
          record { node = f ∙ ap Some one; value = g ∙ ap Some other }

  pub keyed-missed : keyed_in i q ≡ None → found_by i q ≡ None
  keyed-missed e = go (node_by i q) refl (found_by i q) refl
    where
      go : (o : Option ℕ) → node_by i q ≡ o → (p : Option ℕ) → found_by i q ≡ p → found_by i q ≡ None
      go None f p g = ap (value_at_end i.labels i.values) f
      go (Some k) f None g = g
      go (Some k) f (Some w) g = let h = keyed_in-held k f w (sym (ended k f) ∙ g) in absurd (none-some _ (sym e ∙ h))

  -- the value alone is what the walk finds
  pub keyed-value : option_map (λ (n : KeyNode). n.value) (keyed_in i q) ≡ found_by i q
  unfolding keyed_in
  keyed-value = go (node_by i q) refl
    where
      go : (o : Option ℕ) → node_by i q ≡ o → option_map (λ (n : KeyNode). n.value) (keyed (node_by i q) (found_by i q)) ≡ found_by i q
      go None f = ap (λ (o : Option ℕ). option_map (λ (n : KeyNode). n.value) (keyed o (found_by i q))) f ∙ sym (ap (value_at_end i.labels i.values) f)
      go (Some k) f = ap (λ (o : Option ℕ). option_map (λ (n : KeyNode). n.value) (keyed o (found_by i q))) f ∙ held (found_by i q)
        where
          held : (p : Option ℕ) → option_map (λ (n : KeyNode). n.value) (keyed (Some k) p) ≡ p
          held None = refl
          held (Some v) = refl

  -- a node with a value has an entry
  pub found_inside : (m v : ℕ) → Found m v → (2 ≤ m) × (m - 2 < length i.values)
  found_inside m v f = root (dec_le 2 m)
    where
      held : value_of_node i.labels i.values m ≡ Some v
      held = sym (ended m f.node) ∙ f.value

      short : 2 ≤ m → Dec (length i.values ≤ m - 2) → (2 ≤ m) × (m - 2 < length i.values)
      short two (yes l) = absurd (none-some v (sym (value_of_node-short i.labels i.values m two l) ∙ held))
      short two (no l) = (two, lt_of_not-le l)

      root : Dec (2 ≤ m) → (2 ≤ m) × (m - 2 < length i.values)
      root (yes two) = short two (dec_le (length i.values) (m - 2))
      root (no l) = absurd (none-some v (sym (value_of_node-root i.labels i.values m (lt_of_not-le l)) ∙ held))

  pub goes_on-lost : node_by i q ≡ None → goes_on i.labels i.words q ≡ false
  unfolding goes_on
  goes_on-lost e = ap (goes_on_from (bit i.words) (bits_for (entries i))) e

  pub goes_on-ended : (m : ℕ) → node_by i q ≡ Some m
      → goes_on i.labels i.words q ≡ ltb 0 (kids_from (bit i.words) (bits_for (entries i)) (stand_at (bit i.words) (bits_for (entries i)) m)).count
  unfolding goes_on
  goes_on-ended m e = ap (goes_on_from (bit i.words) (bits_for (entries i))) e

-- ---- on an image that some map has

module _ (i : Image) (h : MapImage i) where
  pub found-key : (q : Key) (m v : ℕ) → Found i q m v → (m ≡ node_of (image_map i) q) × (lookup q (image_map i) ≡ Some v)
  found-key q m v f = (go (path-told (image_map i) q), sym (value-rule i h q) ∙ f.value)
    where
      go : PathTold (image_map i) q → m ≡ node_of (image_map i) q
      go (there n e) = let g : ◌≡◌ {A = Option ℕ} (Some m) (Some (node_of (image_map i) q)) = sym f.node ∙ walk-rule i h q ∙ e in cc
      go (absent n e) = absurd (none-some m (sym (walk-rule i h q ∙ e) ∙ f.node))

  pub goes-rule : (q : Key) → goes_on i.labels i.words q ≡ is_prefix_in q (image_map i)
  goes-rule q = go (path-told (image_map i) q)
    where
      m : Map
      m = image_map i

      go : PathTold m q → goes_on i.labels i.words q ≡ is_prefix_in q m
      go (there n e) =
          goes_on-ended i q (node_of m q) (walk-rule i h q ∙ e)
          ∙ kids-some i h (node_of m q) (node_of-node m q n)
          ∙ ap (λ (x : Key). is_prefix_in x m) (path_of-node_of m q n)
      go (absent n e) = goes_on-lost i q (walk-rule i h q ∙ e) ∙ sym (never (is_prefix_in q m) refl)
        where
          never : (t : Bool) → is_prefix_in q m ≡ t → is_prefix_in q m ≡ false
          never true f = let (d, own, begins, longer) = (is_prefix_in-iff q m).0 f in absurd (n ((nodes-iff m q).1 (inr (d, own, begins))))
          never false f = f

-- ---- what the calls say

module _ (i : Image) (q : Key) (refused : image_test i ≡ false) where
  pub exact_says-refused : exact_says i q ≡ refuses NotAnImage
  unfolding exact_says
  exact_says-refused = rw refused

  pub is_prefix_says-refused : is_prefix_says i q ≡ refuses NotAnImage
  unfolding is_prefix_says
  is_prefix_says-refused = rw refused

  pub set_values-refused : (v : ℕ) → set_values i q v ≡ i.values
  unfolding set_values
  set_values-refused v = rw refused

module _ (i : Image) (q : Key) (accepted : image_test i ≡ true) where
  pub exact_says-accepted : exact_says i q ≡ says_value (lookup q (image_map i))
  unfolding exact_says
  exact_says-accepted = rw accepted

  pub is_prefix_says-accepted : is_prefix_says i q ≡ says_flag (is_prefix_in q (image_map i))
  unfolding is_prefix_says
  is_prefix_says-accepted = rw accepted

  pub set_values-absent : (v : ℕ) → lookup q (image_map i) ≡ None → set_values i q v ≡ i.values
  unfolding set_values
  set_values-absent v e = rw (accepted, e)

  pub set_values-present : (v w : ℕ) → lookup q (image_map i) ≡ Some w → set_values i q v ≡ set i.values (node_of (image_map i) q - 2) v
  unfolding set_values
  set_values-present v w e = rw (accepted, e)

-- ---- setting the value of a key

module _ (i : Image) (h : MapImage i) (accepted : image_test i ≡ true) (q : Key) (v w : ℕ) (held : lookup q (image_map i) ≡ Some w) (small : v < value_limit) where
  after : Image
  after = record { labels = i.labels; values = set_values i q v; words = i.words }

  -- the slices are the image of the map with the value set
  set-image : image (insert q v (image_map i)) ≡ after
  unfolding after
  set-image =
      let m : Map = image_map i in
      let values : set_values i q v ≡ set (image_values m) (node_of m q - 2) v =
      set_values-present i q accepted v w held ∙ ap (λ (vs : List ℕ). set vs (node_of m q - 2) v) (values-are i h) in
      image-insert-present m h.catalogue q v w held ∙ (λ x. record { labels = sym (labels-are i h) x; values = sym values x; words = sym (words_are i h) x })

  set-catalogue : Catalogue (insert q v (image_map i))
  set-catalogue =
      let (named, bytes, wide) = proper-in (image_map i) h.catalogue.proper (q, w) ((lookup-iff q w (image_map i) h.catalogue.rising).0 held) in
      insert-catalogue q v (image_map i) named bytes small h.catalogue

  pub set_value-means-insert : image_map (record { labels = i.labels; values = set_values i q v; words = i.words }) ≡ insert q v (image_map i)
  unfolding after
  set_value-means-insert = ap image_map (sym set-image) ∙ image_map-image (insert q v (image_map i)) set-catalogue

  pub set_value-keeps-image : MapImage (record { labels = i.labels; values = set_values i q v; words = i.words })
  unfolding after
  set_value-keeps-image = record {
    few = h.few;
    catalogue = rw set_value-means-insert set-catalogue;
    whole = ap image set_value-means-insert ∙ set-image;
  }
