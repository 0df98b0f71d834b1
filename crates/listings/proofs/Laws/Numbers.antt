-- What the code computes by numbers, by its cases; and on an image that some map has it is what the map's definitions say.
--
--     in_set_by-unvalued, -predictive, -own, -postfix  a node of a set
--     first_given_by-held, -bare  the first key below a top
--     start_by-lost, -near        the start
--     stands-path                 the numbers stand exactly if the cursor belongs
--     given-path                  of a cursor that belongs the next entry of its set is given
--     start-path                  the start at the node of the query, if its set has a key
--     given_len-path              the length of a key in a listing
-- Assumes nothing.
use mathlib.Core.Path.{◌≡◌, refl, sym, ap, ◌∙◌}
use Prim.Native.Nat.{ℕ, zero, suc, ◌<◌}
use native.Mathlib.Decide.{ℕ_discrete}
use native.Mathlib.Omega.{arith}
use mathlib.Core.Bool.{Bool, true, false, cond, ◌&&◌}
use mathlib.Core.List.{List}
use Rattle.keymap.specs.Members.{head_of}
use Rattle.std.specs.Prelude.{Option, None, Some}
use lib.ListN.{length}
use borrow.Author.Tests.{lt-ltb, eq-eqb, ne_eqb}
use Rattle.keymap.specs.Answers.{given}
use Rattle.keymap.specs.Key.{Key, extends}
use Rattle.keymap.specs.Map.{Map, lookup}
use Rattle.keymap.specs.Queries.{nonempty, beginning}
use Rattle.keymap.specs.Bits.{bit}
use Rattle.keymap.specs.Image.{Image, bits_for}
use Rattle.keymap.specs.Paths.{IsNode, is_node, path_of, node_of}
use Rattle.keymap.specs.Decode.{image_map}
use Rattle.keymap.proofs.Laws.Begins.{extends-own}
use Rattle.keymap.proofs.Laws.Paths.{is_node-iff, node_of-node, path_of-node_of, path_of-one}
use Rattle.keymap.proofs.Laws.Steps.{head-longer}
use Rattle.image.specs.Accept.{entries}
use Rattle.image.specs.Meaning.{MapImage}
use Rattle.walks.specs.Rule.{walked, value_of_node}
use Rattle.walks.specs.Stands.{stand_at}
use Rattle.walks.proofs.Laws.MapImage.{length-nodes, is_node-is}
use Rattle.walks.proofs.Laws.MapWalk.{PathTold, there, absent, path-told, walk-rule, node-value}
use Rattle.walks.proofs.Laws.MapMoves.{kids-some}
use Rattle.climbs.specs.Below.{below_by}
use Rattle.climbs.specs.Order.{next_by, given_of, given_by, UnderTop}
use Rattle.climbs.proofs.Laws.MapClimb.{depth-path}
use Rattle.climbs.proofs.Laws.Below.{below-path}
use Rattle.climbs.proofs.Laws.MapOrder.{next-path}
use Rattle.listings.specs.declared.answers.Kind.{Kind}
use Rattle.listings.specs.declared.answers.Kind.TheVariants as kinds
use Rattle.listings.specs.declared.answers.Cursor.TheVariants.{Open, Finished}
use Rattle.listings.specs.Cursors.{set_of, last_belongs, belongs, next_in}
use Rattle.listings.specs.GivenKey.{given_key}
use Rattle.listings.specs.Numbers.{in_set_by, last_stands, stands_by, first_given_by, next_given_by, has_keys_by, number_limit, start_from, start_by, given_len_by}
use Rattle.listings.proofs.Laws.Cursors.{set-none, given-unvalued, given-predictive, given-postfix, extends-other, belongs-top, belongs-under, head-valued, head-unvalued, under_top, next_in-later, keys-longer, keys-some}
use Rattle.listings.proofs.Laws.GivenKey.{given_key-behind}

-- ---- by cases, on any slices

module _ (ls vs : List ℕ) (b : ℕ → ℕ) (len : ℕ) where
  module _ (top node : ℕ) where
    pub in_set_by-unvalued : (kind : Kind) → value_of_node ls vs node ≡ None → in_set_by ls vs b len kind top node ≡ false
    unfolding in_set_by
    in_set_by-unvalued kind e = rw e

    module _ (v : ℕ) (held : value_of_node ls vs node ≡ Some v) where
      pub in_set_by-predictive : in_set_by ls vs b len kinds.Predictive top node ≡ below_by b len top node
      unfolding in_set_by
      in_set_by-predictive = rw held

      pub in_set_by-own : node ≡ top → in_set_by ls vs b len kinds.Postfix top node ≡ false
      unfolding in_set_by
      in_set_by-own e = rw (held, eq-eqb node top e)

      pub in_set_by-postfix : ¬ (node ≡ top) → in_set_by ls vs b len kinds.Postfix top node ≡ below_by b len top node
      unfolding in_set_by
      in_set_by-postfix d = rw (held, ne_eqb node top d)

  module _ (top : ℕ) where
    pub first_given_by-held : (v : ℕ) → value_of_node ls vs top ≡ Some v → first_given_by ls vs b len top ≡ Some (top, v)
    unfolding first_given_by
    first_given_by-held v e = rw e

    pub first_given_by-bare : value_of_node ls vs top ≡ None → first_given_by ls vs b len top ≡ next_by ls vs b len top top
    unfolding first_given_by
    first_given_by-bare e = rw e

module _ (ls : List ℕ) (b : ℕ → ℕ) (len : ℕ) (kind : Kind) (q : Key) where
  pub start_by-lost : walked ls b len q ≡ None → start_by ls b len kind q ≡ Finished kind
  unfolding start_by
  start_by-lost e = ap (start_from ls b len kind) e

  module _ (k : ℕ) (ended : walked ls b len q ≡ Some k) where
    pub start_by-near : k < number_limit → start_by ls b len kind q ≡ cond (has_keys_by ls b len kind (stand_at b len k)) (Open kind k 0) (Finished kind)
    unfolding start_by
    start_by-near l = ap (start_from ls b len kind) ended ∙ rw (lt-ltb k number_limit l)

-- ---- on an image that some map has

module _ (i : Image) (h : MapImage i) where
  -- the value of a node is its key's, if its path is one
  in_set-path : (kind : Kind) (top node : ℕ) → IsNode (image_map i) top → IsNode (image_map i) node
      → in_set_by i.labels i.values (bit i.words) (bits_for (entries i)) kind top node ≡ given (lookup (path_of (image_map i) node) (set_of (image_map i) kind (path_of (image_map i) top)))
  in_set-path kind top node t n = go kind (lookup x m) refl
    where
      m : Map
      m = image_map i

      x : Key
      x = path_of m node

      p : Key
      p = path_of m top

      ls : List ℕ
      ls = i.labels

      vs : List ℕ
      vs = i.values

      b : ℕ → ℕ
      b = bit i.words

      len : ℕ
      len = bits_for (entries i)

      apart : (v : ℕ) → lookup x m ≡ Some v → Dec (node ≡ top) → in_set_by ls vs b len kinds.Postfix top node ≡ given (lookup x (set_of m kinds.Postfix p))
      apart v e (yes same) =
          in_set_by-own ls vs b len top node v (node-value i h node n ∙ e) same
          ∙ sym (given-postfix m h.catalogue.rising p x v e ∙ ap (λ (k : ℕ). extends p (path_of m k)) same ∙ extends-own p)
      apart v e (no d) =
          in_set_by-postfix ls vs b len top node v (node-value i h node n ∙ e) d
          ∙ below-path i h top node t n
          ∙ sym (given-postfix m h.catalogue.rising p x v e ∙ extends-other p x (λ f. d (path_of-one m h.catalogue.rising node top n t f)))

      go : (kind : Kind) (o : Option ℕ) → lookup x m ≡ o → in_set_by ls vs b len kind top node ≡ given (lookup x (set_of m kind p))
      go kind None e = in_set_by-unvalued ls vs b len top node kind (node-value i h node n ∙ e) ∙ sym (given-unvalued m h.catalogue.rising kind p x e)
      go kinds.Predictive (Some v) e =
          in_set_by-predictive ls vs b len top node v (node-value i h node n ∙ e)
          ∙ below-path i h top node t n
          ∙ sym (given-predictive m h.catalogue.rising p x v e)
      go kinds.Postfix (Some v) e = apart v e (ℕ_discrete node top)

  pub stands-path : (kind : Kind) (top last : ℕ)
      → stands_by i.labels i.values (bit i.words) (bits_for (entries i)) kind top last ≡ belongs (image_map i) (Open kind top last)
  unfolding stands_by belongs
  stands-path kind top last = rw (is_node-is i h top) (go (is_node m top) refl)
    where
      m : Map
      m = image_map i

      set : Map
      set = set_of m kind (path_of m top)

      behind : IsNode m top → (k : ℕ) (t : Bool) → is_node m (suc k) ≡ t
          → t && in_set_by i.labels i.values (bit i.words) (bits_for (entries i)) kind top (suc k) ≡ t && given (lookup (path_of m (suc k)) set)
      behind n k false e = refl
      behind n k true e = in_set-path kind top (suc k) n ((is_node-iff m (suc k)).0 e)

      later : IsNode m top → (k : ℕ) → last_stands i.labels i.values (bit i.words) (bits_for (entries i)) kind top k ≡ last_belongs m set k
      later n zero = refl
      later n (suc k) = rw (is_node-is i h (suc k)) (behind n k (is_node m (suc k)) refl)

      go : (t : Bool) → is_node m top ≡ t → t && last_stands i.labels i.values (bit i.words) (bits_for (entries i)) kind top last ≡ t && last_belongs m set last
      go false e = refl
      go true e = later ((is_node-iff m top).0 e) last

  first-path : (top : ℕ) → IsNode (image_map i) top
      → given_of (first_given_by i.labels i.values (bit i.words) (bits_for (entries i)) top) ≡ given_by (image_map i) (head_of (beginning (path_of (image_map i) top) (image_map i)))
  first-path top n = go (lookup (path_of m top) m) refl
    where
      m : Map
      m = image_map i

      go : (o : Option ℕ) → lookup (path_of m top) m ≡ o
          → given_of (first_given_by i.labels i.values (bit i.words) (bits_for (entries i)) top) ≡ given_by m (head_of (beginning (path_of m top) m))
      go (Some v) e =
          ap given_of (first_given_by-held i.labels i.values (bit i.words) (bits_for (entries i)) top v (node-value i h top n ∙ e))
          ∙ sym (head-valued m h.catalogue top n v e)
      go None e =
          ap given_of (first_given_by-bare i.labels i.values (bit i.words) (bits_for (entries i)) top (node-value i h top n ∙ e))
          ∙ next-path i h top top (under_top m h.catalogue top n)
          ∙ sym (ap (given_by m) (head-unvalued m h.catalogue top n e))

  pub given-path : (kind : Kind) (top last : ℕ) → belongs (image_map i) (Open kind top last) ≡ true
      → given_of (next_given_by i.labels i.values (bit i.words) (bits_for (entries i)) kind top last)
      ≡ given_by (image_map i) (next_in (image_map i) (set_of (image_map i) kind (path_of (image_map i) top)) last)
  unfolding next_given_by
  given-path kind top zero e = go kind (belongs-top m kind top zero e)
    where
      m : Map
      m = image_map i

      go : (kind : Kind) → IsNode m top
          → given_of (next_given_by i.labels i.values (bit i.words) (bits_for (entries i)) kind top 0) ≡ given_by m (next_in m (set_of m kind (path_of m top)) 0)
      go kinds.Predictive n = first-path top n
      go kinds.Postfix n = next-path i h top top (under_top m h.catalogue top n) ∙ sym (ap (given_by m) (head-longer m h.catalogue.rising (path_of m top)))
  given-path kind top (suc k) e =
      let m : Map = image_map i in
      let below : UnderTop m top (suc k) = belongs-under m kind top (suc k) h.catalogue.rising e (λ z. omega arith) in
      next-path i h top (suc k) below
      ∙ sym (ap (given_by m) (next_in-later m h.catalogue top below.top-inside kind (suc k) below (λ z. omega arith)))

  has_keys-path : (kind : Kind) (k : ℕ) → IsNode (image_map i) k
      → has_keys_by i.labels (bit i.words) (bits_for (entries i)) kind (stand_at (bit i.words) (bits_for (entries i)) k) ≡ nonempty (set_of (image_map i) kind (path_of (image_map i) k))
  has_keys-path kinds.Predictive k n = sym (keys-some i h k n)
  has_keys-path kinds.Postfix k n = kids-some i h k n ∙ keys-longer (image_map i) (path_of (image_map i) k)

  pub start-path : (kind : Kind) (q : Key)
      → start_by i.labels (bit i.words) (bits_for (entries i)) kind q ≡ cond (nonempty (set_of (image_map i) kind q)) (Open kind (node_of (image_map i) q) 0) (Finished kind)
  start-path kind q = go (path-told m q)
    where
      m : Map
      m = image_map i

      go : PathTold m q → start_by i.labels (bit i.words) (bits_for (entries i)) kind q ≡ cond (nonempty (set_of m kind q)) (Open kind (node_of m q) 0) (Finished kind)
      go (absent n e) =
          start_by-lost i.labels (bit i.words) (bits_for (entries i)) kind q (walk-rule i h q ∙ e)
          ∙ sym (ap (λ (t : Bool). cond t (Open kind (node_of m q) 0) (Finished kind)) (set-none m h.catalogue.rising kind q n))
      go (there n e) =
          let inside : IsNode m (node_of m q) = node_of-node m q n in
          start_by-near i.labels (bit i.words) (bits_for (entries i)) kind q (node_of m q) (walk-rule i h q ∙ e) (omega (arith, inside, length-nodes i h, h.few))
          ∙ ap (λ (t : Bool). cond t (Open kind (node_of m q) 0) (Finished kind))
          (has_keys-path kind (node_of m q) inside ∙ ap (λ (p : Key). nonempty (set_of m kind p)) (path_of-node_of m q n))

  pub given_len-path : (kind : Kind) (top node : ℕ) → UnderTop (image_map i) top node
      → given_len_by (bit i.words) (bits_for (entries i)) kind top node ≡ length (given_key (image_map i) kind top node)
  given_len-path kinds.Predictive top node u = depth-path i h node u.inside
  given_len-path kinds.Postfix top node u =
      omega (arith, depth-path i h node u.inside, depth-path i h top u.top-inside, given_key-behind (image_map i) top node u)
