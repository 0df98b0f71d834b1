-- On an image that some map has, the steps go from node to node in byte order of their paths: the ones of a node's siblings stand together and their numbers run on,
-- so the next valued node below a top is that of the least key above the node's path, of those that begin with the top's. The first child is the next of the children,
-- a climb from a node without one comes to the next node below the top, and no more nodes are to come than there are.
--
--     next-path         the next valued node
-- Assumes nothing.
use mathlib.Core.Path.{◌≡◌, refl, sym, ap, subst, ◌∙◌}
use Prim.Native.Nat.{ℕ, zero, suc, ◌+◌, ◌-◌, ◌≤◌, ◌<◌}
use native.Mathlib.Decide.{dec_le, ℕ_discrete}
use native.Mathlib.Omega.{arith}
use mathlib.Core.Bool.{Bool, true, false, and-false}
use mathlib.Core.List.{List, [], ◌∷◌, ◌++◌}
use Rattle.std.specs.Prelude.{Option, None, Some}
use Rattle.std.specs.Option.{option_or}
use lib.ListN.{length, get_or}
use lib.Dec.{ltb}
use borrow.Author.Tests.{lt-ltb, le-ltb, le-leb, eq-eqb}
use Rattle.keymap.specs.Key.{Key, PrefixOf, last_byte}
use Rattle.keymap.specs.Map.{Map, Catalogue, lookup}
use Rattle.keymap.specs.Queries.{SomeBegins, keep, beginning, least_above}
use Rattle.keymap.specs.Bits.{bit}
use Rattle.keymap.specs.Image.{Image, bits_for, children_in, degree}
use Rattle.keymap.specs.Paths.{nodes, IsNode, path_of, node_of}
use Rattle.keymap.specs.Steps.{NextIn, LastIn, paths_below, nodes_above, upper}
use Rattle.keymap.specs.Decode.{image_map}
use Rattle.keymap.proofs.Laws.Bits.{bit-small}
use Rattle.keymap.proofs.Laws.Begins.{prefix-iff, prefix_refl, prefix_trans, prefix-chain, prefix-proper}
use Rattle.keymap.proofs.Laws.Paths.{path_of-in, path_of-one, path_of-longer, node_of-node, node_of-path_of, children_in-ordered}
use Rattle.keymap.proofs.Laws.Steps.{upper-last, next_in-index, last_in-index, next_in-first, last_in-none, next-child, last-child, next-sibling, last-sibling, paths_below-iff, least_above-valued, least_above-unvalued, least_above-last, nodes_above-falls}
use Rattle.louds.specs.Select.{one_at}
use Rattle.louds.specs.Nodes.{Run, children_of}
use Rattle.louds.proofs.Laws.Rank.{ones-zeros}
use Rattle.louds.proofs.Laws.Select.{rank-kth}
use Rattle.louds.proofs.Laws.Nodes.{parent-told, parent-of-child, sibling-behind}
use Rattle.louds.proofs.Laws.MapNodes.{ChildrenOf, children-node, child-label}
use Rattle.image.specs.Accept.{entries}
use Rattle.image.specs.Meaning.{MapImage}
use Rattle.walks.specs.Rule.{counts_to, value_of_node}
use Rattle.walks.proofs.Laws.MapImage.{length-nodes, run-node}
use Rattle.walks.proofs.Laws.MapWalk.{kid, node-value}
use Rattle.walks.proofs.Laws.Rule.{counts_to-upto}
use Rattle.climbs.specs.Order.{first_by, one_behind, beside_by, climbed_from, climb_by, advance_by, sought_from, next_by, given_of, UnderTop, given_by}
use Rattle.climbs.proofs.Laws.MapClimb.{upper-node, StepUp, step-up, upper-path}
use Rattle.climbs.proofs.Laws.Order.{one_behind-inside, one_behind-told, first_run, beside_at, climbed-top, climbed-on, next-starts, sought-done, sought-lost, sought-value, sought-on}

-- from a path, a step has come to the next of some paths, or there is none
abbrev Landed : Map → List Key → Key → Option ℕ → Type 0
Landed m ps x None = LastIn ps x
Landed m ps x (Some k) = IsNode m k × NextIn ps x (path_of m k)

-- ---- in a map

module _ (m : Map) (c : Catalogue m) where
  -- where a node but the root stands among its siblings
  record Placed (k : ℕ) : Type 0 where
    kids : ChildrenOf m c (node_of m (upper (path_of m k)))
    place : ℕ
    among : place < length (children_in m (upper (path_of m k)))
    number : k ≡ kids.first + place
    own : path_of m k ≡ get_or (children_in m (upper (path_of m k))) place []

  placed : (k : ℕ) → IsNode m k → 2 ≤ k → Placed k
  unfolding degree
  placed k h l =
      let x : Key = path_of m k in
      let u = upper-node m c k h l in
      let e : x ≡ upper x ++ (last_byte x ∷ []) = upper-last x u.longer in
      let d = children-node m c (node_of m (upper x)) (node_of-node m (upper x) u.inside) in
      let b = child-label m c (upper x) (last_byte x) u.inside (subst (λ (y : Key). SomeBegins y m) e u.begins) d in
      let number : k ≡ d.first + b.place = sym (node_of-path_of m c.rising k h) ∙ ap (node_of m) e ∙ b.number in
      let among : b.place < length (children_in m (upper x)) = subst (λ (y : Key). b.place < length (children_in m y)) u.back b.among in
      record {
        kids = d;
        place = b.place;
        among = among;
        number = number;
        own = ap (path_of m) number ∙ d.paths b.place b.among ∙ ap (λ (y : Key). get_or (children_in m y) b.place []) u.back;
      }

-- a climb from a node has come to `at`, at or below the top, and nothing is left below it
record Climbing (m : Map) (top node at : ℕ) : Type 0 where
  inside : IsNode m at
  over : PrefixOf (path_of m top) (path_of m at)
  begins : PrefixOf (path_of m at) (path_of m node)
  done : LastIn (paths_below m (path_of m at)) (path_of m node)

module _ (m : Map) (c : Catalogue m) (top node : ℕ) (under : UnderTop m top node) where
  climb-starts : LastIn (children_in m (path_of m node)) (path_of m node) → Climbing m top node node
  climb-starts n =
      record { inside = under.inside; over = under.begins; begins = prefix_refl (path_of m node); done = last-child m (path_of m node) n }

  climb-ends : (at : ℕ) → at ≡ top → Climbing m top node at → LastIn (paths_below m (path_of m top)) (path_of m node)
  climb-ends at e k = rw e at k.done

  module _ (at : ℕ) (climbing : Climbing m top node at) (away : ¬ (at ≡ top)) where
    longer : length (path_of m top) < length (path_of m at)
    longer = (prefix-proper (path_of m top) (path_of m at) climbing.over).1 (λ e. away (path_of-one m c.rising at top climbing.inside under.top-inside e))

    climb-higher : 2 ≤ at
    climb-higher = let l : top < at = path_of-longer m c.rising top at under.top-inside climbing.inside longer in omega (arith, under.top-inside)

    up : StepUp m at (node_of m (upper (path_of m at)))
    up = step-up m c at climbing.inside climb-higher

    part : PrefixOf (path_of m (node_of m (upper (path_of m at)))) (path_of m at)
    part = (prefix-iff (path_of m (node_of m (upper (path_of m at)))) (path_of m at)).1 (last_byte (path_of m at) ∷ [], up.path)

    -- the parent is still at or below the top
    top-over : PrefixOf (path_of m top) (path_of m (node_of m (upper (path_of m at))))
    top-over = prefix-chain (path_of m top) (path_of m (node_of m (upper (path_of m at)))) (path_of m at) climbing.over part (omega (arith, longer, up.shorter))

    climb-sibling : (y : Key) → NextIn (children_in m (upper (path_of m at))) (path_of m at) y → NextIn (paths_below m (path_of m top)) (path_of m node) y
    climb-sibling y n =
        let u = upper-node m c at climbing.inside climb-higher in
        next-sibling m (path_of m top) (path_of m at) (path_of m node) y u.longer climbing.begins climbing.done (subst (PrefixOf (path_of m top)) u.back top-over) n

    climb-up : LastIn (children_in m (upper (path_of m at))) (path_of m at) → Climbing m top node (node_of m (upper (path_of m at)))
    climb-up n =
        let x : Key = path_of m at in
        let u = upper-node m c at climbing.inside climb-higher in
        record {
          inside = up.inside;
          over = top-over;
          begins = prefix_trans (path_of m (node_of m (upper x))) x (path_of m node) part climbing.begins;
          done = rw u.back (last-sibling m x (path_of m node) u.longer climbing.begins climbing.done n);
        }

-- a search from a node has come to `at`: what is to be given is still the least above it
record Seeking (m : Map) (top node at : ℕ) : Type 0 where
  under : UnderTop m top at
  same : least_above (path_of m node) (beginning (path_of m top) m) ≡ least_above (path_of m at) (beginning (path_of m top) m)

module _ (m : Map) (c : Catalogue m) (top node at : ℕ) (seeking : Seeking m top node at) where
  seek-ends : LastIn (paths_below m (path_of m top)) (path_of m at) → given_by m (least_above (path_of m node) (beginning (path_of m top) m)) ≡ None
  seek-ends n = ap (given_by m) (seeking.same ∙ least_above-last m c.rising (path_of m top) (path_of m at) n)

  module _ (next : ℕ) (inside : IsNode m next) (n : NextIn (paths_below m (path_of m top)) (path_of m at) (path_of m next)) where
    seek_found : (v : ℕ) → lookup (path_of m next) m ≡ Some v → given_by m (least_above (path_of m node) (beginning (path_of m top) m)) ≡ Some (record { node = next; value = v })
    seek_found v e =
        ap (given_by m) (seeking.same ∙ least_above-valued m c.rising (path_of m top) (path_of m at) (path_of m next) v n e)
        ∙ (λ x. Some (record { node = node_of-path_of m c.rising next inside x; value = v }))

    seek-on : lookup (path_of m next) m ≡ None → Seeking m top node next
    seek-on e = record {
      under = record { top-inside = seeking.under.top-inside; inside = inside; begins = ((paths_below-iff m (path_of m top) (path_of m next)).0 n.among).1 };
      same = seeking.same ∙ least_above-unvalued m c.rising (path_of m top) (path_of m at) (path_of m next) n e;
    }

    seek-fewer : nodes_above m (path_of m next) < nodes_above m (path_of m at)
    seek-fewer = nodes_above-falls m (path_of m at) (path_of m next) (path_of-in m next inside) n.above

keep-fewer : {A : Type 0} (test : A → Bool) (xs : List A) → length (keep test xs) ≤ length xs
unfolding keep
keep-fewer test [] = omega arith
keep-fewer test (x ∷ xs) = go (test x) refl (keep-fewer test xs)
  where
    go : (t : Bool) → test x ≡ t → length (keep test xs) ≤ length xs → length (keep test (x ∷ xs)) ≤ length (x ∷ xs)
    go true e h = rw e (omega (arith, h))
    go false e h = rw e (omega (arith, h))

nodes_above-few : (m : Map) (x : Key) → nodes_above m x ≤ length (nodes m)
unfolding nodes_above
nodes_above-few m x = keep-fewer _ (nodes m)

-- ---- in its image

module _ (i : Image) (h : MapImage i) where
  abbrev m : Map
  m = image_map i

  abbrev b : ℕ → ℕ
  b = bit i.words

  abbrev len : ℕ
  len = bits_for (entries i)

  abbrev last : ℕ
  last = length i.labels + 1

  small : (p : ℕ) → b p ≤ 1
  small = bit-small i.words

  first-lands : (k : ℕ) → IsNode m k → Landed m (children_in m (path_of m k)) (path_of m k) (first_by b len last k)
  unfolding degree
  first-lands k n = go (dec_le 1 (length (children_in m x)))
    where
      x : Key
      x = path_of m k

      d : ChildrenOf (image_map i) h.catalogue k
      d = children-node (image_map i) h.catalogue k n

      run : children_of (bit i.words) (bits_for (entries i)) k ≡ Run d.first (degree (image_map i) (path_of (image_map i) k))
      run = run-node i h k n d

      go : Dec (1 ≤ length (children_in m x)) → Landed m (children_in m x) x (first_by b len last k)
      go (yes l) =
          let own = kid i h k n d 0 l in
          let same : d.first + 0 ≡ d.first = omega arith in
          let counts : counts_to last k d.first ≡ true = counts_to-upto last k d.first (omega (arith, own.child.above)) ∙ le-leb d.first last (omega (arith, own.child.within)) in
          let there : first_by b len last k ≡ Some d.first = first_run b len last k d.first (degree m x) run ∙ rw (lt-ltb 0 (degree m x) l, counts) in
          subst (Landed m (children_in m x) x) (sym there) (
            rw same at own.inside,
            subst (NextIn (children_in m x) x) (sym (ap (path_of m) (sym same) ∙ d.paths 0 l)) (next_in-first m h.catalogue.rising x l),
          )
      go (no l) =
          let bare : first_by b len last k ≡ None = first_run b len last k d.first (degree m x) run ∙ rw (le-ltb 0 (degree m x) (omega (arith, l))) in
          subst (Landed m (children_in m x) x) (sym bare) (last_in-none m x (omega (arith, l)))

  beside-lands : (k : ℕ) → IsNode m k → 2 ≤ k → Landed m (children_in m (upper (path_of m k))) (path_of m k) (beside_by b len last k)
  unfolding degree
  beside-lands k n l =
      let x : Key = upper (path_of m k) in
      let s = placed m h.catalogue k n l in
      let v = upper-node m h.catalogue k n l in
      let u : ℕ = node_of m x in
      let size : length (children_in m (path_of m u)) ≡ length (children_in m x) = ap (λ (y : Key). length (children_in m y)) v.back in
      let run = run-node i h u (node_of-node m x v.inside) s.kids in
      let low : s.kids.first ≤ k = omega (arith, s.number) in
      let high : k < s.kids.first + length (children_in m (path_of m u)) = omega (arith, s.number, s.among, size) in
      let (q, one) = parent-told b small len k u (parent-of-child b small len u s.kids.first (length (children_in m (path_of m u))) k run low high) in
      let at : u + k ≡ q + 1 = omega (arith, one.zeros, (rank-kth b small len k q one.answer).rank, ones-zeros b small q) in
      let (there, back) = sibling-behind b small len u s.kids.first (length (children_in m (path_of m u))) k run low high in
      go s v.back q one.answer at
      (λ r. let (inside, marked) = there (omega (arith, r, s.number, size)) in (omega (arith, inside, at), ap b (sym at) ∙ marked))
      (λ inside marked. omega (arith, back (omega (arith, inside, at), ap b at ∙ marked), s.number, size))
      (dec_le (suc (suc s.place)) (length (children_in m x)))
    where
      go : (s : Placed m h.catalogue k) → path_of m (node_of m (upper (path_of m k))) ≡ upper (path_of m k) → (q : ℕ) → one_at b len k ≡ Some q → node_of m (upper (path_of m k)) + k ≡ q + 1
          → (suc s.place < length (children_in m (upper (path_of m k))) → (q + 1 < len) × (b (q + 1) ≡ 1))
          → (q + 1 < len → b (q + 1) ≡ 1 → suc s.place < length (children_in m (upper (path_of m k))))
          → Dec (suc s.place < length (children_in m (upper (path_of m k))))
          → Landed m (children_in m (upper (path_of m k))) (path_of m k) (beside_by b len last k)
      go s v q e at there back (yes r) =
          let x : Key = upper (path_of m k) in
          let j : ℕ = suc s.place in
          let room : j < degree m (path_of m (node_of m x)) = subst (λ (y : Key). j < length (children_in m y)) (sym v) r in
          let number : s.kids.first + j ≡ k + 1 = omega (arith, s.number) in
          let inside : IsNode m (k + 1) = rw number at (s.kids.inside j room) in
          let path : path_of m (k + 1) ≡ get_or (children_in m x) j [] = ap (path_of m) (sym number) ∙ s.kids.paths j room ∙ ap (λ (y : Key). get_or (children_in m y) j []) v in
          let (within, marked) = there r in
          let behind : one_behind b len q ≡ true = one_behind-inside b len q within ∙ eq-eqb (b (q + 1)) 1 marked in
          let is : beside_by b len last k ≡ Some (k + 1) = beside_at b len last k q e ∙ rw (lt-ltb k last (omega (arith, inside, length-nodes i h)), behind) in
          subst (Landed m (children_in m x) (path_of m k)) (sym is) (
            inside,
            subst (λ (y : Key). NextIn (children_in m x) y (path_of m (k + 1))) (sym s.own)
                (rw path (next_in-index (children_in m x) (children_in-ordered m h.catalogue.rising x) s.place r)),
          )
      go s v q e at there back (no r) =
          let x : Key = upper (path_of m k) in
          let full : suc s.place ≡ length (children_in m x) = omega (arith, s.among, r) in
          let is : beside_by b len last k ≡ None = beside_at b len last k q e ∙ rw (bare (one_behind b len q) refl, and-false (ltb k last)) in
          subst (Landed m (children_in m x) (path_of m k)) (sym is)
          (subst (LastIn (children_in m x)) (sym s.own) (last_in-index (children_in m x) (children_in-ordered m h.catalogue.rising x) s.place full))
        where
          bare : (t : Bool) → one_behind b len q ≡ t → one_behind b len q ≡ false
          bare true f = absurd (r (back (one_behind-told b len q f).0 (one_behind-told b len q f).1))
          bare false f = f

  climb-lands : (left top node : ℕ) → UnderTop m top node → (at : ℕ) → at < left → Climbing m top node at
      → Landed m (paths_below m (path_of m top)) (path_of m node) (climbed_from b len last top left (Some at))
  climb-lands zero top node under at l k = absurd (omega (arith, l))
  climb-lands (suc left) top node under at l k = go (ℕ_discrete at top) (λ up u c. climb-lands left top node under up u c)
    where
      up : ℕ
      up = node_of m (upper (path_of m at))

      go : Dec (at ≡ top)
          → ((up : ℕ) → up < left → Climbing m top node up → Landed m (paths_below m (path_of m top)) (path_of m node) (climbed_from b len last top left (Some up)))
          → Landed m (paths_below m (path_of m top)) (path_of m node) (climbed_from b len last top (suc left) (Some at))
      go (yes e) goes_on = subst (Landed m (paths_below m (path_of m top)) (path_of m node)) (sym (climbed-top b len last top at (suc left) e)) (climb-ends m h.catalogue top node under at e k)
      go (no d) goes_on =
          subst (Landed m (paths_below m (path_of m top)) (path_of m node))
          (sym (climbed-on b len last top at left d ∙ ap (λ (o : Option ℕ). option_or (beside_by b len last at) (climbed_from b len last top left o)) (upper-path i h at k.inside low)))
          (turn (beside_by b len last at) (beside-lands at k.inside low))
        where
          low : 2 ≤ at
          low = climb-higher m h.catalogue top node under at k d

          turn : (o : Option ℕ) → Landed m (children_in m (upper (path_of m at))) (path_of m at) o
              → Landed m (paths_below m (path_of m top)) (path_of m node) (option_or o (climbed_from b len last top left (Some up)))
          turn (Some j) (inside, next) = (inside, climb-sibling m h.catalogue top node under at k d (path_of m j) next)
          turn None none-next =
              goes_on up (omega (arith, l, (step-up m h.catalogue at k.inside low).lower)) (climb-up m h.catalogue top node under at k d none-next)

  advance-lands : (top at : ℕ) → UnderTop m top at → Landed m (paths_below m (path_of m top)) (path_of m at) (advance_by b len last top at)
  unfolding advance_by climb_by
  advance-lands top at under = turn (first_by b len last at) (first-lands at under.inside)
    where
      turn : (o : Option ℕ) → Landed m (children_in m (path_of m at)) (path_of m at) o
          → Landed m (paths_below m (path_of m top)) (path_of m at) (option_or o (climbed_from b len last top (suc at) (Some at)))
      turn (Some j) (inside, next) = (inside, next-child m (path_of m top) (path_of m at) (path_of m j) under.begins next)
      turn None none-next = climb-lands (suc at) top at under at (omega arith) (climb-starts m h.catalogue top at under none-next)

  seek : (left top node at : ℕ) → Seeking m top node at → nodes_above m (path_of m at) ≤ left
      → given_of (sought_from i.labels i.values b len top left (advance_by b len last top at)) ≡ given_by m (least_above (path_of m node) (beginning (path_of m top) m))
  seek zero top node at s l = go (advance_by b len last top at) (advance-lands top at s.under)
    where
      go : (o : Option ℕ) → Landed m (paths_below m (path_of m top)) (path_of m at) o
          → given_of (sought_from i.labels i.values b len top 0 o) ≡ given_by m (least_above (path_of m node) (beginning (path_of m top) m))
      go None none-next = ap given_of (sought-done i.labels i.values b len top None) ∙ sym (seek-ends m h.catalogue top node at s none-next)
      go (Some k) (inside, next) = absurd (omega (arith, l, seek-fewer m h.catalogue top node at s k inside next))
  seek (suc left) top node at s l = go (advance_by b len last top at) (advance-lands top at s.under) (λ k u f. seek left top node k u f)
    where
      go : (o : Option ℕ) → Landed m (paths_below m (path_of m top)) (path_of m at) o
          → ((k : ℕ) → Seeking m top node k → nodes_above m (path_of m k) ≤ left
          → given_of (sought_from i.labels i.values b len top left (advance_by b len last top k)) ≡ given_by m (least_above (path_of m node) (beginning (path_of m top) m)))
          → given_of (sought_from i.labels i.values b len top (suc left) o) ≡ given_by m (least_above (path_of m node) (beginning (path_of m top) m))
      go None none-next goes_on = ap given_of (sought-lost i.labels i.values b len top (suc left)) ∙ sym (seek-ends m h.catalogue top node at s none-next)
      go (Some k) (inside, next) goes_on = value (value_of_node i.labels i.values k) refl
        where
          value : (o : Option ℕ) → value_of_node i.labels i.values k ≡ o
              → given_of (sought_from i.labels i.values b len top (suc left) (Some k)) ≡ given_by m (least_above (path_of m node) (beginning (path_of m top) m))
          value (Some v) e =
              ap given_of (sought-value i.labels i.values b len top (suc left) k v (omega arith) e)
              ∙ sym (seek_found m h.catalogue top node at s k inside next v (sym (node-value i h k inside) ∙ e))
          value None e =
              let back : suc left - 1 ≡ left = omega arith in
              ap given_of
              (sought-on i.labels i.values b len top (suc left) k (omega arith) e
              ∙ ap (λ (n : ℕ). sought_from i.labels i.values b len top n (advance_by b len last top k)) back)
              ∙ goes_on k (seek-on m h.catalogue top node at s k inside next (sym (node-value i h k inside) ∙ e))
              (omega (arith, l, seek-fewer m h.catalogue top node at s k inside next))

  pub next-path : (top node : ℕ) → UnderTop (image_map i) top node
      → given_of (next_by i.labels i.values (bit i.words) (bits_for (entries i)) top node)
      ≡ given_by (image_map i) (least_above (path_of (image_map i) node) (beginning (path_of (image_map i) top) (image_map i)))
  next-path top node under =
      ap given_of (next-starts i.labels i.values b len top node)
      ∙ seek last top node node (record { under = under; same = refl }) (omega (arith, nodes_above-few m (path_of m node), length-nodes i h))
