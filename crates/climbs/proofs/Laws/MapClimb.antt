-- On an image that some map has, a climb goes over the paths without their last bytes, up to the root.
--
--     upper-node        the parent of a node but the root: its path, and that its number is lower
--     step-up           one step up by numbers: the path is the parent's and one byte more
--     path-short        a path is shorter than its node's number
--     upper-path        the parent of a node but the root, by the rule
--     depth-path        a node is as deep as its path is long
-- Assumes nothing.
use mathlib.Core.Path.{◌≡◌, refl, sym, ap, ◌∙◌, subst}
use mathlib.Core.Logic.{inr, ⊎_elim}
use Prim.Native.Nat.{ℕ, zero, suc, ◌+◌, ◌≤◌, ◌<◌}
use native.Mathlib.Nat.{lt_of_not-le}
use native.Mathlib.Decide.{dec_le}
use native.Mathlib.Omega.{arith}
use mathlib.Core.List.{[], ◌∷◌, ◌++◌}
use Rattle.std.specs.Prelude.{Option, None, Some}
use lib.ListN.{length, length-append}
use Rattle.keymap.specs.Members.{In}
use Rattle.keymap.specs.Key.{Key, PrefixOf, last_byte}
use Rattle.keymap.specs.Map.{Map, Catalogue}
use Rattle.keymap.specs.Queries.{SomeBegins}
use Rattle.keymap.specs.Bits.{bit}
use Rattle.keymap.specs.Image.{Image, bits_for}
use Rattle.keymap.specs.Paths.{nodes, IsNode, path_of, node_of}
use Rattle.keymap.specs.Steps.{upper}
use Rattle.keymap.specs.Decode.{image_map}
use Rattle.keymap.proofs.Laws.Begins.{prefix-iff, prefix_trans}
use Rattle.keymap.proofs.Laws.Steps.{upper-last}
use Rattle.keymap.proofs.Laws.Paths.{path_of-root, path_of-in, path_of-node_of, path_of-longer, node_of-node, node_of-path_of, nodes-iff}
use Rattle.louds.specs.Nodes.{parent_of}
use Rattle.louds.proofs.Laws.MapNodes.{map_bits, map_length, parent-node}
use Rattle.image.specs.Accept.{entries}
use Rattle.image.specs.Meaning.{MapImage}
use Rattle.climbs.specs.Perches.{parent_by, depth_by}
use Rattle.climbs.proofs.Laws.Perches.{parent_by-node, parent_by-told, depth-root, depth-next}
use Rattle.walks.proofs.Laws.MapImage.{bits_are, bits_length-is}

-- ---- parents in a map

-- of a node but the root: its path is its parent's and one byte more
pub record Upper (m : Map) (k : ℕ) : Type 0 where
  pub longer : ¬ (path_of m k ≡ [])
  pub begins : SomeBegins (path_of m k) m
  pub inside : In (upper (path_of m k)) (nodes m)
  pub back : path_of m (node_of m (upper (path_of m k))) ≡ upper (path_of m k)
  pub lower : node_of m (upper (path_of m k)) < k

module _ (m : Map) (c : Catalogue m) where
  root-one : (k : ℕ) → IsNode m k → path_of m k ≡ [] → k ≡ 1
  root-one k h e =
      let root : IsNode m 1 = (omega arith, omega (arith, h)) in
      sym (node_of-path_of m c.rising k h) ∙ ap (node_of m) (e ∙ sym (path_of-root m)) ∙ node_of-path_of m c.rising 1 root

  pub upper-node : (k : ℕ) → IsNode m k → 2 ≤ k → Upper m k
  upper-node k h l =
      let x : Key = path_of m k in
      let longer : ¬ (x ≡ []) = λ e. omega (arith, root-one k h e) in
      let begins : SomeBegins x m = ⊎_elim (λ e. absurd (longer e)) (λ b. b) ((nodes-iff m x).0 (path_of-in m k h)) in
      let e : x ≡ upper x ++ (last_byte x ∷ []) = upper-last x longer in
      let part : PrefixOf (upper x) x = (prefix-iff (upper x) x).1 (last_byte x ∷ [], e) in
      let inside : In (upper x) (nodes m) = (nodes-iff m (upper x)).1 (inr (begins.0, begins.1, prefix_trans (upper x) x begins.0.0 part begins.2)) in
      let back : path_of m (node_of m (upper x)) ≡ upper x = path_of-node_of m (upper x) inside in
      record {
        longer = longer;
        begins = begins;
        inside = inside;
        back = back;
        lower = path_of-longer m c.rising (node_of m (upper x)) k (node_of-node m (upper x) inside) h (omega (arith, ap length back, ap length e, length-append (upper x) (last_byte x ∷ [])));
      }

-- one step up
pub record StepUp (m : Map) (at up : ℕ) : Type 0 where
  pub inside : IsNode m up
  pub path : path_of m at ≡ path_of m up ++ (last_byte (path_of m at) ∷ [])
  pub shorter : length (path_of m at) ≡ length (path_of m up) + 1
  pub lower : up < at

pub step-up : (m : Map) → Catalogue m → (at : ℕ) → IsNode m at → 2 ≤ at → StepUp m at (node_of m (upper (path_of m at)))
step-up m c at inside low =
    let x : Key = path_of m at in
    let up : ℕ = node_of m (upper x) in
    let own = upper-node m c at inside low in
    let path : x ≡ path_of m up ++ (last_byte x ∷ []) = upper-last x own.longer ∙ ap (λ (p : Key). p ++ (last_byte x ∷ [])) (sym own.back) in
    record {
      inside = node_of-node m (upper x) own.inside;
      path = path;
      shorter = ap length path ∙ length-append (path_of m up) (last_byte x ∷ []);
      lower = own.lower;
    }

-- every part of a path is a node's with a lower number
path-below : (bound : ℕ) (m : Map) → Catalogue m → (k : ℕ) → k ≤ bound → IsNode m k → length (path_of m k) < k
path-below zero m c k b n = absurd (omega (arith, n))
path-below (suc bound) m c k b n = go (dec_le 2 k) (λ up l u. path-below bound m c up l u)
  where
    go : Dec (2 ≤ k) → ((up : ℕ) → up ≤ bound → IsNode m up → length (path_of m up) < up) → length (path_of m k) < k
    go (yes low) below =
        let up : ℕ = node_of m (upper (path_of m k)) in
        let s = step-up m c k n low in
        omega (arith, below up (omega (arith, s.lower)) s.inside, s.shorter, s.lower)
    go (no low) below =
        let root : k ≡ 1 = omega (arith, n) in
        omega (arith, n, ap length (ap (path_of m) root ∙ path_of-root m))

pub path-short : (m : Map) → Catalogue m → (k : ℕ) → IsNode m k → length (path_of m k) < k
path-short m c k n = path-below k m c k (omega arith) n

-- ---- climbs by the rule

module _ (i : Image) (h : MapImage i) where
  pub upper-path : (k : ℕ) → IsNode (image_map i) k → 2 ≤ k → parent_by (bit i.words) (bits_for (entries i)) k ≡ Some (node_of (image_map i) (upper (path_of (image_map i) k)))
  upper-path k n l =
      let m : Map = image_map i in
      let x : Key = path_of m k in
      let u = upper-node m h.catalogue k n l in
      let e : x ≡ upper x ++ (last_byte x ∷ []) = upper-last x u.longer in
      let own : node_of m (upper x ++ (last_byte x ∷ [])) ≡ k = ap (node_of m) (sym e) ∙ node_of-path_of m h.catalogue.rising k n in
      let up : parent_of (bit i.words) (bits_for (entries i)) k ≡ Some (node_of m (upper x)) =
      rw (bits_are i h, bits_length-is i h)
      (ap (parent_of (map_bits m) (map_length m)) (sym own)
      ∙ parent-node m h.catalogue (upper x) (last_byte x) u.inside (subst (λ (y : Key). SomeBegins y m) e u.begins)) in
      parent_by-node (bit i.words) (bits_for (entries i)) k (node_of m (upper x)) up (node_of-node m (upper x) u.inside).0 u.lower

  depth_below : (bound k : ℕ) → k ≤ bound → IsNode (image_map i) k → depth_by (bit i.words) (bits_for (entries i)) k ≡ length (path_of (image_map i) k)
  depth_below zero k l n = absurd (omega (arith, n))
  depth_below (suc bound) k l n = go (dec_le 2 k) (λ up u v. depth_below bound up u v)
    where
      m : Map
      m = image_map i

      top : k < 2 → (o : Option ℕ) → parent_by (bit i.words) (bits_for (entries i)) k ≡ o → parent_by (bit i.words) (bits_for (entries i)) k ≡ None
      top one None e = e
      top one (Some j) e = absurd (omega (arith, one, parent_by-told (bit i.words) (bits_for (entries i)) k j e))

      go : Dec (2 ≤ k)
          → ((up : ℕ) → up ≤ bound → IsNode m up → depth_by (bit i.words) (bits_for (entries i)) up ≡ length (path_of m up))
          → depth_by (bit i.words) (bits_for (entries i)) k ≡ length (path_of m k)
      go (yes low) goes_on =
          let up : ℕ = node_of m (upper (path_of m k)) in
          let s = step-up m h.catalogue k n low in
          depth-next (bit i.words) (bits_for (entries i)) k up (upper-path k n low) ∙ ap suc (goes_on up (omega (arith, l, s.lower)) s.inside) ∙ omega (arith, s.shorter)
      go (no low) goes_on =
          let root : k ≡ 1 = omega (arith, n, low) in
          depth-root (bit i.words) (bits_for (entries i)) k (top (lt_of_not-le low) (parent_by (bit i.words) (bits_for (entries i)) k) refl)
          ∙ sym (ap length (ap (path_of m) root ∙ path_of-root m))

  pub depth-path : (k : ℕ) → IsNode (image_map i) k → depth_by (bit i.words) (bits_for (entries i)) k ≡ length (path_of (image_map i) k)
  depth-path k n = depth_below k k (omega arith) n
