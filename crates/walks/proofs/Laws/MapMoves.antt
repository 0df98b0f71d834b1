-- Each total move, at a node of an image that some map has, is the map's.
--
--     down-path      one step down: the path one byte longer
--     kids-path      the children of a node: the first number, how many, and the stand at each; `kids-some`: there are
--                    some exactly if some key goes on
-- Assumes nothing.
use mathlib.Core.Path.{◌≡◌, refl, sym, ap, ◌∙◌}
use Prim.Native.Nat.{ℕ, ◌+◌, ◌<◌}
use native.Mathlib.Omega.{arith}
use mathlib.Core.List.{List, [], ◌∷◌, ◌++◌}
use lib.ListN.{length}
use lib.Dec.{ltb}
use borrow.Author.Tests.{lt-ltb}
use Rattle.keymap.specs.Key.{Key}
use Rattle.keymap.specs.Map.{Map}
use Rattle.keymap.specs.Queries.{nonempty, is_prefix_in}
use Rattle.keymap.specs.Bits.{bit}
use Rattle.keymap.specs.Image.{Image, bits_for, children_in, degree}
use Rattle.keymap.specs.Paths.{IsNode, path_of}
use Rattle.keymap.specs.Decode.{image_map}
use Rattle.keymap.proofs.Laws.Bits.{bit-small}
use Rattle.keymap.proofs.Laws.Paths.{children_in-some}
use Rattle.louds.proofs.Laws.Nodes.{children-told}
use Rattle.louds.proofs.Laws.MapNodes.{ChildrenOf, children-node}
use Rattle.image.specs.Accept.{entries}
use Rattle.image.specs.Meaning.{MapImage}
use Rattle.walks.specs.declared.answers.Kids.{Kids}
use Rattle.walks.specs.Stands.{stand_at, kids_from, kid_from, down_from, reached_at}
use Rattle.walks.specs.MapNodes.{node_at}
use Rattle.walks.proofs.Laws.Stands.{kids-rule, kid-rule, down_rule}
use Rattle.walks.proofs.Laws.MapImage.{run-node}
use Rattle.walks.proofs.Laws.MapWalk.{kid, child-rule}

module _ (i : Image) (h : MapImage i) where
  pub down-path : (k : ℕ) → IsNode (image_map i) k → (a : ℕ)
      → down_from i.labels (bit i.words) (bits_for (entries i)) (stand_at (bit i.words) (bits_for (entries i)) k) a
      ≡ reached_at (bit i.words) (bits_for (entries i)) (node_at (image_map i) (path_of (image_map i) k ++ (a ∷ [])))
  down-path k n a =
      down_rule (bit i.words) (bit-small i.words) (bits_for (entries i)) i.labels k a ∙ ap (reached_at (bit i.words) (bits_for (entries i))) (child-rule i h k n a)

  -- the children of a node
  pub record KidsPath (k : ℕ) (d : ChildrenOf (image_map i) h.catalogue k) : Type 0 where
    pub first-is : (kids_from (bit i.words) (bits_for (entries i)) (stand_at (bit i.words) (bits_for (entries i)) k)).first ≡ d.first
    pub count-is : (kids_from (bit i.words) (bits_for (entries i)) (stand_at (bit i.words) (bits_for (entries i)) k)).count ≡ degree (image_map i) (path_of (image_map i) k)
    pub kids-at : (j : ℕ) → j < degree (image_map i) (path_of (image_map i) k)
        → kid_from (bit i.words) (bits_for (entries i)) k (kids_from (bit i.words) (bits_for (entries i)) (stand_at (bit i.words) (bits_for (entries i)) k)).next (d.first + j)
        ≡ stand_at (bit i.words) (bits_for (entries i)) (d.first + j)

  pub kids-path : (k : ℕ) → IsNode (image_map i) k → (d : ChildrenOf (image_map i) h.catalogue k) → KidsPath k d
  kids-path k n d =
      let m : Map = image_map i in
      let b : ℕ → ℕ = bit i.words in
      let len : ℕ = bits_for (entries i) in
      let small = bit-small i.words in
      let (p, run) = children-told b small len k d.first (degree m (path_of m k)) (run-node i h k n d) in
      let kids = kids-rule b small len k p run.answer in
      record {
        first-is = ap (λ (c : Kids). c.first) kids ∙ sym run.starts;
        count-is = ap (λ (c : Kids). c.count) kids ∙ sym run.size;
        kids-at = λ j l. ap (λ (c : Kids). kid_from b len k c.next (d.first + j)) kids ∙ kid-rule b small len k p (d.first + j) run.answer (kid i h k n d j l).child.above;
      }

  pub kids-some : (k : ℕ) → IsNode (image_map i) k
      → ltb 0 (kids_from (bit i.words) (bits_for (entries i)) (stand_at (bit i.words) (bits_for (entries i)) k)).count ≡ is_prefix_in (path_of (image_map i) k) (image_map i)
  unfolding degree
  kids-some k n =
      let m : Map = image_map i in
      ap (ltb 0) (kids-path k n (children-node m h.catalogue k n)).count-is ∙ any (children_in m (path_of m k)) ∙ children_in-some m (path_of m k)
    where
      any : (ps : List Key) → ltb 0 (length ps) ≡ nonempty ps
      any [] = refl
      any (p ∷ ps) = lt-ltb 0 (length (p ∷ ps)) (omega arith)
