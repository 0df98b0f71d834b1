-- Walking on an accepted image, over the trie that is decoded from it: siblings are entries in a row, and the children of an entry are the entries of a later row.
-- So a walk that stands on siblings reads the first one's label and value, goes on to the next, or down to the children, and stands on siblings again.
--
--     Step          what an image tells of the first of some siblings, and where its children stand
--     walk_step     each such entry is so told
-- Assumes nothing.
use mathlib.Core.Path.{◌≡◌, sym, ap, ap₂, ◌∙◌}
use Prim.Native.Nat.{ℕ, suc, ◌+◌, ◌≤◌, ◌<◌}
use native.Mathlib.Omega.{arith}
use mathlib.Core.List.{◌∷◌}
use Rattle.std.specs.Prelude.{Option, Some}
use lib.ListN.{get_or}
use Rattle.keymap.specs.Label.{label_entry, value_word}
use Rattle.keymap.specs.Bits.{sum_below}
use Rattle.keymap.specs.Image.{Image}
use Rattle.keymap.specs.Forest.{Forest, node, size, width}
use Rattle.keymap.specs.BreadthFirst.{forest_image}
use Rattle.keymap.specs.Decode.{decode}
use Rattle.keymap.proofs.Laws.Sums.{sum_below-ext, in_list}
use Rattle.keymap.proofs.Laws.BreadthFirst.{Item}
use Rattle.keymap.proofs.Laws.Items.{item_degree, Siblings, siblings-inside, siblings-here, siblings-kids, siblings-degree, children-beyond}
use Rattle.keymap.proofs.Laws.Entries.{get_or-labels, get_or-values}
use Rattle.keymap.proofs.Laws.Shape.{shape-degree, shape_size}
use Rattle.louds.specs.Nodes.{Run}
use Rattle.image.specs.Accept.{entries, parent_in, kids_in, Accepted, LentSlices}
use Rattle.image.proofs.Laws.Spelled.{spelled-children, spelled-parent}
use Rattle.image.proofs.Laws.Accept.{accepted-shape, accepted-forest, shape-spelled}

module _ (i : Image) (l : LentSlices i) (a : Accepted i) where
  abbrev trie : Forest
  trie = decode i

  -- how many entries are children of the nodes before the one at index k
  abbrev before : ℕ → ℕ
  before k = sum_below (item_degree trie) k

  pub walk-size : size trie ≡ entries i
  walk-size = let s = accepted-shape i a l in shape_size i s.top s.rest s.shape

  before_same : (k : ℕ) → before k ≡ sum_below (in_list ((accepted-shape i a l).top ∷ (accepted-shape i a l).rest)) k
  before_same k =
      let s = accepted-shape i a l in
      sum_below-ext (item_degree trie) (in_list (s.top ∷ s.rest)) k (λ q h. shape-degree i s.top s.rest s.shape q)

  run_at : (k : ℕ) → k ≤ entries i → kids_in i (k + 1) ≡ Run (before k + 2) (item_degree trie k)
  run_at k h =
      let s = accepted-shape i a l in
      spelled-children i (s.top ∷ s.rest) (shape-spelled i s.top s.rest s.shape) k h
      ∙ ap₂ (λ (x y : ℕ). Run (x + 2) y) (sym (before_same k)) (sym (shape-degree i s.top s.rest s.shape k))

  parent-in : (k j : ℕ) → k ≤ entries i → j < item_degree trie k → parent_in i (before k + j + 2) ≡ Some (k + 1)
  parent-in k j h b =
      let s = accepted-shape i a l in
      ap (λ (x : ℕ). parent_in i (x + j + 2)) (before_same k)
      ∙ spelled-parent i (s.top ∷ s.rest) (shape-spelled i s.top s.rest s.shape) k j h (omega (arith, shape-degree i s.top s.rest s.shape k))

  -- node e + 2, the first of some siblings, and its children
  pub record Step (e b : ℕ) (w : Option ℕ) (kids : Forest) : Type 0 where
    pub inside : e < entries i
    pub label : get_or i.labels e 0 ≡ label_entry b w
    pub value : get_or i.values e 0 ≡ value_word w
    pub first : ℕ
    pub beyond : e < first
    pub run : kids_in i (e + 2) ≡ Run (first + 2) (width kids)
    pub under : Siblings trie first kids
    pub parents : (j : ℕ) → j < width kids → parent_in i (first + j + 2) ≡ Some (e + 2)

  pub walk_step : {e b : ℕ} {w : Option ℕ} {kids next : Forest} → Siblings trie e (node b w kids next) → Step e b w kids
  unfolding forest_image
  walk_step {e} {b} {w} {kids} {next} s =
      let inside : e < entries i = omega (arith, siblings-inside trie s, walk-size) in
      let degree : item_degree trie (suc e) ≡ width kids = siblings-degree trie s in
      let item = siblings-here trie s in
      let whole = accepted-forest i l a in
      record {
        inside = inside;
        label = sym (ap (λ (x : Image). get_or x.labels e 0) whole) ∙ get_or-labels trie e ∙ ap (λ (x : Item). label_entry x.label x.value) item;
        value = sym (ap (λ (x : Image). get_or x.values e 0) whole) ∙ get_or-values trie e ∙ ap (λ (x : Item). value_word x.value) item;
        first = before (suc e);
        beyond = omega (arith, children-beyond trie (suc e) (omega (arith, walk-size)));
        run = ap (kids_in i) (omega arith) ∙ run_at (suc e) inside ∙ ap (Run (before (suc e) + 2)) degree;
        under = siblings-kids trie s;
        parents = λ j h. parent-in (suc e) j inside (omega (arith, degree)) ∙ ap Some (omega arith);
      }
