-- What the image of a trie tells of its nodes: its rows are those of the queue, so each slice, read at an entry, tells of that node.
--
--     get_or-degrees      the degree of the node at an index
--     get_or-labels       the label entry of an entry
--     get_or-values       its value's word
--     label_in-entry      the label that is read from it
--     value_in-entry      the value
--     forest-told         the degrees and entries of a trie are told as `Told` asks
-- Assumes nothing.
use mathlib.Core.Path.{◌≡◌, refl, sym, ap, ap₂, ◌∙◌}
use Prim.Native.Nat.{ℕ, zero, suc, ◌<◌}
use native.Mathlib.Omega.{arith}
use mathlib.Core.List.{List, [], ◌∷◌, map}
use Rattle.std.specs.Prelude.{Option, None, Some}
use lib.Dec.{lit<}
use lib.ListN.{length, get_or, length-map, get_or-map}
use Rattle.keymap.specs.Limits.{byte_limit}
use Rattle.keymap.specs.Label.{mark, label_entry, value_word, label_in, value_in}
use Rattle.keymap.specs.Degrees.{total}
use Rattle.keymap.specs.Forest.{Forest, ByteLabels, size, width}
use Rattle.keymap.specs.BreadthFirst.{Row, rows, row_label, row_value, row_degree}
use Rattle.keymap.proofs.Laws.Sums.{sum_below-ext}
use Rattle.keymap.proofs.Laws.Label.{label_in-label_entry, value_in-label_entry, label_entry-small}
use Rattle.keymap.proofs.Laws.BreadthFirst.{queue, row, rows-queue, length-rows}
use Rattle.keymap.proofs.Laws.Image.{ByteRows, rows-bytes, total-rows}
use Rattle.keymap.proofs.Laws.Items.{nobody, all_items, item_degree, entry_item, children-beyond}
use Rattle.keymap.proofs.Laws.Rebuilt.{Told}

module _ (f : Forest) where
  rows-entries : rows f ≡ map row (queue (size f) f)
  unfolding rows
  rows-entries = rows-queue (size f) f

  pub get_or-degrees : (k : ℕ) → get_or (width f ∷ map row_degree (rows f)) k 0 ≡ item_degree f k
  unfolding item_degree all_items width
  get_or-degrees zero = refl
  get_or-degrees (suc e) =
      ap (λ (l : List Row). get_or (map row_degree l) e 0) rows-entries ∙ get_or-map row_degree (map row (queue (size f) f)) e (row nobody)
      ∙ ap row_degree (get_or-map row (queue (size f) f) e nobody)

  pub get_or-labels : (e : ℕ) → get_or (map row_label (rows f)) e 0 ≡ label_entry (entry_item f e).label (entry_item f e).value
  unfolding entry_item
  get_or-labels e =
      ap (λ (l : List Row). get_or (map row_label l) e 0) rows-entries ∙ get_or-map row_label (map row (queue (size f) f)) e (row nobody)
      ∙ ap row_label (get_or-map row (queue (size f) f) e nobody)

  pub get_or-values : (e : ℕ) → get_or (map row_value (rows f)) e 0 ≡ value_word (entry_item f e).value
  unfolding entry_item
  get_or-values e =
      ap (λ (l : List Row). get_or (map row_value l) e 0) rows-entries ∙ get_or-map row_value (map row (queue (size f) f)) e (row nobody)
      ∙ ap row_value (get_or-map row (queue (size f) f) e nobody)

bytes-get_or : (rs : List Row) → ByteRows rs → (e : ℕ) → (get_or rs e (row nobody)).label < byte_limit
bytes-get_or [] b e = lit< tt
bytes-get_or (r ∷ rs) b zero = b.0
bytes-get_or (r ∷ rs) b (suc e) = bytes-get_or rs b.1 e

unmarked : (a : ℕ) (w : Option ℕ) → label_entry a w < mark → w ≡ None
unmarked a None h = refl
unmarked a (Some v) h = absurd (omega arith)

module _ (f : Forest) (b : ByteLabels f) where
  pub entry-byte : (e : ℕ) → (entry_item f e).label < byte_limit
  unfolding entry_item
  entry-byte e = rw (rows-entries f, get_or-map row (queue (size f) f) e nobody) at (bytes-get_or (rows f) (rows-bytes f b) e)

  pub label_in-entry : (e : ℕ) → label_in (get_or (map row_label (rows f)) e 0) ≡ (entry_item f e).label
  label_in-entry e = ap label_in (get_or-labels f e) ∙ label_in-label_entry (entry_item f e).label (entry_item f e).value (entry-byte e)

  pub value_in-entry : (e : ℕ) → value_in (get_or (map row_label (rows f)) e 0) (get_or (map row_value (rows f)) e 0) ≡ (entry_item f e).value
  value_in-entry e = ap₂ value_in (get_or-labels f e) (get_or-values f e) ∙ value_in-label_entry (entry_item f e).label (entry_item f e).value (entry-byte e)

  pub unmarked-entry : (e : ℕ) → get_or (map row_label (rows f)) e 0 < mark → (entry_item f e).value ≡ None
  unmarked-entry e h = unmarked (entry_item f e).label (entry_item f e).value (rw (get_or-labels f e) at h)

  pub forest-told : Told (width f) (map row_degree (rows f)) (map row_label (rows f)) (map row_value (rows f))
  unfolding total
  forest-told = record {
    many = length-map (rows f) row_degree ∙ sym (length-map (rows f) row_label);
    fit = length-map (rows f) row_value ∙ sym (length-map (rows f) row_label);
    all = total-rows f ∙ sym labelled;
    ahead = λ k h. rw (sum_below-ext (λ j. get_or (width f ∷ map row_degree (rows f)) j 0) (item_degree f) k (λ j l. get_or-degrees f j)) (children-beyond f k (omega (arith, labelled)));
    small = λ e h. rw (get_or-labels f e) (label_entry-small (entry_item f e).label (entry_item f e).value (entry-byte e));
    plain = λ e h u. get_or-values f e ∙ ap value_word (unmarked-entry e u);
  }
    where
      labelled : length (map row_label (rows f)) ≡ size f
      labelled = length-map (rows f) row_label ∙ length-rows f
