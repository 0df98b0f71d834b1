-- The trie that is rebuilt from degrees, label entries and values. Where every node but the root is a child of one that comes before it, each row finds
-- its children in the queue; so the rows of what is rebuilt are the rows that were given, and its image is the three lists.
--
--     Told              degrees and entries that make a trie
--     told-rows         its rows are those that were told
--     told-width        the root's children
--     told-size         the nodes
--     told-spelled      the degrees, the root's first
--     told-image        its image
--     told-bytes        its labels are bytes
-- Assumes nothing.
use mathlib.Core.Path.{◌≡◌, refl, sym, ap, ◌∙◌}
use Prim.Native.Nat.{ℕ, zero, suc, ◌+◌, ◌-◌, ◌*◌, ◌≤◌, ◌<◌}
use native.Mathlib.Nat.{zero-add}
use native.Mathlib.Omega.{arith}
use mathlib.Core.List.{List, [], ◌∷◌, map}
use lib.ListN.{length, get_or, take, drop, length-map}
use Rattle.keymap.specs.Label.{mark}
use Rattle.keymap.specs.Bits.{sum_below, pack}
use Rattle.keymap.specs.Degrees.{total, sequence}
use Rattle.keymap.specs.Forest.{Forest, empty, node, ByteLabels, size, width}
use Rattle.keymap.specs.BreadthFirst.{Row, rows, row_label, row_value, row_degree, forest_bits, forest_image}
use Rattle.keymap.specs.Decode.{take_trees, drop_trees, claim, rebuild, rows_from}
use Rattle.keymap.proofs.Laws.Sums.{sum_below-first}
use Rattle.keymap.proofs.Laws.Label.{label_entry-back, value_word-back}
use Rattle.keymap.proofs.Laws.Degrees.{total-take}
use Rattle.keymap.proofs.Laws.BreadthFirst.{length-rows}
use Rattle.keymap.proofs.Laws.Decode.{RowsFit, rows-rebuild}
use Rattle.keymap.proofs.Laws.Image.{ByteRows}

-- ---- rows that fit

width-take : (n : ℕ) (f : Forest) → n ≤ width f → width (take_trees n f) ≡ n
unfolding take_trees width
width-take zero f h = refl
width-take (suc n) empty h = absurd (omega arith)
width-take (suc n) (node a w kids next) h = ap suc (width-take n next (omega arith))

width-claim : (r : Row) (q : Forest) → width (claim r q) ≡ suc (width q - r.degree)
unfolding claim width
width-claim r q = ap suc (width-take (width q - r.degree) q (omega arith))

width-rebuild : (rs : List Row) → RowsFit rs → width (rebuild rs) + total (map row_degree rs) ≡ length rs
unfolding rebuild total width
width-rebuild [] h = refl
width-rebuild (r ∷ rs) h = omega (arith, width-claim r (rebuild rs), width-rebuild rs h.1, h.0)

-- the rows from each one on have fewer children than there are rows behind it
fits-drop : (rs : List Row) → ((k : ℕ) → k < length rs → total (drop k (map row_degree rs)) + suc k ≤ length rs) → RowsFit rs
unfolding total
fits-drop [] h = tt
fits-drop (r ∷ rs) h =
    let f : RowsFit rs = fits-drop rs (λ k l. omega (arith, h (suc k) (omega arith))) in
    (omega (arith, h 0 (omega arith), width-rebuild rs f), f)

total-split : (ds : List ℕ) (k : ℕ) → total (take k ds) + total (drop k ds) ≡ total ds
unfolding total
total-split ds zero = zero-add (total ds)
total-split [] (suc k) = refl
total-split (d ∷ ds) (suc k) = omega (arith, total-split ds k)

-- ---- rows of three lists

module _ where
  degrees-rows_from : (ds ls vs : List ℕ) → length ds ≡ length ls → length vs ≡ length ls → map row_degree (rows_from ds ls vs) ≡ ds
  unfolding rows_from
  degrees-rows_from [] ls vs p q = refl
  degrees-rows_from (d ∷ ds) [] vs p q = absurd (omega arith)
  degrees-rows_from (d ∷ ds) (e ∷ ls) [] p q = absurd (omega arith)
  degrees-rows_from (d ∷ ds) (e ∷ ls) (v ∷ vs) p q = ap (λ (l : List ℕ). d ∷ l) (degrees-rows_from ds ls vs (omega arith) (omega arith))

  labels-rows_from : (ds ls vs : List ℕ) → length ds ≡ length ls → length vs ≡ length ls → ((e : ℕ) → e < length ls → get_or ls e 0 < 2 * mark)
      → map row_label (rows_from ds ls vs) ≡ ls
  unfolding rows_from
  labels-rows_from [] [] vs p q s = refl
  labels-rows_from [] (e ∷ ls) vs p q s = absurd (omega arith)
  labels-rows_from (d ∷ ds) [] vs p q s = absurd (omega arith)
  labels-rows_from (d ∷ ds) (e ∷ ls) [] p q s = absurd (omega arith)
  labels-rows_from (d ∷ ds) (e ∷ ls) (v ∷ vs) p q s =
      rw (label_entry-back e v (s 0 (omega arith)), labels-rows_from ds ls vs (omega arith) (omega arith) (λ k h. s (suc k) (omega arith)))

  values-rows_from : (ds ls vs : List ℕ) → length ds ≡ length ls → length vs ≡ length ls
      → ((e : ℕ) → e < length ls → get_or ls e 0 < mark → get_or vs e 0 ≡ 0) → map row_value (rows_from ds ls vs) ≡ vs
  unfolding rows_from
  values-rows_from [] [] [] p q s = refl
  values-rows_from [] [] (v ∷ vs) p q s = absurd (omega arith)
  values-rows_from [] (e ∷ ls) vs p q s = absurd (omega arith)
  values-rows_from (d ∷ ds) [] vs p q s = absurd (omega arith)
  values-rows_from (d ∷ ds) (e ∷ ls) [] p q s = absurd (omega arith)
  values-rows_from (d ∷ ds) (e ∷ ls) (v ∷ vs) p q s =
      rw (value_word-back e v (s 0 (omega arith)), values-rows_from ds ls vs (omega arith) (omega arith) (λ k h. s (suc k) (omega arith)))

bytes-rows_from : (ds ls vs : List ℕ) → ByteRows (rows_from ds ls vs)
unfolding rows_from
bytes-rows_from [] ls vs = tt
bytes-rows_from (d ∷ ds) [] vs = tt
bytes-rows_from (d ∷ ds) (e ∷ ls) [] = tt
bytes-rows_from (d ∷ ds) (e ∷ ls) (v ∷ vs) = (omega arith, bytes-rows_from ds ls vs)

bytes_take : (n : ℕ) (f : Forest) → ByteLabels f → ByteLabels (take_trees n f)
unfolding take_trees
bytes_take zero f b = tt
bytes_take (suc n) empty b = tt
bytes_take (suc n) (node a w kids next) b = (b.0, b.1, bytes_take n next b.2)

bytes_drop : (n : ℕ) (f : Forest) → ByteLabels f → ByteLabels (drop_trees n f)
unfolding drop_trees
bytes_drop zero f b = b
bytes_drop (suc n) empty b = tt
bytes_drop (suc n) (node a w kids next) b = bytes_drop n next b.2

bytes-rebuild : (rs : List Row) → ByteRows rs → ByteLabels (rebuild rs)
unfolding rebuild claim
bytes-rebuild [] b = tt
bytes-rebuild (r ∷ rs) b =
    let q = bytes-rebuild rs b.1 in
    (b.0, bytes_drop (width (rebuild rs) - r.degree) (rebuild rs) q, bytes_take (width (rebuild rs) - r.degree) (rebuild rs) q)

-- ---- degrees and entries that make a trie

-- d children of the root, then the degrees, entries and values of the other nodes
pub record Told (d : ℕ) (ds ls vs : List ℕ) : Type 0 where
  pub many : length ds ≡ length ls
  pub fit : length vs ≡ length ls
  pub all : d + total ds ≡ length ls
  pub ahead : (k : ℕ) → k ≤ length ls → k ≤ sum_below (λ j. get_or (d ∷ ds) j 0) k
  pub small : (e : ℕ) → e < length ls → get_or ls e 0 < 2 * mark
  pub plain : (e : ℕ) → e < length ls → get_or ls e 0 < mark → get_or vs e 0 ≡ 0

module _ (d : ℕ) (ds ls vs : List ℕ) (t : Told d ds ls vs) where
  abbrev rs : List Row
  rs = rows_from ds ls vs

  told-degrees : map row_degree rs ≡ ds
  told-degrees = degrees-rows_from ds ls vs t.many t.fit

  length-told : length rs ≡ length ls
  length-told = sym (length-map rs row_degree) ∙ ap length told-degrees ∙ t.many

  fits_told : RowsFit rs
  unfolding total
  fits_told = fits-drop rs (λ k l. rw (told-degrees, length-told) (left k (omega (arith, length-told))))
    where
      left : (k : ℕ) → k < length ls → total (drop k ds) + suc k ≤ length ls
      left k l =
          omega (arith, t.ahead (suc k) l, t.all, total-split ds k, sum_below-first (λ j. get_or (d ∷ ds) j 0) k, total-take ds k)

  pub told-rows : rows (rebuild rs) ≡ rs
  told-rows = rows-rebuild rs fits_told

  pub told-width : width (rebuild rs) ≡ d
  told-width = omega (arith, width-rebuild rs fits_told, ap total told-degrees, t.all, length-told)

  pub told-size : size (rebuild rs) ≡ length ls
  told-size = sym (length-rows (rebuild rs)) ∙ ap length told-rows ∙ length-told

  pub told-spelled : ◌≡◌ {A = List ℕ} (width (rebuild rs) ∷ map row_degree (rows (rebuild rs))) (d ∷ ds)
  told-spelled = λ i. told-width i ∷ (ap (map row_degree) told-rows ∙ told-degrees) i

  pub told-image : forest_image (rebuild rs) ≡ record { labels = ls; values = vs; words = pack (sequence (d ∷ ds)) }
  unfolding forest_image forest_bits
  told-image = λ i. record {
    labels = (ap (map row_label) told-rows ∙ labels-rows_from ds ls vs t.many t.fit t.small) i;
    values = (ap (map row_value) told-rows ∙ values-rows_from ds ls vs t.many t.fit t.plain) i;
    words = pack (sequence (told-spelled i));
  }

  pub told-bytes : ByteLabels (rebuild rs)
  told-bytes = bytes-rebuild rs (bytes-rows_from ds ls vs)
