-- Level order by prefix length is level order by the queue: the nodes of depth d are the distinct prefixes of d bytes, and a node has as many children
-- as prefixes one byte longer begin with it. So the image of a map, read off its prefixes, is the image of its trie, written from the queue.
--
--     rows-prefixes      the queue's rows are those of the prefixes, in their order
--     length-prefixes    there are as many prefixes as nodes
--     image-forest       the image of a map is the image of its trie
-- Assumes nothing.
use mathlib.Core.Path.{◌≡◌, refl, sym, ap, ap₂, ◌∙◌}
use Prim.Native.Nat.{ℕ, suc}
use mathlib.Core.List.{List, [], ◌∷◌, ◌++◌, map, map-append, map-map, flat_map}
use Rattle.std.specs.Prelude.{Option, None}
use lib.ListN.{length, length-map}
use Rattle.keymap.specs.Key.{Key, last_byte}
use Rattle.keymap.specs.Map.{Map, Catalogue, lookup}
use Rattle.keymap.specs.Prefixes.{prefixes}
use Rattle.keymap.specs.Label.{label_entry, value_word}
use Rattle.keymap.specs.Bits.{pack}
use Rattle.keymap.specs.Degrees.{sequence}
use Rattle.keymap.specs.Image.{degree, image_bits, image_labels, image_values, image}
use Rattle.keymap.specs.Forest.{Forest, empty, node, Tree, descend, list_forest, list_tree, Orderly, size, width, tree_of}
use Rattle.keymap.specs.BreadthFirst.{Row, rows, row_label, row_value, row_degree, forest_bits, forest_image}
use Rattle.keymap.proofs.Laws.Forest.{descend-append, descend-orderly, value_at-descend}
use Rattle.keymap.proofs.Laws.Key.{last_byte-append}
use Rattle.keymap.proofs.Laws.Listing.{lookup-list_tree, tree_of-orderly, list_forest-tree_of}
use Rattle.keymap.proofs.Laws.BreadthFirst.{Item, items, below, queue, row, rows-queue, queue-unique, length-rows}
use Rattle.keymap.proofs.Laws.Levels.{floor, All, Starts, floor-starts}
use Rattle.keymap.proofs.Laws.Children.{paths_below, branch-here, descend-past, children_in-forest, paths-prefixes}

-- ---- the node at a path

-- the node at the path q below the tree t, to which the path p leads
unfoldable pub item_from : Key → Tree → Key → Item
item_from p t q = record { label = last_byte (p ++ q); value = (descend q t).0; kids = (descend q t).1 }

abbrev pub item_at : Forest → Key → Item
item_at f p = item_from [] (None, f) p

item-further : (f : Forest) (p q : Key) → item_at f (p ++ q) ≡ item_from p (descend p (None, f)) q
unfolding item_from
item-further f p q = ap (λ (t : Tree). record { label = last_byte (p ++ q); value = t.0; kids = t.1 }) (descend-append p q (None, f))

items-past : (p : Key) (a : ℕ) (v w : Option ℕ) (kids next : Forest) (qs : List Key) → All (Starts a) qs
    → map (item_from p (v, node a w kids next)) qs ≡ map (item_from p (v, next)) qs
unfolding item_from
items-past p a v w kids next [] s = refl
items-past p a v w kids next ([] ∷ qs) s = absurd s.0
items-past p a v w kids next ((b ∷ q) ∷ qs) s =
    rw (descend-past a w v kids next b q s.0, items-past p a v w kids next qs s.1)

item-here : (p : Key) (a : ℕ) (v w : Option ℕ) (kids next : Forest) → item_from p (v, node a w kids next) (a ∷ []) ≡ record { label = a; value = w; kids = kids }
unfolding item_from descend
item-here p a v w kids next = rw (last_byte-append p a, branch-here a w kids next)

items-labels : (p : Key) (v : Option ℕ) (f : Forest) → Orderly f → map (item_from p (v, f)) (floor 0 f) ≡ items f
unfolding floor items
items-labels p v empty s = refl
items-labels p v (node a w kids next) s =
    let rest = items-past p a v w kids next (floor 0 next) (floor-starts 0 a next s.0 s.3) ∙ items-labels p v next s.3 in
    λ i. item-here p a v w kids next i ∷ rest i

map-cong : {A B : Type 0} (g h : A → B) → ((x : A) → g x ≡ h x) → (l : List A) → map g l ≡ map h l
map-cong g h e [] = refl
map-cong g h e (x ∷ l) = rw (e x, map-cong g h e l)

-- the nodes at the paths below a path are those of its siblings
items-below : (f : Forest) → Orderly f → (p : Key) → map (item_at f) (paths_below f p) ≡ items (descend p (None, f)).1
unfolding paths_below
items-below f s p =
    let t = descend p (None, f) in
    map-map (item_at f) (λ (q : Key). p ++ q) (floor 0 t.1)
    ∙ map-cong (λ q. item_at f (p ++ q)) (item_from p t) (λ q. item-further f p q) (floor 0 t.1)
    ∙ items-labels p t.0 t.1 (descend-orderly p (None, f) s)

items-all : (f : Forest) → Orderly f → (ps : List Key) → map (item_at f) (flat_map (paths_below f) ps) ≡ below (map (item_at f) ps)
unfolding flat_map below item_from
items-all f s [] = refl
items-all f s (p ∷ ps) =
    map-append (item_at f) (paths_below f p) (flat_map (paths_below f) ps)
    ∙ ap₂ (λ (x y : List Item). x ++ y) (items-below f s p) (items-all f s ps)

pub prefixes-queue : (f : Forest) → Orderly f → map (item_at f) (prefixes (list_forest f)) ≡ queue (size f) f
unfolding descend
prefixes-queue f s =
    let ps = prefixes (list_forest f) in
    let whole : ps ≡ paths_below f [] ++ flat_map (paths_below f) ps = sym (paths-prefixes f s) ∙ (unfold flat_map in refl) in
    queue-unique (size f) f refl (map (item_at f) ps)
    (ap (map (item_at f)) whole
    ∙ map-append (item_at f) (paths_below f []) (flat_map (paths_below f) ps)
    ∙ ap₂ (λ (x y : List Item). x ++ y) (items-below f s []) (items-all f s ps))

pub rows-prefixes : (f : Forest) → Orderly f → rows f ≡ map row (map (item_at f) (prefixes (list_forest f)))
unfolding rows
rows-prefixes f s = rows-queue (size f) f ∙ ap (map row) (sym (prefixes-queue f s))

pub length-prefixes : (f : Forest) → Orderly f → length (prefixes (list_forest f)) ≡ size f
length-prefixes f s =
    sym (length-map (map (item_at f) (prefixes (list_forest f))) row ∙ length-map (prefixes (list_forest f)) (item_at f)) ∙ ap length (sym (rows-prefixes f s)) ∙ length-rows f

length-floor : (f : Forest) → length (floor 0 f) ≡ width f
unfolding floor width
length-floor empty = refl
length-floor (node a w kids next) = ap suc (length-floor next)

degree-width : (f : Forest) → Orderly f → (p : Key) → degree (list_forest f) p ≡ width (descend p (None, f)).1
unfolding degree paths_below
degree-width f s p =
    let kids = (descend p (None, f)).1 in
    ap length (children_in-forest f s p) ∙ length-map (floor 0 kids) (λ (q : Key). p ++ q) ∙ length-floor kids

-- ---- the three slices

-- what the rows say of a node, said of its path
rows-say : (f : Forest) → Orderly f → (said : Row → ℕ) (told : Key → ℕ) → ((p : Key) → told p ≡ said (row (item_at f p)))
    → map told (prefixes (list_forest f)) ≡ map said (rows f)
rows-say f s said told e =
    rw (rows-prefixes f s, map-map, map-map) (map-cong told (λ p. said (row (item_at f p))) e (prefixes (list_forest f)))

look : (f : Forest) → Orderly f → (p : Key) → lookup p (list_forest f) ≡ (descend p (None, f)).0
unfolding list_tree
look f s p = lookup-list_tree (None, f) s p ∙ value_at-descend p (None, f)

pub bits-forest : (f : Forest) → Orderly f → image_bits (list_forest f) ≡ forest_bits f
unfolding image_bits forest_bits descend item_from
bits-forest f s =
    ap₂ (λ (d : ℕ) (ds : List ℕ). sequence (d ∷ ds)) (degree-width f s []) (rows-say f s row_degree (degree (list_forest f)) (λ p. degree-width f s p))

labels-forest : (f : Forest) → Orderly f → image_labels (list_forest f) ≡ map row_label (rows f)
unfolding image_labels item_from
labels-forest f s = rows-say f s row_label (λ p. label_entry (last_byte p) (lookup p (list_forest f))) (λ p. rw (look f s p))

values-forest : (f : Forest) → Orderly f → image_values (list_forest f) ≡ map row_value (rows f)
unfolding image_values item_from
values-forest f s = rows-say f s row_value (λ p. value_word (lookup p (list_forest f))) (λ p. rw (look f s p))

pub image-list_forest : (f : Forest) → Orderly f → image (list_forest f) ≡ forest_image f
unfolding image forest_image
image-list_forest f s = λ i. record { labels = labels-forest f s i; values = values-forest f s i; words = pack (bits-forest f s i) }

pub image-forest : (m : Map) → Catalogue m → image m ≡ forest_image (tree_of m).1
image-forest m c = rw (list_forest-tree_of m c) at (image-list_forest (tree_of m).1 (tree_of-orderly m))

pub length-prefixes-forest : (m : Map) → Catalogue m → length (prefixes m) ≡ size (tree_of m).1
length-prefixes-forest m c = rw (list_forest-tree_of m c) at (length-prefixes (tree_of m).1 (tree_of-orderly m))
