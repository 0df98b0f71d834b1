-- What is written is the image of the pool's map. The queue over the records and the queue over the forest that hangs below them go in step: what is taken is the same node
-- and what is put behind are the same children. So the rows are those of the forest, whatever the records' numbers are, and the image is the map's.
--
--     Hangs                     a forest's siblings are some records, and so on below each
--     hangs-pool                the pool's forest hangs below the root
--     rows-level                the rows of the level order are the forest's
--     image-pool                labels, values and words are those of the image of the pool's map
--     image-of-map, image-back  so they are accepted, and stand for that map
--     image-same                two sound pools that hold the same map give the same image
--     build-means-image         so an accepted build of a sound pool writes the image of its map over the front of its
--                               buffers
-- Assumes nothing.
use Prim.Native.Nat.{ℕ, zero, suc, ◌+◌, ◌≤◌}
use mathlib.Core.Path.{◌≡◌, refl, sym, ap, ap₂, ◌∙◌, subst}
use mathlib.Core.Logic.{inl, inr}
use mathlib.Core.Bool.{true}
use mathlib.Core.List.{List, [], ◌∷◌, ◌++◌, map, map-map}
use native.Mathlib.Omega.{arith}
use lib.ListN.{length, length-append}
use Rattle.keymap.specs.Key.{Key}
use Rattle.keymap.specs.Bits.{pack}
use Rattle.keymap.specs.Degrees.{sequence}
use Rattle.keymap.specs.Forest.{Forest, empty, node, width, join}
use Rattle.keymap.specs.BreadthFirst.{Row, visit, rows, row_label, row_value, row_degree, forest_bits, forest_image}
use Rattle.keymap.specs.Image.{Image, image}
use Rattle.keymap.specs.Decode.{image_map}
use Rattle.keymap.proofs.Laws.Label.{label_entry-back, value_word-back}
use Rattle.keymap.proofs.Laws.LevelOrder.{image-list_forest}
use Rattle.keymap.proofs.Laws.Image.{image_map-image}
use Rattle.records.specs.Words.{Pool, entry, label, value, record_value, last_record, used_count, InUse, Node, Bounded}
use Rattle.records.specs.Sound.{Among, Sound}
use Rattle.records.specs.Spelling.{Spells}
use Rattle.records.specs.Meaning.{forest_below, pool_forest, pool_map}
use Rattle.records.proofs.Laws.Spelling.{spells-child, spells-most}
use Rattle.records.proofs.Laws.Meaning.{forest_of, below-children, forest-orderly, map-forest, map-catalogue, count-prefixes, count-forest}
use Rattle.records.proofs.Laws.Words.{count-last}
use Rattle.pool.specs.Answers.{accepted}
use Rattle.keymap.specs.Buffers.{over}
use Rattle.image.specs.Build.{build_says, build_labels, build_values, build_words}
use Rattle.image.specs.LevelOrder.{child_records, taken_from, level_records, record_degree, pool_labels, pool_values, pool_words, pool_image}
use Rattle.image.specs.Accept.{OfMap}
use Rattle.image.proofs.Laws.LevelOrder.{child-records, child-only, level-used}

abbrev pub Hangs : Pool → Forest → List ℕ → Type 0
Hangs p empty [] = Unit {0}
Hangs p empty (x ∷ xs) = ⊥
Hangs p (node a w kids next) [] = ⊥
Hangs p (node a w kids next) (x ∷ xs) = (a ≡ label p x) × (w ≡ record_value p x) × Hangs p kids (child_records p x) × Hangs p next xs

-- what an image says of a record
abbrev pub record_row : Pool → ℕ → Row
record_row p c = record { label = label p c; value = record_value p c; degree = record_degree p c }

module _ (p : Pool) where
  hangs-width : (f : Forest) (xs : List ℕ) → Hangs p f xs → width f ≡ length xs
  unfolding width
  hangs-width empty [] h = refl
  hangs-width empty (x ∷ xs) h = absurd h
  hangs-width (node a w kids next) [] h = absurd h
  hangs-width (node a w kids next) (x ∷ xs) h = ap suc (hangs-width next xs h.3)

  hangs-join : (f : Forest) (xs : List ℕ) (g : Forest) (ys : List ℕ) → Hangs p f xs → Hangs p g ys → Hangs p (join f g) (xs ++ ys)
  unfolding join
  hangs-join empty [] g ys h k = k
  hangs-join empty (x ∷ xs) g ys h k = absurd h
  hangs-join (node a w kids next) [] g ys h k = absurd h
  hangs-join (node a w kids next) (x ∷ xs) g ys h k = (h.0, h.1, h.2, hangs-join next xs g ys h.3 k)

  -- the two queues go in step
  rows-hangs : (m : ℕ) (f : Forest) (q : List ℕ) → Hangs p f q → visit m f ≡ map (record_row p) (taken_from p m q)
  unfolding visit taken_from record_degree
  rows-hangs zero f q h = refl
  rows-hangs (suc m) empty [] h = refl
  rows-hangs (suc m) empty (x ∷ q) h = absurd h
  rows-hangs (suc m) (node a w kids next) [] h = absurd h
  rows-hangs (suc m) (node a w kids next) (x ∷ q) h =
      let l = h.0 in
      let v = h.1 in
      let d = hangs-width kids (child_records p x) h.2 in
      let r = rows-hangs m (join next kids) (q ++ child_records p x) (hangs-join next q kids (child_records p x) h.3 h.2) in
      λ i. record { label = l i; value = v i; degree = d i } ∷ r i

  hangs-of : (below : ℕ → Forest) (xs : List ℕ) → ((x : ℕ) → Among x xs → Hangs p (below x) (child_records p x)) → Hangs p (forest_of p below xs) xs
  hangs-of below [] h = tt
  hangs-of below (x ∷ xs) h = (refl, refl, h x (inl refl), hangs-of below xs (λ y i. h y (inr i)))

  module _ (s : Sound p) where
    -- no path is longer than the records are many, so that many levels are all
    hangs-below : (f : ℕ) (k : Key) (c : ℕ) → Node p c → Spells p 0 k c → last_record p ≤ length k + f → Hangs p (forest_below f p c) (child_records p c)
    unfolding forest_below
    hangs-below zero k c n h l = go (child_records p c) refl
      where
        go : (xs : List ℕ) → child_records p c ≡ xs → Hangs p empty xs
        go [] e = tt
        go (x ∷ xs) e =
            let o = child-only p s c n x (subst (Among x) (sym e) (inl refl)) in
            let path : Key = k ++ (label p x ∷ []) in
            absurd (omega (arith, spells-most p path x (spells-child p 0 k c (label p x) x h (o.0, o.1, refl)), length-append k (label p x ∷ [])))
    hangs-below (suc f) k c n h l =
        let kids = child-records p s c (s.children c n) in
        subst (λ (g : Forest). Hangs p g (child_records p c)) (sym (below-children p s.children f c n ∙ ap (forest_of p (forest_below f p)) (sym kids)))
        (hangs-of (forest_below f p) (child_records p c) (λ x i.
        let o = child-only p s c n x i in
        hangs-below f (k ++ (label p x ∷ [])) x (inr o.0) (spells-child p 0 k c (label p x) x h (o.0, o.1, refl)) (omega (arith, length-append k (label p x ∷ [])))))

    pub hangs-pool : Hangs p (pool_forest p) (child_records p 0)
    unfolding pool_forest
    hangs-pool = hangs-below (last_record p) [] 0 (inl refl) refl (omega arith)

    pub rows-level : rows (pool_forest p) ≡ map (record_row p) (level_records p)
    unfolding rows level_records
    rows-level = ap (λ (m : ℕ). visit m (pool_forest p)) (count-forest p s) ∙ rows-hangs (used_count p) (pool_forest p) (child_records p 0) hangs-pool

    -- ---- the three slices

    level-say : (said : Row → ℕ) (told : ℕ → ℕ) → ((c : ℕ) → InUse p c → told c ≡ said (record_row p c)) → map told (level_records p) ≡ map said (rows (pool_forest p))
    level-say said told e = go (level_records p) (level-used p s) ∙ sym (ap (map said) rows-level ∙ map-map said (record_row p) (level_records p))
      where
        go : (cs : List ℕ) → ((c : ℕ) → Among c cs → InUse p c) → map told cs ≡ map (λ c. said (record_row p c)) cs
        go [] u = refl
        go (c ∷ cs) u = ap₂ (λ (x : ℕ) (xs : List ℕ). x ∷ xs) (e c (u c (inl refl))) (go cs (λ d i. u d (inr i)))

    labels-pool : pool_labels p ≡ map row_label (rows (pool_forest p))
    unfolding pool_labels
    labels-pool = level-say row_label (entry p) (λ c u. let f = s.fits c u in sym (label_entry-back (entry p c) (value p c) (omega (arith, f.entry-below))))

    values-pool : pool_values p ≡ map row_value (rows (pool_forest p))
    unfolding pool_values
    values-pool = level-say row_value (value p) (λ c u. sym (value_word-back (entry p c) (value p c) (λ l. ((s.fits c u).unvalued l).0)))

    words-pool : pool_words p ≡ pack (forest_bits (pool_forest p))
    unfolding pool_words forest_bits record_degree
    words-pool =
        ap (λ (ds : List ℕ). pack (sequence ds))
        (ap₂ (λ (d : ℕ) (ds : List ℕ). d ∷ ds) (sym (hangs-width (pool_forest p) (child_records p 0) hangs-pool)) (level-say row_degree (record_degree p) (λ c u. refl)))

    pub image-pool : pool_image p ≡ image (pool_map p)
    unfolding forest_image
    image-pool =
        let l = labels-pool in
        let v = values-pool in
        let w = words-pool in
        (λ i. record { labels = l i; values = v i; words = w i }) ∙ sym (ap image (map-forest p) ∙ image-list_forest (pool_forest p) (forest-orderly p s))

module _ (p : Pool) (s : Sound p) (b : Bounded p) where
  -- what is written is accepted, and stands for the map
  pub image-of-map : OfMap (pool_image p)
  image-of-map = record {
    map = pool_map p;
    catalogue = map-catalogue p s b;
    few = omega (arith, count-prefixes p s, count-last p, s.within);
    whole = sym (image-pool p s);
  }

  pub image-back : image_map (pool_image p) ≡ pool_map p
  image-back = ap image_map (image-pool p s) ∙ image_map-image (pool_map p) (map-catalogue p s b)

pub image-same : (p q : Pool) → Sound p → Sound q → pool_map p ≡ pool_map q → (pool_labels p ≡ pool_labels q) × (pool_values p ≡ pool_values q) × (pool_words p ≡ pool_words q)
image-same p q s t e =
    let h = image-pool p s ∙ ap image e ∙ sym (image-pool q t) in
    (ap (λ (i : Image). i.labels) h, ap (λ (i : Image). i.values) h, ap (λ (i : Image). i.words) h)

-- the image of a map over the front of the buffers
pub record Shows (i : Image) (p : Pool) (ls vs ws qs : List ℕ) : Type 0 where
  pub labels-show : build_labels p ls vs ws qs ≡ over i.labels ls
  pub values-show : build_values p ls vs ws qs ≡ over i.values vs
  pub words-show : build_words p ls vs ws qs ≡ over i.words ws

pub build-means-image : (p : Pool) → Sound p → (ls vs ws qs : List ℕ) → accepted (build_says p ls vs ws qs) ≡ true → Shows (image (pool_map p)) p ls vs ws qs
unfolding build_labels build_values build_words
build-means-image p s ls vs ws qs e =
    let h = image-pool p s in
    record {
      labels-show = rw e (ap (λ (i : Image). over i.labels ls) h);
      values-show = rw e (ap (λ (i : Image). over i.values vs) h);
      words-show = rw e (ap (λ (i : Image). over i.words ws) h);
    }
