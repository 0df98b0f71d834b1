-- The image of a map with the value of one of its keys set. The same paths begin keys, so the prefixes are the same, the bits and the labels with their marks too;
-- and the one value that differs stands at the key's node.
--
--     prefixes-present       the prefixes are the same
--     image-insert-present   the image but for the one value
-- Assumes nothing.
use mathlib.Core.Path.{◌≡◌, refl, sym, ap, ◌∙◌}
use mathlib.Core.Logic.{◌↔◌, inl, inr, ⊎_elim}
use Prim.Native.Nat.{ℕ, suc, ◌-◌}
use native.Mathlib.Omega.{arith}
use mathlib.Core.List.Memᴰ
use mathlib.Core.List.{List, [], ◌∷◌, map}
use Rattle.std.specs.Prelude.{Some}
use Rattle.std.proofs.lemmas.Option.{none-some}
use lib.ListN.{length, set}
use Rattle.keymap.specs.Members.{In, here, there, Distinct}
use Rattle.keymap.specs.Key.{Key, begins_with, Below, last_byte}
use Rattle.keymap.specs.Map.{Map, Catalogue, Rising, insert, lookup}
use Rattle.keymap.specs.Queries.{SomeBegins, keep}
use Rattle.keymap.specs.Prefixes.{level, prefixes, Earlier}
use Rattle.keymap.specs.Label.{label_entry, value_word}
use Rattle.keymap.specs.Bits.{pack}
use Rattle.keymap.specs.Degrees.{sequence}
use Rattle.keymap.specs.Image.{children_in, degree, image, image_bits, image_labels, image_values}
use Rattle.keymap.specs.Paths.{nodes, index_of, node_of}
use Rattle.keymap.proofs.Laws.Members.{ordered-one}
use Rattle.keymap.proofs.Laws.Key.{below-asym}
use Rattle.keymap.proofs.Laws.Begins.{prefix_trans, prefix_refl}
use Rattle.keymap.proofs.Laws.Map.{dec_key, insert-rising, lookup-iff, lookup-empty, lookup-insert-same, lookup-insert-other}
use Rattle.keymap.proofs.Laws.Prefixes.{level-iff, level-ordered, prefixes-iff, prefixes-ordered, prefixes-distinct, some_begins-insert}
use Rattle.keymap.proofs.Laws.Paths.{index_of-here, index_of-past}

earlier-asym : (p q : Key) → Earlier p q → ¬ Earlier q p
earlier-asym p q (inl a) (inl b) = omega arith
earlier-asym p q (inl a) (inr b) = omega (arith, b.0)
earlier-asym p q (inr a) (inl b) = omega (arith, a.0)
earlier-asym p q (inr a) (inr b) = below-asym p q a.1 b.1

-- a list of numbers by paths, where the number of one path is another
map-set : (f g : Key → ℕ) (q : Key) (v : ℕ) → g q ≡ v → ((p : Key) → ¬ (p ≡ q) → g p ≡ f p) → (ps : List Key) → Distinct ps → In q ps
    → map g ps ≡ set (map f ps) (index_of q ps) v
map-set f g q v own other [] o i = absurd (Memᴰ.not-nil i)
map-set f g q v own other (p ∷ ps) o i = go (dec_key q p) (λ j. map-set f g q v own other ps o.1 j)
  where
    rest : (ts : List Key) → ((t : Key) → In t ts → ¬ (t ≡ q)) → map g ts ≡ map f ts
    rest [] n = refl
    rest (t ∷ ts) n = let e = other t (n t (here refl)) in let r = rest ts (λ s j. n s (there j)) in λ x. e x ∷ r x

    go : Dec (q ≡ p) → (In q ps → map g ps ≡ set (map f ps) (index_of q ps) v) → map g (p ∷ ps) ≡ set (map f (p ∷ ps)) (index_of q (p ∷ ps)) v
    go (yes e) ih =
        let r = rest ps (λ t j s. o.0 t j (sym e ∙ sym s)) in
        let n : g p ≡ v = ap g (sym e) ∙ own in
        rw (e, index_of-here p ps) (λ x. n x ∷ r x)
    go (no n) ih =
        let r = ih (⊎_elim (λ e. absurd (n e)) (λ j. j) (Memᴰ.cases_cons i)) in
        let e = other p (λ s. n (sym s)) in
        rw (index_of-past q p ps n) (λ x. e x ∷ r x)

module _ (m : Map) (c : Catalogue m) (q : Key) (v w : ℕ) (present : lookup q m ≡ Some w) where
  rising-after : Rising (insert q v m)
  rising-after = insert-rising q v m c.rising

  begins : SomeBegins q m
  begins = ((q, w), (lookup-iff q w m c.rising).0 present, prefix_refl q)

  begins-same : (p : Key) → SomeBegins p (insert q v m) ↔ SomeBegins p m
  begins-same p =
      let both = some_begins-insert q v m c.rising p in
      (λ h. ⊎_elim (λ b. (begins.0, begins.1, prefix_trans p q begins.0.0 b begins.2)) (λ b. b) (both.0 h), λ h. both.1 (inr h))

  pub prefixes-present : prefixes (insert q v m) ≡ prefixes m
  prefixes-present =
      ordered-one Earlier earlier-asym (prefixes (insert q v m)) (prefixes m) (prefixes-ordered (insert q v m) rising-after) (prefixes-ordered m c.rising)
      (λ p. (
        λ i. let (n, b) = (prefixes-iff (insert q v m) p).0 i in (prefixes-iff m p).1 (n, (begins-same p).0 b),
        λ i. let (n, b) = (prefixes-iff m p).0 i in (prefixes-iff (insert q v m) p).1 (n, (begins-same p).1 b),
      ))

  level-present : (d : ℕ) → level d (insert q v m) ≡ level d m
  level-present d =
      ordered-one Below below-asym (level d (insert q v m)) (level d m) (level-ordered d (insert q v m) rising-after) (level-ordered d m c.rising)
      (λ p. (
        λ i. let (n, b) = (level-iff d (insert q v m) p).0 i in (level-iff d m p).1 (n, (begins-same p).0 b),
        λ i. let (n, b) = (level-iff d m p).0 i in (level-iff d (insert q v m) p).1 (n, (begins-same p).1 b),
      ))

  degree-present : (p : Key) → degree (insert q v m) p ≡ degree m p
  unfolding degree children_in
  degree-present p = ap (λ (ps : List Key). length (keep (begins_with p) ps)) (level-present (suc (length p)))

  bits-present : image_bits (insert q v m) ≡ image_bits m
  unfolding image_bits
  bits-present x = sequence (map (λ (p : Key). degree-present p x) ([] ∷ prefixes-present x))

  labels-present : image_labels (insert q v m) ≡ image_labels m
  unfolding image_labels
  labels-present x = map (λ (p : Key). entry p (dec_key p q) x) (prefixes-present x)
    where
      entry : (p : Key) → Dec (p ≡ q) → label_entry (last_byte p) (lookup p (insert q v m)) ≡ label_entry (last_byte p) (lookup p m)
      entry p (yes e) = rw (e, lookup-insert-same q v m, present)
      entry p (no n) = rw (lookup-insert-other q v m p n)

  values-present : image_values (insert q v m) ≡ set (image_values m) (node_of m q - 2) v
  unfolding image_values node_of nodes
  values-present =
      ap (map (λ (p : Key). value_word (lookup p (insert q v m)))) prefixes-present
      ∙ map-set (λ (p : Key). value_word (lookup p m)) (λ (p : Key). value_word (lookup p (insert q v m))) q v own other (prefixes m) (prefixes-distinct m c.rising) among
      ∙ ap (λ (n : ℕ). set (map (λ (p : Key). value_word (lookup p m)) (prefixes m)) n v) index
    where
      named : ¬ (q ≡ [])
      named e = none-some w (sym (lookup-empty m c.proper) ∙ ap (λ (p : Key). lookup p m) (sym e) ∙ present)

      own : value_word (lookup q (insert q v m)) ≡ v
      own = rw (lookup-insert-same q v m)

      other : (p : Key) → ¬ (p ≡ q) → value_word (lookup p (insert q v m)) ≡ value_word (lookup p m)
      other p n = rw (lookup-insert-other q v m p n)

      among : In q (prefixes m)
      among = (prefixes-iff m q).1 (named, begins)

      index : index_of q (prefixes m) ≡ suc (index_of q ([] ∷ prefixes m)) - 2
      index = rw (index_of-past q [] (prefixes m) named) (omega arith)

  pub image-insert-present : image (insert q v m) ≡ record { labels = image_labels m; values = set (image_values m) (node_of m q - 2) v; words = pack (image_bits m) }
  unfolding image
  image-insert-present x = record { labels = labels-present x; values = values-present x; words = pack (bits-present x) }
