-- An image is accepted exactly if some map with nonempty keys has it. The conditions make the bits a degree sequence: the last bit is a zero, since the last node's
-- parent comes before it. So they are conditions on the degrees, which is the shape that the images of maps have.
--
--     accepted-shape      an accepted image has the shape
--     shape-accepted      an image of the shape is accepted
--     accepted-iff        accepted exactly if some map has the image
--     accepted-image      the image is that of the map that it stands for
--     accepted-catalogue  which is a catalogue
--     accepted-forest     the image is that of the trie that is decoded from it
--     node-same           equal answers have equal numbers: of a parent
-- Assumes nothing.
use Rattle.std.specs.Prelude.{Some}
use mathlib.Core.Path.{◌≡◌, refl, sym, ap, ap₂, ◌∙◌, subst}
use mathlib.Core.Logic.{◌↔◌, ⊎_elim}
use Prim.Native.Nat.{ℕ, zero, suc, ◌+◌, ◌-◌, ◌*◌, ◌≤◌, ◌<◌}
use native.Mathlib.Decide.{dec_le}
use native.Mathlib.Omega.{arith}
use mathlib.Core.List.{List, [], ◌∷◌}
use lib.ListN.{length, get_or}
use Rattle.keymap.specs.Limits.{most_records}
use Rattle.keymap.specs.Map.{Map, Catalogue}
use Rattle.keymap.specs.Prefixes.{prefixes}
use Rattle.keymap.specs.Label.{mark, label_in}
use Rattle.keymap.specs.Bits.{bit, sum_below, table, pack, unpack}
use Rattle.keymap.specs.Degrees.{unary, total, sequence, degrees_from}
use Rattle.keymap.specs.Image.{Image, bits_for, image}
use Rattle.keymap.specs.BreadthFirst.{forest_image}
use Rattle.keymap.specs.Decode.{decode, image_map}
use Rattle.keymap.proofs.Laws.Sums.{sum_below-zero, sum_below-suc, sum_below-lt, sum_below-mono, in_list}
use Rattle.keymap.proofs.Laws.Bits.{bit-small, bit-either, length-unpack, get_or-unpack, unpack-small, pack-unpack}
use Rattle.keymap.proofs.Laws.Degrees.{sequence-unary, unary-degrees_from, length-sequence}
use Rattle.keymap.proofs.Laws.Shape.{Shape, shape-image, shape-map, shape-few, shape-catalogue, map-shape}
use Rattle.louds.specs.Rank.{ones_before, zeros_before}
use Rattle.louds.proofs.Laws.Rank.{ones-zeros, zeros-ext}
use Rattle.louds.proofs.Laws.Select.{kth-rank}
use Rattle.louds.proofs.Laws.Nodes.{run-first, run-count, child-of-parent, parent-at}
use Rattle.image.specs.Accept.{entries, node_entry, parent_in, kids_in, ParentBelow, HasChild, Accepted, OfMap, LentSlices}
use Rattle.image.proofs.Laws.Spelled.{Spelled, zeros-sequence, spelled-words, spelled-unused, spelled-first, spelled-zeros, spelled-ones, spelled-within, spelled-children, spelled-parent, ChildOf, spelled-parent-of, child-parent}

-- ---- equal answers have equal numbers

pub node-same : (x y : ℕ) → Some x ≡ Some y → x ≡ y
node-same x y e = cc

-- ---- an image of the shape is accepted

module _ (i : Image) (d : ℕ) (ds : List ℕ) (c : Shape i d ds) where
  pub shape-spelled : Spelled i (d ∷ ds)
  unfolding total
  shape-spelled = record { packed = c.packed; many = omega (arith, c.told.many); all = c.told.all }

  abbrev sum : ℕ → ℕ
  sum k = sum_below (in_list (d ∷ ds)) k

  -- the labels of one node's children rise from any one to any later one
  run-rises : (k j g : ℕ) → k ≤ entries i → j + g + 1 < get_or (d ∷ ds) k 0
      → label_in (get_or i.labels (sum k + j) 0) < label_in (get_or i.labels (sum k + (j + g + 1)) 0)
  run-rises k j zero h l =
      subst (λ (x : ℕ). label_in (get_or i.labels (sum k + j) 0) < label_in (get_or i.labels x 0)) (omega arith) (c.rise k j h (omega arith))
  run-rises k j (suc g) h l =
      let before = run-rises k j g h (omega arith) in
      let last = c.rise k (j + g + 1) h (omega arith) in
      let e : sum k + (j + g + 1) + 1 ≡ sum k + (j + suc g + 1) = omega arith in
      let last' = subst (λ (x : ℕ). label_in (get_or i.labels (sum k + (j + g + 1)) 0) < label_in (get_or i.labels x 0)) e last in
      omega arith

  pub shape-accepted : Accepted i
  shape-accepted = record {
    few = c.few;
    values-fit = c.told.fit;
    words-fit = spelled-words i (d ∷ ds) shape-spelled;
    unused = spelled-unused i (d ∷ ds) shape-spelled;
    first = spelled-first i (d ∷ ds) shape-spelled;
    ones = spelled-ones i (d ∷ ds) shape-spelled;
    zeros = spelled-zeros i (d ∷ ds) shape-spelled;
    parents = λ m lo hi. below m (spelled-parent-of i (d ∷ ds) shape-spelled m lo hi);
    rise = λ l m lo less hi same.
        rising l m less same (spelled-parent-of i (d ∷ ds) shape-spelled l lo (omega arith)) (spelled-parent-of i (d ∷ ds) shape-spelled m (omega arith) hi);
    small = λ m lo hi. c.told.small (m - 2) (omega arith);
    plain = λ m lo hi u. (c.told.plain (m - 2) (omega arith) u, child m lo hi u);
  }
    where
      below : (m : ℕ) → ChildOf i (d ∷ ds) shape-spelled m → ParentBelow i m
      below m h = record {
        number = h.index + 1;
        answer = child-parent i (d ∷ ds) shape-spelled h;
        low = omega arith;
        high = omega (arith, h.number, c.told.ahead h.index h.index-within);
      }

      rising : (l m : ℕ) → l < m → parent_in i l ≡ parent_in i m → ChildOf i (d ∷ ds) shape-spelled l → ChildOf i (d ∷ ds) shape-spelled m
          → label_in (node_entry i l) < label_in (node_entry i m)
      rising l m less same p q =
          let up = child-parent i (d ∷ ds) shape-spelled p in
          let up' = child-parent i (d ∷ ds) shape-spelled q in
          let e : p.index + 1 ≡ q.index + 1 = node-same _ _ (sym up ∙ same ∙ up') in
          let k : p.index ≡ q.index = omega arith in
          let sums : sum p.index ≡ sum q.index = ap sum k in
          let run = run-rises q.index p.child (q.child - p.child - 1) q.index-within (omega (arith, p.number, q.number, q.child-within)) in
          let a : sum q.index + p.child ≡ l - 2 = omega (arith, p.number) in
          let b : sum q.index + (p.child + (q.child - p.child - 1) + 1) ≡ m - 2 = omega (arith, p.number, q.number) in
          rw (a, b) at run

      child : (m : ℕ) → 2 ≤ m → m ≤ entries i + 1 → node_entry i m < mark → HasChild i m
      child m lo hi u =
          let e : ℕ = m - 2 in
          let at : m ≡ suc e + 1 = omega arith in
          record {
            first = sum (suc e) + 2;
            count = get_or ds e 0;
            answer = ap (kids_in i) at ∙ spelled-children i (d ∷ ds) shape-spelled (suc e) (omega arith);
            some = c.live e (omega arith) u;
          }

-- a one is a node, and its parent is the count of zeros before it
pub one_parent : (i : Image) (p m : ℕ) → p < bits_for (entries i) → bit i.words p ≡ 1 → ones_before (bit i.words) p + 1 ≡ m
    → parent_in i m ≡ Some (zeros_before (bit i.words) p)
one_parent i p m h e r =
    let b = bit i.words in
    let len : ℕ = bits_for (entries i) in
    ap (parent_in i) (sym r)
    ∙ parent-at b (bit-small i.words) len (ones_before b p + 1) p (kth-rank b (bit-small i.words) len p h e)
    ∙ ap Some (omega (arith, ones-zeros b (bit-small i.words) p))

-- ---- an accepted image has the shape

module _ (i : Image) (a : Accepted i) where
  abbrev b : ℕ → ℕ
  b = bit i.words

  abbrev n : ℕ
  n = entries i

  abbrev small : (p : ℕ) → b p ≤ 1
  small = bit-small i.words

  -- a one other than the first has from 1 to as many zeros before it as ones
  pub accepted-climbs : (p : ℕ) → p < bits_for n → b p ≡ 1 → 1 ≤ ones_before b p → (1 ≤ zeros_before b p) × (zeros_before b p ≤ ones_before b p)
  accepted-climbs p h e o =
      let few = sum_below-mono b {i = suc p} {j = bits_for n} h in
      let q = a.parents (ones_before b p + 1) (omega arith) (omega (arith, a.ones, sum_below-suc b p)) in
      let u = one_parent i p (ones_before b p + 1) h e refl in
      let s = q.answer in
      let z : q.number ≡ zeros_before b p = node-same _ _ (sym s ∙ u) in
      (omega (arith, q.low), omega (arith, q.high))

  pub accepted-second : b 1 ≡ 0
  accepted-second = ⊎_elim (λ e. absurd (omega (arith, (accepted-climbs 1 (omega arith) e (omega (arith, first_one))).0, first_one, ones-zeros b small 1))) (λ e. e) (bit-either i.words 1)
    where
      first_one : ones_before b 1 ≡ 1
      first_one = sum_below-suc b 0 ∙ omega (arith, sum_below-zero b, a.first)

  last-zero : b (2 * n + 2) ≡ 0
  last-zero = ⊎_elim (λ e. absurd (never e)) (λ e. e) (bit-either i.words (2 * n + 2))
    where
      all : ones_before b (2 * n + 2) + b (2 * n + 2) ≡ n + 1
      all = sym (sum_below-suc b (2 * n + 2)) ∙ ap (ones_before b) (omega arith) ∙ a.ones

      some-before : 1 ≤ ones_before b (2 * n + 2)
      some-before = omega (arith, sum_below-mono b {i = 1} {j = 2 * n + 2} (omega arith), sum_below-suc b 0, sum_below-zero b, a.first)

      never : b (2 * n + 2) ≡ 1 → ⊥
      never e = omega (arith, (accepted-climbs (2 * n + 2) (omega arith) e some-before).1, all, ones-zeros b small (2 * n + 2))

  -- what the bits behind 1, 0 spell
  spells : List ℕ
  spells = degrees_from 0 (table b 2 (2 * n + 1))

  spells-behind : degrees_from 0 (unpack (bits_for n) i.words) ≡ 1 ∷ spells
  unfolding spells unpack table degrees_from
  spells-behind =
      let two-more : bits_for n ≡ suc (suc (2 * n + 1)) = omega arith in
      ap (λ (x : ℕ). degrees_from 0 (unpack x i.words)) two-more ∙ ap₂ (λ (x y : ℕ). degrees_from 0 (x ∷ y ∷ table b 2 (2 * n + 1))) a.first accepted-second

  bits-sequence : unpack (bits_for n) i.words ≡ sequence spells
  bits-sequence =
      let ends : get_or (unpack (bits_for n) i.words) (2 * n + 2) 0 ≡ 0 = get_or-unpack (bits_for n) i.words (2 * n + 2) (omega arith) ∙ last-zero in
      let long : length (unpack (bits_for n) i.words) ≡ (2 * n + 2) + 1 = length-unpack (bits_for n) i.words ∙ omega arith in
      sym (unary-degrees_from (unpack (bits_for n) i.words) (2 * n + 2) long (unpack-small (bits_for n) i.words) ends)
      ∙ ap unary spells-behind ∙ sym (sequence-unary spells)

  length-spells : length spells ≡ n + 1
  length-spells =
      let bits = unpack (bits_for n) i.words in
      let long : length (sequence spells) ≡ bits_for n = ap length (sym bits-sequence) ∙ length-unpack (bits_for n) i.words in
      let same : zeros_before b (bits_for n) ≡ zeros_before (in_list (sequence spells)) (bits_for n) =
      zeros-ext b (in_list (sequence spells)) (bits_for n) (λ p l. sym (get_or-unpack (bits_for n) i.words p l) ∙ ap (λ (x : List ℕ). get_or x p 0) bits-sequence) in
      let all : zeros_before (in_list (sequence spells)) (bits_for n) ≡ length spells + 1 = ap (zeros_before (in_list (sequence spells))) (sym long) ∙ zeros-sequence spells in
      omega (arith, same, all, a.zeros)

  module _ (l : LentSlices i) where
    spells-spelled : Spelled i spells
    spells-spelled = record {
      packed = sym (pack-unpack (bits_for n) i.words a.words-fit l.words-wide a.unused) ∙ ap pack bits-sequence;
      many = length-spells;
      all = omega (arith, length-sequence spells, ap length bits-sequence, length-unpack (bits_for n) i.words, length-spells);
    }

    abbrev sums : ℕ → ℕ
    sums k = sum_below (in_list spells) k

    -- the node numbered k behind the last child of the nodes before node k + 1 has a parent that comes before it, and is no child of theirs
    spells-ahead : (k : ℕ) → k ≤ n → k ≤ sums k
    spells-ahead k h = go (dec_le k (sums k))
      where
        go : Dec (k ≤ sums k) → k ≤ sums k
        go (yes le) = le
        go (no gt) =
            let m : ℕ = sums k + 2 in
            let q = a.parents m (omega arith) (omega arith) in
            let r = child-of-parent b small (bits_for n) m q.number q.low q.answer in
            let j : ℕ = q.number - 1 in
            let at : q.number ≡ j + 1 = omega (arith, q.low) in
            let run = sym r.answer ∙ ap (kids_in i) at ∙ spelled-children i spells spells-spelled j (omega (arith, q.high)) in
            let first : r.first ≡ sums j + 2 = run-first _ _ _ _ run in
            let count : r.count ≡ get_or spells j 0 = run-count _ _ _ _ run in
            let past = sum_below-lt (in_list spells) k (suc j) (omega (arith, r.high, first, count, sum_below-suc (in_list spells) j)) in
            omega (arith, q.high, past)

    back : (e : ℕ) → e + 2 - 2 ≡ e
    back e = omega arith

    entry-small : (e : ℕ) → e < n → get_or i.labels e 0 < 2 * mark
    entry-small e h = rw back at (a.small (e + 2) (omega arith) (omega arith))

    entry-plain : (e : ℕ) → e < n → get_or i.labels e 0 < mark → get_or i.values e 0 ≡ 0
    entry-plain e h u = rw back at (a.plain (e + 2) (omega arith) (omega arith) (rw back u)).0

    entry-live : (e : ℕ) → e < n → get_or i.labels e 0 < mark → 0 < get_or spells (suc e) 0
    entry-live e h u =
        let c = (a.plain (e + 2) (omega arith) (omega arith) (rw back u)).1 in
        let at : suc e + 1 ≡ e + 2 = omega arith in
        let run = sym c.answer ∙ ap (kids_in i) (sym at) ∙ spelled-children i spells spells-spelled (suc e) h in
        let count : c.count ≡ get_or spells (suc e) 0 = run-count _ _ _ _ run in
        omega (arith, c.some)

    entry-rises : (k j : ℕ) → k ≤ n → j + 1 < get_or spells k 0 → label_in (get_or i.labels (sums k + j) 0) < label_in (get_or i.labels (sums k + j + 1) 0)
    entry-rises k j h r =
        let within = spelled-within i spells spells-spelled k h in
        let here = spelled-parent i spells spells-spelled k j h (omega arith) in
        let next = spelled-parent i spells spells-spelled k (j + 1) h r in
        let at : sums k + (j + 1) + 2 ≡ sums k + j + 1 + 2 = omega arith in
        let same : parent_in i (sums k + j + 2) ≡ parent_in i (sums k + j + 1 + 2) = here ∙ sym next ∙ ap (parent_in i) at in
        rw (back (sums k + j), back (sums k + j + 1)) at (a.rise (sums k + j + 2) (sums k + j + 1 + 2) (omega arith) (omega arith) (omega arith) same)

    pub record Shaped : Type 0 where
      pub top : ℕ
      pub rest : List ℕ
      pub shape : Shape i top rest

    pub accepted-shape : Shaped
    unfolding total
    accepted-shape = go spells spells-spelled spells-ahead entry-live entry-rises
      where
        go : (ds : List ℕ) → Spelled i ds → ((k : ℕ) → k ≤ n → k ≤ sum_below (in_list ds) k)
            → ((e : ℕ) → e < n → get_or i.labels e 0 < mark → 0 < get_or ds (suc e) 0)
            → ((k j : ℕ) → k ≤ n → j + 1 < get_or ds k 0
            → label_in (get_or i.labels (sum_below (in_list ds) k + j) 0) < label_in (get_or i.labels (sum_below (in_list ds) k + j + 1) 0))
            → Shaped
        go [] c ahead live rise = absurd (omega (arith, c.many))
        go (d ∷ ds) c ahead live rise = record {
          top = d;
          rest = ds;
          shape = record {
            few = a.few;
            told = record { many = omega (arith, c.many); fit = a.values-fit; all = c.all; ahead = ahead; small = entry-small; plain = entry-plain };
            packed = c.packed;
            rise = rise;
            live = live;
          };
        }

-- ---- accepted exactly if some map has the image

module _ (i : Image) (l : LentSlices i) (a : Accepted i) where
  pub accepted-forest : forest_image (decode i) ≡ i
  accepted-forest = let s = accepted-shape i a l in shape-image i s.top s.rest s.shape

  pub accepted-image : image (image_map i) ≡ i
  accepted-image = let s = accepted-shape i a l in shape-map i s.top s.rest s.shape

  pub accepted-few : length (prefixes (image_map i)) ≤ most_records
  accepted-few = let s = accepted-shape i a l in shape-few i s.top s.rest s.shape

  pub accepted-catalogue : Catalogue (image_map i)
  accepted-catalogue = let s = accepted-shape i a l in shape-catalogue i s.top s.rest s.shape l.values-wide

pub map-accepted : (m : Map) → Catalogue m → length (prefixes m) ≤ most_records → Accepted (image m)
map-accepted m c few = shape-accepted (image m) _ _ (map-shape m c few)

pub accepted-iff : (i : Image) → LentSlices i → Accepted i ↔ OfMap i
accepted-iff i l = (
  λ a. record { map = image_map i; catalogue = accepted-catalogue i l a; few = accepted-few i l a; whole = accepted-image i l a },
  λ m. subst Accepted m.whole (map-accepted m.map m.catalogue m.few),
)
