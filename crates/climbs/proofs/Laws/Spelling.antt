-- The labels on the way up from a node, in a buffer. On an image that some map has they are the bytes of the node's path: a node but the root has its last byte
-- for its label, and its parent the bytes before, so the labels met on the way are the bytes from the last to the first.
--
--     has_entry-upto                          the test of an entry
--     spelled_from-done, -lost, -bare, -next  the climb, by what is left and where it is
--     spelled_by-short, spelled_by-room       the buffer, by its room
--     spell-path                              on an image that some map has, the last bytes of the path
--     spelled-all                             all bytes of a path, and `last_bytes-behind`: those behind a path that it
--                                             begins with
--     said_spelled-one                        answers that tell the same numbers are the same
-- Assumes nothing.
use mathlib.Core.Path.{◌≡◌, refl, sym, ap, ap₂, subst, ◌∙◌}
use Prim.Native.Nat.{ℕ, zero, suc, ◌+◌, ◌-◌, ◌≤◌, ◌<◌}
use native.Mathlib.Omega.{arith}
use mathlib.Core.Bool.{true, false}
use mathlib.Core.List.{List, [], ◌∷◌, ◌++◌, append_assoc}
use Rattle.std.specs.Prelude.{Option, None, Some, Result}
use lib.ListN.{length, get_or, take, drop, set, take-append-drop}
use lib.Seq.{drop-length, take-suc, drop_at, set_at, length-take-le}
use lib.Dec.{leb}
use borrow.Author.Tests.{le-leb, lt-leb}
use Rattle.keymap.specs.Key.{Key, PrefixOf, last_byte}
use Rattle.keymap.specs.Map.{Map, Catalogue, lookup}
use Rattle.keymap.specs.Label.{label_in}
use Rattle.keymap.specs.Bits.{bit}
use Rattle.keymap.specs.Image.{Image, bits_for}
use Rattle.keymap.specs.Paths.{IsNode, path_of, node_of}
use Rattle.keymap.specs.Steps.{upper}
use Rattle.keymap.specs.Decode.{image_map}
use Rattle.keymap.specs.declared.refusals.Refusal.{Refusal}
use Rattle.keymap.specs.Answers.{told_count}
use Rattle.keymap.proofs.Laws.Answers.{said-one, count-one}
use Rattle.keymap.proofs.Laws.Key.{bytes-last}
use Rattle.keymap.proofs.Laws.Begins.{prefix-iff, prefix_refl, prefix_trans, prefix-length}
use Rattle.keymap.proofs.Laws.Label.{label_in-label_entry}
use Rattle.keymap.proofs.Laws.Paths.{path_of-root, path_of-in, path_bytes}
use Rattle.image.specs.Accept.{entries}
use Rattle.image.specs.Meaning.{MapImage}
use Rattle.walks.proofs.Laws.MapImage.{length-nodes, entry-node}
use Rattle.climbs.specs.Perches.{parent_by}
use Rattle.climbs.specs.Spelling.{has_entry, spelled_from, spelled_by, last_bytes, spelled_to, said_spelled}
use Rattle.climbs.proofs.Laws.MapClimb.{step-up, upper-path}

-- ---- by cases

module _ (n k : ℕ) where
  pub has_entry-upto : 2 ≤ k → has_entry n k ≡ leb k (n + 1)
  unfolding has_entry
  has_entry-upto h = rw (le-leb 2 k h)

module _ (ls : List ℕ) (b : ℕ → ℕ) (len : ℕ) where
  pub spelled_from-done : (at : Option ℕ) (out : List ℕ) → spelled_from ls b len 0 at out ≡ out
  unfolding spelled_from
  spelled_from-done at out = refl

  pub spelled_from-lost : (left : ℕ) (out : List ℕ) → spelled_from ls b len left None out ≡ out
  unfolding spelled_from
  spelled_from-lost zero out = refl
  spelled_from-lost (suc left) out = refl

  pub spelled_from-bare : (left k : ℕ) (out : List ℕ) → has_entry (length ls) k ≡ false → spelled_from ls b len left (Some k) out ≡ out
  unfolding spelled_from
  spelled_from-bare zero k out e = refl
  spelled_from-bare (suc left) k out e = rw e

  pub spelled_from-next : (left k : ℕ) (out : List ℕ) → 0 < left → has_entry (length ls) k ≡ true
      → spelled_from ls b len left (Some k) out ≡ spelled_from ls b len (left - 1) (parent_by b len k) (set out (left - 1) (label_in (get_or ls (k - 2) 0)))
  unfolding spelled_from
  spelled_from-next zero k out l e = absurd (omega arith)
  spelled_from-next (suc left) k out l e = let back : suc left - 1 ≡ left = omega arith in rw (e, back)

  module _ (k count : ℕ) (out : List ℕ) where
    pub spelled_by-short : length out < count → spelled_by ls b len k count out ≡ out
    unfolding spelled_by
    spelled_by-short h = rw (lt-leb count (length out) h)

    pub spelled_by-room : count ≤ length out → spelled_by ls b len k count out ≡ spelled_from ls b len count (Some k) out
    unfolding spelled_by
    spelled_by-room h = rw (le-leb count (length out) h)

-- ---- parts of a path

last_bytes-all : (p : Key) → last_bytes (length p) p ≡ p
unfolding last_bytes
last_bytes-all p = let none_left : length p - length p ≡ 0 = omega arith in ap (λ (n : ℕ). drop n p) none_left

pub spelled-all : (p k : Key) (n : ℕ) (out : List ℕ) → p ≡ k → n ≡ length k → spelled_to n p out ≡ k ++ drop (length k) out
spelled-all p k n out e f = rw (e, f) (ap (λ (x : Key). x ++ drop (length k) out) (last_bytes-all k))

-- of a path that begins with q, those behind it
pub last_bytes-behind : (q p : Key) → PrefixOf q p → last_bytes (length p - length q) p ≡ drop (length q) p
unfolding last_bytes
last_bytes-behind q p b =
    let front : length p - (length p - length q) ≡ length q = omega (arith, prefix-length q p b) in
    ap (λ (n : ℕ). drop n p) front

-- ---- the bytes of a path

-- of the `count` bytes `left` are still to be written, and those of `at` are the next
record Spelling (m : Map) (node count : ℕ) (before : List ℕ) (at left : ℕ) (out : List ℕ) : Type 0 where
  inside : IsNode m at
  begins : PrefixOf (path_of m at) (path_of m node)
  far : length (path_of m at) + count ≡ length (path_of m node) + left
  fewer : left ≤ count
  written : out ≡ take left before ++ (drop (length (path_of m at)) (path_of m node) ++ drop count before)

module _ (m : Map) (c : Catalogue m) (node count : ℕ) (before : List ℕ) (short : count ≤ length (path_of m node)) (room : count ≤ length before) where
  spell-starts : IsNode m node → Spelling m node count before node count before
  spell-starts n = record {
    inside = n;
    begins = prefix_refl (path_of m node);
    far = omega arith;
    fewer = omega arith;
    written = sym (ap (λ (p : Key). take count before ++ (p ++ drop count before)) (drop-length (path_of m node)) ∙ take-append-drop count before);
  }

  module _ (at left : ℕ) (out : List ℕ) (spelling : Spelling m node count before at left out) where
    spell-ends : left ≤ 0 → out ≡ spelled_to count (path_of m node) before
    unfolding last_bytes
    spell-ends l =
        let done : left ≡ 0 = omega arith in
        let here : length (path_of m at) ≡ length (path_of m node) - count = omega (arith, spelling.far) in
        rw done at (rw here at spelling.written)

    spell-low : 0 < left → 2 ≤ at
    spell-low l = go at refl
      where
        go : (k : ℕ) → at ≡ k → 2 ≤ at
        go zero e = absurd (omega (arith, spelling.inside))
        go (suc zero) e = absurd (omega (arith, spelling.far, ap length (ap (path_of m) e ∙ path_of-root m)))
        go (suc (suc k)) e = omega arith

    spell-up : 0 < left → Spelling m node count before (node_of m (upper (path_of m at))) (left - 1) (set out (left - 1) (last_byte (path_of m at)))
    spell-up l =
        let x : Key = path_of m at in
        let up = step-up m c at spelling.inside (spell-low l) in
        let y : Key = path_of m (node_of m (upper x)) in
        let p : Key = path_of m node in
        let a : ℕ = last_byte x in
        let (r, rest) = (prefix-iff x p).0 spelling.begins in
        let whole : p ≡ y ++ (a ∷ r) = rest ∙ ap (λ (k : Key). k ++ r) up.path ∙ append_assoc y (a ∷ []) r in
        let j : ℕ = left - 1 in
        let back : left ≡ suc j = omega arith in
        let tail : List ℕ = r ++ drop count before in
        let fits : j < length before = omega (arith, spelling.fewer) in
        let behind : drop (length x) p ≡ r = ap (drop (length x)) rest ∙ drop_at x r (length x) refl in
        let further : drop (length y) p ≡ a ∷ r = ap (drop (length y)) whole ∙ drop_at y (a ∷ r) (length y) refl in
        let split : out ≡ take j before ++ (get_or before j 0 ∷ tail) =
        spelling.written
        ∙ ap (λ (k : Key). take left before ++ (k ++ drop count before)) behind
        ∙ ap (λ (n : ℕ). take n before ++ tail) back
        ∙ ap (λ (k : List ℕ). k ++ tail) (take-suc before j 0 fits)
        ∙ append_assoc (take j before) (get_or before j 0 ∷ []) tail in
        record {
          inside = up.inside;
          begins = prefix_trans y x p ((prefix-iff y x).1 (a ∷ [], up.path)) spelling.begins;
          far = omega (arith, spelling.far, up.shorter);
          fewer = omega (arith, spelling.fewer);
          written =
              ap (λ (o : List ℕ). set o j a) split
              ∙ set_at (take j before) (get_or before j 0) tail a j (length-take-le j before (omega arith))
              ∙ sym (ap (λ (k : Key). take j before ++ (k ++ drop count before)) further);
        }

module _ (i : Image) (h : MapImage i) where
  label-node : (k : ℕ) → IsNode (image_map i) k → 2 ≤ k → label_in (get_or i.labels (k - 2) 0) ≡ last_byte (path_of (image_map i) k)
  label-node k n l =
      let m : Map = image_map i in
      let p : Key = path_of m k in
      ap label_in (entry-node i h k n l) ∙ label_in-label_entry (last_byte p) (lookup p m) (bytes-last p (path_bytes m h.catalogue.proper p (path_of-in m k n)))

  spell-from : (left node count : ℕ) (before : List ℕ) → count ≤ length (path_of (image_map i) node) → count ≤ length before
      → (at : ℕ) (out : List ℕ) → Spelling (image_map i) node count before at left out
      → spelled_from i.labels (bit i.words) (bits_for (entries i)) left (Some at) out ≡ spelled_to count (path_of (image_map i) node) before
  spell-from zero node count before short room at out s =
      spelled_from-done i.labels (bit i.words) (bits_for (entries i)) (Some at) out ∙ spell-ends (image_map i) h.catalogue node count before short room at 0 out s (omega arith)
  spell-from (suc left) node count before short room at out s =
      let m : Map = image_map i in
      let b : ℕ → ℕ = bit i.words in
      let len : ℕ = bits_for (entries i) in
      let low : 2 ≤ at = spell-low m h.catalogue node count before short room at (suc left) out s (omega arith) in
      let has : has_entry (length i.labels) at ≡ true = has_entry-upto (length i.labels) at low ∙ le-leb at (length i.labels + 1) (omega (arith, s.inside, length-nodes i h)) in
      let back : suc left - 1 ≡ left = omega arith in
      let up : ℕ = node_of m (upper (path_of m at)) in
      let a : ℕ = last_byte (path_of m at) in
      spelled_from-next i.labels b len (suc left) at out (omega arith) has
      ∙ ap₂ (λ (o : Option ℕ) (n : ℕ). spelled_from i.labels b len (suc left - 1) o (set out (suc left - 1) n)) (upper-path i h at s.inside low) (label-node at s.inside low)
      ∙ ap (λ (n : ℕ). spelled_from i.labels b len n (Some up) (set out n a)) back
      ∙ spell-from left node count before short room up (set out left a)
      (subst (λ (n : ℕ). Spelling m node count before up n (set out n a)) back (spell-up m h.catalogue node count before short room at (suc left) out s (omega arith)))

  pub spell-path : (k : ℕ) → IsNode (image_map i) k → (count : ℕ) → count ≤ length (path_of (image_map i) k) → (out : List ℕ) → count ≤ length out
      → spelled_by i.labels (bit i.words) (bits_for (entries i)) k count out ≡ spelled_to count (path_of (image_map i) k) out
  spell-path k n count short out room =
      spelled_by-room i.labels (bit i.words) (bits_for (entries i)) k count out room
      ∙ spell-from count k count out short room k out (spell-starts (image_map i) h.catalogue k count out short room n)

-- ---- answers

pub said_spelled-one : (r s : Result ℕ Refusal) → said_spelled r ≡ said_spelled s → r ≡ s
said_spelled-one = said-one told_count count-one
