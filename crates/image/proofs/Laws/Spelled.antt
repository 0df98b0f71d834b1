-- An image whose words are those of a degree sequence: its zeros, its children and its parents by the degrees. The degrees of the nodes are read off between
-- the zeros, and a node's parent is the one in whose run of ones it stands.
--
--     Spelled             the words are those of degrees that fit the labels
--     zeros-sequence      how many zeros a sequence has
--     spelled-children    the children of node k + 1
--     spelled-parent      the parent of each of them
--     spelled-parent-of   every node of 2 or more is one of them, for some k
--     spelled-length      the words have as many bits as the degrees spell
-- Assumes nothing.
use Rattle.std.specs.Prelude.{Some}
use mathlib.Core.Path.{◌≡◌, sym, ap, ◌∙◌}
use Prim.Native.Nat.{ℕ, suc, ◌+◌, ◌-◌, ◌≤◌, ◌<◌}
use native.Mathlib.Nat.{le_refl}
use native.Mathlib.Omega.{arith}
use mathlib.Core.List.{List}
use lib.ListN.{length, get_or, take, get_or-eq_default}
use lib.Seq.{take_all}
use Rattle.keymap.specs.Bits.{bit, sum_below, pack, words_for}
use Rattle.keymap.specs.Degrees.{total, sequence}
use Rattle.keymap.specs.Image.{Image, bits_for}
use Rattle.keymap.proofs.Laws.Sums.{sum_below-suc, sum_below-mono, in_list}
use Rattle.keymap.proofs.Laws.Bits.{bit-small, bit-pack, length-pack}
use Rattle.keymap.proofs.Laws.Degrees.{length-sequence, sequence-small, total-take}
use Rattle.louds.specs.Nodes.{Run}
use Rattle.louds.specs.Rank.{gap, ones_before, zeros_before}
use Rattle.louds.proofs.Laws.Rank.{gap-small, ones-zeros, zeros-ext}
use Rattle.louds.proofs.Laws.Select.{rank-kth, kth-exists}
use Rattle.louds.proofs.Laws.Nodes.{parent-of-child}
use Rattle.louds.proofs.Laws.Degrees.{zero_at-sequence, children-pack}
use Rattle.image.specs.Accept.{entries, parent_in, kids_in}

-- the last bit of a sequence is the zero that closes the last degree
pub zeros-sequence : (ds : List ℕ) → zeros_before (in_list (sequence ds)) (length (sequence ds)) ≡ length ds + 1
zeros-sequence ds =
    let b = in_list (sequence ds) in
    let len : ℕ = length (sequence ds) in
    let p : ℕ = total (take (length ds) ds) + length ds + 1 in
    let s = rank-kth (gap b) (gap-small b) len (length ds + 1) p (zero_at-sequence ds (length ds) (le_refl (length ds))) in
    let last : len ≡ suc p = omega (arith, length-sequence ds, ap total (take_all (length ds) ds (le_refl (length ds)))) in
    ap (zeros_before b) last ∙ omega (arith, sum_below-suc (gap b) p, s.rank, s.marked)

pub record Spelled (i : Image) (ds : List ℕ) : Type 0 where
  pub packed : i.words ≡ pack (sequence ds)
  pub many : length ds ≡ entries i + 1
  pub all : total ds ≡ entries i

module _ (i : Image) (ds : List ℕ) (c : Spelled i ds) where
  abbrev n : ℕ
  n = entries i

  -- how many children the nodes before the one at index k have
  abbrev pub children_before : ℕ → ℕ
  children_before k = sum_below (in_list ds) k

  pub spelled-length : length (sequence ds) ≡ bits_for n
  spelled-length = omega (arith, length-sequence ds, c.many, c.all)

  pub spelled-bit : (p : ℕ) → bit i.words p ≡ get_or (sequence ds) p 0
  spelled-bit p = ap (λ (ws : List ℕ). bit ws p) c.packed ∙ bit-pack (sequence ds) (sequence-small ds) p

  pub spelled-words : length i.words ≡ words_for (bits_for n)
  spelled-words = ap length c.packed ∙ length-pack (sequence ds) ∙ ap words_for spelled-length

  pub spelled-unused : (p : ℕ) → bits_for n ≤ p → bit i.words p ≡ 0
  spelled-unused p h = spelled-bit p ∙ get_or-eq_default (sequence ds) 0 (omega (arith, spelled-length))

  pub spelled-first : bit i.words 0 ≡ 1
  unfolding sequence
  spelled-first = spelled-bit 0

  pub spelled-zeros : zeros_before (bit i.words) (bits_for n) ≡ n + 2
  spelled-zeros =
      zeros-ext (bit i.words) (in_list (sequence ds)) (bits_for n) (λ p l. spelled-bit p)
      ∙ ap (zeros_before (in_list (sequence ds))) (sym spelled-length)
      ∙ zeros-sequence ds ∙ omega (arith, c.many)

  pub spelled-ones : ones_before (bit i.words) (bits_for n) ≡ n + 1
  spelled-ones = omega (arith, spelled-zeros, ones-zeros (bit i.words) (bit-small i.words) (bits_for n))

  pub spelled-sum : children_before (suc n) ≡ n
  spelled-sum = total-take ds (suc n) ∙ ap total (take_all (suc n) ds (omega (arith, c.many))) ∙ c.all

  pub spelled-within : (k : ℕ) → k ≤ n → children_before k + get_or ds k 0 ≤ n
  spelled-within k h = omega (arith, spelled-sum, sum_below-suc (in_list ds) k, sum_below-mono (in_list ds) {i = suc k} {j = suc n} (omega arith))

  pub spelled-children : (k : ℕ) → k ≤ n → kids_in i (k + 1) ≡ Run (children_before k + 2) (get_or ds k 0)
  spelled-children k h =
      rw (c.packed, ← spelled-length) (children-pack ds k (omega (arith, c.many)) ∙ ap (λ (x : ℕ). Run (x + 2) (get_or ds k 0)) (sym (total-take ds k)))

  pub spelled-parent : (k j : ℕ) → k ≤ n → j < get_or ds k 0 → parent_in i (children_before k + j + 2) ≡ Some (k + 1)
  spelled-parent k j h l =
      parent-of-child (bit i.words) (bit-small i.words) (bits_for n) (k + 1) (children_before k + 2) (get_or ds k 0) (children_before k + j + 2)
      (spelled-children k h) (omega arith) (omega arith)

  -- the node at index `index` has node m for its child
  pub record ChildOf (m : ℕ) : Type 0 where
    pub index : ℕ
    pub child : ℕ
    pub index-within : index ≤ n
    pub child-within : child < get_or ds index 0
    pub number : m ≡ children_before index + child + 2

  pub spelled-parent-of : (m : ℕ) → 2 ≤ m → m ≤ n + 1 → ChildOf m
  spelled-parent-of m lo hi =
      let f = kth-exists (in_list ds) (suc n) (m - 1) (omega arith) (omega (arith, spelled-sum)) in
      let k : ℕ = f.0 in
      let h = f.1 in
      record {
        index = k;
        child = m - 2 - children_before k;
        index-within = omega (arith, h.inside);
        child-within = omega (arith, h.before, h.upto);
        number = omega (arith, h.before);
      }

  pub child-parent : {m : ℕ} (h : ChildOf m) → parent_in i m ≡ Some (h.index + 1)
  child-parent h = ap (parent_in i) h.number ∙ spelled-parent h.index h.child h.index-within h.child-within
