-- The test is true exactly of an accepted image. Its pass asks of each bit but the first two what the conditions ask of the node that the bit tells of:
-- a one is a node with its parent, its entry and its sibling before, and a zero after a zero is a node without child.
--
--     passes-told, passes-made  the pass asks it of each bit, and counts the ones
--     Passed                    all that it asks; it gives the conditions (`passed-..`)
--     accepted-each             the conditions give what it asks
--     test-accepted             an image of which the test is true is accepted
--     accepted-test             of an accepted image the test is true
--     image_test-iff            both
-- Assumes nothing.
use Rattle.std.specs.Prelude.{Some}
use mathlib.Core.Path.{◌≡◌, refl, sym, ap, ◌∙◌, subst}
use mathlib.Core.Logic.{◌↔◌, ⊎_elim}
use Prim.Native.Nat.{ℕ, zero, suc, ◌+◌, ◌-◌, ◌*◌, ◌/◌, ◌%◌, ◌^◌, ◌≤◌, ◌<◌}
use native.Mathlib.Nat.{eq-or-lt_of_le}
use native.Mathlib.Decide.{dec_le, dec_lt}
use native.Mathlib.Omega.{arith}
use mathlib.Core.Bool.{true, ◌&&◌}
use lib.ListN.{length, get_or}
use lib.Dec.{eqb, leb}
use borrow.Author.Tests.{le-leb, eq-eqb, leb-true, eqb-true}
use Rattle.keymap.specs.Limits.{word_bits, most_records}
use Rattle.keymap.specs.Label.{mark, label_in}
use Rattle.keymap.specs.Bits.{bit, words_for}
use Rattle.keymap.specs.Image.{Image, bits_for}
use Rattle.keymap.proofs.Laws.Sums.{sum_below-zero, sum_below-suc, sum_below-mono, sum_below-lt}
use Rattle.keymap.proofs.Laws.Bits.{bit-small, bit-either}
use Rattle.louds.specs.Select.{zero_at}
use Rattle.louds.specs.Rank.{gap, ones_before, zeros_before}
use Rattle.louds.proofs.Laws.Rank.{gap-small, gap-zero, bit-gap, ones-zeros}
use Rattle.louds.proofs.Laws.Select.{Stands, rank-kth, kth-rank, kth-exists}
use Rattle.louds.proofs.Laws.Nodes.{run-count, children-to-zero}
use Rattle.image.specs.Accept.{entries, node_entry, node_value, parent_in, ParentBelow, HasChild, Accepted, LentSlices}
use Rattle.image.proofs.Laws.Accept.{node-same, one_parent, accepted-climbs, accepted-second}
use Rattle.image.proofs.Laws.AcceptTest.{bit_fits-one, bit_fits-closing, bit_fits-childless}
use Rattle.image.specs.AcceptTest.{childless_fits, bit_fits, passes_from, lengths_fit, ends_fit, image_test}
use Rattle.image.proofs.Laws.BitTests.{both, OneFits, one_fits-told, one_fits-made, childless_fits-told, childless_fits-made}
use Rattle.image.proofs.Laws.Ends.{first-bits, unused-bits, unused-word}

-- ---- the pass

module _ (i : Image) where
  abbrev b : ℕ → ℕ
  b = bit i.words

  abbrev n : ℕ
  n = entries i

  abbrev small : (p : ℕ) → b p ≤ 1
  small = bit-small i.words

  -- what the test asks of the bit after place q
  abbrev pub FitsAfter : ℕ → Type 0
  FitsAfter q = bit_fits i.labels i.values (b (suc q)) (b q) (ones_before b (suc q)) (zeros_before b (suc q)) ≡ true

  zeros-count : (q : ℕ) → q - ones_before b q ≡ zeros_before b q
  zeros-count q = omega (arith, ones-zeros b small q)

  pub passes-told : (left p : ℕ) → passes_from i left (suc p) (ones_before b (suc p)) (b p) ≡ true
      → ((q : ℕ) → p ≤ q → q < p + left → FitsAfter q) × (ones_before b (suc p + left) ≡ n + 1)
  unfolding passes_from
  passes-told zero p h = (λ q lo hi. absurd (omega arith), ap (ones_before b) (omega arith) ∙ eqb-true (ones_before b (suc p)) (n + 1) h)
  passes-told (suc left) p h =
      let (f, r) = both (bit_fits i.labels i.values (b (suc p)) (b p) (ones_before b (suc p)) (suc p - ones_before b (suc p))) _ h in
      let ih = passes-told left (suc p) (rw (sum_below-suc b (suc p)) r) in (
        λ q lo hi. ⊎_elim (λ e. subst FitsAfter e (rw (zeros-count (suc p)) at f)) (λ l. ih.0 q l (omega arith)) (eq-or-lt_of_le lo),
        ap (ones_before b) (omega arith) ∙ ih.1,
      )

  pub passes-made : (left p : ℕ) → ((q : ℕ) → p ≤ q → q < p + left → FitsAfter q) → ones_before b (suc p + left) ≡ n + 1
      → passes_from i left (suc p) (ones_before b (suc p)) (b p) ≡ true
  unfolding passes_from
  passes-made zero p f e = eq-eqb (ones_before b (suc p)) (n + 1) (ap (ones_before b) (omega arith) ∙ e)
  passes-made (suc left) p f e =
      let rest = passes-made left (suc p) (λ q lo hi. f q (omega arith) (omega arith)) (ap (ones_before b) (omega arith) ∙ e) in
      rw (zeros-count (suc p), f p (omega arith) (omega arith)) (rw (sum_below-suc b (suc p)) at rest)

  -- ---- what the pass tells

  -- all that the test asks of the bits below the end
  pub record Passed : Type 0 where
    pub first : b 0 ≡ 1
    pub second : b 1 ≡ 0
    pub each : (q : ℕ) → 1 ≤ q → suc q < bits_for n → FitsAfter q
    pub ones : ones_before b (bits_for n) ≡ n + 1

  module _ (t : Passed) where
    zeros-all : zeros_before b (bits_for n) ≡ n + 2
    zeros-all = omega (arith, t.ones, ones-zeros b small (bits_for n))

    pub one-after : (q : ℕ) → 1 ≤ q → suc q < bits_for n → b (suc q) ≡ 1 → OneFits i.labels i.values (b q) (ones_before b (suc q)) (zeros_before b (suc q))
    one-after q lo hi e =
        one_fits-told i.labels i.values (b q) (ones_before b (suc q)) (zeros_before b (suc q))
        (sym (bit_fits-one i.labels i.values (b (suc q)) (b q) (ones_before b (suc q)) (zeros_before b (suc q)) (λ z. omega arith)) ∙ t.each q lo hi)

    -- where node m of 2 or more stands: behind place `before`
    record NodeAt (m : ℕ) : Type 0 where
      before : ℕ
      low : 1 ≤ before
      inside : suc before < bits_for n
      one : b (suc before) ≡ 1
      rank : ones_before b (suc before) + 1 ≡ m
      parent : parent_in i m ≡ Some (zeros_before b (suc before))

    -- a one behind the first two bits is a node
    one-node : (q : ℕ) → 1 ≤ q → suc q < bits_for n → b (suc q) ≡ 1 → (m : ℕ) → ones_before b (suc q) + 1 ≡ m → NodeAt m
    one-node q lo hi e m r = record {
      before = q;
      low = lo;
      inside = hi;
      one = e;
      rank = r;
      parent = one_parent i (suc q) m hi e r;
    }

    node_at : (m : ℕ) → 2 ≤ m → m ≤ n + 1 → NodeAt m
    node_at m lo hi =
        let f = kth-exists b (bits_for n) m (omega arith) (omega (arith, t.ones)) in
        go f.0 (rank-kth b small (bits_for n) m f.0 f.1.answer)
      where
        go : (p : ℕ) → Stands b (bits_for n) m p → NodeAt m
        go zero s = absurd (omega (arith, s.rank, sum_below-zero b))
        go (suc zero) s = absurd (omega (arith, s.marked, t.second))
        go (suc (suc q)) s = one-node (suc q) (omega arith) s.inside s.marked m s.rank

    node-fits : (m : ℕ) (h : NodeAt m) → OneFits i.labels i.values (b h.before) (ones_before b (suc h.before)) (zeros_before b (suc h.before))
    node-fits m h = one-after h.before h.low h.inside h.one

    -- the second bit is a zero
    zeros-some : (q : ℕ) → 1 ≤ q → 1 ≤ zeros_before b (suc q)
    zeros-some q l = omega (arith, sum_below-mono (gap b) {i = 2} {j = suc q} (omega arith), sum_below-suc (gap b) 1, gap-zero b 1 t.second)

    passed-parent : (m : ℕ) → 2 ≤ m → m ≤ n + 1 → ParentBelow i m
    passed-parent m lo hi =
        let h = node_at m lo hi in
        record {
          number = zeros_before b (suc h.before);
          answer = h.parent;
          low = zeros-some h.before h.low;
          high = omega (arith, (node-fits m h).climbs, h.rank);
        }

    pub passed-small : (m : ℕ) → 2 ≤ m → m ≤ n + 1 → node_entry i m < 2 * mark
    passed-small m lo hi =
        let h = node_at m lo hi in
        let e : ones_before b (suc h.before) - 1 ≡ m - 2 = omega (arith, h.rank) in
        rw e at (node-fits m h).small

    pub passed-plain : (m : ℕ) → 2 ≤ m → m ≤ n + 1 → node_entry i m < mark → node_value i m ≡ 0
    passed-plain m lo hi u =
        let h = node_at m lo hi in
        let e : ones_before b (suc h.before) - 1 ≡ m - 2 = omega (arith, h.rank) in
        rw e at ((node-fits m h).plain (rw e u))

    -- siblings stand side by side, so the bit before the later one's is a one
    sibling-before : (l m : ℕ) (p : NodeAt l) (h : NodeAt m) → l < m → parent_in i l ≡ parent_in i m → b h.before ≡ 1
    sibling-before l m p h less same =
        let up = p.parent in
        let up' = h.parent in
        let zeros : zeros_before b (suc p.before) ≡ zeros_before b (suc h.before) = node-same _ _ (sym up ∙ same ∙ up') in
        let after = sum_below-lt b (suc p.before) (suc h.before) (omega (arith, p.rank, h.rank)) in
        omega (arith, sum_below-mono (gap b) {i = suc p.before} {j = h.before} (omega arith), sum_below-suc (gap b) h.before, bit-gap b small h.before)

    -- and is the node before, of the same parent
    sibling-same : (m : ℕ) (h : NodeAt m) → b h.before ≡ 1 → parent_in i (m - 1) ≡ parent_in i m
    sibling-same m h e =
        one_parent i h.before (m - 1) (omega (arith, h.inside)) e (omega (arith, sum_below-suc b h.before, h.rank))
        ∙ ap Some (omega (arith, sum_below-suc (gap b) h.before, bit-gap b small h.before)) ∙ sym h.parent

    sibling-rises : (m : ℕ) (h : NodeAt m) → 3 ≤ m → b h.before ≡ 1 → label_in (node_entry i (m - 1)) < label_in (node_entry i m)
    sibling-rises m h l e =
        let here : ones_before b (suc h.before) - 2 ≡ m - 1 - 2 = omega (arith, h.rank) in
        let next : m - 1 - 2 + 1 ≡ m - 2 = omega arith in
        rw (here, next) at ((node-fits m h).rises e)

    passed-rises : (g l m : ℕ) → m ≡ l + g + 1 → 2 ≤ l → m ≤ n + 1 → parent_in i l ≡ parent_in i m → label_in (node_entry i l) < label_in (node_entry i m)
    passed-rises zero l m e lo hi same =
        let h = node_at m (omega arith) hi in
        let last = sibling-rises m h (omega arith) (sibling-before l m (node_at l lo (omega arith)) h (omega arith) same) in
        let here : m - 1 ≡ l = omega arith in
        rw here at last
    passed-rises (suc g) l m e lo hi same =
        let h = node_at m (omega arith) hi in
        let one = sibling-before l m (node_at l lo (omega arith)) h (omega arith) same in
        let last = sibling-rises m h (omega arith) one in
        let earlier = passed-rises g l (m - 1) (omega arith) lo (omega arith) (same ∙ sym (sibling-same m h one)) in
        omega arith

    -- an unmarked node is not closed at once
    passed-child : (m : ℕ) → 2 ≤ m → m ≤ n + 1 → node_entry i m < mark → HasChild i m
    passed-child m lo hi u =
        let f = kth-exists (gap b) (bits_for n) m (omega arith) (omega (arith, zeros-all)) in
        let g = kth-exists (gap b) (bits_for n) (m + 1) (omega arith) (omega (arith, zeros-all)) in
        let s : ℕ = f.0 in
        let e : ℕ = g.0 in
        let run = children-to-zero b small (bits_for n) m s e f.1.answer g.1.answer in
        let opens = rank-kth (gap b) (gap-small b) (bits_for n) m s f.1.answer in
        let closes = rank-kth (gap b) (gap-small b) (bits_for n) (m + 1) e g.1.answer in
        record { first = (s + 1) - (m - 1); count = e - (s + 1); answer = run.1; some = gap-open s e run.0 opens closes }
      where
        positive : (s : ℕ) → Stands (gap b) (bits_for n) m s → 1 ≤ s
        positive zero o = absurd (omega (arith, o.rank, sum_below-zero (gap b)))
        positive (suc s) o = omega arith

        gap-open : (s e : ℕ) → s < e → Stands (gap b) (bits_for n) m s → Stands (gap b) (bits_for n) (m + 1) e → 0 < e - (s + 1)
        gap-open s e l opens closes = go (dec_lt (s + 1) e)
          where
            go : Dec (s + 1 < e) → 0 < e - (s + 1)
            go (yes h) = omega arith
            go (no h) =
                let at : e ≡ suc s = omega arith in
                let here : b s ≡ 0 = omega (arith, bit-gap b small s, opens.marked) in
                let next : b (suc s) ≡ 0 = omega (arith, bit-gap b small (suc s), ap (gap b) at, closes.marked) in
                let closed : zeros_before b (suc s) ≡ m = omega (arith, sum_below-suc (gap b) s, opens.rank, opens.marked) in
                let some-before : 1 ≤ s = positive s opens in
                let fits = t.each s some-before (omega (arith, closes.inside)) in
                let marked = sym (ap (childless_fits i.labels) closed) ∙ sym (bit_fits-childless i.labels i.values (b (suc s)) (b s) (ones_before b (suc s)) (zeros_before b (suc s)) next here) ∙ fits in
                absurd (omega (arith, childless_fits-told i.labels i.values m marked lo))

  -- ---- what the conditions give the pass

  module _ (a : Accepted i) where
    accepted-one : (q : ℕ) → 1 ≤ q → suc q < bits_for n → b (suc q) ≡ 1 → OneFits i.labels i.values (b q) (ones_before b (suc q)) (zeros_before b (suc q))
    accepted-one q lo hi e =
        let ones : ℕ = ones_before b (suc q) in
        let m : ℕ = ones + 1 in
        let some-before : 1 ≤ ones_before b q = omega (arith, sum_below-mono b {i = 1} {j = q} lo, sum_below-suc b 0, sum_below-zero b, a.first) in
        let some : 1 ≤ ones = omega (arith, sum_below-suc b q) in
        let inside : ones ≤ n = omega (arith, sum_below-mono b {i = suc (suc q)} {j = bits_for n} hi, sum_below-suc b (suc q), a.ones) in
        let entry : m - 2 ≡ ones - 1 = omega arith in
        record {
          climbs = (accepted-climbs i a (suc q) hi e some).1;
          inside = inside;
          small = rw entry at (a.small m (omega arith) (omega arith));
          plain = λ u. rw entry at (a.plain m (omega arith) (omega arith) (rw entry u)).0;
          rises = λ one.
              let same : parent_in i ones ≡ parent_in i m =
              one_parent i q ones (omega arith) one (omega (arith, sum_below-suc b q)) ∙ ap Some (omega (arith, sum_below-suc (gap b) q, bit-gap b small q)) ∙ sym (one_parent i (suc q) m hi e refl) in
              let next : m - 2 ≡ ones - 2 + 1 = omega (arith, sum_below-suc b q) in
              rw next at (a.rise ones m (omega (arith, sum_below-suc b q)) (omega arith) (omega arith) same);
        }

    accepted-closed : (q : ℕ) → suc q < bits_for n → b q ≡ 0 → b (suc q) ≡ 0 → 2 ≤ zeros_before b (suc q) → mark ≤ get_or i.labels (zeros_before b (suc q) - 2) 0
    accepted-closed q hi here next l = go (dec_le mark (get_or i.labels (m - 2) 0))
      where
        m : ℕ
        m = zeros_before b (suc q)

        closes : zero_at b (bits_for n) m ≡ Some q
        closes =
            ap (zero_at b (bits_for n)) (omega (arith, sum_below-suc (gap b) q, gap-zero b q here))
            ∙ kth-rank (gap b) (gap-small b) (bits_for n) q (omega arith) (gap-zero b q here)

        follows : zero_at b (bits_for n) (m + 1) ≡ Some (suc q)
        follows = kth-rank (gap b) (gap-small b) (bits_for n) (suc q) hi (gap-zero b (suc q) next)

        go : Dec (mark ≤ get_or i.labels (m - 2) 0) → mark ≤ get_or i.labels (m - 2) 0
        go (yes h) = h
        go (no h) =
            let inside = sum_below-mono (gap b) {i = suc (suc q)} {j = bits_for n} hi in
            let few : m ≤ n + 1 = omega (arith, a.zeros, sum_below-suc (gap b) (suc q), gap-zero b (suc q) next) in
            let c = (a.plain m l few (omega arith)).1 in
            let run = (children-to-zero b small (bits_for n) m q (suc q) closes follows).1 in
            let told = c.answer in
            let none : c.count ≡ suc q - (q + 1) = run-count _ _ _ _ (sym told ∙ run) in
            absurd (omega (arith, c.some))

    accepted-each : (q : ℕ) → 1 ≤ q → suc q < bits_for n → FitsAfter q
    accepted-each q lo hi = ⊎_elim one none (bit-either i.words (suc q))
      where
        one : b (suc q) ≡ 1 → FitsAfter q
        one e =
            bit_fits-one i.labels i.values (b (suc q)) (b q) (ones_before b (suc q)) (zeros_before b (suc q)) (λ z. omega arith)
            ∙ one_fits-made i.labels i.values (b q) (ones_before b (suc q)) (zeros_before b (suc q)) (small q) (accepted-one q lo hi e)

        none : b (suc q) ≡ 0 → FitsAfter q
        none e =
            ⊎_elim
            (λ f. bit_fits-closing i.labels i.values (b (suc q)) (b q) (ones_before b (suc q)) (zeros_before b (suc q)) e (λ z. omega arith))
            (λ f. bit_fits-childless i.labels i.values (b (suc q)) (b q) (ones_before b (suc q)) (zeros_before b (suc q)) e f ∙ childless_fits-made i.labels i.values (zeros_before b (suc q)) (accepted-closed q hi f e))
            (bit-either i.words q)

-- ---- the test

module _ (i : Image) where
  pub start-same : bit i.words 0 ≡ 1 → bit i.words 1 ≡ 0
      → passes_from i (2 * entries i + 1) 2 1 0 ≡ passes_from i (2 * entries i + 1) 2 (ones_before (bit i.words) 2) (bit i.words 1)
  start-same e f =
      let b = bit i.words in
      let one : ones_before b 2 ≡ 1 = sum_below-suc b 1 ∙ omega (arith, sum_below-suc b 0, sum_below-zero b) in
      rw (one, f)

  pub test-accepted : image_test i ≡ true → Accepted i
  unfolding image_test lengths_fit ends_fit
  test-accepted h =
      let n : ℕ = entries i in
      let (lengths, h') = both (leb n most_records && (eqb (length i.values) n && eqb (length i.words) (words_for (bits_for n)))) _ h in
      let (few, lengths') = both (leb n most_records) _ lengths in
      let (values, words) = both (eqb (length i.values) n) _ lengths' in
      let (ends, passes) = both (eqb (get_or i.words (bits_for n / word_bits) 0 / 2 ^ (bits_for n % word_bits)) 0 && eqb (get_or i.words 0 0 % 4) 1) _ h' in
      let (above, begins) = both (eqb (get_or i.words (bits_for n / word_bits) 0 / 2 ^ (bits_for n % word_bits)) 0) _ ends in
      let start = (first-bits i.words).1 (eqb-true _ _ begins) in
      let told = passes-told i (2 * n + 1) 1 (sym (start-same start.0 start.1) ∙ passes) in
      let last : suc 1 + (2 * n + 1) ≡ bits_for n = omega arith in
      let t : Passed i = record { first = start.0; second = start.1; each = λ q lo hi. told.0 q lo (omega arith); ones = ap (ones_before (bit i.words)) (sym last) ∙ told.1 } in
      let fit : length i.words ≡ words_for (bits_for n) = eqb-true _ _ words in
      record {
        few = leb-true n most_records few;
        values-fit = eqb-true _ _ values;
        words-fit = fit;
        unused = unused-bits n i.words fit (eqb-true _ _ above);
        first = start.0;
        ones = t.ones;
        zeros = zeros-all i t;
        parents = passed-parent i t;
        rise = λ l m lo less hi same. passed-rises i t (m - l - 1) l m (omega arith) lo hi same;
        small = passed-small i t;
        plain = λ m lo hi u. (passed-plain i t m lo hi u, passed-child i t m lo hi u);
      }

  pub accepted-test : LentSlices i → Accepted i → image_test i ≡ true
  unfolding image_test lengths_fit ends_fit
  accepted-test l a =
      let n : ℕ = entries i in
      let second = accepted-second i a in
      let last : suc 1 + (2 * n + 1) ≡ bits_for n = omega arith in
      let passes = passes-made i (2 * n + 1) 1 (λ q lo hi. accepted-each i a q lo (omega arith)) (ap (ones_before (bit i.words)) last ∙ a.ones) in
      rw (
        le-leb n most_records a.few,
        eq-eqb (length i.values) n a.values-fit,
        eq-eqb (length i.words) (words_for (bits_for n)) a.words-fit,
        eq-eqb (get_or i.words (bits_for n / word_bits) 0 / 2 ^ (bits_for n % word_bits)) 0 (unused-word n i.words l.words-wide a.unused),
        eq-eqb (get_or i.words 0 0 % 4) 1 ((first-bits i.words).0 (a.first, second)),
      )
      (start-same a.first second ∙ passes)

  pub image_test-iff : LentSlices i → (image_test i ≡ true) ↔ Accepted i
  image_test-iff l = (test-accepted, accepted-test l)
